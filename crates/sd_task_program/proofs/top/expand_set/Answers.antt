use Rattle.std.proofs.Common.{ℕ, sym, subst}
use Rattle.sd_answers.specs.Handing.{IsHandedOn}
use Rattle.sd_answers.proofs.HandingLemmas.{handed_of}
use Rattle.sd_task_program.proofs.top.expand_set.Goals as goal

pub returns-clause-promises : goal.returns-clause-promises
returns-clause-promises g c = record {
  answer = c.carry_out.result;
  exit = c.tell.ensures.status;
  caused = c.carry_out.ensures.caused;
  told = c.tell.ensures.told;
}

pub returns-clause-handed_on : goal.returns-clause-handed_on
returns-clause-handed_on g c =
    let held = g.K.Sink.held_back in
    let p = c.carry_out.new.out in
    subst (λ (n : ℕ). IsHandedOn n (held c.args.out.now) (held p)) (sym c.tell.ensures.status) (handed_of c.carry_out.result (held c.args.out.now) (held p) c.carry_out.ensures.leaves)
