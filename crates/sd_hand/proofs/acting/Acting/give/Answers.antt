use Rattle.std.proofs.Common.{refl, sym, ap, ◌∙◌}
use Rattle.sd_state.specs.declared.states.CpuState.{CpuState}
use Rattle.sd_state.specs.States.{cpu_of}
use Rattle.sd_machine.specs.Changes.{set_duty}
use Rattle.sd_hand.specs.declared.acting.Acting.{Acting}
use Rattle.sd_hand.proofs.ActLemmas.{actor_carried}
use Rattle.sd_hand.proofs.acting.Acting.give.Goals as goal

pub returns-clause-value : goal.returns-clause-value
unfolding set_duty
returns-clause-value c n s sh t =
    let x = c.args.self.now in
    let y : Acting = record x { actor = record x.actor { duty = c.args.duty } } in
    let z : CpuState = record (cpu_of s c.args.c.0) { duty = c.args.duty } in
    let count = sh.count ∙ ap (λ d. (cpu_of s d).count) (sym c.if-c-self.false) in
    actor_carried x y n s c.args.c z (record { hand = refl; cpu = refl; acts = c.if-c-self.false; count = count; duty = refl; view = refl }) sh
