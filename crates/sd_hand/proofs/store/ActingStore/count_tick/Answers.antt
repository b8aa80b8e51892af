use Rattle.std.proofs.Common.{◌+◌, refl, sym, ap, ◌∙◌}
use Rattle.sd_state.specs.States.{cpu_of}
use Rattle.sd_machine.specs.Changes.{count_tick, counted, duty_after}
use Rattle.sd_hand.specs.declared.acting.Acting.{Acting}
use Rattle.sd_hand.proofs.ActLemmas.{actor_carried}
use Rattle.sd_hand.proofs.store.ActingStore.count_tick.Goals as goal

pub returns-then-self-work-clause-value : goal.returns-then-self-work-clause-value
unfolding count_tick
returns-then-self-work-clause-value c n s sh t =
    let x = c.args.self.now in
    let y : Acting = record x { actor = record x.actor { count = x.actor.count + 1; duty = c.duty_after-self.result } } in
    let count = sh.count ∙ ap (λ d. (cpu_of s d).count) (sym c.if-c-self.false) in
    let duty = sh.duty ∙ ap (λ d. (cpu_of s d).duty) (sym c.if-c-self.false) in
    actor_carried x y n s c.args.c (counted c.args.work.now (cpu_of s c.args.c.0))
    (record {
      hand = refl;
      cpu = refl;
      acts = c.if-c-self.false;
      count = ap (λ k. k + 1) count;
      duty = c.duty_after-self.ensures ∙ (λ i. duty_after c.args.work.now (count i + 1) (duty i));
      view = refl;
    }) sh
