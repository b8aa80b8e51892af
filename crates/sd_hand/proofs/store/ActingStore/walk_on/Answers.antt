use Rattle.std.proofs.Common.{inl, inr}
use Rattle.std.proofs.Common.{sym, ap, ◌∙◌, subst}
use Rattle.sd_state.specs.States.{cpu_of, thread_of}
use Rattle.sd_machine.specs.Changes.{set_duty}
use Rattle.sd_store.specs.Walks.{walk_gone_on}
use Rattle.sd_homes.specs.Standing.{home_at}
use Rattle.sd_hand.specs.Acting.{IsShown}
use Rattle.sd_hand.specs.Hands.{held}
use Rattle.sd_hand.specs.Walking.{next_walk_at}
use Rattle.sd_hand.proofs.TellLemmas.{found_at, found_record}
use Rattle.sd_hand.proofs.WalkLemmas.{next_by, next_waiting}
use Rattle.sd_hand.proofs.store.ActingStore.walk_on.Goals as goal

pub returns-in-Ok-give-clause-value : goal.returns-in-Ok-give-clause-value
unfolding walk_gone_on
returns-in-Ok-give-clause-value c n s sh t =
    let x = c.args.self.now in
    let o = c.args.o in
    let sp = c.in-Ok.at in
    let at = found_at x n s sh o.0 sp c.in-Ok.ensures in
    let found = found_record x n s sh o.0 sp c.in-Ok.ensures in
    let duty = sh.duty ∙ ap (λ d. (cpu_of s d).duty) (sym c.if-c-self.false) in
    let home = held (home_at sp) x.hand.slots in
    let asked = c.next_walk_at-duty.ensures ∙ ap (next_walk_at x.actor.duty o sp) c.waiting.ensures ∙ next_waiting x.actor.duty o sp home in
    let same = asked ∙ (λ i. next_walk_at (duty i) o (sym at.list i) (found i)) ∙ next_by (cpu_of s c.args.c.0).duty o (thread_of s o.0) in
    subst (λ d. IsShown c.give.new.self n (set_duty s c.args.c.0 d)) same (c.in-Ok-give.ensures.value n s sh t)

pub returns-in-Err-give-clause-lack : goal.returns-in-Err-give-clause-lack
returns-in-Err-give-clause-lack c =
    let e = c.in-Err-give.ensures.lack in
    (λ n s sh. elim (e.0 n s sh) [ inl a ↦ inl a | inr b ↦ absurd b ], e.1)
