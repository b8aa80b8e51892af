use Rattle.std.proofs.Common.{inl, inr}
use Rattle.std.proofs.Common.{sym, ap, ◌∙◌, subst}
use Rattle.sd_state.specs.States.{thread_of}
use Rattle.sd_store.specs.Walks.{walk_begun}
use Rattle.sd_hand.specs.Acting.{IsShown}
use Rattle.sd_hand.specs.Walking.{given, walk_at}
use Rattle.sd_hand.proofs.TellLemmas.{found_at, found_record}
use Rattle.sd_hand.proofs.WalkLemmas.{begun_by}
use Rattle.sd_hand.proofs.store.ActingStore.begin_walk.Goals as goal

pub returns-in-None-clause-value : goal.returns-in-None-clause-value
unfolding walk_begun
returns-in-None-clause-value c n s sh t =
    let x = c.args.self.now in
    let u = c.args.t in
    let at = found_at x n s sh u.0 c.in-Ok.found.0 c.in-Ok.ensures.0 in
    let found = c.in-Ok.ensures.1 ∙ found_record x n s sh u.0 c.in-Ok.found.0 c.in-Ok.ensures.0 in
    let none = sym c.in-None.is ∙ c.walk_at.ensures ∙ (λ i. walk_at u (sym at.list i) (found i)) in
    subst (λ z. IsShown x n z) (ap (given s c.args.c) none ∙ begun_by s c.args.c u (thread_of s u.0)) sh

pub returns-in-Ok-give-clause-value : goal.returns-in-Ok-give-clause-value
unfolding walk_begun
returns-in-Ok-give-clause-value c n s sh t =
    let x = c.args.self.now in
    let u = c.args.t in
    let at = found_at x n s sh u.0 c.in-Ok.found.0 c.in-Ok.ensures.0 in
    let found = c.in-Ok.ensures.1 ∙ found_record x n s sh u.0 c.in-Ok.found.0 c.in-Ok.ensures.0 in
    let some = sym c.in-Some.is ∙ c.walk_at.ensures ∙ (λ i. walk_at u (sym at.list i) (found i)) in
    subst (λ z. IsShown c.give.new.self n z) (ap (given s c.args.c) some ∙ begun_by s c.args.c u (thread_of s u.0)) (c.in-Ok-give.ensures.value n s sh t)

pub returns-in-Err-give-clause-lack : goal.returns-in-Err-give-clause-lack
returns-in-Err-give-clause-lack c =
    let e = c.in-Err-give.ensures.lack in
    (λ n s sh. elim (e.0 n s sh) [ inl a ↦ inl a | inr b ↦ absurd b ], e.1)
