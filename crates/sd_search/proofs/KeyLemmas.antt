-- The keys of a state of a run are of entries before the next one.
use Rattle.std.proofs.Common.{◌≡◌, ℕ, ◌+◌, List, [], ◌∷◌, length, Option, Some, refl, sym, subst, arith}
use Rattle.sd_types.specs.declared.numbers.CpuId.{CpuId}
use Rattle.sd_types.specs.declared.events.Entry.{Entry}
use Rattle.sd_types.specs.declared.events.Event.{Event}
use Rattle.sd_types.specs.declared.events.Hints.{Hints}
use Rattle.sd_types.specs.declared.works.Work.{Work}
use Rattle.sd_state.specs.declared.states.State.{State}
use Rattle.sd_state.specs.Opening.{opening}
use Rattle.sd_machine.specs.Events.{after, next}
use Rattle.sd_machine.specs.Runs.{IsReached, IsRunFrom, final}
use Rattle.sd_machine.proofs.RunLemmas.{IsRun-from}
use Rattle.sd_invariants.proofs.Induction.{opening_reached, reached_more}
use Rattle.sd_invariants.proofs.Range.{needs_reached}
use Rattle.sd_encoding.specs.Order.{IsSameOrder, KeysFit}
use Rattle.sd_encoding.proofs.AfterLemmas.{after_alike}
use Rattle.sd_search.proofs.OpeningKeys.{opening_keys}
use Rattle.sd_search.proofs.RunLemmas.{alike}

pub self_same : (x : State) → IsSameOrder x x
self_same x = record { bare = refl; order = λ a b. refl }

module _ (w : Work) where
  keys_after : (n : ℕ) (s : State) (c : CpuId) (h : Option Hints) (e : Event) → IsReached w n s → KeysFit n s → next w s c h ≡ Some e → KeysFit (n + 1) (after w s n c e)
  keys_after n s c h e reached keys step = (after_alike n n s s (alike n n s s (self_same s) keys keys) w c e (needs_reached w n s c h e reached step)).own

  keys_from : (n : ℕ) (s : State) (es : List Entry) → IsReached w n s → KeysFit n s → IsRunFrom w s n es → KeysFit (n + length es) (final w s es)
  unfolding final IsRunFrom
  keys_from n s [] reached keys run = subst (λ k. KeysFit k s) (let e : n ≡ n + 0 = omega arith in e) keys
  keys_from n s (e ∷ es) reached keys (number, step, run) =
      let here : KeysFit (n + 1) (after w s e.number e.cpu e.event) =
      subst (λ k. KeysFit (n + 1) (after w s k e.cpu e.event)) (sym number) (keys_after n s e.cpu e.hints e.event reached keys step) in
      subst (λ k. KeysFit k (final w (after w s e.number e.cpu e.event) es)) (let q : n + 1 + length es ≡ n + length (e ∷ es) = omega arith in q)
      (keys_from (n + 1) (after w s e.number e.cpu e.event) es (reached_more w n s e reached number step) here run)

  pub keys_reached : (n : ℕ) (s : State) → IsReached w n s → KeysFit n s
  keys_reached n s reached =
      let all : KeysFit (0 + length reached.entries) (final w (opening w) reached.entries) = keys_from 0 (opening w) reached.entries (opening_reached w) (opening_keys w) (IsRun-from w reached.entries reached.run) in
      let many : 0 + length reached.entries ≡ n = let m = reached.many in omega (arith, m) in
      subst (λ x. KeysFit n x) reached.ends (subst (λ k. KeysFit k (final w (opening w) reached.entries)) many all)
