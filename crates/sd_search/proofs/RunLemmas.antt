-- A closed set has the state after every entry.
use Rattle.std.proofs.Common.{◌≡◌, ℕ, ◌+◌, List, [], ◌∷◌, Option, Some, sym, ap, ◌∙◌, subst}
use Rattle.sd_types.specs.declared.numbers.CpuId.{CpuId}
use Rattle.sd_types.specs.declared.events.Entry.{Entry}
use Rattle.sd_types.specs.declared.events.Event.{Event}
use Rattle.sd_types.specs.declared.events.Hints.{Hints}
use Rattle.sd_types.specs.declared.works.Work.{Work}
use Rattle.sd_state.specs.declared.states.State.{State}
use Rattle.sd_state.specs.Opening.{opening}
use Rattle.sd_machine.specs.Events.{after, next}
use Rattle.sd_machine.specs.Runs.{IsReached, IsRun, IsRunFrom, final, serial_hints, IsFresh}
use Rattle.sd_machine.proofs.RunLemmas.{IsRun-from}
use Rattle.sd_invariants.proofs.Induction.{opening_reached, reached_more}
use Rattle.sd_invariants.proofs.Range.{needs_reached}
use Rattle.sd_encoding.specs.Order.{IsSameOrder, KeysFit}
use Rattle.sd_encoding.proofs.AfterLemmas.{after_alike}
use Rattle.sd_encoding.proofs.NextLemmas.{next_same, reads_same, serial_same}
use Rattle.sd_encoding.proofs.OrderRankLemmas.{ranked_fits, ranked_order, ranked_same, same_ranked}
use Rattle.sd_encoding.proofs.SourceLemmas.{AreAlike}
use Rattle.sd_search.specs.Closed.{Has, IsClosed}
use Rattle.sd_search.specs.Laws.{EntriesKeepTheOrder, RanksTellTheOrder, TurnsAreTheSame}
use Rattle.sd_search.proofs.OpeningKeys.{opening_keys}

pub joined : (x y s : State) → IsSameOrder x y → IsSameOrder y s → IsSameOrder x s
joined x y s a b = record { bare = a.bare ∙ b.bare; order = λ p q. a.order p q ∙ b.order p q }

pub alike : (n m : ℕ) (x s : State) → IsSameOrder x s → KeysFit n x → KeysFit m s → AreAlike n m x s
alike n m x s same own keys = record { same = same; own = own; keys = keys }

pub turns_law : TurnsAreTheSame
turns_law w x s n m c same own keys =
    let h = alike n m x s same own keys in
    record { reads = reads_same n m x s h w c; hints = serial_same n m x s h w c; event = next_same n m x s h w c }

pub entries_law : EntriesKeepTheOrder
entries_law w x s n m c e same own keys needs = (after_alike n m x s (alike n m x s same own keys) w c e needs).same

pub ranks_law : RanksTellTheOrder
ranks_law x s = record { same = ranked_order s; fits = ranked_fits 0 s; to = ranked_same x s; from = same_ranked x s }

module _ (w : Work) (set : State → Type 0) (closed : IsClosed w set) where
  -- the state after one entry
  entered : (n : ℕ) (s : State) (c : CpuId) (hints : Option Hints) (e : Event) → IsReached w n s → KeysFit n s → Has set s → hints ≡ serial_hints w s c → next w s c hints ≡ Some e
      → Has set (after w s n c e) × KeysFit (n + 1) (after w s n c e)
  entered n s c hints e reached keys has fresh step =
      let x = has.state in
      let h : AreAlike 0 n x s = alike 0 n x s has.same (closed.fits x has.among) keys in
      let made : next w x c (serial_hints w x c) ≡ Some e = ap (next w x c) (serial_same 0 n x s h w c ∙ sym fresh) ∙ next_same 0 n x s h w c hints ∙ step in
      let later = closed.turns x has.among c e made in
      let kept : AreAlike 1 (n + 1) (after w x 0 c e) (after w s n c e) = after_alike 0 n x s h w c e (needs_reached w n s c hints e reached step) in
      (record { state = later.state; among = later.among; same = joined later.state (after w x 0 c e) (after w s n c e) later.same kept.same }, kept.keys)

  gathered : (n : ℕ) (s : State) (es : List Entry) → IsReached w n s → KeysFit n s → Has set s → IsRunFrom w s n es → IsFresh w s es → Has set (final w s es)
  unfolding final IsRunFrom IsFresh
  gathered n s [] reached keys has run fresh = has
  gathered n s (e ∷ es) reached keys has (number, step, run) (shown, fresh) =
      let one = entered n s e.cpu e.hints e.event reached keys has shown step in
      let here : Has set (after w s e.number e.cpu e.event) = subst (λ k. Has set (after w s k e.cpu e.event)) (sym number) one.0 in
      let fit : KeysFit (n + 1) (after w s e.number e.cpu e.event) = subst (λ k. KeysFit (n + 1) (after w s k e.cpu e.event)) (sym number) one.1 in
      gathered (n + 1) (after w s e.number e.cpu e.event) es (reached_more w n s e reached number step) fit here run fresh

  pub every_run : (es : List Entry) → IsRun w es → IsFresh w (opening w) es → Has set (final w (opening w) es)
  every_run es run fresh = gathered 0 (opening w) es (opening_reached w) (opening_keys w) closed.start (IsRun-from w es run) fresh
