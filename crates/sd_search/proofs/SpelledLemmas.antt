-- The turns of a list of processors make a run that ends as the search found it.
use Rattle.std.proofs.Common.{◌≡◌, ℕ, suc, ◌+◌, List, [], ◌∷◌, ◌++◌, length, Some, refl, sym, ap, ◌∙◌, subst}
use Rattle.sd_types.specs.declared.numbers.CpuId.{CpuId}
use Rattle.sd_types.specs.declared.events.Entry.{Entry}
use Rattle.sd_types.specs.declared.events.Event.{Event}
use Rattle.sd_types.specs.declared.works.Work.{Work}
use Rattle.sd_state.specs.declared.states.State.{State}
use Rattle.sd_state.specs.Opening.{opening}
use Rattle.sd_machine.specs.Events.{after, next}
use Rattle.sd_machine.specs.Runs.{IsReached, IsRunFrom, final, made, round, serial_hints, turn, IsFresh}
use Rattle.sd_machine.proofs.RunLemmas.{from-IsRun}
use Rattle.sd_invariants.proofs.Induction.{opening_reached, reached_more}
use Rattle.sd_invariants.proofs.Range.{needs_reached}
use Rattle.sd_encoding.specs.Order.{IsSameOrder}
use Rattle.sd_encoding.proofs.AfterLemmas.{after_alike}
use Rattle.sd_encoding.proofs.NextLemmas.{next_same, serial_same}
use Rattle.sd_encoding.proofs.SourceLemmas.{AreAlike}
use Rattle.sd_search.specs.Laws.{TurnsSpellARun}
use Rattle.sd_search.specs.Spelled.{Leads}
use Rattle.sd_search.proofs.OpeningKeys.{opening_keys}
use Rattle.sd_search.proofs.RunLemmas.{alike, joined}
use Rattle.sd_search.proofs.BackLemmas.{turned}

-- what the run from s is: the entries es lead there
record Ends (w : Work) (n : ℕ) (s : State) (es : List Entry) (cs : List CpuId) (y : State) : Type 0 where
  run : IsRunFrom w s n es
  fresh : IsFresh w s es
  many : length es ≡ length cs
  ends : IsSameOrder y (final w s es)

module _ (w : Work) where
  entry : ℕ → State → CpuId → Event → Entry
  entry n s c e = record { number = n; cpu = c; event = e; hints = serial_hints w s c }

  turn_is : (n : ℕ) (s : State) (c : CpuId) (e : Event) → next w s c (serial_hints w s c) ≡ Some e → turn w s n c ≡ entry n s c e ∷ []
  unfolding entry
  turn_is n s c e step = ap (made n c (serial_hints w s c)) step

  round_is : (n : ℕ) (s : State) (c : CpuId) (cs : List CpuId) (e : Event) → next w s c (serial_hints w s c) ≡ Some e
      → round w s n (c ∷ cs) ≡ entry n s c e ∷ round w (after w s n c e) (n + 1) cs
  unfolding round final entry
  round_is n s c cs e step = ap (λ (es : List Entry). es ++ round w (final w s es) (n + length es) cs) (turn_is n s c e step)

  spelled : (n : ℕ) (x s y : State) (cs : List CpuId) → IsReached w n s → AreAlike 0 n x s → Leads w x cs y → Ends w n s (round w s n cs) cs y
  unfolding round final IsRunFrom IsFresh Leads entry
  spelled n x s y [] reached h leads = record { run = tt; fresh = tt; many = refl; ends = joined y x s (turned x y leads) h.same }
  spelled n x s y (c ∷ cs) reached h (z, go, rest) =
      let e = go.event in
      let step : next w s c (serial_hints w s c) ≡ Some e = sym (next_same 0 n x s h w c (serial_hints w s c)) ∙ ap (next w x c) (sym (serial_same 0 n x s h w c)) ∙ go.makes in
      let kept : AreAlike 1 (n + 1) (after w x 0 c e) (after w s n c e) = after_alike 0 n x s h w c e (needs_reached w n s c (serial_hints w s c) e reached step) in
      let on : AreAlike 0 (n + 1) z (after w s n c e) = alike 0 (n + 1) z (after w s n c e) (joined z (after w x 0 c e) (after w s n c e) go.leads kept.same) go.fits kept.keys in
      let there : IsReached w (n + 1) (after w s n c e) = reached_more w n s (entry n s c e) reached refl step in
      let tail = spelled (n + 1) z (after w s n c e) y cs there on rest in
      subst (λ es. Ends w n s es (c ∷ cs) y) (sym (round_is n s c cs e step))
      (record { run = (refl, step, tail.run); fresh = (refl, tail.fresh); many = ap suc tail.many; ends = tail.ends })

pub spelled_law : TurnsSpellARun
spelled_law w x y cs same fits leads =
    let ends = spelled w 0 x (opening w) y cs (opening_reached w) (alike 0 0 x (opening w) same fits (opening_keys w)) leads in
    record { run = from-IsRun w (round w (opening w) 0 cs) ends.run; fresh = ends.fresh; many = ends.many; ends = ends.ends }
