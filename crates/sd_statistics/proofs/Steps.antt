-- The entries of a run, one by one, and the states between them.
use Rattle.std.proofs.Common.{◌≡◌, ℕ, zero, suc, ◌<◌, List, [], ◌∷◌, ◌++◌, length, take, Some, refl, ap, subst, ◌∙◌, arith}
use Rattle.std.specs.Prelude.{slice_get}
use Rattle.sd_types.specs.declared.events.Entry.{Entry}
use Rattle.sd_types.specs.declared.works.Work.{Work}
use Rattle.sd_state.specs.declared.states.Place.{Place}
use Rattle.sd_state.specs.declared.states.Place.TheVariants.{Running}
use Rattle.sd_state.specs.Opening.{opening}
use Rattle.sd_state.specs.States.{is_running}
use Rattle.sd_machine.specs.Events.{after}
use Rattle.sd_machine.specs.Runs.{final, state_at, IsReached, IsRun, IsRunFrom, IsStep}
use Rattle.sd_machine.proofs.OpeningLemmas.{opening_fits}
use Rattle.sd_machine.proofs.RunLemmas.{final-push, final_fits, from-IsRun, last_number, last_step, IsRun-from, IsRunFrom-take}
use Rattle.sd_stretches.specs.Sights.{doing_of, runs_on}

pub runs_place : (c : ℕ) (p : Place) → runs_on c (doing_of p) ≡ is_running c p
runs_place c (Running d) = refl
runs_place c p = refl

-- the entry behind the first k
entry_there : (es : List Entry) (k : ℕ) → k < length es → (e : Entry) × (slice_get es k ≡ Some e) × (take (suc k) es ≡ take k es ++ e ∷ [])
entry_there [] k inside = absurd (omega (arith, inside))
entry_there (x ∷ xs) zero inside = (x, refl, refl)
entry_there (x ∷ xs) (suc k) inside = let (e, is, more) = entry_there xs k (omega (arith, inside)) in (e, is, ap (λ ys. x ∷ ys) more)

module _ (w : Work) (es : List Entry) (run : IsRun w es) where
  run_at : (k : ℕ) → IsRunFrom w (opening w) 0 (take k es)
  run_at k = IsRunFrom-take w (opening w) 0 k es (IsRun-from w es run)

  pub reached : (k : ℕ) → IsReached w (length (take k es)) (state_at w es k)
  reached k = record { entries = take k es; run = from-IsRun w (take k es) (run_at k); many = refl; ends = refl }

  pub many : (k : ℕ) → length (state_at w es k).threads ≡ length w.threads
  many k = (final_fits w (opening w) (take k es) (opening_fits w)).threads

  -- the entry that makes state k + 1
  pub record Made (k : ℕ) : Type 0 where
    pub entry : Entry
    pub at : slice_get es k ≡ Some entry
    pub state : state_at w es (suc k) ≡ after w (state_at w es k) entry.number entry.cpu entry.event
    pub number : entry.number ≡ length (take k es)
    pub step : IsStep w (state_at w es k) entry

  pub made_by : (k : ℕ) → k < length es → Made k
  made_by k inside = by (entry_there es k inside)
    where
      by : (e : Entry) × (slice_get es k ≡ Some e) × (take (suc k) es ≡ take k es ++ e ∷ []) → Made k
      by (e, is, more) =
          let both : IsRunFrom w (opening w) 0 (take k es ++ e ∷ []) = subst (IsRunFrom w (opening w) 0) more (run_at (suc k)) in
          record {
            entry = e;
            at = is;
            state = ap (final w (opening w)) more ∙ final-push w (opening w) (take k es) e;
            number = (let at = last_number w (opening w) 0 (take k es) e both in omega (arith, at));
            step = last_step w (opening w) 0 (take k es) e both;
          }
