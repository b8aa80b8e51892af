-- Runs in which each processor reads the numbers of the state: one turn more, and what stands before an entry.
use Rattle.std.proofs.Common.{◌≡◌, ℕ, ◌+◌, List, [], ◌∷◌, ◌++◌, length, Option, Some, None, refl, sym, ap, ◌∙◌, subst, arith}
use Rattle.std.proofs.lemmas.List.{append-nil, append_assoc, length-append}
use Rattle.sd_types.specs.declared.numbers.CpuId.{CpuId}
use Rattle.sd_types.specs.declared.events.Entry.{Entry}
use Rattle.sd_types.specs.declared.events.Event.{Event}
use Rattle.sd_types.specs.declared.works.Work.{Work}
use Rattle.sd_state.specs.declared.states.State.{State}
use Rattle.sd_state.specs.Opening.{opening}
use Rattle.sd_machine.specs.Events.{after, next}
use Rattle.sd_machine.specs.Runs.{IsComplete, IsReached, IsRunFrom, IsStep, final, made, round, serial_hints, turn, IsFresh}
use Rattle.sd_machine.proofs.RunLemmas.{IsRun-append, IsRun-from, IsRun-nil, IsRunFrom-front, IsRunFrom-nil, IsRunFrom-one, IsRunFrom-rest, final-append, final-nil, from-IsRun}
use Rattle.sd_invariants.specs.Laws.{IsFit}
use Rattle.sd_invariants.proofs.Whole.{fit_reached}
use Rattle.sd_extremes.specs.WholeRuns.{BeginsWith, GoesOn, IsFreshRun, LeadsTo}
use Rattle.sd_machine.proofs.RoundLemmas.{turn_run}

module _ (w : Work) where
  -- ---- entries that show the numbers of the state

  fresh-nil : (s : State) → IsFresh w s []
  unfolding IsFresh
  fresh-nil s = tt

  pub fresh-append : (s : State) (es fs : List Entry) → IsFresh w s es → IsFresh w (final w s es) fs → IsFresh w s (es ++ fs)
  unfolding IsFresh final
  fresh-append s [] fs a b = b
  fresh-append s (e ∷ es) fs (shown, a) b = (shown, fresh-append (after w s e.number e.cpu e.event) es fs a b)

  pub fresh-front : (s : State) (es fs : List Entry) → IsFresh w s (es ++ fs) → IsFresh w s es
  unfolding IsFresh
  fresh-front s [] fs a = tt
  fresh-front s (e ∷ es) fs (shown, a) = (shown, fresh-front (after w s e.number e.cpu e.event) es fs a)

  -- the hints of an entry amid others
  pub fresh-amid : (s : State) (es : List Entry) (e : Entry) (fs : List Entry) → IsFresh w s (es ++ e ∷ fs) → e.hints ≡ serial_hints w (final w s es) e.cpu
  unfolding IsFresh final
  fresh-amid s [] e fs (shown, a) = shown
  fresh-amid s (d ∷ es) e fs (shown, a) = fresh-amid (after w s d.number d.cpu d.event) es e fs a

  first_step : (s : State) (n : ℕ) (e : Entry) (fs : List Entry) → IsRunFrom w s n (e ∷ fs) → IsStep w s e
  unfolding IsRunFrom
  first_step s n e fs (number, step, rest) = step

  -- and that it is a step
  pub step-amid : (s : State) (n : ℕ) (es : List Entry) (e : Entry) (fs : List Entry) → IsRunFrom w s n (es ++ e ∷ fs) → IsStep w (final w s es) e
  step-amid s n es e fs run = first_step (final w s es) (n + length es) e fs (IsRunFrom-rest w s n es (e ∷ fs) run)

  -- what stands before it is such a run
  pub front_run : (es fs : List Entry) → IsFreshRun w (es ++ fs) → IsFreshRun w es
  front_run es fs r = record { run = from-IsRun w es (IsRunFrom-front w (opening w) 0 es fs (IsRun-from w (es ++ fs) r.run)); fresh = fresh-front (opening w) es fs r.fresh }

  -- ---- one turn more

  turn_fresh : (s : State) (n : ℕ) (c : CpuId) (o : Option Event) → IsFresh w s (made n c (serial_hints w s c) o)
  unfolding IsFresh
  turn_fresh s n c None = tt
  turn_fresh s n c (Some x) = (refl, tt)

  turns_on : (es : List Entry) (c : CpuId) → IsFreshRun w es → IsFreshRun w (es ++ turn w (final w (opening w) es) (length es) c)
  turns_on es c r =
      let s = final w (opening w) es in
      let more = turn w s (length es) c in
      record {
        run = IsRun-append w es more r.run (turn_run w s (length es) c (serial_hints w s c) (next w s c (serial_hints w s c)) refl);
        fresh = fresh-append (opening w) es more r.fresh (turn_fresh s (length es) c (next w s c (serial_hints w s c)));
      }

  pub leads_on : (es es' : List Entry) (s s' : State) (c : CpuId) → LeadsTo w es s → es' ≡ es ++ turn w s (length es) c → s' ≡ final w s (turn w s (length es) c) → LeadsTo w es' s'
  leads_on es es' s s' c l entries state =
      subst (λ (fs : List Entry). LeadsTo w fs s') (sym entries)
      (record {
        run = subst (λ z. IsFreshRun w (es ++ turn w z (length es) c)) (sym l.ends) (turns_on es c l.run);
        ends = state ∙ ap (λ z. final w z (turn w s (length es) c)) l.ends ∙ sym (final-append w (opening w) es (turn w s (length es) c));
      })

  pub begins : (es : List Entry) (s : State) → es ≡ [] → s ≡ opening w → LeadsTo w es s
  begins es s none is =
      subst (λ (fs : List Entry). LeadsTo w fs s) (sym none)
      (record { run = record { run = IsRun-nil w; fresh = fresh-nil (opening w) }; ends = is ∙ sym (final-nil w (opening w)) })

  pub reached : (es : List Entry) (s : State) → LeadsTo w es s → IsReached w (length es) s
  reached es s l = record { entries = es; run = l.run.run; many = refl; ends = sym l.ends }

  pub fit_of : (es : List Entry) (s : State) → LeadsTo w es s → IsFit w s
  fit_of es s l = fit_reached w (length es) s (reached es s l)

  -- ---- prefixes

  pub begins_itself : (es : List Entry) → BeginsWith es es
  begins_itself es = ([], sym (append-nil es))

  pub begins_more : (es fs gs hs : List Entry) → BeginsWith fs es → gs ≡ fs ++ hs → BeginsWith gs es
  begins_more es fs gs hs (rest, is) more = (rest ++ hs, more ∙ ap (λ (xs : List Entry). xs ++ hs) is ∙ append_assoc es rest hs)

  -- a run that begins so, and goes to its end
  pub goes_on : (path : List CpuId) (es fs : List Entry) (s : State) → LeadsTo w fs s → IsComplete w s → BeginsWith fs es → es ≡ round w (opening w) 0 path → GoesOn w path fs
  goes_on path es fs s l complete b is = record {
    whole = record { run = l.run; complete = subst (λ z. IsComplete w z) l.ends complete };
    begins = subst (λ (xs : List Entry). BeginsWith fs xs) is b;
  }

  -- ---- the turn of one processor more

  pub round-push : (s : State) (n : ℕ) (cs : List CpuId) (c : CpuId) → round w s n (cs ++ c ∷ []) ≡ round w s n cs ++ turn w (final w s (round w s n cs)) (n + length (round w s n cs)) c
  unfolding round final
  round-push s n [] c = append-nil (turn w s n c) ∙ ap (λ k. turn w s k c) (let e : n ≡ n + 0 = omega arith in e)
  round-push s n (d ∷ cs) c =
      let t = turn w s n d in
      let s' = final w s t in
      let n' = n + length t in
      let rest = round w s' n' cs in
      ap (λ (xs : List Entry). t ++ xs) (round-push s' n' cs c)
      ∙ sym (append_assoc t rest (turn w (final w s' rest) (n' + length rest) c))
      ∙ ap (λ z. (t ++ rest) ++ turn w z (n' + length rest) c) (sym (final-append w s t rest))
      ∙ ap (λ k. (t ++ rest) ++ turn w (final w s (t ++ rest)) k c) (let many = length-append t rest in let e : n' + length rest ≡ n + length (t ++ rest) = omega (arith, many) in e)
