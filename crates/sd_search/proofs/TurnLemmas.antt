-- The turn of a processor from a state that was gathered.
use Rattle.std.proofs.Common.{◌≡◌, ℕ, zero, suc, ◌+◌, ◌<◌, ◌≤◌, Bool, true, false, List, [], ◌∷◌, ◌++◌, length, Some, refl, sym, ap, ◌∙◌, subst, arith}
use Rattle.std.specs.Prelude.{slice_get}
use Rattle.std.proofs.lemmas.Option.{same_Some, slice_get_within}
use Rattle.sd_types.specs.declared.numbers.CpuId.{CpuId}
use Rattle.sd_types.specs.declared.events.Entry.{Entry}
use Rattle.sd_types.specs.declared.events.Event.{Event}
use Rattle.sd_types.specs.declared.works.Work.{Work}
use Rattle.sd_state.specs.declared.states.State.{State}
use Rattle.sd_state.specs.Opening.{opening}
use Rattle.sd_machine.specs.Events.{after, next}
use Rattle.sd_machine.specs.Needs.{Needs}
use Rattle.sd_machine.specs.Runs.{IsReached, serial_hints}
use Rattle.sd_invariants.specs.Laws.{IsFit}
use Rattle.sd_invariants.proofs.Ready.{maker_inside}
use Rattle.sd_invariants.proofs.Whole.{fit_reached}
use Rattle.sd_invariants.proofs.Induction.{opening_reached, reached_more}
use Rattle.sd_invariants.proofs.Range.{needs_reached}
use Rattle.sd_encoding.specs.Order.{IsSameOrder, KeysFit}
use Rattle.sd_encoding.specs.Ranks.{ranked}
use Rattle.sd_encoding.proofs.AfterLemmas.{after_alike}
use Rattle.sd_encoding.proofs.NextLemmas.{next_same, serial_same}
use Rattle.sd_encoding.proofs.OrderRankLemmas.{ranked_fits, ranked_order, ranked_same}
use Rattle.sd_encoding.proofs.SourceLemmas.{AreAlike}
use Rattle.sd_search.specs.Spelled.{IsTurn}
use Rattle.sd_search.proofs.RunLemmas.{alike}
use Rattle.sd_encoding.specs.Encoding.{IsHeld, encoded}
use Rattle.sd_search.specs.declared.graph.Step.{Step}
use Rattle.sd_search.specs.Graphs.{IsAt, IsGathered, IsSoon, IsTurned}
use Rattle.sd_search.specs.Stored.{IsInserted}
use Rattle.sd_search.proofs.BackLemmas.{fit_back, needs_back}
use Rattle.sd_search.proofs.KeyLemmas.{keys_reached}
use Rattle.sd_search.proofs.PathLemmas.{IsOfRun, of_run, step_at}
use Rattle.sd_search.proofs.TellLemmas.{told}

-- a state with ranks for keys has its own ranks
pub ranked_once : (x y : State) → y ≡ ranked x → ranked y ≡ y
ranked_once x y is = ap ranked is ∙ ranked_same (ranked x) x (ranked_order x) ∙ sym is

-- with ranks for keys, a state that can be read has its keys before those of entry 0
pub small_fits : (w : Work) (s : State) → IsFit w s → KeysFit 0 (ranked s)
small_fits w s fit =
    let threads = fit.fits.threads in
    let cpus = fit.fits.cpus in
    let most = w.most_threads in
    let some = w.most_cpus in
    ranked_fits 0 s (omega (arith, threads, cpus, most, some))

-- no processor has a turn that is not there
pub none_beyond : (w : Work) (bs : List (List ℕ)) (x : State) (c : CpuId) → w.cpus ≤ c.0 → IsTurned w bs x c
none_beyond w bs x c past = λ e makes. let inside = maker_inside w x c (serial_hints w x c) e makes in absurd (omega (arith, inside, past))

module _ (w : Work) (bs : List (List ℕ)) (steps : List Step) (done : ℕ) (g : IsGathered w bs steps done) where
  -- each number has a state
  pub each_at : (i : ℕ) → i < length bs → (x : State) × IsAt bs i x
  each_at zero inside = (g.start, g.start_at)
  each_at (suc i) inside =
      let s = step_at w bs steps done g i inside in
      let r = g.reached i s.0 s.1 in
      (r.to, r.to_at)

  -- what its bytes spell
  pub spelled_there : (i : ℕ) (b : List ℕ) → i < length bs → slice_get bs i ≡ Some b → (x : State) × IsHeld x × (b ≡ encoded x)
  spelled_there i b inside is = let x = each_at i inside in (x.0, x.1.held, same_Some b (encoded x.0) (sym is ∙ x.1.bytes))

  module _ (i : ℕ) (x : State) (at : IsAt bs i x) (c : CpuId) (e : Event) (makes : next w x c (serial_hints w x c) ≡ Some e) where
    run : IsOfRun w bs steps done g x
    run = of_run w bs steps done g i x at

    -- the state of the run and the one that stands for it
    both : AreAlike 0 (run.many) x (run.state)
    unfolding run
    both = alike 0 run.many x run.state run.same (g.fits i x at) (keys_reached w run.many run.state run.reached)

    makes_too : next w (run.state) c (serial_hints w (run.state) c) ≡ Some e
    unfolding run
    makes_too = sym (next_same 0 run.many x run.state both w c (serial_hints w run.state c)) ∙ ap (next w x c) (sym (serial_same 0 run.many x run.state both w c)) ∙ makes

    needs_there : Needs w (run.state) c e
    unfolding run
    needs_there = needs_reached w run.many run.state c (serial_hints w run.state c) e run.reached makes_too

    pub needs_here : Needs w x c e
    unfolding run
    needs_here = needs_back x run.state run.same w c e needs_there

    -- the state after it can be read
    fit_after : IsFit w (after w x 0 c e)
    unfolding run
    fit_after =
        let kept : AreAlike 1 (run.many + 1) (after w x 0 c e) (after w run.state run.many c e) = after_alike 0 run.many x run.state both w c e needs_there in
        let entry : Entry = record { number = run.many; cpu = c; event = e; hints = serial_hints w run.state c } in
        let there : IsReached w (run.many + 1) (after w run.state run.many c e) = reached_more w run.many run.state entry run.reached refl makes_too in
        fit_back (after w x 0 c e) (after w run.state run.many c e) kept.same w (fit_reached w (run.many + 1) (after w run.state run.many c e) there)

    pub turn_made : IsTurn w x c (ranked (after w x 0 c e))
    turn_made = record { event = e; makes = makes; leads = ranked_order (after w x 0 c e); fits = small_fits w (after w x 0 c e) fit_after }

-- the initial state with ranks for keys
pub opening_fits : (w : Work) → KeysFit 0 (ranked (opening w))
opening_fits w = small_fits w (opening w) (fit_reached w 0 (opening w) (opening_reached w))

-- the initial state alone
pub begun : (w : Work) (bs bs' : List (List ℕ)) (b : List ℕ) (new : Bool) (steps : List Step) (step : Step) (s y : State) → s ≡ opening w → y ≡ ranked s → IsHeld y → b ≡ encoded y
    → bs ≡ [] → IsInserted bs bs' b new → steps ≡ [] ++ step ∷ [] → IsGathered w bs' steps 0
begun w bs bs' b false steps step s y starts rank own is none e one =
    absurd (let within = slice_get_within bs e.1.0 b e.1.1 in let few = ap length none in omega (arith, within, few))
begun w bs bs' b true steps step s y starts rank own is none e one =
    let opened : y ≡ ranked (opening w) = rank ∙ ap ranked starts in
    let all : bs' ≡ encoded y ∷ [] = e.0 ∙ ap (λ (zs : List (List ℕ)). zs ++ b ∷ []) none ∙ ap (λ (z : List ℕ). z ∷ []) is in
    let first : KeysFit 0 y = subst (λ z. KeysFit 0 z) (sym opened) (opening_fits w) in
    subst (λ (zs : List (List ℕ)). IsGathered w zs steps 0) (sym all)
    (subst (λ (zs : List Step). IsGathered w (encoded y ∷ []) zs 0) (sym one)
    (record {
      start = y;
      start_at = record { bytes = refl; held = own };
      opens = subst (λ z. IsSameOrder z (opening w)) (sym opened) (ranked_order (opening w));
      many = refl;
      reached = λ i st at. absurd (past i st at);
      fits = λ i z at. alone i z at first;
      ranks = λ i z at. alone_ranked i z at (ranked_once s y rank);
      differ = λ i j b here there. one_place i b here ∙ sym (one_place j b there);
      expanded = λ i few. absurd (omega arith);
      within = omega arith;
      layered = record { rising = λ i j first second le e f. absurd (past i first e); early = first_early; soon = λ i few. absurd (omega arith) };
    }))
  where
    past : (i : ℕ) (st : Step) → slice_get (step ∷ []) (suc i) ≡ Some st → ⊥
    past i st at = cc

    first_early : (i : ℕ) → IsSoon (step ∷ []) i 0
    first_early zero = tt
    first_early (suc i) = λ st e. absurd (past i st e)

    alone : (i : ℕ) (z : State) → IsAt (encoded y ∷ []) i z → KeysFit 0 y → KeysFit 0 z
    alone zero z at first = subst (λ v. KeysFit 0 v) (told y z own at.held (same_Some (encoded y) (encoded z) at.bytes)) first
    alone (suc i) z at first = absurd (let within = slice_get_within (encoded y ∷ []) (suc i) (encoded z) at.bytes in omega (arith, within))

    alone_ranked : (i : ℕ) (z : State) → IsAt (encoded y ∷ []) i z → ranked y ≡ y → ranked z ≡ z
    alone_ranked zero z at first = subst (λ v. ranked v ≡ v) (told y z own at.held (same_Some (encoded y) (encoded z) at.bytes)) first
    alone_ranked (suc i) z at first = absurd (let within = slice_get_within (encoded y ∷ []) (suc i) (encoded z) at.bytes in omega (arith, within))

    one_place : (i : ℕ) (c : List ℕ) → slice_get (encoded y ∷ []) i ≡ Some c → i ≡ 0
    one_place i c at = let within = slice_get_within (encoded y ∷ []) i c at in omega (arith, within)
