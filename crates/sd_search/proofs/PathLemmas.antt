-- The way back from a state to the first, and what is known of each state that was gathered.
use Rattle.std.proofs.Common.{◌≡◌, ℕ, zero, suc, ◌<◌, ◌≤◌, List, [], ◌∷◌, ◌++◌, length, Option, Some, None, refl, sym, ap, ◌∙◌, subst, arith, get_or}
use Rattle.std.specs.Prelude.{reverse, slice_get}
use Rattle.std.proofs.lemmas.List.{reverse-append}
use Rattle.std.proofs.lemmas.Option.{slice_get_read}
use Rattle.sd_types.specs.declared.numbers.CpuId.{CpuId}
use Rattle.sd_types.specs.declared.works.Work.{Work}
use Rattle.sd_state.specs.declared.states.State.{State}
use Rattle.sd_state.specs.Opening.{opening}
use Rattle.sd_machine.specs.Runs.{IsReached, final, round}
use Rattle.sd_encoding.specs.Order.{IsSameOrder}
use Rattle.sd_invariants.specs.Laws.{IsFit}
use Rattle.sd_invariants.proofs.Whole.{fit_reached}
use Rattle.sd_search.specs.Spelled.{IsSpelled, IsTurn, Leads}
use Rattle.sd_search.proofs.SpelledLemmas.{spelled_law}
use Rattle.sd_search.specs.declared.graph.Step.{Step}
use Rattle.sd_search.specs.Graphs.{IsAt, IsGathered}
use Rattle.sd_search.proofs.BackLemmas.{fit_back}
use Rattle.sd_search.proofs.KeyLemmas.{self_same}
use Rattle.sd_search.proofs.TellLemmas.{at_same, inside_at}

-- the processors lead from state number i to x
pub record IsWay (w : Work) (bs : List (List ℕ)) (i : ℕ) (cs : List CpuId) (x : State) : Type 0 where
  pub from : State
  pub at : IsAt bs i from
  pub leads : Leads w from cs x

pub no_way : (w : Work) (bs : List (List ℕ)) (i : ℕ) (x : State) → IsAt bs i x → IsWay w bs i [] x
unfolding Leads
no_way w bs i x at = record { from = x; at = at; leads = self_same x }

module _ (w : Work) (bs : List (List ℕ)) (steps : List Step) (done : ℕ) (g : IsGathered w bs steps done) where
  -- one step further back
  pub way_back : (i : ℕ) (step : Step) (cs : List CpuId) (x : State) → slice_get steps (suc i) ≡ Some step → IsWay w bs (suc i) cs x → IsWay w bs step.before (step.cpu ∷ cs) x
  unfolding Leads
  way_back i step cs x is way =
      let r = g.reached i step is in
      let same : r.to ≡ way.from = at_same bs (suc i) r.to way.from r.to_at way.at in
      record { from = r.from; at = r.from_at; leads = (way.from, subst (λ z. IsTurn w r.from step.cpu z) same r.turn, way.leads) }

  pub step_at : (i : ℕ) → suc i < length bs → (step : Step) × (slice_get steps (suc i) ≡ Some step)
  step_at i inside = by (slice_get steps (suc i)) refl
    where
      by : (o : Option Step) → slice_get steps (suc i) ≡ o → (step : Step) × (slice_get steps (suc i) ≡ Some step)
      by (Some step) e = (step, e)
      by None e = absurd (past steps (suc i) (let m = g.many in omega (arith, m, inside)) e)
        where
          past : (xs : List Step) (k : ℕ) → k < length xs → slice_get xs k ≡ None → ⊥
          past [] k h q = omega arith
          past (y ∷ ys) zero h q = cc
          past (y ∷ ys) (suc k) h q = past ys k (omega arith) q

  -- all the way back
  pub from_start : (fuel i : ℕ) (cs : List CpuId) (x : State) → i ≤ fuel → IsWay w bs i cs x → (ds : List CpuId) × IsWay w bs 0 ds x
  from_start fuel zero cs x few way = (cs, way)
  from_start zero (suc i) cs x few way = absurd (omega arith)
  from_start (suc fuel) (suc i) cs x few way =
      let s = step_at i (inside_at bs (suc i) way.from way.at) in
      let before = (g.reached i s.0 s.1).before in
      from_start fuel s.0.before (s.0.cpu ∷ cs) x (omega (arith, before, few)) (way_back i s.0 cs x s.1 way)

  -- the way from the first state is that of a run
  pub spelled : (cs : List CpuId) (x : State) → IsWay w bs 0 cs x → IsSpelled w cs x
  spelled cs x way =
      let same : g.start ≡ way.from = at_same bs 0 g.start way.from g.start_at way.at in
      spelled_law w way.from x cs (subst (λ z. IsSameOrder z (opening w)) same g.opens) (g.fits 0 way.from way.at) way.leads

  -- a state of a run that has its keys in the same order
  pub record IsOfRun (x : State) : Type 0 where
    pub many : ℕ
    pub state : State
    pub reached : IsReached w many state
    pub same : IsSameOrder x state

  pub of_run : (i : ℕ) (x : State) → IsAt bs i x → IsOfRun x
  of_run i x at =
      let way = from_start i i [] x (omega arith) (no_way w bs i x at) in
      let s = spelled way.0 x way.1 in
      record {
        many = length (round w (opening w) 0 way.0);
        state = final w (opening w) (round w (opening w) 0 way.0);
        reached = record { entries = round w (opening w) 0 way.0; run = s.run; many = refl; ends = refl };
        same = s.ends;
      }

  pub fit_at : (i : ℕ) (x : State) → IsAt bs i x → IsFit w x
  fit_at i x at = let r = of_run i x at in fit_back x r.state r.same w (fit_reached w r.many r.state r.reached)

  -- the same from any state but the first
  pub before_less : (i : ℕ) (step : Step) → 0 < i → slice_get steps i ≡ Some step → step.before < i
  before_less zero step some is = absurd (omega arith)
  before_less (suc i) step some is = (g.reached i step is).before

  pub way_down : (i : ℕ) (step : Step) (cpus cs ds : List CpuId) (x : State) → 0 < i → slice_get steps i ≡ Some step → cs ≡ cpus ++ step.cpu ∷ [] → ds ≡ reverse cs
      → IsWay w bs i (reverse cpus) x → IsWay w bs step.before ds x
  way_down zero step cpus cs ds x some is pushed turned way = absurd (omega arith)
  way_down (suc i) step cpus cs ds x some is pushed turned way =
      let e : step.cpu ∷ reverse cpus ≡ ds = sym (reverse-append cpus (step.cpu ∷ [])) ∙ ap reverse (sym pushed) ∙ sym turned in
      subst (λ ys. IsWay w bs step.before ys x) e (way_back i step (reverse cpus) x is way)

  -- the step that stands there
  pub step_read : (i : ℕ) (step : Step) → i < length bs → step ≡ get_or steps i step → slice_get steps i ≡ Some step
  step_read i step inside is = slice_get_read steps (length bs) i step (sym g.many) inside is

  pub spelled_at : (i : ℕ) (cs : List CpuId) (x : State) → i ≤ 0 → IsWay w bs i cs x → IsSpelled w cs x
  spelled_at zero cs x none way = spelled cs x way
  spelled_at (suc i) cs x none way = absurd (omega arith)
