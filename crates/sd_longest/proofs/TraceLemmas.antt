-- A wait in a run is one along a walk of the graph, with as many ticks.
use Rattle.std.proofs.Common.{◌≡◌, ℕ, ◌+◌, ◌-◌, ◌≤◌, List, [], ◌∷◌, ◌++◌, length, get_or, Some, refl, sym, ap, ◌∙◌, subst, arith}
use Rattle.std.specs.Prelude.{slice_get}
use Rattle.std.specs.List.{All}
use Rattle.std.proofs.lemmas.List.Elements.{All-head, All-tail}
use Rattle.std.proofs.lemmas.Option.{slice_get-get_or}
use Rattle.sd_types.specs.declared.numbers.CpuId.{CpuId}
use Rattle.sd_types.specs.declared.numbers.ThreadId.{ThreadId}
use Rattle.sd_types.specs.declared.events.Entry.{Entry}
use Rattle.sd_types.specs.declared.events.Event.{Event}
use Rattle.sd_types.specs.declared.works.Work.{Work}
use Rattle.sd_state.specs.declared.states.State.{State}
use Rattle.sd_state.specs.Opening.{opening}
use Rattle.sd_state.specs.States.{cpu_of}
use Rattle.sd_machine.specs.Events.{after, next}
use Rattle.sd_machine.specs.Runs.{IsRunFrom, final, serial_hints, IsFresh}
use Rattle.sd_machine.proofs.RunLemmas.{IsRun-from, IsRunFrom-rest, final-append, final-cons}
use Rattle.sd_invariants.proofs.Ready.{maker_inside}
use Rattle.sd_search.specs.declared.graph.Step.{Step}
use Rattle.sd_search.specs.Graphs.{IsAt, IsGathered}
use Rattle.sd_search.specs.Turns.{LeadsTo}
use Rattle.sd_search.proofs.FinalLemmas.{gathers_all}
use Rattle.sd_search.proofs.TellLemmas.{inside_at}
use Rattle.sd_extremes.specs.WholeRuns.{IsFreshRun}
use Rattle.sd_extremes.proofs.WholeLemmas.{front_run}
use Rattle.sd_longest.specs.declared.edges.Edge.{Edge}
use Rattle.sd_longest.specs.Edges.{IsEdge, IsWait as IsWalk, Lead}
use Rattle.sd_longest.proofs.ListLemmas.{at_of}
use Rattle.sd_longest.specs.Effects.{effect_of}
use Rattle.sd_longest.specs.Tables.{AreRows, IsTurnEdge}
use Rattle.sd_longest.specs.Waits.{DoesNotRun, IsWait}
use Rattle.sd_longest.proofs.EffectLemmas.{ends_of, opens_of, runs_of}
use Rattle.sd_longest.proofs.NearLemmas.{IsNear, count_there, makes_there, near_next}

module _ (w : Work) where
  -- what follows some entries shows the numbers of the state too
  fresh-rest : (s : State) (es fs : List Entry) → IsFresh w s (es ++ fs) → IsFresh w (final w s es) fs
  unfolding IsFresh final
  fresh-rest s [] fs a = a
  fresh-rest s (e ∷ es) fs (shown, a) = fresh-rest (after w s e.number e.cpu e.event) es fs a

module _ (w : Work) (bs : List (List ℕ)) (steps : List Step) (done : ℕ) (g : IsGathered w bs steps done) (t : ThreadId) (rows : List (List Edge)) (a : AreRows w bs t (length bs) rows) where
  -- the edge of a turn
  record HasEdge (i : ℕ) (x : State) (c : CpuId) (v : Event) : Type 0 where
    edge : Edge
    at : IsEdge rows i edge
    is : IsTurnEdge w bs t x edge
    cpu : edge.cpu ≡ c
    event : is.event ≡ v

  edge_of_turn : (i : ℕ) (x : State) (c : CpuId) (event : Event) → IsAt bs i x → next w x c (serial_hints w x c) ≡ Some event → HasEdge i x c event
  edge_of_turn i x c event at makes =
      let many = a.many in
      let within = inside_at bs i x at in
      let none : List Edge = [] in
      let row = get_or rows i none in
      let row_at : slice_get rows i ≡ Some row = slice_get-get_or rows i none (omega (arith, many, within)) in
      let has = a.each i row row_at in
      let found = has.all x c event at (maker_inside w x c (serial_hints w x c) event makes) makes in
      let there = at_of row found.0 found.1 in
      let is = has.are x found.0 at found.1 in
      let same : Some is.event ≡ Some event = sym is.makes ∙ ap (λ (d : CpuId). next w x d (serial_hints w x d)) found.2 ∙ makes in
      record { edge = found.0; at = record { row = row; row_at = row_at; place = there.0; at = there.1 }; is = is; cpu = found.2; event = cc }

  -- the edge of an entry, and what follows it
  pub record IsStepped (n : ℕ) (s : State) (i : ℕ) (e : Entry) (es : List Entry) : Type 0 where
    pub edge : Edge
    pub at : IsEdge rows i edge
    pub effect : edge.effect ≡ effect_of t e.event
    pub tick : edge.tick ≡ (cpu_of s e.cpu.0).count
    pub near : IsNear w bs (n + 1) (after w s e.number e.cpu e.event) edge.to
    pub run : IsRunFrom w (after w s e.number e.cpu e.event) (n + 1) es
    pub fresh : IsFresh w (after w s e.number e.cpu e.event) es

  pub stepped : (n : ℕ) (s : State) (i : ℕ) (e : Entry) (es : List Entry) → IsNear w bs n s i → IsRunFrom w s n (e ∷ es) → IsFresh w s (e ∷ es) → IsStepped n s i e es
  unfolding IsRunFrom IsFresh
  stepped n s i e es near (number, step, run) (shown, fresh) =
      let made = makes_there w bs steps done g n s i near e.cpu e.hints e.event shown step in
      let h = edge_of_turn i near.state e.cpu e.event near.at made in
      let next_near : IsNear w bs (n + 1) (after w s n e.cpu e.event) h.edge.to =
      near_next w bs steps done g n s i near e.cpu e.hints e.event h.edge.to step
      (subst (λ (c : CpuId). LeadsTo w bs near.state c e.event h.edge.to) h.cpu (subst (λ (v : Event). LeadsTo w bs near.state h.edge.cpu v h.edge.to) h.event h.is.leads)) in
      record {
        edge = h.edge;
        at = h.at;
        effect = h.is.effect ∙ ap (effect_of t) h.event;
        tick = h.is.tick ∙ ap (λ (c : CpuId). (cpu_of near.state c.0).count) h.cpu ∙ count_there w bs steps done g n s i near e.cpu;
        near = subst (λ k. IsNear w bs (n + 1) (after w s k e.cpu e.event) h.edge.to) (sym number) next_near;
        run = run;
        fresh = fresh;
      }

  -- entries that do not make the thread run, and what follows them
  record IsTraced (n : ℕ) (s : State) (i : ℕ) (es more : List Entry) : Type 0 where
    edges : List Edge
    to : ℕ
    lead : Lead rows i edges to
    near : IsNear w bs (n + length es) (final w s es) to
    run : IsRunFrom w (final w s es) (n + length es) more
    fresh : IsFresh w (final w s es) more

  traced : (n : ℕ) (s : State) (i : ℕ) (es more : List Entry) → IsNear w bs n s i → IsRunFrom w s n (es ++ more) → IsFresh w s (es ++ more) → All (DoesNotRun t) es → IsTraced n s i es more
  unfolding final Lead
  traced n s i [] more near run fresh waits =
      let none : n ≡ n + 0 = omega arith in
      record { edges = []; to = i; lead = refl; near = subst (λ k. IsNear w bs k s i) none near; run = subst (λ k. IsRunFrom w s k more) none run; fresh = fresh }
  traced n s i (e ∷ es) more near run fresh waits =
      let one = stepped n s i e (es ++ more) near run fresh in
      let rest = traced (n + 1) (after w s e.number e.cpu e.event) one.edge.to es more one.near one.run one.fresh (All-tail (DoesNotRun t) e es waits) in
      let many : n + 1 + length es ≡ n + length (e ∷ es) = omega arith in
      record {
        edges = one.edge ∷ rest.edges;
        to = rest.to;
        lead = (one.at, (λ ends. All-head (DoesNotRun t) e es waits (runs_of t e.event (sym one.effect ∙ ends))), rest.lead);
        near = subst (λ k. IsNear w bs k (final w (after w s e.number e.cpu e.event) es) rest.to) many rest.near;
        run = subst (λ k. IsRunFrom w (final w (after w s e.number e.cpu e.event) es) k more) many rest.run;
        fresh = rest.fresh;
      }

  -- a wait of so many ticks along a walk
  pub record HasWalk (k : ℕ) : Type 0 where
    pub index : ℕ
    pub opening : Edge
    pub between : List Edge
    pub ending : Edge
    pub walk : IsWalk rows index opening between ending
    pub ticks : ending.tick - opening.tick ≡ k

  pub walk_of : length bs ≤ done → (es : List Entry) (k : ℕ) → IsFreshRun w es → IsWait w t es k → HasWalk k
  walk_of all es k r wait =
      let before = wait.before in
      let wk = wait.wakeup in
      let between = wait.between in
      let rn = wait.running in
      let tail = between ++ rn ∷ wait.rest in
      let whole : IsFreshRun w (before ++ wk ∷ tail) = subst (λ (xs : List Entry). IsFreshRun w xs) wait.entries r in
      let front = front_run w before (wk ∷ tail) whole in
      let n = length before in
      let s = final w (opening w) before in
      let has = gathers_all w bs steps done g all before front.run front.fresh in
      let near : IsNear w bs n s has.among.index = record { state = has.state; at = has.among.at; same = has.same; reached = record { entries = before; run = front.run; many = refl; ends = refl } } in
      let run : IsRunFrom w s n (wk ∷ tail) = subst (λ m. IsRunFrom w s m (wk ∷ tail)) (let e : 0 + n ≡ n = omega arith in e) (IsRunFrom-rest w (opening w) 0 before (wk ∷ tail) (IsRun-from w (before ++ wk ∷ tail) whole.run)) in
      let first = stepped n s has.among.index wk tail near run (fresh-rest w (opening w) before (wk ∷ tail) whole.fresh) in
      let s' = after w s wk.number wk.cpu wk.event in
      let middle = traced (n + 1) s' first.edge.to between (rn ∷ wait.rest) first.near first.run first.fresh wait.waits in
      let s'' = final w s' between in
      let last = stepped (n + 1 + length between) s'' middle.to rn wait.rest middle.near middle.run middle.fresh in
      let state : final w (opening w) (before ++ wk ∷ between) ≡ s'' = final-append w (opening w) before (wk ∷ between) ∙ final-cons w s wk between in
      let low = first.tick in
      let high : last.edge.tick ≡ (cpu_of (final w (opening w) (before ++ wk ∷ between)) rn.cpu.0).count = last.tick ∙ ap (λ (z : State). (cpu_of z rn.cpu.0).count) (sym state) in
      let ticks = wait.ticks in
      record {
        index = has.among.index;
        opening = first.edge;
        between = middle.edges;
        ending = last.edge;
        walk = record {
          opening_at = first.at;
          opens = first.effect ∙ opens_of t wk.event wait.wakes;
          state = middle.to;
          lead = middle.lead;
          ending_at = last.at;
          ends = last.effect ∙ ends_of t rn.event wait.runs;
        };
        ticks = omega (arith, low, high, ticks);
      }
