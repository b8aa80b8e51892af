-- The turns along a walk of the graph make a run in which there is a wait of as many ticks.
use Rattle.std.proofs.Common.{◌≡◌, ℕ, ◌+◌, List, [], ◌∷◌, ◌++◌, length, map, Some, Result, Ok, Err, refl, sym, ap, ◌∙◌, subst, arith}
use Rattle.std.specs.Prelude.{IfOk, Vec}
use Rattle.std.specs.List.{All}
use Rattle.std.specs.declared.alloc.Global.{Global}
use Rattle.std.proofs.lemmas.List.{append_assoc, length-append}
use Rattle.std.proofs.lemmas.List.Elements.{All-cons, All-nil}
use Rattle.std.proofs.lemmas.Option.{slice_get_within}
use Rattle.sd_types.specs.declared.numbers.CpuId.{CpuId}
use Rattle.sd_types.specs.declared.numbers.ThreadId.{ThreadId}
use Rattle.sd_types.specs.declared.events.Entry.{Entry}
use Rattle.sd_types.specs.declared.events.Event.{Event}
use Rattle.sd_types.specs.declared.works.Work.{Work}
use Rattle.sd_state.specs.declared.states.State.{State}
use Rattle.sd_state.specs.Opening.{opening}
use Rattle.sd_state.specs.States.{cpu_of}
use Rattle.sd_machine.specs.Events.{after, next}
use Rattle.sd_machine.specs.Runs.{final, made, round, serial_hints, turn}
use Rattle.sd_machine.proofs.RunLemmas.{final-append, final-cons}
use Rattle.sd_search.specs.Spelled.{IsSpelled}
use Rattle.sd_search.specs.declared.graph.Step.{Step}
use Rattle.sd_search.specs.Graphs.{IsAt, IsGathered}
use Rattle.sd_search.proofs.TurnLemmas.{each_at}
use Rattle.sd_extremes.specs.WholeRuns.{GoesOn}
use Rattle.sd_longest.specs.declared.edges.Edge.{Edge}
use Rattle.sd_longest.specs.declared.longest.Wait.{Wait}
use Rattle.sd_longest.specs.Edges.{IsEdge, IsFound, Lead}
use Rattle.sd_longest.specs.Effects.{effect_of}
use Rattle.sd_longest.specs.Tables.{AreRows}
use Rattle.sd_longest.specs.Waits.{DoesNotRun, IsLongWait}
use Rattle.sd_longest.proofs.EffectLemmas.{ends_of, runs_of, wakes_of}
use Rattle.sd_longest.proofs.NearLemmas.{IsNear, count_there, makes_here, near_next}
use Rattle.sd_longest.proofs.RowLemmas.{edge_there}

module _ (w : Work) where
  -- the entry of a turn
  abbrev pub entry_of : ℕ → State → CpuId → Event → Entry
  entry_of n s c e = record { number = n; cpu = c; event = e; hints = serial_hints w s c }

  round-cons : (s : State) (n : ℕ) (c : CpuId) (cs : List CpuId) (e : Event) → next w s c (serial_hints w s c) ≡ Some e → round w s n (c ∷ cs) ≡ entry_of n s c e ∷ round w (after w s n c e) (n + 1) cs
  unfolding round final
  round-cons s n c cs e step = ap (λ (es : List Entry). es ++ round w (final w s es) (n + length es) cs) (ap (made n c (serial_hints w s c)) step)

  round-one : (s : State) (n : ℕ) (c : CpuId) (e : Event) → next w s c (serial_hints w s c) ≡ Some e → round w s n (c ∷ []) ≡ entry_of n s c e ∷ []
  unfolding round
  round-one s n c e step = round-cons s n c [] e step

  round-append : (s : State) (n : ℕ) (cs ds : List CpuId) → round w s n (cs ++ ds) ≡ round w s n cs ++ round w (final w s (round w s n cs)) (n + length (round w s n cs)) ds
  unfolding round final
  round-append s n [] ds = ap (λ k. round w s k ds) (let e : n ≡ n + 0 = omega arith in e)
  round-append s n (c ∷ cs) ds =
      let t = turn w s n c in
      let s' = final w s t in
      let n' = n + length t in
      let rest = round w s' n' cs in
      ap (λ (xs : List Entry). t ++ xs) (round-append s' n' cs ds)
      ∙ sym (append_assoc t rest (round w (final w s' rest) (n' + length rest) ds))
      ∙ ap (λ z. (t ++ rest) ++ round w z (n' + length rest) ds) (sym (final-append w s t rest))
      ∙ ap (λ k. (t ++ rest) ++ round w (final w s (t ++ rest)) k ds) (let many = length-append t rest in let e : n' + length rest ≡ n + length (t ++ rest) = omega (arith, many) in e)

module _ (w : Work) (bs : List (List ℕ)) (steps : List Step) (done : ℕ) (g : IsGathered w bs steps done) (t : ThreadId) (rows : List (List Edge)) (a : AreRows w bs t (length bs) rows) where
  -- entries that do not make the thread run, and lead to a state for which number j stands
  record AreWalked (n : ℕ) (s : State) (es : List Entry) (j : ℕ) : Type 0 where
    waits : All (DoesNotRun t) es
    near : IsNear w bs (n + length es) (final w s es) j

  -- one turn along an edge
  pub record IsTaken (n : ℕ) (s : State) (i : ℕ) (e : Edge) : Type 0 where
    pub event : Event
    pub step : next w s e.cpu (serial_hints w s e.cpu) ≡ Some event
    pub effect : e.effect ≡ effect_of t event
    pub tick : e.tick ≡ (cpu_of s e.cpu.0).count
    pub near : IsNear w bs (n + 1) (after w s n e.cpu event) e.to

  pub taken : (n : ℕ) (s : State) (i : ℕ) (e : Edge) → IsNear w bs n s i → IsEdge rows i e → IsTaken n s i e
  taken n s i e near at =
      let is = edge_there w bs t steps done g rows a i near.state e near.at at in
      let step = makes_here w bs steps done g n s i near e.cpu is.event is.makes in
      record {
        event = is.event;
        step = step;
        effect = is.effect;
        tick = is.tick ∙ count_there w bs steps done g n s i near e.cpu;
        near = near_next w bs steps done g n s i near e.cpu (serial_hints w s e.cpu) is.event e.to step is.leads;
      }

  cpus : List Edge → List CpuId
  cpus es = map (λ (e : Edge). e.cpu) es

  walked : (n : ℕ) (s : State) (i : ℕ) (es : List Edge) (j : ℕ) → IsNear w bs n s i → Lead rows i es j → AreWalked n s (round w s n (cpus es)) j
  unfolding Lead round final cpus
  walked n s i [] j near same = record { waits = All-nil (DoesNotRun t); near = subst (λ k. IsNear w bs k s j) (let e : n ≡ n + 0 = omega arith in e) (subst (λ k. IsNear w bs n s k) same near) }
  walked n s i (e ∷ es) j near (at, passes, rest) =
      let one = taken n s i e near at in
      let s' = after w s n e.cpu one.event in
      let more = walked (n + 1) s' e.to es j one.near rest in
      let entry = entry_of w n s e.cpu one.event in
      let xs = round w s' (n + 1) (cpus es) in
      let many : n + 1 + length xs ≡ n + length (entry ∷ xs) = omega arith in
      subst (λ (ys : List Entry). AreWalked n s ys j) (sym (round-cons w s n e.cpu (cpus es) one.event one.step))
      (record {
        waits = All-cons (DoesNotRun t) entry xs (λ runs. passes (one.effect ∙ ends_of t one.event runs)) more.waits;
        near = subst (λ k. IsNear w bs k (final w s' xs) j) many more.near;
      })

  -- the way to the state, the turn that opens the wait, those between, and the one that ends it
  wait_there : (x : Wait) (f : IsFound rows x) (cs : List CpuId) → ((z : State) → IsAt bs x.from z → IsSpelled w cs z) → (z : State) → IsAt bs x.from z → (es : List Entry) → GoesOn w (cs ++ x.cpus.items) es → IsLongWait w t x.ticks es
  unfolding cpus
  wait_there x f cs ways z at es go =
      let spelled = ways z at in
      let front = round w (opening w) 0 cs in
      let n = length front in
      let s = final w (opening w) front in
      let near : IsNear w bs n s x.from = record { state = z; at = at; same = spelled.ends; reached = record { entries = front; run = spelled.run; many = refl; ends = refl } } in
      let first = taken n s x.from f.opening near f.wait.opening_at in
      let s' = after w s n f.opening.cpu first.event in
      let wk = entry_of w n s f.opening.cpu first.event in
      let middle = walked (n + 1) s' f.opening.to f.between f.wait.state first.near f.wait.lead in
      let between = round w s' (n + 1) (cpus f.between) in
      let s'' = final w s' between in
      let m = n + 1 + length between in
      let last = taken m s'' f.wait.state f.ending middle.near f.wait.ending_at in
      let rn = entry_of w m s'' f.ending.cpu last.event in
      let inner : round w s' (n + 1) (cpus f.between ++ f.ending.cpu ∷ []) ≡ between ++ rn ∷ [] =
      round-append w s' (n + 1) (cpus f.between) (f.ending.cpu ∷ []) ∙ ap (λ (xs : List Entry). between ++ xs) (round-one w s'' m f.ending.cpu last.event last.step) in
      let outer : round w s n (f.opening.cpu ∷ (cpus f.between ++ f.ending.cpu ∷ [])) ≡ wk ∷ (between ++ rn ∷ []) =
      round-cons w s n f.opening.cpu (cpus f.between ++ f.ending.cpu ∷ []) first.event first.step ∙ ap (λ (xs : List Entry). wk ∷ xs) inner in
      let path : round w (opening w) 0 (cs ++ x.cpus.items) ≡ front ++ wk ∷ (between ++ rn ∷ []) =
      ap (λ (ds : List CpuId). round w (opening w) 0 (cs ++ ds)) f.cpus
      ∙ round-append w (opening w) 0 cs (f.opening.cpu ∷ (cpus f.between ++ f.ending.cpu ∷ []))
      ∙ ap (λ k. front ++ round w s k (f.opening.cpu ∷ (cpus f.between ++ f.ending.cpu ∷ []))) (let e : 0 + n ≡ n = omega arith in e)
      ∙ ap (λ (xs : List Entry). front ++ xs) outer in
      let rest = go.begins.0 in
      let entries : es ≡ front ++ wk ∷ (between ++ rn ∷ rest) =
      go.begins.1
      ∙ ap (λ (xs : List Entry). xs ++ rest) path
      ∙ append_assoc front (wk ∷ (between ++ rn ∷ [])) rest
      ∙ ap (λ (xs : List Entry). front ++ wk ∷ xs) (append_assoc between (rn ∷ []) rest) in
      let state : final w (opening w) (front ++ wk ∷ between) ≡ s'' = final-append w (opening w) front (wk ∷ between) ∙ final-cons w s wk between in
      let low = first.tick in
      let high : f.ending.tick ≡ (cpu_of (final w (opening w) (front ++ wk ∷ between)) f.ending.cpu.0).count = last.tick ∙ ap (λ (y : State). (cpu_of y f.ending.cpu.0).count) (sym state) in
      let ticks = f.ticks in
      record {
        run = go.whole;
        wait = record {
          before = front;
          wakeup = wk;
          between = between;
          running = rn;
          rest = rest;
          entries = entries;
          wakes = wakes_of t first.event (sym first.effect ∙ f.wait.opens);
          waits = middle.waits;
          runs = runs_of t last.event (sym last.effect ∙ f.wait.ends);
          ticks = omega (arith, low, high, ticks);
        };
      }

  -- what a call returns that lets a run go on from there
  pub run_there : {E : Type 0} (x : Wait) (f : IsFound rows x) (cs ps : List CpuId) (r : Result (Vec Entry Global) E) → ((z : State) → IsAt bs x.from z → IsSpelled w cs z) → ps ≡ cs ++ x.cpus.items → IfOk r (λ v. GoesOn w ps v.items)
      → IfOk r (λ v. IsLongWait w t x.ticks v.items)
  run_there x f cs ps (Ok v) ways same go =
      let many = a.many in
      let inside = slice_get_within rows x.from f.wait.opening_at.row f.wait.opening_at.row_at in
      let there = each_at w bs steps done g x.from (omega (arith, inside, many)) in
      wait_there x f cs ways there.0 there.1 v.items (subst (λ (ds : List CpuId). GoesOn w ds v.items) same go)
  run_there x f cs ps (Err e) ways same go = tt
