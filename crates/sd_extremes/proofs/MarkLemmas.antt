-- The first and the last mark of a graph, and what they say of runs.
use Rattle.std.proofs.Common.{◌≡◌, ℕ, ◌+◌, ◌<◌, ◌≤◌, Bool, true, false, List, [], ◌∷◌, ◌++◌, length, Option, Some, None, refl, sym, ap, ◌∙◌, subst, arith, inl, inr, ◌⊎◌}
use Rattle.std.specs.Prelude.{nat_lt, if◌then◌else◌}
use Rattle.std.proofs.lemmas.Bool.{cases_lt}
use Rattle.std.proofs.lemmas.Bool.Decides.{nat_tests}
use Rattle.std.proofs.lemmas.List.{append_assoc}
use Rattle.sd_types.specs.declared.numbers.CpuId.{CpuId}
use Rattle.sd_types.specs.declared.numbers.ThreadId.{ThreadId}
use Rattle.sd_types.specs.declared.events.Entry.{Entry}
use Rattle.sd_types.specs.declared.events.Event.TheVariants.{Done}
use Rattle.sd_types.specs.declared.works.Work.{Work}
use Rattle.sd_state.specs.declared.states.State.{State}
use Rattle.sd_state.specs.Opening.{opening}
use Rattle.sd_state.specs.States.{cpu_of}
use Rattle.sd_machine.specs.Events.{next}
use Rattle.sd_machine.specs.Runs.{IsReached, IsStep, final, made, round, serial_hints, turn}
use Rattle.sd_machine.proofs.RunLemmas.{IsRun-from}
use Rattle.sd_invariants.proofs.Ready.{maker_inside}
use Rattle.sd_encoding.proofs.NextLemmas.{next_same, serial_same}
use Rattle.sd_encoding.proofs.SourceLemmas.{AreAlike}
use Rattle.sd_encoding.proofs.TellLemmas.{count_same}
use Rattle.sd_search.specs.Spelled.{IsSpelled}
use Rattle.sd_search.proofs.RunLemmas.{alike}
use Rattle.sd_search.specs.declared.graph.Step.{Step}
use Rattle.sd_search.specs.Graphs.{IsAt, IsGathered}
use Rattle.sd_search.proofs.FinalLemmas.{gathers_all}
use Rattle.sd_search.proofs.KeyLemmas.{keys_reached}
use Rattle.sd_search.proofs.TellLemmas.{at_same, inside_at}
use Rattle.sd_extremes.specs.declared.marks.Mark.{Mark}
use Rattle.sd_extremes.specs.declared.marks.Span.{Span}
use Rattle.sd_extremes.specs.Ends.{EndsAt}
use Rattle.sd_extremes.specs.Marks.{EndsNow, IsBefore, IsBelow, IsMark, IsSpan, Spans, earlier, later, with_mark}
use Rattle.sd_extremes.specs.WholeRuns.{GoesOn, IsFreshRun}
use Rattle.sd_extremes.proofs.WholeLemmas.{fresh-amid, front_run, round-push, step-amid}

-- ---- what an event ends

-- ---- the first and the last of two marks

earlier_first : (a b : Mark) → ((earlier a b).tick ≤ a.tick) × ((earlier a b).tick ≤ b.tick)
earlier_first a b = by (nat_lt b.tick a.tick) refl
  where
    by : (t : Bool) → nat_lt b.tick a.tick ≡ t → ((if t then b else a).tick ≤ a.tick) × ((if t then b else a).tick ≤ b.tick)
    by true is = (grind (arith, nat_tests), omega arith)
    by false is = (omega arith, grind (arith, nat_tests))

later_last : (a b : Mark) → (a.tick ≤ (later a b).tick) × (b.tick ≤ (later a b).tick)
later_last a b = by (nat_lt a.tick b.tick) refl
  where
    by : (t : Bool) → nat_lt a.tick b.tick ≡ t → (a.tick ≤ (if t then b else a).tick) × (b.tick ≤ (if t then b else a).tick)
    by true is = (grind (arith, nat_tests), omega arith)
    by false is = (omega arith, grind (arith, nat_tests))

one_of : (P : Mark → Type 0) (t : Bool) (a b : Mark) → P a → P b → P (if t then b else a)
one_of P true a b p q = q
one_of P false a b p q = p

module _ (w : Work) (bs : List (List ℕ)) (t : ThreadId) where
  -- ---- spans

  pub none_yet : Spans w bs t (IsBelow 0) None
  none_yet m is below = absurd (omega (arith, below))

  -- marks of another kind, where these are of that kind too
  pub spans_of : (kind other : Mark → Type 0) (o : Option Span) → ((m : Mark) → IsMark w bs t m → other m → kind m) → Spans w bs t kind o → Spans w bs t other o
  spans_of kind other None to none = λ m is of. none m is (to m is of)
  spans_of kind other (Some s) to span = record { first = span.first; last = span.last; between = λ m is of. span.between m is (to m is of) }

  -- with one mark more
  pub spans_with : (kind other : Mark → Type 0) (o : Option Span) (new : Mark) → IsMark w bs t new → ((m : Mark) → IsMark w bs t m → other m → kind m ⊎ (m.tick ≡ new.tick)) → Spans w bs t kind o
      → IsSpan w bs t other (with_mark o new)
  spans_with kind other None new is to none = record { first = is; last = is; between = λ m here of. by m (to m here of) here }
    where
      by : (m : Mark) → kind m ⊎ (m.tick ≡ new.tick) → IsMark w bs t m → (new.tick ≤ m.tick) × (m.tick ≤ new.tick)
      by m (inl old) here = absurd (none m here old)
      by m (inr same) here = (omega (arith, same), omega (arith, same))
  spans_with kind other (Some s) new is to span = record {
    first = one_of (IsMark w bs t) (nat_lt new.tick s.first.tick) s.first new span.first is;
    last = one_of (IsMark w bs t) (nat_lt s.last.tick new.tick) s.last new span.last is;
    between = λ m here of. by m (to m here of) here;
  }
    where
      by : (m : Mark) → kind m ⊎ (m.tick ≡ new.tick) → IsMark w bs t m → ((earlier s.first new).tick ≤ m.tick) × (m.tick ≤ (later s.last new).tick)
      by m (inl old) here =
          let b = span.between m here old in
          let low = earlier_first s.first new in
          let high = later_last s.last new in
          (let x = low.0 in let y = b.0 in omega (arith, x, y), let x = high.0 in let y = b.1 in omega (arith, x, y))
      by m (inr same) here =
          let low = earlier_first s.first new in
          let high = later_last s.last new in
          (let x = low.1 in omega (arith, x, same), let x = high.1 in omega (arith, x, same))

  -- ---- the marks of one state

  -- a mark of one processor more is an old one, or that of this processor
  placed : (i c : ℕ) (m : Mark) → IsBefore i (c + 1) m → IsBefore i c m ⊎ ((m.state ≡ i) × (m.cpu.0 ≡ c))
  placed i c m (inl less) = inl (inl less)
  placed i c m (inr (same, few)) = by (cases_lt m.cpu.0 c)
    where
      by : (m.cpu.0 < c) ⊎ (c ≤ m.cpu.0) → IsBefore i c m ⊎ ((m.state ≡ i) × (m.cpu.0 ≡ c))
      by (inl less) = inl (inr (same, less))
      by (inr more) = inr (same, omega (arith, few, more))

  pub look_first : (i : ℕ) (o : Option Span) → Spans w bs t (IsBelow i) o → Spans w bs t (IsBefore i 0) o
  look_first i o spans = spans_of (IsBelow i) (IsBefore i 0) o to spans
    where
      to : (m : Mark) → IsMark w bs t m → IsBefore i 0 m → m.state < i
      to m is (inl less) = less
      to m is (inr (same, few)) = absurd (omega (arith, few))

  pub look_last : (i n : ℕ) (o : Option Span) → w.cpus ≤ n → Spans w bs t (IsBefore i n) o → Spans w bs t (IsBelow (i + 1)) o
  look_last i n o all spans = spans_of (IsBefore i n) (IsBelow (i + 1)) o (λ m is few. by m is few (cases_lt m.state i)) spans
    where
      by : (m : Mark) → IsMark w bs t m → m.state < i + 1 → (m.state < i) ⊎ (i ≤ m.state) → IsBefore i n m
      by m is few (inl less) = inl less
      by m is few (inr more) =
          let inside = maker_inside w is.state m.cpu (serial_hints w is.state m.cpu) (Done t) is.ends in
          inr (omega (arith, few, more), omega (arith, inside, all))

  module _ (i : ℕ) (x : State) (at : IsAt bs i x) where
    same_there : (m : Mark) (is : IsMark w bs t m) → m.state ≡ i → is.state ≡ x
    same_there m is same = at_same bs i is.state x (subst (λ k. IsAt bs k is.state) same is.at) at

    -- the processor's turn ends the thread
    pub look_yes : (c : CpuId) (tick : ℕ) (o : Option Span) → tick ≡ (cpu_of x c.0).count → EndsNow w x c t → Spans w bs t (IsBefore i c.0) o
        → IsSpan w bs t (IsBefore i (c.0 + 1)) (with_mark o (record { tick = tick; state = i; cpu = c }))
    look_yes c tick o count now spans =
        spans_with (IsBefore i c.0) (IsBefore i (c.0 + 1)) o (record { tick = tick; state = i; cpu = c }) (record { state = x; at = at; ends = now; tick = sym count })
        (λ m is of. by m is (placed i c.0 m of)) spans
      where
        by : (m : Mark) → IsMark w bs t m → IsBefore i c.0 m ⊎ ((m.state ≡ i) × (m.cpu.0 ≡ c.0)) → IsBefore i c.0 m ⊎ (m.tick ≡ tick)
        by m is (inl old) = inl old
        by m is (inr (state, cpu)) =
            inr (sym is.tick ∙ ap (λ (z : State). (cpu_of z m.cpu.0).count) (same_there m is state) ∙ ap (λ k. (cpu_of x k).count) cpu ∙ sym count)

    -- or it does not
    pub look_no : (c : CpuId) (o : Option Span) → (EndsNow w x c t → ⊥) → Spans w bs t (IsBefore i c.0) o → Spans w bs t (IsBefore i (c.0 + 1)) o
    look_no c o never_ends spans = spans_of (IsBefore i c.0) (IsBefore i (c.0 + 1)) o (λ m is of. by m is (placed i c.0 m of)) spans
      where
        by : (m : Mark) → IsMark w bs t m → IsBefore i c.0 m ⊎ ((m.state ≡ i) × (m.cpu.0 ≡ c.0)) → IsBefore i c.0 m
        by m is (inl old) = old
        by m is (inr (state, cpu)) =
            absurd (never_ends (subst (λ k. EndsNow w x (record { 0 = k }) t) cpu (subst (λ z. EndsNow w z m.cpu t) (same_there m is state) is.ends)))

  -- ---- marks and runs

  module _ (steps : List Step) (done : ℕ) (g : IsGathered w bs steps done) where
    -- where a run ends the thread there is a mark, if all states were reached
    mark_of : length bs ≤ done → (es : List Entry) (k : ℕ) → IsFreshRun w es → EndsAt w t es k → (m : Mark) × IsMark w bs t m × (m.tick ≡ k)
    mark_of all es k r ends =
        let front = ends.before in
        let e = ends.entry in
        let n = length front in
        let whole : IsFreshRun w (front ++ e ∷ ends.rest) = subst (λ (xs : List Entry). IsFreshRun w xs) ends.entries r in
        let before = front_run w front (e ∷ ends.rest) whole in
        let has = gathers_all w bs steps done g all front before.run before.fresh in
        let s = final w (opening w) front in
        let x = has.state in
        let reached : IsReached w n s = record { entries = front; run = before.run; many = refl; ends = refl } in
        let h : AreAlike 0 n x s = alike 0 n x s has.same (g.fits has.among.index x has.among.at) (keys_reached w n s reached) in
        let step : IsStep w s e = step-amid w (opening w) 0 front e ends.rest (IsRun-from w (front ++ e ∷ ends.rest) whole.run) in
        let shown = fresh-amid w (opening w) front e ends.rest whole.fresh in
        let made : next w x e.cpu (serial_hints w x e.cpu) ≡ Some e.event = ap (next w x e.cpu) (serial_same 0 n x s h w e.cpu ∙ sym shown) ∙ next_same 0 n x s h w e.cpu e.hints ∙ step in (
          record { tick = k; state = has.among.index; cpu = e.cpu },
          record { state = x; at = has.among.at; ends = made ∙ ap (λ v. Some v) ends.done; tick = count_same x s h.same e.cpu.0 ∙ ends.tick },
          refl,
        )

    pub never : length bs ≤ done → Spans w bs t (IsBelow (length bs)) None → (es : List Entry) (k : ℕ) → IsFreshRun w es → EndsAt w t es k → ⊥
    never all none es k r ends = let m = mark_of all es k r ends in none m.0 m.1 (inside_at bs m.0.state m.1.state m.1.at)

    pub all_between : (s : Span) → length bs ≤ done → IsSpan w bs t (IsBelow (length bs)) s → (es : List Entry) (k : ℕ) → IsFreshRun w es → EndsAt w t es k → (s.first.tick ≤ k) × (k ≤ s.last.tick)
    all_between s all span es k r ends =
        let m = mark_of all es k r ends in
        let b = span.between m.0 m.1 (inside_at bs m.0.state m.1.state m.1.at) in
        let same = m.2 in
        (let low = b.0 in omega (arith, low, same), let high = b.1 in omega (arith, high, same))

    -- the turn behind the way to a mark ends the thread
    pub ends_there : (m : Mark) (is : IsMark w bs t m) (cs : List CpuId) → IsSpelled w cs is.state → (es : List Entry) → GoesOn w (cs ++ m.cpu ∷ []) es → EndsAt w t es m.tick
    ends_there m is cs spelled es go =
        let c = m.cpu in
        let fs = round w (opening w) 0 cs in
        let s = final w (opening w) fs in
        let n = length fs in
        let x = is.state in
        let rest = go.begins.0 in
        let reached : IsReached w n s = record { entries = fs; run = spelled.run; many = refl; ends = refl } in
        let h : AreAlike 0 n x s = alike 0 n x s spelled.ends (g.fits m.state x is.at) (keys_reached w n s reached) in
        let now : next w s c (serial_hints w s c) ≡ Some (Done t) = sym (next_same 0 n x s h w c (serial_hints w s c)) ∙ ap (next w x c) (sym (serial_same 0 n x s h w c)) ∙ is.ends in
        let entry : Entry = record { number = n; cpu = c; event = Done t; hints = serial_hints w s c } in
        let one : turn w s n c ≡ entry ∷ [] = ap (made n c (serial_hints w s c)) now in
        let pushed : round w (opening w) 0 (cs ++ c ∷ []) ≡ fs ++ entry ∷ [] =
        round-push w (opening w) 0 cs c ∙ ap (λ k. fs ++ turn w s k c) (let e : 0 + n ≡ n = omega arith in e) ∙ ap (λ (xs : List Entry). fs ++ xs) one in
        record {
          before = fs;
          entry = entry;
          rest = rest;
          entries = go.begins.1 ∙ ap (λ (xs : List Entry). xs ++ rest) pushed ∙ append_assoc fs (entry ∷ []) rest;
          done = refl;
          tick = sym (count_same x s h.same c.0) ∙ is.tick;
        }
