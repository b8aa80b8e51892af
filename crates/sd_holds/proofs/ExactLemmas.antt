-- The holds of a run are exact.
use Rattle.std.proofs.Common.{◌≡◌, ℕ, zero, suc, ◌+◌, ◌<◌, ◌≤◌, ◌⊎◌, Bool, true, false, ◌||◌, inl, inr, List, [], ◌∷◌, ◌++◌, length, take, Option, Some, None, refl, sym, ap, subst, ◌∙◌, append_assoc, arith, add-one}
use Rattle.std.specs.Prelude.{◌≢◌, ◌==◌, ◌&&◌, not, if◌then◌else◌, slice_get}
use Rattle.std.specs.List.{flat_map, range_with_len}
use Rattle.std.proofs.lemmas.Bool.{false≢true, cases_Bool}
use Rattle.std.proofs.lemmas.Bool.Decides.{nat_tests}
use Rattle.std.proofs.lemmas.List.{length-append}
use Rattle.sd_types.specs.declared.numbers.LockId.{LockId}
use Rattle.sd_types.specs.declared.numbers.ThreadId.{ThreadId}
use Rattle.sd_types.specs.declared.events.Event.{Event}
use Rattle.sd_types.specs.declared.events.Event.TheVariants.{Enter, Read, Write, Grant, Exit, CvWait}
use Rattle.sd_types.specs.declared.events.Entry.{Entry}
use Rattle.sd_types.specs.declared.works.Work.{Work}
use Rattle.sd_types.specs.Scripts.{is_held, without_lock}
use Rattle.sd_state.specs.declared.states.State.{State}
use Rattle.sd_state.specs.Opening.{first_thread, opening}
use Rattle.sd_types.specs.declared.works.ThreadDecl.{ThreadDecl}
use Rattle.sd_state.specs.States.{thread_of}
use Rattle.sd_machine.specs.Events.{after}
use Rattle.sd_machine.specs.Runs.{final, IsRunFrom}
use Rattle.sd_machine.proofs.Moves.{put_cases}
use Rattle.sd_state.proofs.Declared.{opening_each}
use Rattle.sd_machine.proofs.RunLemmas.{IsRun-from, final-nil, final-push}
use Rattle.sd_frames.proofs.HoldTable.{held_part, Goes}
use Rattle.sd_invariants.proofs.ScriptLemmas.{HeldGo, after_held, ender_in}
use Rattle.sd_invariants.proofs.AgreedAfter.{IsReady}
use Rattle.sd_invariants.proofs.Ready.{next_ready, opening_ready, ready_cause}
use Rattle.sd_stretches.specs.declared.changes.Happening.{Happening}
use Rattle.sd_stretches.specs.Changes.{happening_of, happenings_of}
use Rattle.sd_stretches.specs.Histories.{happenings_in, moment, over}
use Rattle.sd_holds.specs.declared.holdings.Hold.{Hold}
use Rattle.sd_holds.specs.Holds.{end_of, gives_up, hold_if, hold_to, holds, taken}
use Rattle.sd_holds.specs.Exact.{AnyHolds, HoldsAreExact, UpTo}
use Rattle.sd_holds.proofs.ListLemmas.{holds_cons, holds_none}

-- The entries of a run that goes on from a state, as a history keeps them.

unfoldable happened : Work → State → List Entry → List Happening
happened w s [] = []
happened w s (e ∷ es) = happening_of (after w s e.number e.cpu e.event) e ∷ happened w (after w s e.number e.cpu e.event) es

-- ---- one thread and one lock

module _ (t : ThreadId) (l : LockId) where
  abbrev is_that : Option (ThreadId × LockId) → Bool
  is_that None = false
  is_that (Some h) = (h.0.0 == t.0) && (h.1.0 == l.0)

  -- whether t holds l after an event, where it does or not before it
  abbrev stepped : Event → Bool → Bool
  stepped e b = if is_that (taken e) then true else if gives_up t l e then false else b

  abbrev held_in : State → Bool
  held_in s = is_held l (thread_of s t.0).body.held.items

  one_more : (xs : List LockId) (m : LockId) → is_held l (xs ++ m ∷ []) ≡ (is_held l xs || (l.0 == m.0))
  one_more [] m = grind (arith, nat_tests)
  one_more (x ∷ xs) m = let rest = one_more xs m in grind (arith, nat_tests)

  one_less : (xs : List LockId) (m : LockId) → is_held l (without_lock m xs) ≡ (is_held l xs && not (m.0 == l.0))
  one_less [] m = refl
  one_less (x ∷ xs) m = let rest = one_less xs m in elim (cases_Bool (m.0 == x.0)) [
    | inl same ↦ rw same (grind (arith, nat_tests))
    | inr other ↦ rw other (grind (arith, nat_tests))
  ]

  mine_taken : (u m : ℕ) (h : Bool) → t.0 ≡ u → (h || (l.0 == m)) ≡ (if (u == t.0) && (m == l.0) then true else h)
  mine_taken u m true is = elim (cases_Bool ((u == t.0) && (m == l.0))) [
    | inl same ↦ rw same refl
    | inr other ↦ rw other refl
  ]
  mine_taken u m false is = elim (cases_Bool (m == l.0)) [
    | inl same ↦ grind (arith, nat_tests)
    | inr other ↦ grind (arith, nat_tests)
  ]

  other_taken : (u m : ℕ) (h : Bool) → t.0 ≢ u → h ≡ (if (u == t.0) && (m == l.0) then true else h)
  other_taken u m h apart = let not : u == t.0 ≡ false = grind (arith, nat_tests) in rw not refl

  mine_given : (u m : ℕ) (h : Bool) → t.0 ≡ u → (h && not (m == l.0)) ≡ (if (u == t.0) && (m == l.0) then false else h)
  mine_given u m false is = elim (cases_Bool ((u == t.0) && (m == l.0))) [
    | inl same ↦ rw same refl
    | inr other ↦ rw other refl
  ]
  mine_given u m true is = elim (cases_Bool (m == l.0)) [
    | inl same ↦ grind (arith, nat_tests)
    | inr other ↦ grind (arith, nat_tests)
  ]

  other_given : (u m : ℕ) (h : Bool) → t.0 ≢ u → h ≡ (if (u == t.0) && (m == l.0) then false else h)
  other_given u m h apart = let not : u == t.0 ≡ false = grind (arith, nat_tests) in rw not refl

  after_taken : (s r : State) (u : ThreadId) (m : LockId) → Goes held_part s r u.0 ((thread_of s u.0).body.held.items ++ m ∷ [])
      → held_in r ≡ (if (u.0 == t.0) && (m.0 == l.0) then true else held_in s)
  after_taken s r u m goes = elim (put_cases u.0 _ _ _ goes.put t.0) [
    | inl me ↦
        ap (is_held l) me.1 ∙ one_more (thread_of s u.0).body.held.items m
        ∙ ap (λ n. is_held l (thread_of s n).body.held.items || (l.0 == m.0)) (sym me.0) ∙ mine_taken u.0 m.0 (held_in s) me.0
    | inr other ↦ ap (is_held l) other.1 ∙ other_taken u.0 m.0 (held_in s) other.0
  ]

  after_given : (s r : State) (u : ThreadId) (m : LockId) → Goes held_part s r u.0 (without_lock m (thread_of s u.0).body.held.items)
      → held_in r ≡ (if (u.0 == t.0) && (m.0 == l.0) then false else held_in s)
  after_given s r u m goes = elim (put_cases u.0 _ _ _ goes.put t.0) [
    | inl me ↦
        ap (is_held l) me.1 ∙ one_less (thread_of s u.0).body.held.items m
        ∙ ap (λ n. is_held l (thread_of s n).body.held.items && not (m.0 == l.0)) (sym me.0) ∙ mine_given u.0 m.0 (held_in s) me.0
    | inr other ↦ ap (is_held l) other.1 ∙ other_given u.0 m.0 (held_in s) other.0
  ]

  stepped_so : (s r : State) (e : Event) → HeldGo s r e → held_in r ≡ stepped e (held_in s)
  stepped_so s r (Enter u m) go = after_taken s r u m go
  stepped_so s r (Read u m) go = after_taken s r u m go
  stepped_so s r (Write u m) go = after_taken s r u m go
  stepped_so s r (Grant m u at) go = after_taken s r u m go
  stepped_so s r (Exit u m) go = after_given s r u m go
  stepped_so s r (CvWait u k m) go = after_given s r u m go
  stepped_so s r e go = ap (is_held l) (go.each t.0)

  -- who takes a lock does not give it up
  takes_only : (e : Event) → is_that (taken e) ≡ true → gives_up t l e ≡ false
  takes_only (Exit u m) is = absurd (false≢true is)
  takes_only (CvWait u k m) is = absurd (false≢true is)
  takes_only e is = refl

  -- ---- the entries one by one

  abbrev given_of : Option Happening → Option ℕ
  given_of None = None
  given_of (Some y) = Some y.entry

  abbrev Until : ℕ → List Happening → Type 0
  Until j xs = UpTo j (given_of (end_of t l xs))

  end_here : (x : Happening) (xs : List Happening) → gives_up t l x.event ≡ true → end_of t l (x ∷ xs) ≡ Some x
  end_here x xs is = rw is refl

  end_later : (x : Happening) (xs : List Happening) → gives_up t l x.event ≡ false → end_of t l (x ∷ xs) ≡ end_of t l xs
  end_later x xs is = rw is refl

  hold_given : (u : ThreadId) (m : LockId) (end : ℕ) (x : Happening) (o : Option Happening) → (hold_to u m end x o).given ≡ given_of o
  hold_given u m end x None = refl
  hold_given u m end x (Some y) = refl

  hold_taken : (u : ThreadId) (m : LockId) (end : ℕ) (x : Happening) (o : Option Happening) → (hold_to u m end x o).taken ≡ x.entry
  hold_taken u m end x None = refl
  hold_taken u m end x (Some y) = refl

  hold_thread : (u : ThreadId) (m : LockId) (end : ℕ) (x : Happening) (o : Option Happening) → (hold_to u m end x o).thread ≡ u
  hold_thread u m end x None = refl
  hold_thread u m end x (Some y) = refl

  hold_lock : (u : ThreadId) (m : LockId) (end : ℕ) (x : Happening) (o : Option Happening) → (hold_to u m end x o).lock ≡ m
  hold_lock u m end x None = refl
  hold_lock u m end x (Some y) = refl

  same_thread : (u : ThreadId) → u.0 ≡ t.0 → u ≡ t
  same_thread u is = ap (λ n. record { 0 = n }) is

  same_lock : (m : LockId) → m.0 ≡ l.0 → m ≡ l
  same_lock m is = ap (λ n. record { 0 = n }) is

  -- the hold that an entry begins, if it is t's of l
  begun : (end j : ℕ) (x : Happening) (xs : List Happening) (o : Option (ThreadId × LockId)) → is_that o ≡ true → x.entry < j → Until j xs → AnyHolds t l j (hold_if end x xs o)
  begun end j x xs None is before up = absurd (false≢true is)
  begun end j x xs (Some (u, m)) is before up =
      let thread : u ≡ t = same_thread u (grind (arith, nat_tests)) in
      let lock : m ≡ l = same_lock m (grind (arith, nat_tests)) in
      let P : ThreadId → LockId → Type 0 = λ v k. AnyHolds t l j (hold_if end x xs (Some (v, k))) in
      subst (λ v. P v m) (sym thread) (subst (λ k. P t k) (sym lock) (inl (
        hold_thread t l end x (end_of t l xs),
        hold_lock t l end x (end_of t l xs),
        subst (λ n. n < j) (sym (hold_taken t l end x (end_of t l xs))) before,
        subst (λ g. UpTo j g) (sym (hold_given t l end x (end_of t l xs))) up,
      )))

  -- and what it says
  beginning : (end j : ℕ) (x : Happening) (xs : List Happening) (o : Option (ThreadId × LockId)) → AnyHolds t l j (hold_if end x xs o) → (is_that o ≡ true) × (x.entry < j) × Until j xs
  beginning end j x xs None any = absurd any
  beginning end j x xs (Some (u, m)) (inr any) = absurd any
  beginning end j x xs (Some (u, m)) (inl (whose, which, before, up)) =
      let thread : u ≡ t = sym (hold_thread u m end x (end_of u m xs)) ∙ whose in
      let lock : m ≡ l = sym (hold_lock u m end x (end_of u m xs)) ∙ which in
      let u_is : u.0 ≡ t.0 = ap (λ (v : ThreadId). v.0) thread in
      let m_is : m.0 ≡ l.0 = ap (λ (k : LockId). k.0) lock in
      let P : ThreadId → LockId → Type 0 = λ v k. UpTo j (given_of (end_of v k xs)) in (
        grind (arith, nat_tests),
        subst (λ n. n < j) (hold_taken u m end x (end_of u m xs)) before,
        subst (λ v. P v l) thread (subst (λ k. P u k) lock (subst (λ g. UpTo j g) (hold_given u m end x (end_of u m xs)) up)),
      )

  any_in : (j : ℕ) (xs ys : List Hold) → AnyHolds t l j (xs ++ ys) → AnyHolds t l j xs ⊎ AnyHolds t l j ys
  any_in j [] ys any = inr any
  any_in j (x ∷ xs) ys (inl here) = inl (inl here)
  any_in j (x ∷ xs) ys (inr any) = elim (any_in j xs ys any) [
    | inl first ↦ inl (inr first)
    | inr second ↦ inr second
  ]

  any_first : (j : ℕ) (xs ys : List Hold) → AnyHolds t l j xs → AnyHolds t l j (xs ++ ys)
  any_first j [] ys any = absurd any
  any_first j (x ∷ xs) ys (inl here) = inl here
  any_first j (x ∷ xs) ys (inr any) = inr (any_first j xs ys any)

  any_second : (j : ℕ) (xs ys : List Hold) → AnyHolds t l j ys → AnyHolds t l j (xs ++ ys)
  any_second j [] ys any = any
  any_second j (x ∷ xs) ys any = inr (any_second j xs ys any)

  -- ---- entries from number n on

  -- what begins with them covers no state before them
  none_earlier : (w : Work) (s : State) (n end j : ℕ) (es : List Entry) → IsRunFrom w s n es → j ≤ n → AnyHolds t l j (holds end (happened w s es)) → ⊥
  unfolding happened IsRunFrom
  none_earlier w s n end j [] run early any = subst (AnyHolds t l j) (holds_none end) any
  none_earlier w s n end j (e ∷ es) (number, step, run) early any =
      let r : State = after w s e.number e.cpu e.event in
      let x : Happening = happening_of r e in
      elim (any_in j (hold_if end x (happened w r es) (taken x.event)) (holds end (happened w r es)) (subst (AnyHolds t l j) (holds_cons end x (happened w r es)) any)) [
        | inl here ↦
            let before : e.number < j = (beginning end j x (happened w r es) (taken x.event) here).1 in
            omega (arith, before, number, early)
        | inr later ↦ none_earlier w r (n + 1) end j es run (omega (arith, early)) later
      ]

  -- nor do they end anything there
  ends_late : (w : Work) (s : State) (n j : ℕ) (es : List Entry) → IsRunFrom w s n es → j ≤ n → Until j (happened w s es)
  unfolding happened IsRunFrom
  ends_late w s n j [] run early = tt
  ends_late w s n j (e ∷ es) (number, step, run) early =
      let r : State = after w s e.number e.cpu e.event in
      let x : Happening = happening_of r e in
      elim (cases_Bool (gives_up t l e.event)) [
        | inl gives ↦ subst (λ o. UpTo j (given_of o)) (sym (end_here x (happened w r es) gives)) (let now : j ≤ e.number = omega (arith, number, early) in now)
        | inr not ↦ subst (λ o. UpTo j (given_of o)) (sym (end_later x (happened w r es) not)) (ends_late w r (n + 1) j es run (omega (arith, early)))
      ]

  abbrev Covered : ℕ → ℕ → Bool → List Happening → Type 0
  Covered end j b xs = ((b ≡ true) × Until j xs) ⊎ AnyHolds t l j (holds end xs)

  -- one entry more: x makes of b what `stepped` says
  forward : (end j : ℕ) (b : Bool) (x : Happening) (xs : List Happening) → x.entry < j → Covered end j (stepped x.event b) xs → Covered end j b (x ∷ xs)
  forward end j b x xs before (inr any) = inr (subst (AnyHolds t l j) (sym (holds_cons end x xs)) (any_second j (hold_if end x xs (taken x.event)) (holds end xs) any))
  forward end j b x xs before (inl (holding, up)) = elim (cases_Bool (is_that (taken x.event))) [
    | inl takes ↦ inr (subst (AnyHolds t l j) (sym (holds_cons end x xs)) (any_first j (hold_if end x xs (taken x.event)) (holds end xs) (begun end j x xs (taken x.event) takes before up)))
    | inr takes_not ↦ elim (cases_Bool (gives_up t l x.event)) [
      | inl gives ↦ absurd (false≢true (sym (rw (takes_not, gives) refl) ∙ holding))
      | inr keeps ↦
          let was : stepped x.event b ≡ b = rw (takes_not, keeps) refl in
          inl (sym was ∙ holding, subst (λ o. UpTo j (given_of o)) (sym (end_later x xs keeps)) up)
    ]
  ]

  backward : (end j : ℕ) (b : Bool) (x : Happening) (xs : List Happening) → x.entry < j → Covered end j b (x ∷ xs) → Covered end j (stepped x.event b) xs
  backward end j b x xs before (inl (holding, up)) = elim (cases_Bool (is_that (taken x.event))) [
    | inl takes ↦
        let now : stepped x.event b ≡ true = rw takes refl in
        inl (now, subst (λ o. UpTo j (given_of o)) (end_later x xs (takes_only x.event takes)) up)
    | inr takes_not ↦ elim (cases_Bool (gives_up t l x.event)) [
      | inl gives ↦ let ended : j ≤ x.entry = subst (λ o. UpTo j (given_of o)) (end_here x xs gives) up in absurd (omega (arith, ended, before))
      | inr keeps ↦
          let was : stepped x.event b ≡ b = rw (takes_not, keeps) refl in
          inl (was ∙ holding, subst (λ o. UpTo j (given_of o)) (end_later x xs keeps) up)
    ]
  ]
  backward end j b x xs before (inr any) = elim (any_in j (hold_if end x xs (taken x.event)) (holds end xs) (subst (AnyHolds t l j) (holds_cons end x xs) any)) [
    | inl here ↦
        let (takes, late, up) = beginning end j x xs (taken x.event) here in
        let now : stepped x.event b ≡ true = rw takes refl in
        inl (now, up)
    | inr later ↦ inr later
  ]

  -- what the entries from a state on say of the states that they make
  covered : (w : Work) (s : State) (n end j k : ℕ) (es : List Entry) → IsReady w s → IsRunFrom w s n es → j ≡ n + k → k ≤ length es
      → held_in (final w s (take k es)) ≡ true → Covered end j (held_in s) (happened w s es)
  unfolding happened IsRunFrom final
  covered w s n end j zero es ready run is within holding = inl (holding, ends_late w s n j es run (omega (arith, is)))
  covered w s n end j (suc k) [] ready run is within holding = absurd (omega (arith, within))
  covered w s n end j (suc k) (e ∷ es) ready (number, step, run) is within holding =
      let r : State = after w s e.number e.cpu e.event in
      let cause = ready_cause w s e.cpu e.hints e.event ready step in
      let go = after_held w s e.number e.cpu e.event (ender_in w s e.cpu.0 e.event cause) in
      let rest = covered w r (n + 1) end j k es (next_ready w s e.number e.cpu e.hints e.event ready step) run (omega (arith, is)) (omega (arith, within)) holding in
      forward end j (held_in s) (happening_of r e) (happened w r es) (omega (arith, number, is))
      (subst (λ b. Covered end j b (happened w r es)) (stepped_so s r e.event go) rest)

  covers : (w : Work) (s : State) (n end j k : ℕ) (es : List Entry) → IsReady w s → IsRunFrom w s n es → j ≡ n + k → k ≤ length es
      → Covered end j (held_in s) (happened w s es) → held_in (final w s (take k es)) ≡ true
  unfolding happened IsRunFrom final
  covers w s n end j zero es ready run is within (inl (holding, up)) = holding
  covers w s n end j zero es ready run is within (inr any) = absurd (none_earlier w s n end j es run (omega (arith, is)) any)
  covers w s n end j (suc k) [] ready run is within so = absurd (omega (arith, within))
  covers w s n end j (suc k) (e ∷ es) ready (number, step, run) is within so =
      let r : State = after w s e.number e.cpu e.event in
      let cause = ready_cause w s e.cpu e.hints e.event ready step in
      let go = after_held w s e.number e.cpu e.event (ender_in w s e.cpu.0 e.event cause) in
      let before = backward end j (held_in s) (happening_of r e) (happened w r es) (omega (arith, number, is)) so in
      covers w r (n + 1) end j k es (next_ready w s e.number e.cpu e.hints e.event ready step) run (omega (arith, is)) (omega (arith, within))
      (subst (λ b. Covered end j b (happened w r es)) (sym (stepped_so s r e.event go)) before)

-- ---- the whole run

-- the entry behind these
entry_behind : (ps es : List Entry) (e : Entry) → slice_get (ps ++ e ∷ es) (length ps) ≡ Some e
entry_behind [] es e = refl
entry_behind (p ∷ ps) es e = entry_behind ps es e

taken_with : (ps es : List Entry) (e : Entry) → take (suc (length ps)) (ps ++ e ∷ es) ≡ ps ++ e ∷ []
taken_with [] es e = refl
taken_with (p ∷ ps) es e = ap (λ xs. p ∷ xs) (taken_with ps es e)

shown : (w : Work) (ps es : List Entry)
    → flat_map (λ k. happenings_in (moment w (ps ++ es) k)) (range_with_len (suc (length ps)) (length es)) ≡ happened w (final w (opening w) ps) es
unfolding happened moment
shown w ps [] = refl
shown w ps (e ∷ es) =
    let qs : List Entry = ps ++ e ∷ [] in
    let r : State = after w (final w (opening w) ps) e.number e.cpu e.event in
    let made : final w (opening w) (take (suc (length ps)) (ps ++ e ∷ es)) ≡ r = ap (final w (opening w)) (taken_with ps es e) ∙ final-push w (opening w) ps e in
    let first : happenings_of (final w (opening w) (take (suc (length ps)) (ps ++ e ∷ es))) (slice_get (ps ++ e ∷ es) (length ps)) ≡ happening_of r e ∷ []
    = ap (λ s. happenings_of s (slice_get (ps ++ e ∷ es) (length ps))) made ∙ ap (happenings_of r) (entry_behind ps es e) in
    let many : suc (length qs) ≡ suc (length ps) + 1 = let one = length-append ps (e ∷ []) in omega (arith, one) in
    let all : qs ++ es ≡ ps ++ e ∷ es = append_assoc ps (e ∷ []) es in
    let rest : flat_map (λ k. happenings_in (moment w (ps ++ e ∷ es) k)) (range_with_len (suc (length ps) + 1) (length es)) ≡ happened w r es
    = ap (λ n. flat_map (λ k. happenings_in (moment w (ps ++ e ∷ es) k)) (range_with_len n (length es))) (sym many)
    ∙ ap (λ xs. flat_map (λ k. happenings_in (moment w xs k)) (range_with_len (suc (length qs)) (length es))) (sym all)
    ∙ shown w qs es ∙ ap (λ s. happened w s es) (final-push w (opening w) ps e) in
    ap (λ xs. xs ++ flat_map (λ k. happenings_in (moment w (ps ++ e ∷ es) k)) (range_with_len (suc (length ps) + 1) (length es))) first
    ∙ ap (λ xs. happening_of r e ∷ xs) rest

happened_over : (w : Work) (es : List Entry) → over happenings_in w es ≡ happened w (opening w) es
unfolding over moment
happened_over w es =
    ap (λ n. flat_map (λ k. happenings_in (moment w es k)) (range_with_len 0 n)) (add-one (length es))
    ∙ shown w [] es ∙ ap (λ s. happened w s es) (final-nil w (opening w))

first_holds_none : (w : Work) (t : ℕ) (d : ThreadDecl) → (first_thread w t d).body.held.items ≡ []
unfolding first_thread
first_holds_none w t d = refl

nothing_held : (w : Work) (t : ThreadId) (l : LockId) → is_held l (thread_of (opening w) t.0).body.held.items ≡ false
nothing_held w t l = ap (is_held l) (opening_each w t.0 (λ x. x.body.held.items ≡ []) refl (λ d is. first_holds_none w t.0 d))

pub holds_exact : HoldsAreExact
holds_exact w es t l end j run within =
    let started = IsRun-from w es run in
    let none = nothing_held w t l in
    let whole : holds end (over happenings_in w es) ≡ holds end (happened w (opening w) es) = ap (holds end) (happened_over w es) in (
      λ any. covers t l w (opening w) 0 end j j es (opening_ready w) started (omega arith) within (inr (subst (AnyHolds t l j) whole any)),
      λ holding. elim (covered t l w (opening w) 0 end j j es (opening_ready w) started (omega arith) within holding) [
        | inl (begun, up) ↦ absurd (false≢true (sym none ∙ begun))
        | inr any ↦ subst (AnyHolds t l j) (sym whole) any
      ],
    )
