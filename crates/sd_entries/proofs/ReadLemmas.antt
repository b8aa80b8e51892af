-- The words of an entry's line give the entry.
use Rattle.std.proofs.Common.{◌≡◌, ℕ, ◌+◌, ◌<◌, ◌≤◌, ◌^◌, Bool, true, false, not, ◌&&◌, eqb, ltb, leb, nat_lt, List, [], ◌∷◌, ◌++◌, length, map, take, append_assoc, Option, Some, None, refl, sym, ap, ◌∙◌, arith}
use Rattle.std.specs.Prelude.{codes}
use Rattle.std.specs.List.{list_all, flat_map, slice_split}
use Rattle.std.specs.Char.{is_ascii_digit}
use Rattle.std.specs.Str.{all_ascii_digits}
use Rattle.std.specs.Fmt.{decimal}
use Rattle.std.proofs.lemmas.Bool.{false≢true, lt-ltb, and_parts}
use Rattle.std.proofs.lemmas.Bool.Decides.{nat_tests}
use Rattle.std.proofs.lemmas.List.{take_all}
use Rattle.std.proofs.lemmas.Fmt.{digits_decimal}
use Rattle.sd_types.specs.declared.events.Event.{Event}
use Rattle.sd_types.specs.declared.events.Event.TheVariants.{Tick, Idle, Steal, Preempt, Napend, Wake, Rouse, Will, Unblock, Grant, Prio, SemaVWake, SemaVCount, Move, Bind}
use Rattle.sd_types.specs.declared.events.End.TheVariants.{Front, Back}
use Rattle.sd_types.specs.declared.events.Put.{Put}
use Rattle.sd_types.specs.declared.events.Put.TheVariants.{Cpu, RealTime as OnRealTime}
use Rattle.sd_types.specs.declared.events.Hints.{Hints}
use Rattle.sd_types.specs.declared.events.Which.{Which}
use Rattle.sd_types.specs.declared.events.Which.TheVariants.{Running, Queued}
use Rattle.sd_types.specs.declared.events.Denied.TheVariants as denied
use Rattle.sd_types.specs.declared.events.PrioAnswer.TheVariants as prio
use Rattle.sd_types.specs.declared.events.AssignAnswer.TheVariants as assign
use Rattle.sd_types.specs.declared.events.BindAnswer.TheVariants as bind
use Rattle.sd_types.specs.declared.events.Entry.{Entry}
use Rattle.sd_types.specs.declared.works.Work.{Work}
use Rattle.sd_machine.specs.Names.{Name, names, OfThread, OfLock, OfChan, OfCpu, OfCpuIf, OfSet, Priority, Count, AtEnd, At, AtIf, Whom, ByPrio, ByAssign, ByBind, Off}
use Rattle.sd_machine.specs.Texts.{numbers_text, cpu_text}
use Rattle.sd_entries.specs.EntryWords.{name_words, event_words, hint_words, entry_words}
use Rattle.sd_entries.specs.Fitting.{has_cpu, is_byte, name_fits, event_fits, name_in_range, event_in_range, may_read, is_allowed_which, are_allowed_hints, hints_in_range, entry_fits, in_range, IsSpelled}
use Rattle.sd_entries.specs.Reading.{at, thread_in, lock_in, chan_in, set_in, cpu_in, count_in, woken_by, cpu_in_if, byte_in, end_in, put_in, put_in_if, denied_in, prio_in, assign_in, bind_in, running_event, preempting, placing_event, sleeping_event, locking_event, handing_event, semaphore_event, answering_event, event_of, event_len, is_comma, numbers_in, hints_by, entry_of}
use Rattle.sd_entries.proofs.NameLemmas.{number_read, thread_read, lock_read, chan_read, set_read, cpu_read, byte_read, count_read}
use Rattle.sd_text.proofs.NumberLemmas.{own}

-- ---- what an event names

-- the name of the same kind with which words begin
abbrev name_in : Work → Name → List (List ℕ) → Name
name_in w (OfThread t) ws = OfThread (thread_in w (at ws 0))
name_in w (OfLock l) ws = OfLock (lock_in w (at ws 0))
name_in w (OfChan k) ws = OfChan (chan_in w (at ws 0))
name_in w (OfCpu d) ws = OfCpu (cpu_in (at ws 0))
name_in w (OfCpuIf d) ws = OfCpuIf (cpu_in_if (at ws 0))
name_in w (OfSet p) ws = OfSet (set_in w (at ws 0))
name_in w (Priority p) ws = Priority (byte_in (at ws 0))
name_in w (Count n) ws = Count (count_in (at ws 0))
name_in w (AtEnd end) ws = AtEnd (end_in (at ws 0))
name_in w (At place) ws = At (put_in (at ws 0) (at ws 1))
name_in w (AtIf place) ws = AtIf (put_in_if (at ws 0) (at ws 1))
name_in w (Whom u) ws = Whom (woken_by (thread_in w (at ws 0)) (put_in_if (at ws 1) (at ws 2)))
name_in w (ByPrio answer) ws = ByPrio (prio_in (at ws 0) (at ws 1) (put_in_if (at ws 2) (at ws 3)))
name_in w (ByAssign answer) ws = ByAssign (assign_in (at ws 0))
name_in w (ByBind answer) ws = ByBind (bind_in (at ws 0) (put_in_if (at ws 1) (at ws 2)))
name_in w (Off d) ws = Off (cpu_in (at ws 1))

-- those words tell no place
IsQuiet : List (List ℕ) → Type 0
IsQuiet ws = put_in_if (at ws 0) (at ws 1) ≡ None

-- how many words there are depends on what is told
abbrev is_open : Name → Bool
is_open (AtIf place) = true
is_open (Whom u) = true
is_open (ByPrio answer) = true
is_open (ByBind answer) = true
is_open _ = false

abbrev only_last_open : List Name → Bool
only_last_open [] = true
only_last_open (x ∷ []) = true
only_last_open (x ∷ y ∷ xs) = not (is_open x) && only_last_open (y ∷ xs)

only_last : (e : Event) → only_last_open (names e).1 ≡ true
only_last (Tick t) = refl
only_last _ = refl

module _ (w : Work) where
  name_read : (x : Name) (rest : List (List ℕ)) → name_fits w x ≡ true → name_in_range x ≡ true → (is_open x ≡ true → IsQuiet rest) → name_in w x (name_words w x ++ rest) ≡ x
  unfolding end_in put_in put_in_if denied_in prio_in assign_in bind_in cpu_in_if IsQuiet
  name_read (OfThread t) rest h r quiet = rw (thread_read w t h) refl
  name_read (OfLock l) rest h r quiet = rw (lock_read w l h) refl
  name_read (OfChan k) rest h r quiet = rw (chan_read w k h) refl
  name_read (OfCpu d) rest h r quiet = rw (cpu_read w d h) refl
  name_read (OfCpuIf None) rest h r quiet = refl
  name_read (OfCpuIf (Some d)) rest h r quiet = rw (cpu_read w d h) refl
  name_read (OfSet p) rest h r quiet = rw (set_read w p h) refl
  name_read (Priority p) rest h r quiet = rw (byte_read p r) refl
  name_read (Count n) rest h r quiet = rw (count_read n r) refl
  name_read (AtEnd Front) rest h r quiet = refl
  name_read (AtEnd Back) rest h r quiet = refl
  name_read (At (Cpu x)) rest h r quiet = rw (cpu_read w x h) refl
  name_read (At (OnRealTime x)) rest h r quiet = rw (cpu_read w x h) refl
  name_read (AtIf None) rest h r quiet = ap AtIf (quiet refl)
  name_read (AtIf (Some (Cpu x))) rest h r quiet = rw (cpu_read w x h) refl
  name_read (AtIf (Some (OnRealTime x))) rest h r quiet = rw (cpu_read w x h) refl
  name_read (Whom None) rest h r quiet = ap (λ (place : Option Put). Whom (woken_by (thread_in w (codes "none")) place)) (quiet refl)
  name_read (Whom (Some (s, (Cpu x)))) rest h r quiet = let p = and_parts _ _ h in rw (thread_read w s p.0, cpu_read w x p.1) refl
  name_read (Whom (Some (s, (OnRealTime x)))) rest h r quiet = let p = and_parts _ _ h in rw (thread_read w s p.0, cpu_read w x p.1) refl
  name_read (ByPrio (prio.Changed p None)) rest h r quiet = rw (byte_read p r) (ap (λ (place : Option Put). ByPrio (prio.Changed p place)) (quiet refl))
  name_read (ByPrio (prio.Changed p (Some (Cpu x)))) rest h r quiet = rw (byte_read p r, cpu_read w x h) refl
  name_read (ByPrio (prio.Changed p (Some (OnRealTime x)))) rest h r quiet = rw (byte_read p r, cpu_read w x h) refl
  name_read (ByPrio (prio.Refused denied.ESRCH)) rest h r quiet = refl
  name_read (ByPrio (prio.Refused denied.EINVAL)) rest h r quiet = refl
  name_read (ByPrio (prio.Refused denied.EPERM)) rest h r quiet = refl
  name_read (ByAssign assign.Changed) rest h r quiet = refl
  name_read (ByAssign assign.EPERM) rest h r quiet = refl
  name_read (ByAssign assign.EINVAL) rest h r quiet = refl
  name_read (ByAssign assign.EBUSY) rest h r quiet = refl
  name_read (ByBind (bind.Changed None)) rest h r quiet = ap (λ (place : Option Put). ByBind (bind.Changed place)) (quiet refl)
  name_read (ByBind (bind.Changed (Some (Cpu x)))) rest h r quiet = rw (cpu_read w x h) refl
  name_read (ByBind (bind.Changed (Some (OnRealTime x)))) rest h r quiet = rw (cpu_read w x h) refl
  name_read (ByBind bind.ESRCH) rest h r quiet = refl
  name_read (ByBind bind.EINVAL) rest h r quiet = refl
  name_read (ByBind bind.EPERM) rest h r quiet = refl
  name_read (ByBind bind.EBUSY) rest h r quiet = refl
  name_read (Off d) rest h r quiet = rw (cpu_read w d h) refl

  -- what is read where each name stands
  abbrev names_in : List (List ℕ) → List Name → List Name
  names_in after [] = []
  names_in after (x ∷ xs) = name_in w x (flat_map (name_words w) (x ∷ xs) ++ after) ∷ names_in after xs

  names_read : (after : List (List ℕ)) (xs : List Name) → list_all (name_fits w) xs ≡ true → list_all name_in_range xs ≡ true → only_last_open xs ≡ true → IsQuiet after → names_in after xs ≡ xs
  names_read after [] h r last quiet = refl
  names_read after (x ∷ []) h r last quiet =
      let p = and_parts (name_fits w x) true h in
      let q = and_parts (name_in_range x) true r in
      ap (λ (y : Name). y ∷ []) (ap (name_in w x) (append_assoc (name_words w x) [] after) ∙ name_read x after p.0 q.0 (λ opened. quiet))
  names_read after (x ∷ y ∷ xs) h r last quiet =
      let p = and_parts (name_fits w x) (list_all (name_fits w) (y ∷ xs)) h in
      let q = and_parts (name_in_range x) (list_all name_in_range (y ∷ xs)) r in
      let o = and_parts (not (is_open x)) (only_last_open (y ∷ xs)) last in
      let rest = flat_map (name_words w) (y ∷ xs) in
      ap (λ (z : Name). z ∷ names_in after (y ∷ xs)) (ap (name_in w x) (append_assoc (name_words w x) rest after) ∙ name_read x (rest ++ after) p.0 q.0 (λ opened. absurd (false≢true (ap not (sym opened) ∙ o.0))))
      ∙ ap (λ (zs : List Name). x ∷ zs) (names_read after (y ∷ xs) p.1 q.1 o.1 quiet)

  module _ (first second : List ℕ) where
    -- what the names give where they stand in the line gives the event
    from_names : (e : Event) (hs : Option Hints) → names_in (hint_words hs) (names e).1 ≡ (names e).1 → event_of w (first ∷ second ∷ (event_words w e ++ hint_words hs)) ≡ e
    unfolding event_of running_event preempting placing_event sleeping_event locking_event handing_event semaphore_event answering_event end_in put_in put_in_if
    from_names (Preempt t Front) hs is = cc
    from_names (Preempt t Back) hs is = cc
    from_names (SemaVWake t k u (Cpu x)) hs is = cc
    from_names (SemaVWake t k u (OnRealTime x)) hs is = cc
    from_names (SemaVCount t k n) None is = cc
    from_names (SemaVCount t k n) (Some h) is = cc
    from_names e hs is = cc

hints_quiet : (hs : Option Hints) → IsQuiet (hint_words hs)
unfolding IsQuiet put_in_if
hints_quiet None = refl
hints_quiet (Some h) = refl

event_read : (w : Work) (first second : List ℕ) (e : Event) (hs : Option Hints) → event_fits w e ≡ true → event_in_range e ≡ true → event_of w (first ∷ second ∷ (event_words w e ++ hint_words hs)) ≡ e
unfolding event_fits
event_read w first second e hs h r = from_names w first second e hs (names_read w (hint_words hs) (names e).1 h r (only_last e) (hints_quiet hs))

-- ---- numbers joined by commas

no_comma : (d : ℕ) → is_ascii_digit d ≡ true → eqb d 44 ≡ false
no_comma d h = grind (arith, nat_tests)

split_last : (ds : List ℕ) → all_ascii_digits ds ≡ true → slice_split is_comma ds ≡ ds ∷ []
split_last [] h = refl
split_last (d ∷ ds) h = let p = and_parts _ _ h in rw (no_comma d p.0, split_last ds p.1) refl

split_more : (ds rest : List ℕ) → all_ascii_digits ds ≡ true → slice_split is_comma (ds ++ (44 ∷ rest)) ≡ ds ∷ slice_split is_comma rest
split_more [] rest h = refl
split_more (d ∷ ds) rest h = let p = and_parts _ _ h in rw (no_comma d p.0, split_more ds rest p.1) refl

byte_digits : (n : ℕ) → is_byte n ≡ true → all_ascii_digits (decimal n) ≡ true
byte_digits n h = let small : n < 2 ^ 64 = grind (arith, nat_tests) in digits_decimal own n small

parts_read : (ns : List ℕ) → ltb 0 (length ns) ≡ true → list_all is_byte ns ≡ true → map byte_in (slice_split is_comma (numbers_text ns)) ≡ ns
parts_read [] some h = absurd (let e : 0 < 0 = grind (arith, nat_tests) in omega (arith, e))
parts_read (n ∷ []) some h = let p = and_parts _ _ h in rw (split_last (decimal n) (byte_digits n p.0), byte_read n p.0) refl
parts_read (n ∷ m ∷ ms) some h =
    let p = and_parts _ _ h in
    let rest = numbers_text (m ∷ ms) in
    ap (λ (text : List ℕ). map byte_in (slice_split is_comma text)) (append_assoc (decimal n) (codes ",") rest)
    ∙ ap (map byte_in) (split_more (decimal n) rest (byte_digits n p.0))
    ∙ ap (λ (k : ℕ). k ∷ map byte_in (slice_split is_comma rest)) (byte_read n p.0)
    ∙ ap (λ (ns : List ℕ). n ∷ ns) (parts_read (m ∷ ms) (lt-ltb _ _ (omega arith)) p.1)

numbers_read : (ns : List ℕ) → ltb 0 (length ns) ≡ true → leb (length ns) 64 ≡ true → list_all is_byte ns ≡ true → numbers_in (numbers_text ns) ≡ ns
unfolding numbers_in
numbers_read ns some few h =
    let most : length ns ≤ 64 = grind (arith, nat_tests) in
    ap (take 64) (parts_read ns some h) ∙ take_all 64 ns most

same_which_is : (x may : Which) → is_allowed_which x (Some may) ≡ true → x ≡ may
same_which_is Running Running h = refl
same_which_is Running Queued h = absurd (false≢true h)
same_which_is Queued Running h = absurd (false≢true h)
same_which_is Queued Queued h = refl

none_which : (x : Which) → is_allowed_which x None ≡ true → ⊥
none_which Running h = false≢true h
none_which Queued h = false≢true h

no_hints : (hs : Option Hints) → are_allowed_hints None hs ≡ true → None ≡ hs
no_hints None h = refl
no_hints (Some x) h = absurd (none_which x.which (and_parts _ _ h).0)

hints_read : (which : Which) (hs : Option Hints) → are_allowed_hints (Some which) hs ≡ true → hints_in_range hs ≡ true → hints_by (Some which) (at (hint_words hs) 0) (at (hint_words hs) 1) ≡ hs
hints_read which None h r = refl
hints_read which (Some x) h r =
    let p = and_parts _ _ h in
    let q = and_parts _ _ r in
    let same = same_which_is x.which which p.0 in
    let read = numbers_read x.numbers.items p.1 q.0 q.1 in
    rw (read, ← same) refl

hints_back : (w : Work) (first second : List ℕ) (e : Event) (hs : Option Hints) → are_allowed_hints (may_read e) hs ≡ true → hints_in_range hs ≡ true
    → hints_by (may_read e) (at (first ∷ second ∷ (event_words w e ++ hint_words hs)) (2 + event_len e)) (at (first ∷ second ∷ (event_words w e ++ hint_words hs)) (2 + event_len e + 1)) ≡ hs
hints_back w first second Idle hs h r = hints_read Queued hs h r
hints_back w first second (Steal v t p) hs h r = hints_read Queued hs h r
hints_back w first second (Napend t (Cpu x)) hs h r = hints_read Running hs h r
hints_back w first second (Napend t (OnRealTime x)) hs h r = hints_read Running hs h r
hints_back w first second (Wake t k (Some (s, (Cpu x)))) hs h r = hints_read Running hs h r
hints_back w first second (Wake t k (Some (s, (OnRealTime x)))) hs h r = hints_read Running hs h r
hints_back w first second (Rouse k (Some (s, (Cpu x)))) hs h r = hints_read Running hs h r
hints_back w first second (Rouse k (Some (s, (OnRealTime x)))) hs h r = hints_read Running hs h r
hints_back w first second (Will l o p (Some (Cpu x))) hs h r = hints_read Running hs h r
hints_back w first second (Will l o p (Some (OnRealTime x))) hs h r = hints_read Running hs h r
hints_back w first second (Unblock l u (Cpu x)) hs h r = hints_read Running hs h r
hints_back w first second (Unblock l u (OnRealTime x)) hs h r = hints_read Running hs h r
hints_back w first second (Grant l u (Cpu x)) hs h r = hints_read Running hs h r
hints_back w first second (Grant l u (OnRealTime x)) hs h r = hints_read Running hs h r
hints_back w first second (Prio t u (prio.Changed p (Some (Cpu x)))) hs h r = hints_read Running hs h r
hints_back w first second (Prio t u (prio.Changed p (Some (OnRealTime x)))) hs h r = hints_read Running hs h r
hints_back w first second (SemaVWake t k u (Cpu x)) hs h r = hints_read Running hs h r
hints_back w first second (SemaVWake t k u (OnRealTime x)) hs h r = hints_read Running hs h r
hints_back w first second (Move t (Cpu x)) hs h r = hints_read Running hs h r
hints_back w first second (Move t (OnRealTime x)) hs h r = hints_read Running hs h r
hints_back w first second (Bind t u None (bind.Changed (Some (Cpu x)))) hs h r = hints_read Running hs h r
hints_back w first second (Bind t u None (bind.Changed (Some (OnRealTime x)))) hs h r = hints_read Running hs h r
hints_back w first second (Bind t u (Some d) (bind.Changed (Some (Cpu x)))) hs h r = hints_read Running hs h r
hints_back w first second (Bind t u (Some d) (bind.Changed (Some (OnRealTime x)))) hs h r = hints_read Running hs h r
hints_back w first second e hs h r = no_hints hs h

-- what is read of the words of an entry is the entry
pub entry_back : (w : Work) (e : Entry) → IsSpelled w e → entry_of w (entry_words w e) ≡ e
unfolding entry_words entry_fits in_range entry_of
entry_back w e h =
    let p = and_parts (has_cpu w e.cpu && event_fits w e.event) (are_allowed_hints (may_read e.event) e.hints) h.fits in
    let q = and_parts (has_cpu w e.cpu) (event_fits w e.event) p.0 in
    let r = and_parts (nat_lt e.number (2 ^ 64) && event_in_range e.event) (hints_in_range e.hints) h.range in
    let s = and_parts (nat_lt e.number (2 ^ 64)) (event_in_range e.event) r.0 in
    let small : e.number < 2 ^ 64 = grind (arith, nat_tests, s.0) in
    let event = event_read w (decimal e.number) (cpu_text e.cpu) e.event e.hints q.1 s.1 in
    let hints = hints_back w (decimal e.number) (cpu_text e.cpu) e.event e.hints p.1 r.1 in
    let number = number_read e.number small in
    let cpu = cpu_read w e.cpu q.0 in
    rw (event, number, cpu, hints) refl
