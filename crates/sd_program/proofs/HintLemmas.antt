-- What the processors show in a run in rounds are numbers of 8 bits, at most 64, so that each entry of the run has a line of its own.
use Rattle.std.proofs.Common.{◌≡◌, ℕ, zero, suc, ◌+◌, ◌<◌, ◌≤◌, ◌^◌, Bool, true, false, not, ◌||◌, List, [], ◌∷◌, ◌++◌, length, map, filter, Option, Some, None, refl, sym, ap, ◌∙◌, subst, arith}
use Rattle.std.specs.Prelude.{⊤, if◌then◌else◌, nat_le, ◌==◌}
use Rattle.std.specs.List.{All}
use Rattle.std.specs.List.{list_all}
use Rattle.std.proofs.lemmas.Bool.Decides.{nat_tests}
use Rattle.std.proofs.lemmas.Option.{same_Some}
use Rattle.sd_types.specs.declared.numbers.CpuId.{CpuId}
use Rattle.sd_types.specs.declared.events.Event.{Event}
use Rattle.sd_types.specs.declared.events.Entry.{Entry}
use Rattle.sd_types.specs.declared.events.Which.{Which}
use Rattle.sd_types.specs.declared.events.Which.TheVariants as which
use Rattle.sd_types.specs.declared.works.Work.{Work}
use Rattle.sd_state.specs.declared.states.State.{State}
use Rattle.sd_state.specs.States.{thread_of, cpu_of, set_of}
use Rattle.sd_machine.specs.Events.{next}
use Rattle.sd_machine.specs.Runs.{IsReached, IsFresh}
use Rattle.sd_invariants.proofs.NumberLemmas.{AreFine, fine_eff}
use Rattle.sd_invariants.proofs.FineLemmas.{fine_reached}
use Rattle.sd_entries.specs.Fitting.{is_byte, hints_in_range, IsSpelled}
use Rattle.sd_program.proofs.EntryLemmas.{spelled}
use Rattle.sd_state.specs.Opening.{opening}
use Rattle.sd_machine.specs.declared.plans.Plan.{Plan}
use Rattle.sd_machine.specs.declared.plans.Plan.TheVariants.{Make, Place as PlaceIt, Search}
use Rattle.sd_machine.specs.Threads.{open_of, runner, best_unbound, priority_of}
use Rattle.sd_machine.specs.Choosing.{cpus_or_bound, cpus_for, is_warm, is_settled, neighbours}
use Rattle.sd_machine.specs.Plans.{plan}
use Rattle.sd_machine.specs.Events.{after}
use Rattle.sd_machine.specs.Hints.{hint_of, hint_shown, placed_thread, plan_reads, read_of, reads, reads_for}
use Rattle.sd_machine.specs.Runs.{final, IsComplete, IsRun, IsRunFrom, shown, serial_hints, made, turn, round, rounds, IsSerial}
use Rattle.std.proofs.lemmas.List.{length-append}
use Rattle.std.proofs.lemmas.List.Elements.{All-nil, All-cons, All-head, All-tail}
use Rattle.sd_machine.proofs.RunLemmas.{final-push, IsRun-nil, IsRun-append, IsRun-from, IsRunFrom-nil, IsRunFrom-one, IsRunFrom-append}
use Rattle.sd_invariants.specs.Laws.{OpenHold}
use Rattle.sd_invariants.proofs.Whole.{reached_whole}
use Rattle.sd_machine.specs.Texts.{journal}
use Rattle.sd_rounds.specs.declared.orders.RoundOrder.{RoundOrder}
use Rattle.sd_rounds.specs.Orders.{orders_of}
use Rattle.sd_rounds.proofs.CompleteLemmas.{complete_of}
use Rattle.sd_audit.specs.Audits.{IsJournal}
use Rattle.sd_program.specs.Certified.{HasBytes}
use Rattle.sd_invariants.proofs.Induction.{opening_reached, reached_more}
use Rattle.sd_machine.proofs.RoundLemmas.{round_run}
use Rattle.sd_invariants.proofs.OpenLemmas.{rising_many}

-- ---- the numbers that processors show

hint_low : (s : State) (o : Option ℕ) → AreFine s → is_byte (hint_of (priority_of s o)) ≡ true
hint_low s None fine = refl
hint_low s (Some t) fine = let low = fine_eff (thread_of s t) (fine t) in grind (arith, nat_tests)

shown_low : (s : State) (a : Which) (d : CpuId) → AreFine s → is_byte (hint_shown s a d) ≡ true
unfolding hint_shown
shown_low s which.Running d fine = hint_low s (runner s d.0) fine
shown_low s which.Queued d fine = hint_low s (best_unbound s d.0) fine

all_low : (s : State) (a : Which) (cpus : List CpuId) → AreFine s → list_all is_byte (map (hint_shown s a) cpus) ≡ true
all_low s a [] fine = refl
all_low s a (d ∷ ds) fine = rw (shown_low s a d fine, all_low s a ds fine) refl

-- ---- of at most 64 processors

open_few : (w : Work) (s : State) (p : ℕ) → OpenHold w s → length (open_of s p) ≤ 64
open_few w s p holds =
    let many = rising_many 0 w.cpus (open_of s p) (omega arith) (holds.rising p) (λ c e. (holds.member p c e).0) in
    let most = w.most_cpus in
    omega (arith, many, most)

kept_few : (f : CpuId → Bool) (xs : List CpuId) → length (filter f xs) ≤ length xs
kept_few f [] = omega arith
kept_few f (x ∷ xs) = by (f x) (kept_few f xs)
  where
    by : (b : Bool) → length (filter f xs) ≤ length xs → length (if b then x ∷ filter f xs else filter f xs) ≤ length (x ∷ xs)
    by true rest = omega (arith, rest)
    by false rest = omega (arith, rest)

module _ (w : Work) (s : State) (c : ℕ) (holds : OpenHold w s) where
  for_few : (t : ℕ) → length (cpus_for w s t) ≤ 64
  unfolding cpus_for
  for_few t = by (thread_of s t).body.bound
    where
      by : (b : Option CpuId) → length (cpus_or_bound (open_of s (set_of w t).0) b) ≤ 64
      by None = open_few w s (set_of w t).0 holds
      by (Some d) = omega arith

  place_few : (t : ℕ) (r : Which × List CpuId) → reads_for w s c t ≡ Some r → length r.1 ≤ 64
  unfolding reads_for
  place_few t r = by (is_settled (cpus_for w s t) (thread_of s t).body.last (is_warm s c t))
    where
      by : (b : Bool) → (if b then None else Some (which.Running, cpus_for w s t)) ≡ Some r → length r.1 ≤ 64
      by true e = cc
      by false e = subst (λ (x : Which × List CpuId). length x.1 ≤ 64) (same_Some (which.Running, cpus_for w s t) r e) (for_few t)

  near_few : length (neighbours s c) ≤ 64
  unfolding neighbours
  near_few = let open_list = open_few w s (cpu_of s c).set.0 holds in let kept = kept_few (λ d. not (d.0 == c)) (open_of s (cpu_of s c).set.0) in omega (arith, open_list, kept)

  search_few : (cpus : List CpuId) (r : Which × List CpuId) → length cpus ≤ 64 → read_of cpus ≡ Some r → length r.1 ≤ 64
  search_few [] r short e = cc
  search_few (d ∷ ds) r short e = subst (λ (x : Which × List CpuId). length x.1 ≤ 64) (same_Some (which.Queued, d ∷ ds) r e) short

  plan_few : (p : Plan) (r : Which × List CpuId) → plan_reads w s c p ≡ Some r → length r.1 ≤ 64
  plan_few (Make e) r is = cc
  plan_few (PlaceIt p n) r is = place_few (placed_thread p) r is
  plan_few Search r is = search_few (neighbours s c) r near_few is

map_many : (f : CpuId → ℕ) (xs : List CpuId) → length (map f xs) ≡ length xs
map_many f [] = refl
map_many f (x ∷ xs) = let rest = map_many f xs in omega (arith, rest)

shown_ok : (s : State) (r : Option (Which × List CpuId)) → AreFine s → ((x : Which × List CpuId) → r ≡ Some x → length x.1 ≤ 64) → hints_in_range (shown s r) ≡ true
shown_ok s None fine short = refl
shown_ok s (Some r) fine short =
    let most = short r refl in
    let many = map_many (hint_shown s r.0) r.1 in
    let few : nat_le (length (map (hint_shown s r.0) r.1)) 64 ≡ true = grind (arith, nat_tests) in
    rw (few, all_low s r.0 r.1 fine) refl

serial_ok : (w : Work) (n : ℕ) (s : State) (c : CpuId) → IsReached w n s → hints_in_range (serial_hints w s c) ≡ true
unfolding serial_hints reads
serial_ok w n s c reached = shown_ok s (plan_reads w s c.0 (plan w s c.0)) (fine_reached w n s reached) (λ x e. plan_few w s c.0 (reached_whole w n s reached).opened (plan w s c.0) x e)

-- ---- the entries of a run in rounds

shown_append : (w : Work) (s : State) (xs ys : List Entry) → IsFresh w s xs → IsFresh w (final w s xs) ys → IsFresh w s (xs ++ ys)
unfolding final IsFresh
shown_append w s [] ys p q = q
shown_append w s (e ∷ es) ys p q = (p.0, shown_append w (after w s e.number e.cpu e.event) es ys p.1 q)

made_shown : (w : Work) (s : State) (n : ℕ) (c : CpuId) (o : Option Event) → IsFresh w s (made n c (serial_hints w s c) o)
unfolding IsFresh
made_shown w s n c None = tt
made_shown w s n c (Some e) = (refl, tt)

round_shown : (w : Work) (s : State) (n : ℕ) (cs : List CpuId) → IsFresh w s (round w s n cs)
unfolding round IsFresh
round_shown w s n [] = tt
round_shown w s n (c ∷ cs) =
    shown_append w s (turn w s n c) (round w (final w s (turn w s n c)) (n + length (turn w s n c)) cs)
    (made_shown w s n c (next w s c (serial_hints w s c))) (round_shown w (final w s (turn w s n c)) (n + length (turn w s n c)) cs)

rounds_shown : (w : Work) (orders : ℕ → List CpuId) (k : ℕ) → IsFresh w (opening w) (rounds w orders k)
unfolding rounds IsFresh
rounds_shown w orders zero = tt
rounds_shown w orders (suc k) =
    let es = rounds w orders k in
    shown_append w (opening w) es (round w (final w (opening w) es) (length es) (orders k)) (rounds_shown w orders k)
    (round_shown w (final w (opening w) es) (length es) (orders k))

-- numbers that states show are of 8 bits
range_of_shown : (w : Work) (n : ℕ) (s : State) (es : List Entry) → IsReached w n s → IsRunFrom w s n es → IsFresh w s es → All HasBytes es
unfolding IsRunFrom IsFresh
range_of_shown w n s [] reached run shown = All-nil HasBytes
range_of_shown w n s (e ∷ es) reached run shown =
    All-cons HasBytes e es (ap hints_in_range shown.0 ∙ serial_ok w n s e.cpu reached)
    (range_of_shown w (n + 1) (after w s e.number e.cpu e.event) es (reached_more w n s e reached run.0 run.1) run.2 shown.1)

-- each entry of a run has a line of its own, where the numbers that were read have 8 bits
run_spelled : (w : Work) (n : ℕ) (s : State) (es : List Entry) → IsReached w n s → IsRunFrom w s n es → All HasBytes es → n + length es < 2 ^ 64 → All (IsSpelled w) es
unfolding IsRunFrom
run_spelled w n s [] reached run bytes few = All-nil (IsSpelled w)
run_spelled w n s (e ∷ es) reached run bytes few =
    let here = spelled w n s e reached run.1 (let at = run.0 in omega (arith, at, few)) (All-head HasBytes e es bytes) in
    All-cons (IsSpelled w) e es here
    (run_spelled w (n + 1) (after w s e.number e.cpu e.event) es (reached_more w n s e reached run.0 run.1) run.2 (All-tail HasBytes e es bytes) (omega (arith, few)))

-- so has each that read what the states show
pub all_spelled : (w : Work) (n : ℕ) (s : State) (es : List Entry) → IsReached w n s → IsRunFrom w s n es → IsFresh w s es → n + length es < 2 ^ 64 → All (IsSpelled w) es
all_spelled w n s es reached run shown few = run_spelled w n s es reached run (range_of_shown w n s es reached run shown) few

-- the numbers that are read in a run in rounds
pub serial_bytes : (w : Work) (orders : ℕ → List CpuId) (es : List Entry) → IsSerial w orders es → IsRun w es → All HasBytes es
serial_bytes w orders es serial run =
    range_of_shown w 0 (opening w) es (opening_reached w) (IsRun-from w es run)
    (subst (λ (xs : List Entry). IsFresh w (opening w) xs) (sym serial.entries) (rounds_shown w orders serial.count))

-- ---- a run in rounds is a run

rounds_run : (w : Work) (orders : ℕ → List CpuId) (k : ℕ) → IsRun w (rounds w orders k)
unfolding rounds
rounds_run w orders zero = IsRun-nil w
rounds_run w orders (suc k) =
    let es = rounds w orders k in
    IsRun-append w es (round w (final w (opening w) es) (length es) (orders k)) (rounds_run w orders k) (round_run w (final w (opening w) es) (length es) (orders k))

serial_run : (w : Work) (orders : ℕ → List CpuId) (es : List Entry) → IsSerial w orders es → IsRun w es
serial_run w orders es serial = subst (λ (xs : List Entry). IsRun w xs) (sym serial.entries) (rounds_run w orders serial.count)

-- the journal of a complete run is one that the audit finds legal
pub run_journal : (w : Work) (es : List Entry) → IsRun w es → IsComplete w (final w (opening w) es) → All HasBytes es → length es < 2 ^ 40
    → IsJournal w (journal w es) (final w (opening w) es) (length es)
run_journal w es run complete bytes few = record {
  entries = es;
  run = run;
  spelled = run_spelled w 0 (opening w) es (opening_reached w) (IsRun-from w es run) bytes (omega (arith, few));
  complete = complete;
  whole = refl;
  many = refl;
  ends = refl;
}

pub serial_journal : (w : Work) (orders : RoundOrder) (es : List Entry) → IsSerial w (orders_of w orders) es → length es < 2 ^ 40
    → IsJournal w (journal w es) (final w (opening w) es) (length es)
serial_journal w orders es serial few =
    let run = serial_run w (orders_of w orders) es serial in
    run_journal w es run (complete_of w orders es serial) (serial_bytes w (orders_of w orders) es serial run) few
