-- The counts of ticks: what each event makes of them.
use Rattle.std.proofs.Common.{◌≡◌, ℕ, ◌+◌, ◌<◌, ◌≤◌, Bool, true, false, List, [], ◌∷◌, length, get_or, set, cond, refl, ◌∙◌, sym, ap, subst, arith}
use Rattle.std.specs.Prelude.{◌&&◌, ◌==◌, nat_lt, nat_le}
use Rattle.std.specs.List.{list_all, range_with_len}
use Rattle.std.proofs.lemmas.Bool.{false≢true}
use Rattle.std.proofs.lemmas.Bool.Decides.{nat_tests}
use Rattle.std.proofs.lemmas.List.{length-set, get_or-set_same, get_or-set_other}
use Rattle.std.proofs.lemmas.List.Folds.{list_all_at}
use Rattle.std.proofs.lemmas.List.Sums.{sum_by-cons}
use Rattle.sd_basics.proofs.Numbers.{ones}
use Rattle.sd_basics.proofs.Truths.{and_right}
use Rattle.sd_types.specs.declared.numbers.CpuId.{CpuId}
use Rattle.sd_types.specs.declared.events.Entry.{Entry}
use Rattle.sd_types.specs.declared.events.Event.{Event}
use Rattle.sd_types.specs.declared.events.Event.TheVariants.{Tick, Spin, Idle}
use Rattle.sd_types.specs.declared.works.Work.{Work}
use Rattle.sd_types.specs.Events.{ticks}
use Rattle.sd_state.specs.declared.states.CpuState.{CpuState}
use Rattle.sd_state.specs.declared.states.State.{State}
use Rattle.sd_state.specs.Accounts.{cpu_ticks}
use Rattle.sd_state.specs.Opening.{opening}
use Rattle.sd_state.specs.States.{no_cpu, cpu_of}
use Rattle.sd_machine.specs.Changes.{counted, count_tick, close, set_duty}
use Rattle.sd_machine.specs.Events.{may_tick, drop_ageing, after}
use Rattle.sd_machine.specs.Runs.{final, IsRunFrom}
use Rattle.sd_machine.proofs.RunLemmas.{IsRun-from}
use Rattle.sd_frames.specs.Causes.{IsCause}
use Rattle.sd_invariants.specs.Laws.{HoldsWhenReached}
use Rattle.sd_invariants.proofs.AgreedAfter.{IsReady}
use Rattle.sd_machine.specs.Deeds.{Deed, CountsTick, RunsTick, CountsClass, all_did, deeds}
use Rattle.sd_machine.proofs.DeedLemmas.{effect_did}
use Rattle.sd_invariants.proofs.Ready.{kept_reached, reached_ready, next_ready, opening_ready}
use Rattle.sd_invariants.proofs.CountLemmas.{first_count, counts_same, counts_after, drop_counts, SameCounts, count_part}
use Rattle.sd_invariants.specs.Ticks.{CountsStayClose, CountsRiseByTicks, CountsAreTicks}

-- how each count rises by an entry of processor c, which takes a tick or does not
record Rises (tick : Bool) (c : ℕ) (s r : State) : Type 0 where
  each : (d : ℕ) → d < length s.cpus → (cpu_of r d).count ≡ (cpu_of s d).count + ones ((c == d) && tick)

stay : (c : ℕ) (s r : State) → SameCounts s r → Rises false c s r
stay c s r same = record { each = λ d inside. same.each d ∙ none (c == d) (cpu_of s d).count }
  where
    none : (b : Bool) (m : ℕ) → m ≡ m + ones (b && false)
    none true m = omega arith
    none false m = omega arith

rises_then : (tick : Bool) (c : ℕ) (s r q : State) → Rises tick c s r → SameCounts r q → Rises tick c s q
rises_then tick c s r q rises same = record { each = λ d inside. same.each d ∙ rises.each d inside }

then_rises : (tick : Bool) (c : ℕ) (s r q : State) → SameCounts s r → length r.cpus ≡ length s.cpus → Rises tick c r q → Rises tick c s q
then_rises tick c s r q same many rises = record {
  each = λ d inside.
      let there : d < length r.cpus = omega (arith, inside, many) in
      rises.each d there ∙ ap (λ m. m + ones ((c == d) && tick)) (same.each d);
}

-- Ticks.

count_rises : (w : Work) (s : State) (c : ℕ) → Rises true c s (count_tick w s c)
unfolding count_tick
count_rises w s c = record { each = λ d inside. by d inside (c == d) refl }
  where
    more : CpuState
    more = counted w (cpu_of s c)

    other : (d : ℕ) → (c == d) ≡ false → d ≡ c → ⊥
    other d unlike same = grind (arith, nat_tests)

    by : (d : ℕ) → d < length s.cpus → (b : Bool) → (c == d) ≡ b → (get_or (set s.cpus c more) d no_cpu).count ≡ (cpu_of s d).count + ones (b && true)
    by d inside true is =
        let same : c ≡ d = grind (arith, nat_tests) in
        let here : c < length s.cpus = omega (arith, same, inside) in
        subst (λ k. (get_or (set s.cpus c more) k no_cpu).count ≡ (cpu_of s k).count + 1) same (ap count_part (get_or-set_same s.cpus c more no_cpu here))
    by d inside false is =
        let at : (get_or (set s.cpus c more) d no_cpu).count ≡ (cpu_of s d).count = ap count_part (get_or-set_other s.cpus c d more no_cpu (other d is)) in
        omega (arith, at)

-- Each event.

dropped_many : (s : State) (c : ℕ) (e : Event) → length (drop_ageing s c e).cpus ≡ length s.cpus
unfolding drop_ageing set_duty
dropped_many s c e = length-set s.cpus c _

after_dropped : (tick : Bool) (s q : State) (c : ℕ) (e : Event) → Rises tick c (drop_ageing s c e) q → Rises tick c s q
after_dropped tick s q c e rises = then_rises tick c s (drop_ageing s c e) q (drop_counts s c e) (dropped_many s c e) rises

tick_rises : (w : Work) (s : State) (n : ℕ) (c : CpuId) (e : Event) (ds : List Deed) → deeds e ≡ CountsTick ∷ ds → ((r : State) → SameCounts r (all_did w n c r ds)) → Rises true c.0 s (after w s n c e)
unfolding after
tick_rises w s n c e ds is same =
    let r : State = drop_ageing s c.0 e in
    subst (λ q. Rises true c.0 s q) (sym (effect_did w r n c e ∙ ap (λ xs. all_did w n c r xs) is))
    (after_dropped true s _ c.0 e (rises_then true c.0 r (count_tick w r c.0) _ (count_rises w r c.0) (same (count_tick w r c.0))))

after_rises : (w : Work) (s : State) (n : ℕ) (c : CpuId) (e : Event) → Rises (ticks e) c.0 s (after w s n c e)
after_rises w s n c (Tick t) = tick_rises w s n c (Tick t) (RunsTick t.0 ∷ CountsClass t.0 ∷ []) refl (λ r. counts_after w n c r (RunsTick t.0 ∷ CountsClass t.0 ∷ []) refl)
after_rises w s n c (Spin t l) = tick_rises w s n c (Spin t l) (CountsClass t.0 ∷ []) refl (λ r. counts_after w n c r (CountsClass t.0 ∷ []) refl)
after_rises w s n c Idle = tick_rises w s n c Idle [] refl (λ r. counts_after w n c r [] refl)
after_rises w s n c e = stay c.0 s (after w s n c e) (counts_same w s n c e refl)

pub rise_law : CountsRiseByTicks
rise_law = λ w n s c hints e reached makes d there.
    let many : length s.cpus ≡ w.cpus = (reached_ready w n s reached).fits.cpus in
    (after_rises w s n c e).each d (omega (arith, there, many))

-- Counts stay close.

-- a processor ticks only while no other has counted fewer
tick_allowed : (w : Work) (s : State) (c : ℕ) (e : Event) → IsCause w s c e → ticks e ≡ true → may_tick w s c ≡ true
tick_allowed w s c (Tick t) cause is = cause.1
tick_allowed w s c (Spin t l) cause is = cause.1
tick_allowed w s c Idle cause is = cause.2
tick_allowed w s c e cause is = cc

none_behind : (w : Work) (s : State) (c d : ℕ) → may_tick w s c ≡ true → d < length s.cpus → (cpu_of s c).count ≤ (cpu_of s d).count
unfolding may_tick
none_behind w s c d may inside = by (nat_le (cpu_of s c).count (cpu_of s d).count) refl
  where
    all : list_all (λ (x : CpuState). nat_le (cpu_of s c).count x.count) s.cpus ≡ true
    all = and_right (nat_lt (cpu_of s c).count w.limit) _ may

    by : (b : Bool) → nat_le (cpu_of s c).count (cpu_of s d).count ≡ b → (cpu_of s c).count ≤ (cpu_of s d).count
    by true is = grind (arith, nat_tests)
    by false is = absurd (false≢true (sym (list_all_at (λ (x : CpuState). nat_le (cpu_of s c).count x.count) s.cpus d no_cpu inside is) ∙ all))

close_after : (w : Work) (s : State) (n : ℕ) (c : CpuId) (e : Event) → IsReady w s → IsCause w s c.0 e → CountsStayClose w s → CountsStayClose w (after w s n c e)
close_after w s n c e ready cause close x y first second = by (ticks e) refl (after_rises w s n c e)
  where
    many : length s.cpus ≡ w.cpus
    many = ready.fits.cpus

    inside_x : x < length s.cpus
    inside_x = omega (arith, many, first)

    inside_y : y < length s.cpus
    inside_y = omega (arith, many, second)

    were : (cpu_of s x).count ≤ (cpu_of s y).count + 1
    were = close x y first second

    ahead : may_tick w s c.0 ≡ true → (b : Bool) → (c.0 == x) ≡ b → (cpu_of s x).count + ones (b && true) ≤ (cpu_of s y).count + 1
    ahead may true is =
        let same : c.0 ≡ x = grind (arith, nat_tests) in
        let least : (cpu_of s x).count ≤ (cpu_of s y).count = subst (λ k. (cpu_of s k).count ≤ (cpu_of s y).count) same (none_behind w s c.0 y may inside_y) in
        omega (arith, least)
    ahead may false is = omega (arith, were)

    by : (b : Bool) → ticks e ≡ b → Rises b c.0 s (after w s n c e) → (cpu_of (after w s n c e) x).count ≤ (cpu_of (after w s n c e) y).count + 1
    by true is rises =
        let here = rises.each x inside_x in
        let there = rises.each y inside_y in
        let bound = ahead (tick_allowed w s c.0 e cause is) (c.0 == x) refl in
        omega (arith, here, there, bound)
    by false is rises =
        let here = rises.each x inside_x ∙ ap (λ k. (cpu_of s x).count + k) (no_tick (c.0 == x)) in
        let there = rises.each y inside_y ∙ ap (λ k. (cpu_of s y).count + k) (no_tick (c.0 == y)) in
        omega (arith, here, there, were)
      where
        no_tick : (b : Bool) → ones (b && false) ≡ 0
        no_tick true = refl
        no_tick false = refl

opening_count : (w : Work) (c : ℕ) → (cpu_of (opening w) c).count ≡ 0
unfolding opening
opening_count w c = first_count w (range_with_len 0 w.cpus) c

pub close_law : HoldsWhenReached CountsStayClose
close_law = kept_reached CountsStayClose (record {
  start = λ w c d first second. let none = opening_count w c in omega (arith, none);
  step = λ w s n c e ready cause close. close_after w s n c e ready cause close;
})

-- The counts of a run.

cpu_ticks_nil : (c : ℕ) → cpu_ticks c [] ≡ 0
unfolding cpu_ticks
cpu_ticks_nil c = refl

cpu_ticks_cons : (c : ℕ) (x : Entry) (xs : List Entry) → cpu_ticks c (x ∷ xs) ≡ ones ((x.cpu.0 == c) && ticks x.event) + cpu_ticks c xs
unfolding cpu_ticks
cpu_ticks_cons c x xs = sum_by-cons (λ (e : Entry). cond ((e.cpu.0 == c) && ticks e.event) 1 0) x xs

counted_from : (w : Work) (c : ℕ) (s : State) (n : ℕ) (es : List Entry) → IsReady w s → c < w.cpus → IsRunFrom w s n es → (cpu_of (final w s es) c).count ≡ (cpu_of s c).count + cpu_ticks c es
unfolding final IsRunFrom
counted_from w c s n [] ready inside run = let none = cpu_ticks_nil c in omega (arith, none)
counted_from w c s n (x ∷ xs) ready inside (number, step, run) =
    let r : State = after w s x.number x.cpu x.event in
    let many : length s.cpus ≡ w.cpus = ready.fits.cpus in
    let one : (cpu_of r c).count ≡ (cpu_of s c).count + ones ((x.cpu.0 == c) && ticks x.event) = (after_rises w s x.number x.cpu x.event).each c (omega (arith, inside, many)) in
    let rest : (cpu_of (final w r xs) c).count ≡ (cpu_of r c).count + cpu_ticks c xs = counted_from w c r (n + 1) xs (next_ready w s x.number x.cpu x.hints x.event ready step) inside run in
    let all = cpu_ticks_cons c x xs in
    omega (arith, one, rest, all)

pub ticks_law : CountsAreTicks
ticks_law = λ w es c run inside.
    let whole = counted_from w c (opening w) 0 es (opening_ready w) inside (IsRun-from w es run) in
    let none = opening_count w c in
    omega (arith, whole, none)
