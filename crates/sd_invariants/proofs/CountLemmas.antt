-- The counts of processors stay within the limit.
use Rattle.std.proofs.Common.{◌≡◌, ℕ, ◌+◌, ◌<◌, Bool, true, false, List, length, refl, ◌∙◌, sym, ap, subst, arith}
use Rattle.sd_frames.proofs.Parts.{put_item}
use Rattle.sd_frames.proofs.CpuWords as C
use Rattle.sd_types.specs.declared.numbers.CpuId.{CpuId}
use Rattle.sd_types.specs.declared.events.Event.{Event}
use Rattle.sd_types.specs.declared.events.Event.TheVariants.{Tick, Spin, Idle}
use Rattle.sd_types.specs.declared.works.Work.{Work}
use Rattle.std.specs.Prelude.{nat_lt, nat_le}
use Rattle.sd_state.specs.declared.states.CpuState.{CpuState}
use Rattle.sd_state.specs.declared.states.State.{State}
use Rattle.sd_state.specs.States.{no_cpu, cpu_of}
use Rattle.sd_machine.specs.Changes.{duty_after, count_tick}
use Rattle.sd_machine.specs.Events.{drop_ageing, after}
use Rattle.sd_frames.specs.Causes.{IsCause}
use Rattle.sd_invariants.specs.Laws.{CountsWithin}
use Rattle.sd_frames.proofs.Made.{Kind, kinds, Dutied, Ticked}
use Rattle.sd_frames.proofs.ThreadParts.{makes_only}
use Rattle.sd_machine.specs.Deeds.{Deed, CountsTick, all_did, deeds}
use Rattle.sd_machine.proofs.DeedLemmas.{effect_did}
use Rattle.sd_machine.specs.Events.{may_tick}
use Rattle.std.specs.List.{list_all, range_with_len}
use Rattle.std.proofs.lemmas.Bool.Decides.{nat_tests}
use Rattle.std.proofs.lemmas.Bool.{cases_eq, cases_lt}
use Rattle.std.proofs.Common.{get_or, ◌≤◌, inl, inr, zero, suc, [], ◌∷◌}
use Rattle.std.specs.Prelude.{map}
use Rattle.std.proofs.lemmas.List.{set_past}
use Rattle.sd_basics.proofs.Truths.{and_left}
use Rattle.sd_state.specs.Opening.{first_cpu_state, opening}

abbrev pub count_part : CpuState → ℕ
count_part x = x.count

abbrev leaves_count : Kind → Bool
leaves_count Ticked = false
leaves_count _ = true

count_left : (k : Kind) → leaves_count k ≡ true → C.Leaves count_part k
count_left Ticked is = cc
count_left _ is = λ x y. refl

abbrev pub SameCounts : State → State → Type 0
SameCounts s r = C.Kept count_part s r

-- each count is as it was, or at most one more than a count that was below the limit
record Grows (limit : ℕ) (s r : State) : Type 0 where
  each : (d : ℕ) → (cpu_of s d).count ≤ limit → (cpu_of r d).count ≤ limit

same_grows : (limit : ℕ) (s r : State) → SameCounts s r → Grows limit s r
same_grows limit s r a = record { each = λ d h. subst (λ m. m ≤ limit) (sym (a.each d)) h }

grows_then : (limit : ℕ) (s r q : State) → Grows limit s r → SameCounts r q → Grows limit s q
grows_then limit s r q a b = record { each = λ d h. subst (λ m. m ≤ limit) (sym (b.each d)) (a.each d h) }

count_tick_grows : (w : Work) (limit : ℕ) (s : State) (c : ℕ) → (cpu_of s c).count < limit → Grows limit s (count_tick w s c)
unfolding count_tick
count_tick_grows w limit s c below = record {
  each = λ d h. elim (cases_lt c (length s.cpus)) [
    | inl here ↦
        let put = put_item count_part s.cpus no_cpu c (record (cpu_of s c) { count = (cpu_of s c).count + 1; duty = duty_after w ((cpu_of s c).count + 1) (cpu_of s c).duty }) here in
        elim (cases_eq d c) [
          | inl is ↦ let at : (cpu_of (count_tick w s c) d).count ≡ (cpu_of s c).count + 1 = ap (λ i. (cpu_of (count_tick w s c) i).count) is ∙ put.at in subst (λ m. m ≤ limit) (sym at) (omega (arith, below))
          | inr other ↦ subst (λ m. m ≤ limit) (sym (put.others d other)) h
        ]
    | inr past ↦ subst (λ m. m ≤ limit) (sym (ap (λ xs. count_part (get_or xs d no_cpu)) (set_past s.cpus c (record (cpu_of s c) { count = (cpu_of s c).count + 1; duty = duty_after w ((cpu_of s c).count + 1) (cpu_of s c).duty }) past))) h
  ];
}

-- what is no tick leaves the counts
abbrev pub ticks_none : Event → Bool
ticks_none e = makes_only leaves_count e

pub counts_same : (w : Work) (s : State) (n : ℕ) (c : CpuId) (e : Event) → ticks_none e ≡ true → SameCounts s (after w s n c e)
counts_same w s n c e is = C.after_left count_part leaves_count count_left w refl s n c e is

-- and so does what comes after a tick
pub counts_after : (w : Work) (n : ℕ) (c : CpuId) (s : State) (ds : List Deed) → list_all (λ d. list_all leaves_count (kinds d)) ds ≡ true → SameCounts s (all_did w n c s ds)
counts_after w n c s ds is = C.deeds_left count_part leaves_count count_left w n c s ds is

pub drop_counts : (s : State) (c : ℕ) (e : Event) → SameCounts s (drop_ageing s c e)
drop_counts s c e = C.drop_left count_part (count_left Dutied refl) s c e

-- a processor that may tick has a count below the limit
pub ticks_below : (w : Work) (s : State) (c : ℕ) → may_tick w s c ≡ true → (cpu_of s c).count < w.limit
unfolding may_tick
ticks_below w s c may = let below : nat_lt (cpu_of s c).count w.limit ≡ true = and_left _ (list_all (λ (x : CpuState). nat_le (cpu_of s c).count x.count) s.cpus) may in grind (arith, nat_tests)

dropped_count : (s : State) (c : ℕ) (e : Event) (limit : ℕ) → (cpu_of s c).count < limit → (cpu_of (drop_ageing s c e) c).count < limit
dropped_count s c e limit below = subst (λ m. m < limit) (sym ((drop_counts s c e).each c)) below

then_grows : (limit : ℕ) (s r q : State) → SameCounts s r → Grows limit r q → Grows limit s q
then_grows limit s r q a b = record { each = λ d h. b.each d (subst (λ m. m ≤ limit) (sym (a.each d)) h) }

after_dropped : (w : Work) (s q : State) (c : CpuId) (e : Event) → Grows w.limit (drop_ageing s c.0 e) q → Grows w.limit s q
after_dropped w s q c e g = then_grows w.limit s (drop_ageing s c.0 e) q (drop_counts s c.0 e) g

tick_grows : (w : Work) (s : State) (n : ℕ) (c : CpuId) (e : Event) (ds : List Deed) → deeds e ≡ CountsTick ∷ ds → list_all (λ d. list_all leaves_count (kinds d)) ds ≡ true → may_tick w s c.0 ≡ true → Grows w.limit s (after w s n c e)
unfolding after
tick_grows w s n c e ds is quiet may =
    let r : State = drop_ageing s c.0 e in
    subst (λ q. Grows w.limit s q) (sym (effect_did w r n c e ∙ ap (λ xs. all_did w n c r xs) is))
    (after_dropped w s _ c e (grows_then w.limit r (count_tick w r c.0) _ (count_tick_grows w w.limit r c.0 (dropped_count s c.0 e w.limit (ticks_below w s c.0 may))) (counts_after w n c (count_tick w r c.0) ds quiet)))

after_grows : (w : Work) (s : State) (n : ℕ) (c : CpuId) (e : Event) → IsCause w s c.0 e → Grows w.limit s (after w s n c e)
after_grows w s n c (Tick t) cause = tick_grows w s n c (Tick t) _ refl refl cause.1
after_grows w s n c (Spin t l) cause = tick_grows w s n c (Spin t l) _ refl refl cause.1
after_grows w s n c Idle cause = tick_grows w s n c Idle _ refl refl cause.2
after_grows w s n c e cause = same_grows w.limit s (after w s n c e) (counts_same w s n c e refl)

pub after_counts : (w : Work) (s : State) (n : ℕ) (c : CpuId) (e : Event) → IsCause w s c.0 e → CountsWithin w s → CountsWithin w (after w s n c e)
after_counts w s n c e cause within = λ d. (after_grows w s n c e cause).each d (within d)

pub first_count : (w : Work) (ns : List ℕ) (c : ℕ) → (get_or (map (first_cpu_state w) ns) c no_cpu).count ≡ 0
unfolding first_cpu_state
first_count w [] c = refl
first_count w (n ∷ ns) zero = refl
first_count w (n ∷ ns) (suc c) = first_count w ns c

pub opening_counts : (w : Work) → CountsWithin w (opening w)
unfolding opening
opening_counts w = λ c. subst (λ m. m ≤ w.limit) (sym (first_count w (range_with_len 0 w.cpus) c)) (omega arith)
