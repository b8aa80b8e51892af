-- What happens is counted over the entries.
use Rattle.std.proofs.Common.{◌≡◌, ℕ, zero, suc, ◌+◌, ◌<◌, Bool, true, false, List, [], ◌∷◌, ◌++◌, length, drop, Option, Some, None, refl, sym, ap, ◌∙◌, arith, add-one}
use Rattle.std.specs.Prelude.{◌&&◌, ◌==◌, cond, count_by, sum_by, slice_get}
use Rattle.std.specs.List.{flat_map, range_with_len}
use Rattle.std.proofs.lemmas.List.{drop_all}
use Rattle.std.proofs.lemmas.List.Sums.{sum_by-cons}
use Rattle.sd_types.specs.declared.numbers.CpuId.{CpuId}
use Rattle.sd_types.specs.declared.events.Entry.{Entry}
use Rattle.sd_types.specs.declared.events.Event.{Event}
use Rattle.sd_types.specs.declared.events.Event.TheVariants.{Tick, Spin, Idle}
use Rattle.sd_types.specs.Events.{ticks}
use Rattle.sd_types.specs.declared.works.Work.{Work}
use Rattle.sd_state.specs.declared.states.State.{State}
use Rattle.sd_state.specs.Accounts.{cpu_ticks}
use Rattle.sd_machine.specs.Runs.{state_at}
use Rattle.sd_stretches.specs.declared.changes.Happening.{Happening}
use Rattle.sd_stretches.specs.declared.histories.History.{History}
use Rattle.sd_stretches.specs.Changes.{happening_of, happenings_of}
use Rattle.sd_stretches.specs.Histories.{entry_before, moment, over, IsHistory}
use Rattle.sd_statistics.specs.declared.cpus.Deed.{Deed}
use Rattle.sd_statistics.specs.declared.cpus.Deed.TheVariants.{Runs, Spins, Idles}
use Rattle.sd_statistics.specs.Cpus.{deeds, is_deed}

-- what stands at a place of a list
pub drop_get : (es : List Entry) (i : ℕ) (e : Entry) → slice_get es i ≡ Some e → drop i es ≡ e ∷ drop (suc i) es
drop_get [] i e is = cc
drop_get (x ∷ xs) zero e is = let same : x ≡ e = cc in ap (λ y. y ∷ xs) same
drop_get (x ∷ xs) (suc i) e is = drop_get xs i e is

never_past : (es : List Entry) (i : ℕ) → i < length es → slice_get es i ≡ None → ⊥
never_past [] i inside is = omega (arith, inside)
never_past (x ∷ xs) zero inside is = cc
never_past (x ∷ xs) (suc i) inside is = never_past xs i (omega (arith, inside)) is

module _ (p : CpuId → Event → Bool) (s : ℕ → State) where
  abbrev counted : List Happening → ℕ
  counted xs = count_by (λ x. p x.cpu x.event) xs

  abbrev entries : List Entry → ℕ
  entries es = count_by (λ e. p e.cpu e.event) es

  abbrev at : List Entry → ℕ → List Happening
  at es k = happenings_of (s k) (entry_before es k)

  one_more : (es : List Entry) (i : ℕ) (o : Option Entry) (more : List Happening) → i < length es → slice_get es i ≡ o
      → counted more ≡ entries (drop (suc i) es) → counted (happenings_of (s (suc i)) o ++ more) ≡ entries (drop i es)
  one_more es i None more inside is rest = absurd (never_past es i inside is)
  one_more es i (Some e) more inside is rest =
      sum_by-cons (λ (x : Happening). cond (p x.cpu x.event) 1 0) (happening_of (s (suc i)) e) more
      ∙ ap (λ n. cond (p e.cpu e.event) 1 0 + n) rest
      ∙ sym (sum_by-cons (λ (x : Entry). cond (p x.cpu x.event) 1 0) e (drop (suc i) es))
      ∙ sym (ap entries (drop_get es i e is))

  -- the entries from number i on
  from_on : (es : List Entry) (i m : ℕ) → i + m ≡ length es → counted (flat_map (at es) (range_with_len (suc i) m)) ≡ entries (drop i es)
  from_on es i zero many = sym (ap entries (drop_all i es (omega (arith, many))))
  from_on es i (suc m) many =
      one_more es i (slice_get es i) (flat_map (at es) (range_with_len (suc i + 1) m)) (omega (arith, many)) refl
      (ap (λ n. counted (flat_map (at es) (range_with_len n m))) (add-one (suc i)) ∙ from_on es (suc i) m (omega (arith, many)))

pub deeds_counts : (w : Work) (es : List Entry) (h : History) → IsHistory w es h → (deed : Deed) (c : ℕ)
    → deeds deed c h.happenings.items ≡ count_by (λ e. (e.cpu.0 == c) && is_deed deed e.event) es
unfolding over moment
deeds_counts w es h is deed c =
    let p : CpuId → Event → Bool = λ cpu e. (cpu.0 == c) && is_deed deed e in
    let s : ℕ → State = state_at w es in
    ap (counted p s) is.happenings
    ∙ ap (λ n. counted p s (flat_map (at p s es) (range_with_len 0 n))) (add-one (length es))
    ∙ from_on p s es 0 (length es) (omega arith)

-- The ticks of a processor.

tick_once : (e : Event) → cond (is_deed Runs e) 1 0 + cond (is_deed Spins e) 1 0 + cond (is_deed Idles e) 1 0 ≡ cond (ticks e) 1 0
tick_once (Tick u) = refl
tick_once (Spin u l) = refl
tick_once Idle = refl
tick_once e = refl

own_once : (own : Bool) (e : Event)
    → cond (own && is_deed Runs e) 1 0 + cond (own && is_deed Spins e) 1 0 + cond (own && is_deed Idles e) 1 0 ≡ cond (own && ticks e) 1 0
own_once true e = tick_once e
own_once false e = refl

abbrev own_of : Deed → ℕ → Entry → ℕ
own_of deed c e = cond ((e.cpu.0 == c) && is_deed deed e.event) 1 0

all_ticks : (c : ℕ) (es : List Entry) → sum_by (own_of Runs c) es + sum_by (own_of Spins c) es + sum_by (own_of Idles c) es ≡ cpu_ticks c es
unfolding cpu_ticks
all_ticks c [] = refl
all_ticks c (e ∷ es) =
    let now : own_of Runs c e + own_of Spins c e + own_of Idles c e ≡ cond ((e.cpu.0 == c) && ticks e.event) 1 0 = own_once (e.cpu.0 == c) e.event in
    omega (
      arith,
      sum_by-cons (own_of Runs c) e es,
      sum_by-cons (own_of Spins c) e es,
      sum_by-cons (own_of Idles c) e es,
      sum_by-cons (λ (x : Entry). cond ((x.cpu.0 == c) && ticks x.event) 1 0) e es,
      now,
      all_ticks c es,
    )

pub deeds_ticks : (w : Work) (es : List Entry) (h : History) → IsHistory w es h → (c : ℕ)
    → deeds Runs c h.happenings.items + deeds Spins c h.happenings.items + deeds Idles c h.happenings.items ≡ cpu_ticks c es
deeds_ticks w es h is c =
    let runs = deeds_counts w es h is Runs c in
    let spins = deeds_counts w es h is Spins c in
    let idles = deeds_counts w es h is Idles c in
    let all = all_ticks c es in
    omega (arith, runs, spins, idles, all)
