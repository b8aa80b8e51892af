-- What follows from the properties of a choice.
use Rattle.std.proofs.Common.{◌≡◌, ◌≢◌, ℕ, ◌<◌, ◌≤◌, Bool, true, false, ◌&&◌, List, [], ◌∷◌, suc, Contains, length, get_or, All, MatchBool, inl, inr, sym, ap, ◌∙◌, subst, arith}
use Rattle.std.proofs.lemmas.Bool.{cases_eq, false≢true}
use Rattle.std.proofs.lemmas.Bool.Decides.{nat_tests}
use Rattle.std.proofs.lemmas.List.{get_or_default}
use Rattle.std.proofs.lemmas.Option.{slice_get-get_or, slice_get_within, get_or_from_slice_get}
use Rattle.sd_types.specs.declared.numbers.CpuId.{CpuId}
use Rattle.sd_rules.specs.Choices.{is_among, HasHint, IsLeastBusy, IsBestByHints, IsChosen, IsVictim}
use Rattle.sd_rules.specs.Orders.{is_less_busy, is_busier, no_cpu, IsBestByHintsAt, IsBusiestAt}
use Rattle.sd_types.proofs.SameLemmas.{same_cpu}

same_hint : (cpus : List CpuId) (hints : List ℕ) (c d : CpuId) (b : IsLeastBusy cpus hints c) (e : IsLeastBusy cpus hints d) → b.hint ≡ e.hint
same_hint cpus hints c d b e = omega (arith, b.least d e.hint e.has, e.least c b.hint b.has)

pub same_victim : (cpus : List CpuId) (hints : List ℕ) (c d : CpuId) → IsVictim cpus hints c → IsVictim cpus hints d → c ≡ d
same_victim cpus hints c d v w =
    let e : v.hint ≡ w.hint = omega (arith, v.greatest d w.hint w.has, w.greatest c v.hint v.has) in
    let low = v.first d (subst (HasHint cpus hints d) (sym e) w.has) in
    let high = w.first c (subst (HasHint cpus hints c) e v.has) in
    same_cpu c d (omega arith)

same_best : (cpus : List CpuId) (hints : List ℕ) (last c d : CpuId) → IsBestByHints cpus hints last c → IsBestByHints cpus hints last d → c ≡ d
same_best cpus hints last c d b e = elim (cases_eq c.0 last.0) [
  | inl same ↦ let at = same_cpu c last same in at ∙ sym (e.stays (subst (IsLeastBusy cpus hints) at b.busy))
  | inr other ↦ elim (cases_eq d.0 last.0) [
    | inl same ↦ let at = same_cpu d last same in b.stays (subst (IsLeastBusy cpus hints) at e.busy) ∙ sym at
    | inr apart ↦
        let low = b.first (λ h. other (ap (λ (x : CpuId). x.0) h)) d e.busy in
        let high = e.first (λ h. apart (ap (λ (x : CpuId). x.0) h)) c b.busy in
        same_cpu c d (omega arith)
  ]
]

same_by : (stays : Bool) (cpus : List CpuId) (hints : List ℕ) (last c d : CpuId)
    → MatchBool stays (c ≡ last) (IsBestByHints cpus hints last c) → MatchBool stays (d ≡ last) (IsBestByHints cpus hints last d) → c ≡ d
same_by true cpus hints last c d b e = b ∙ sym e
same_by false cpus hints last c d b e = same_best cpus hints last c d b e

pub same_choice : (cpus : List CpuId) (hints : List ℕ) (last : CpuId) (warm : Bool) (c d : CpuId)
    → IsChosen cpus hints last warm c → IsChosen cpus hints last warm d → c ≡ d
same_choice cpus hints last warm c d b e = same_by (warm && is_among last cpus) cpus hints last c d b e

-- what the test of two processors says
not_less : (last c d : CpuId) (hint other : ℕ) → is_less_busy last c hint d other ≡ false → other ≤ hint
not_less last c d hint other h = grind (arith, nat_tests)

last_stays : (last d : CpuId) (hint : ℕ) → is_less_busy last last hint d hint ≡ false → d.0 ≡ last.0
last_stays last d hint h = grind (arith, nat_tests)

not_before : (last c d : CpuId) (hint : ℕ) → is_less_busy last c hint d hint ≡ false → d.0 ≢ last.0 → d.0 ≤ c.0
not_before last c d hint h apart = grind (arith, nat_tests)

at_place : (cpus : List CpuId) (hints : List ℕ) (last : CpuId) (best : ℕ) → length cpus ≡ length hints → IsBestByHintsAt cpus hints last (length cpus) best
    → (d : CpuId) (other : ℕ) → HasHint cpus hints d other → is_less_busy last d other (get_or cpus best no_cpu) (get_or hints best 0) ≡ false
at_place cpus hints last best long at d other (i, is, has) =
    let same = get_or_from_slice_get cpus i d no_cpu is in
    let hint = get_or_from_slice_get hints i other 0 has in
    subst (λ (x : CpuId). is_less_busy last x other (get_or cpus best no_cpu) (get_or hints best 0) ≡ false) same
    (subst (λ (h : ℕ). is_less_busy last (get_or cpus i no_cpu) h (get_or cpus best no_cpu) (get_or hints best 0) ≡ false) hint (at i (slice_get_within cpus i d is)))

pub best_by_hints : (cpus : List CpuId) (hints : List ℕ) (last : CpuId) (best : ℕ) → length cpus ≡ length hints → best < length cpus
    → IsBestByHintsAt cpus hints last (length cpus) best → IsBestByHints cpus hints last (get_or cpus best no_cpu)
best_by_hints cpus hints last best long within at =
    let c : CpuId = get_or cpus best no_cpu in
    let test = at_place cpus hints last best long at in
    let busy : IsLeastBusy cpus hints c = record {
      hint = get_or hints best 0;
      has = (best, slice_get-get_or cpus best no_cpu within, slice_get-get_or hints best 0 (omega arith));
      least = λ d other has. not_less last d c other (get_or hints best 0) (test d other has);
    } in
    record {
      busy = busy;
      stays = λ b. same_cpu c last (last_stays last c (get_or hints best 0)
          (test last (get_or hints best 0) (subst (HasHint cpus hints last) (same_hint cpus hints last c b busy) b.has)));
      first = λ apart d b. not_before last d c (get_or hints best 0)
          (test d (get_or hints best 0) (subst (HasHint cpus hints d) (same_hint cpus hints d c b busy) b.has))
          (λ e. apart (same_cpu c last e));
    }

-- what the test of two victims says
not_busier : (c d : CpuId) (hint other : ℕ) → is_busier c hint d other ≡ false → hint ≤ other
not_busier c d hint other h = grind (arith, nat_tests)

not_lower : (c d : CpuId) (hint : ℕ) → is_busier c hint d hint ≡ false → d.0 ≤ c.0
not_lower c d hint h = grind (arith, nat_tests)

victim_at : (cpus : List CpuId) (hints : List ℕ) (best : ℕ) → IsBusiestAt cpus hints (length cpus) best
    → (d : CpuId) (other : ℕ) → HasHint cpus hints d other → is_busier d other (get_or cpus best no_cpu) (get_or hints best 0) ≡ false
victim_at cpus hints best at d other (i, is, has) =
    let same = get_or_from_slice_get cpus i d no_cpu is in
    let hint = get_or_from_slice_get hints i other 0 has in
    subst (λ (x : CpuId). is_busier x other (get_or cpus best no_cpu) (get_or hints best 0) ≡ false) same
    (subst (λ (h : ℕ). is_busier (get_or cpus i no_cpu) h (get_or cpus best no_cpu) (get_or hints best 0) ≡ false) hint (at i (slice_get_within cpus i d is)))

pub busiest_is_victim : (cpus : List CpuId) (hints : List ℕ) (best : ℕ) → length cpus ≡ length hints → best < length cpus
    → 0 < get_or hints best 0 → IsBusiestAt cpus hints (length cpus) best → IsVictim cpus hints (get_or cpus best no_cpu)
busiest_is_victim cpus hints best long within some at = record {
  hint = get_or hints best 0;
  has = (best, slice_get-get_or cpus best no_cpu within, slice_get-get_or hints best 0 (omega arith));
  some = some;
  greatest = λ d other has. not_busier d (get_or cpus best no_cpu) other (get_or hints best 0) (victim_at cpus hints best at d other has);
  first = λ d has. not_lower d (get_or cpus best no_cpu) (get_or hints best 0) (victim_at cpus hints best at d (get_or hints best 0) has);
}

-- a processor that the test finds stands at an index of the list
pub Contains-from_among : (c : CpuId) (cpus : List CpuId) → is_among c cpus ≡ true → Contains cpus c
Contains-from_among c [] h = absurd (false≢true h)
Contains-from_among c (d ∷ ds) h = elim (cases_eq d.0 c.0) [
  | inl same ↦ (0, omega arith, same_cpu d c same)
  | inr other ↦
      let rest : is_among c ds ≡ true = grind (arith, nat_tests) in
      let w = Contains-from_among c ds rest in
      (suc w.0, omega arith, w.2)
]

pub chosen_by_hints : (stays : Bool) (cpus : List CpuId) (hints : List ℕ) (last c : CpuId) → stays ≡ false → IsBestByHints cpus hints last c
    → MatchBool stays (c ≡ last) (IsBestByHints cpus hints last c)
chosen_by_hints true cpus hints last c h b = absurd (false≢true (sym h))
chosen_by_hints false cpus hints last c h b = b

-- where the greatest hint is 0, all are
pub all_zero : (cpus : List CpuId) (hints : List ℕ) (best : ℕ) → length cpus ≡ length hints → get_or hints best 0 ≡ 0
    → IsBusiestAt cpus hints (length cpus) best → All (λ hint. hint ≡ 0) hints
all_zero cpus hints best long none at = λ k d here.
    let most = not_busier (get_or cpus k no_cpu) (get_or cpus best no_cpu) (get_or hints k 0) (get_or hints best 0) (at k (omega arith)) in
    let same = get_or_default hints k d 0 here in
    omega arith
