-- The functions give the choices.
use Rattle.std.proofs.Common.{◌≡◌, ℕ, zero, suc, ◌<◌, ◌≤◌, Bool, true, false, ◌&&◌, cond, List, [], ◌∷◌, length, get_or, Option, Some, None, MatchBool, MatchOption, All, inl, inr, refl, sym, ap, ◌∙◌, subst, arith, slice_get, ◌==◌}
use Rattle.std.proofs.lemmas.Bool.{cases_eq, cases_lt, false≢true, eq-eqb, eqb-true, cases_Bool}
use Rattle.std.proofs.lemmas.Bool.Decides.{nat_tests}
use Rattle.std.proofs.lemmas.Option.{same_Some, none-some, slice_get_within, slice_get-get_or, get_or_from_slice_get}
use Rattle.sd_types.specs.declared.numbers.CpuId.{CpuId}
use Rattle.sd_rules.specs.Choices.{is_among, HasHint, IsLeastBusy, IsBestByHints, IsChosen, IsVictim}
use Rattle.sd_rules.proofs.ChoiceLemmas.{same_victim}
use Rattle.sd_rules.specs.ChoiceFunctions.{least_hint, greatest_hint, with_hint, least_number, preferred, chosen, victim_of}
use Rattle.sd_types.proofs.SameLemmas.{same_cpu}

-- ---- hints

hint-at_least : (hints : List ℕ) (i h : ℕ) → slice_get hints i ≡ Some h → least_hint hints ≤ h
hint-at_least [] i h e = absurd (none-some h e)
hint-at_least (g ∷ []) zero h e = let s = same_Some g h e in omega arith
hint-at_least (g ∷ []) (suc i) h e = absurd (none-some h e)
hint-at_least (g ∷ f ∷ fs) zero h e = let s = same_Some g h e in omega arith
hint-at_least (g ∷ f ∷ fs) (suc i) h e = omega (arith, hint-at_least (f ∷ fs) i h e)

hint-at_most : (hints : List ℕ) (i h : ℕ) → slice_get hints i ≡ Some h → h ≤ greatest_hint hints
hint-at_most [] i h e = absurd (none-some h e)
hint-at_most (g ∷ gs) zero h e = let s = same_Some g h e in omega arith
hint-at_most (g ∷ gs) (suc i) h e = omega (arith, hint-at_most gs i h e)

-- ---- the processors that have a hint

with-here : (hint h : ℕ) (c : CpuId) (cs : List CpuId) (hs : List ℕ) → h ≡ hint → with_hint hint (c ∷ cs) (h ∷ hs) ≡ c ∷ with_hint hint cs hs
with-here hint h c cs hs e = rw (eq-eqb h hint e) refl

with-later : (hint h : ℕ) (c : CpuId) (cs : List CpuId) (hs : List ℕ) → (h == hint) ≡ false → with_hint hint (c ∷ cs) (h ∷ hs) ≡ with_hint hint cs hs
with-later hint h c cs hs e = rw e refl

among-cons : (x c : CpuId) (cs : List CpuId) → is_among x cs ≡ true → is_among x (c ∷ cs) ≡ true
among-cons x c cs h = grind (arith, nat_tests)

among-head : (x c : CpuId) (cs : List CpuId) → c.0 ≡ x.0 → is_among x (c ∷ cs) ≡ true
among-head x c cs h = grind (arith, nat_tests)

-- each processor that has the hint is among them
among-with : (hint : ℕ) (cpus : List CpuId) (hints : List ℕ) (x : CpuId) (i : ℕ) → slice_get cpus i ≡ Some x → slice_get hints i ≡ Some hint → is_among x (with_hint hint cpus hints) ≡ true
among-with hint [] hints x i c h = absurd (none-some x c)
among-with hint (c ∷ cs) [] x i e h = absurd (none-some hint h)
among-with hint (c ∷ cs) (g ∷ gs) x zero e h =
    rw (with-here hint g c cs gs (same_Some g hint h)) (among-head x c (with_hint hint cs gs) (ap (λ (y : CpuId). y.0) (same_Some c x e)))
among-with hint (c ∷ cs) (g ∷ gs) x (suc i) e h =
    let r = among-with hint cs gs x i e h in
    elim (cases_Bool (g == hint)) [
      | inl here ↦ rw (with-here hint g c cs gs (eqb-true g hint here)) (among-cons x c (with_hint hint cs gs) r)
      | inr later ↦ rw (with-later hint g c cs gs later) r
    ]

next-hint : (cpus : List CpuId) (hints : List ℕ) (c x : CpuId) (g h : ℕ) → HasHint cpus hints x h → HasHint (c ∷ cpus) (g ∷ hints) x h
next-hint cpus hints c x g h (i, e, f) = (suc i, e, f)

-- and no other
with-among : (hint : ℕ) (cpus : List CpuId) (hints : List ℕ) (x : CpuId) → is_among x (with_hint hint cpus hints) ≡ true → HasHint cpus hints x hint
with-among hint [] hints x h = absurd (false≢true h)
with-among hint (c ∷ cs) [] x h = absurd (false≢true h)
with-among hint (c ∷ cs) (g ∷ gs) x h = elim (cases_Bool (g == hint)) [
  | inl here ↦
      let found : is_among x (c ∷ with_hint hint cs gs) ≡ true = rw (with-here hint g c cs gs (eqb-true g hint here)) at h in
      elim (cases_eq c.0 x.0) [
        | inl same ↦ (0, ap Some (same_cpu c x same), ap Some (eqb-true g hint here))
        | inr other ↦
            let rest : is_among x (with_hint hint cs gs) ≡ true = grind (arith, nat_tests) in
            next-hint cs gs c x g hint (with-among hint cs gs x rest)
      ]
  | inr later ↦
      let rest : is_among x (with_hint hint cs gs) ≡ true = rw (with-later hint g c cs gs later) at h in
      next-hint cs gs c x g hint (with-among hint cs gs x rest)
]

-- ---- the least number

number-least : (cpus : List CpuId) (x : CpuId) → is_among x cpus ≡ true → (least_number cpus).0 ≤ x.0
number-least [] x h = absurd (false≢true h)
number-least (c ∷ []) x h = grind (arith, nat_tests)
number-least (c ∷ d ∷ ds) x h = elim (cases_eq c.0 x.0) [
  | inl same ↦ omega arith
  | inr other ↦ let rest : is_among x (d ∷ ds) ≡ true = grind (arith, nat_tests) in omega (arith, number-least (d ∷ ds) x rest)
]

number-among : (cpus : List CpuId) → 0 < length cpus → is_among (least_number cpus) cpus ≡ true
number-among [] h = absurd (omega arith)
number-among (c ∷ []) h = among-head c c [] refl
number-among (c ∷ d ∷ ds) h = elim (cases_lt (least_number (d ∷ ds)).0 c.0) [
  | inl less ↦
      let e : least_number (c ∷ d ∷ ds) ≡ least_number (d ∷ ds) = same_cpu (least_number (c ∷ d ∷ ds)) (least_number (d ∷ ds)) (omega arith) in
      among-cons (least_number (c ∷ d ∷ ds)) c (d ∷ ds) (subst (λ (x : CpuId). is_among x (d ∷ ds) ≡ true) (sym e) (number-among (d ∷ ds) (omega arith)))
  | inr more ↦ among-head (least_number (c ∷ d ∷ ds)) c (d ∷ ds) (omega arith)
]

-- ---- the choices

least-attained : (hints : List ℕ) → 0 < length hints → (i : ℕ) × (slice_get hints i ≡ Some (least_hint hints))
least-attained [] h = absurd (omega arith)
least-attained (g ∷ []) h = (0, refl)
least-attained (g ∷ f ∷ fs) h = elim (cases_lt (least_hint (f ∷ fs)) g) [
  | inl less ↦
      let r = least-attained (f ∷ fs) (omega arith) in
      let e : least_hint (f ∷ fs) ≡ least_hint (g ∷ f ∷ fs) = omega arith in
      (suc r.0, r.1 ∙ ap Some e)
  | inr more ↦ let e : g ≡ least_hint (g ∷ f ∷ fs) = omega arith in (0, ap Some e)
]

greatest-attained : (hints : List ℕ) → 0 < greatest_hint hints → (i : ℕ) × (slice_get hints i ≡ Some (greatest_hint hints))
greatest-attained [] h = absurd (omega arith)
greatest-attained (g ∷ gs) h = elim (cases_lt g (greatest_hint gs)) [
  | inl less ↦
      let r = greatest-attained gs (omega arith) in
      let e : greatest_hint gs ≡ greatest_hint (g ∷ gs) = omega arith in
      (suc r.0, r.1 ∙ ap Some e)
  | inr more ↦ let e : g ≡ greatest_hint (g ∷ gs) = omega arith in (0, ap Some e)
]

among-some : (x : CpuId) (cpus : List CpuId) → is_among x cpus ≡ true → 0 < length cpus
among-some x [] h = absurd (false≢true h)
among-some x (c ∷ cs) h = omega arith

-- some processor has the hint that stands at an index
at_hint : (cpus : List CpuId) (hints : List ℕ) (i hint : ℕ) → length cpus ≡ length hints → slice_get hints i ≡ Some hint → (x : CpuId) × HasHint cpus hints x hint
at_hint cpus hints i hint long e =
    let within = slice_get_within hints i hint e in
    (get_or cpus i (record { 0 = 0 }), (i, slice_get-get_or cpus i (record { 0 = 0 }) (omega arith), e))

least-from_among : (cpus : List CpuId) (hints : List ℕ) (x : CpuId) → is_among x (with_hint (least_hint hints) cpus hints) ≡ true → IsLeastBusy cpus hints x
least-from_among cpus hints x h = record {
  hint = least_hint hints;
  has = with-among (least_hint hints) cpus hints x h;
  least = λ d other has. hint-at_least hints has.0 other has.2;
}

among-from_least : (cpus : List CpuId) (hints : List ℕ) (y x : CpuId) → HasHint cpus hints y (least_hint hints) → IsLeastBusy cpus hints x
    → is_among x (with_hint (least_hint hints) cpus hints) ≡ true
among-from_least cpus hints y x at b =
    let low = b.least y (least_hint hints) at in
    let high = hint-at_least hints b.has.0 b.hint b.has.2 in
    let e : b.hint ≡ least_hint hints = omega arith in
    among-with (least_hint hints) cpus hints x b.has.0 b.has.1 (b.has.2 ∙ ap Some e)

preferred-last : (last : CpuId) (ties : List CpuId) → is_among last ties ≡ true → preferred last ties ≡ last
preferred-last last ties h = rw h refl

preferred-least : (last : CpuId) (ties : List CpuId) → is_among last ties ≡ false → preferred last ties ≡ least_number ties
preferred-least last ties h = rw h refl

best-from_ties : (cpus : List CpuId) (hints : List ℕ) (last y : CpuId) → HasHint cpus hints y (least_hint hints)
    → IsBestByHints cpus hints last (preferred last (with_hint (least_hint hints) cpus hints))
best-from_ties cpus hints last y at =
    let ties : List CpuId = with_hint (least_hint hints) cpus hints in
    elim (cases_Bool (is_among last ties)) [
      | inl here ↦ subst (IsBestByHints cpus hints last) (sym (preferred-last last ties here)) (record {
        busy = least-from_among cpus hints last here;
        stays = λ b. refl;
        first = λ apart d b. absurd (apart refl);
      })
      | inr away ↦
          let some = among-some y ties (among-with (least_hint hints) cpus hints y at.0 at.1 at.2) in
          subst (IsBestByHints cpus hints last) (sym (preferred-least last ties away)) (record {
            busy = least-from_among cpus hints (least_number ties) (number-among ties some);
            stays = λ b. absurd (false≢true (sym away ∙ among-from_least cpus hints y last at b));
            first = λ apart d b. number-least ties d (among-from_least cpus hints y d at b);
          })
    ]

chosen-by : (stays : Bool) (cpus : List CpuId) (hints : List ℕ) (last c : CpuId) → IsBestByHints cpus hints last c
    → MatchBool stays (cond stays last c ≡ last) (IsBestByHints cpus hints last (cond stays last c))
chosen-by true cpus hints last c b = refl
chosen-by false cpus hints last c b = b

pub chosen_is : (cpus : List CpuId) (hints : List ℕ) (last : CpuId) (warm : Bool) → 0 < length cpus → length cpus ≡ length hints → IsChosen cpus hints last warm (chosen cpus hints last warm)
chosen_is cpus hints last warm some long =
    let place = least-attained hints (omega arith) in
    let at = at_hint cpus hints place.0 (least_hint hints) long place.1 in
    chosen-by (warm && is_among last cpus) cpus hints last (preferred last (with_hint (least_hint hints) cpus hints)) (best-from_ties cpus hints last at.0 at.1)

victim-from : (cpus : List CpuId) (hints : List ℕ) → length cpus ≡ length hints → 0 < greatest_hint hints
    → IsVictim cpus hints (least_number (with_hint (greatest_hint hints) cpus hints))
victim-from cpus hints long h =
    let ties : List CpuId = with_hint (greatest_hint hints) cpus hints in
    let place = greatest-attained hints h in
    let at = at_hint cpus hints place.0 (greatest_hint hints) long place.1 in
    let some = among-some at.0 ties (among-with (greatest_hint hints) cpus hints at.0 at.1.0 at.1.1 at.1.2) in
    record {
      hint = greatest_hint hints;
      has = with-among (greatest_hint hints) cpus hints (least_number ties) (number-among ties some);
      some = h;
      greatest = λ d other has. hint-at_most hints has.0 other has.2;
      first = λ d has. number-least ties d (among-with (greatest_hint hints) cpus hints d has.0 has.1 has.2);
    }

none-from : (hints : List ℕ) → greatest_hint hints ≡ 0 → All (λ hint. hint ≡ 0) hints
none-from hints e = λ k d h. let most = hint-at_most hints k (get_or hints k d) (slice_get-get_or hints k d h) in omega arith

victim-by : (zero_only : Bool) (cpus : List CpuId) (hints : List ℕ) (c : CpuId) → (zero_only ≡ true → All (λ hint. hint ≡ 0) hints) → (zero_only ≡ false → IsVictim cpus hints c)
    → MatchOption (cond zero_only None (Some c)) (All (λ hint. hint ≡ 0) hints) (IsVictim cpus hints)
victim-by true cpus hints c p q = p refl
victim-by false cpus hints c p q = q refl

above_zero : (n : ℕ) → (n == 0) ≡ false → 0 < n
above_zero n h = grind (arith, nat_tests)

pub victim_is : (cpus : List CpuId) (hints : List ℕ) → length cpus ≡ length hints → MatchOption (victim_of cpus hints) (All (λ hint. hint ≡ 0) hints) (IsVictim cpus hints)
victim_is cpus hints long =
    victim-by (greatest_hint hints == 0) cpus hints (least_number (with_hint (greatest_hint hints) cpus hints))
    (λ e. none-from hints (eqb-true (greatest_hint hints) 0 e)) (λ e. victim-from cpus hints long (above_zero (greatest_hint hints) e))

-- ---- a choice is what its function gives

pub no_victim : (cpus : List CpuId) (hints : List ℕ) (c : CpuId) → All (λ hint. hint ≡ 0) hints → IsVictim cpus hints c → ⊥
no_victim cpus hints c zeros v =
    let here = get_or_from_slice_get hints v.has.0 v.hint 0 v.has.2 in
    let zero = zeros v.has.0 0 (slice_get_within hints v.has.0 v.hint v.has.2) in
    let some = v.some in
    omega arith

pub victim-none : (cpus : List CpuId) (hints : List ℕ) → length cpus ≡ length hints → All (λ hint. hint ≡ 0) hints → None ≡ victim_of cpus hints
victim-none cpus hints long zeros = by (victim_of cpus hints) (victim_is cpus hints long)
  where
    by : (o : Option CpuId) → MatchOption o (All (λ hint. hint ≡ 0) hints) (IsVictim cpus hints) → None ≡ o
    by None all = refl
    by (Some d) v = absurd (no_victim cpus hints d zeros v)

pub victim-some : (cpus : List CpuId) (hints : List ℕ) (c : CpuId) → length cpus ≡ length hints → IsVictim cpus hints c → Some c ≡ victim_of cpus hints
victim-some cpus hints c long v = by (victim_of cpus hints) (victim_is cpus hints long)
  where
    by : (o : Option CpuId) → MatchOption o (All (λ hint. hint ≡ 0) hints) (IsVictim cpus hints) → Some c ≡ o
    by None all = absurd (no_victim cpus hints c all v)
    by (Some d) w = ap Some (same_victim cpus hints c d v w)
