-- The lists that are found are exactly the blocking cycles.
use Rattle.std.proofs.Common.{◌≡◌, ℕ, zero, suc, ◌<◌, ◌≤◌, Bool, true, false, cond, eqb, ltb, List, [], ◌∷◌, ◌++◌, length, Option, Some, None, refl, sym, ap, ◌∙◌, subst, ◌⊎◌, ◌↔◌, inl, inr, arith}
use Rattle.std.specs.Prelude.{option_map, map}
use Rattle.std.specs.List.{Contains, IsDistinct, list_any, AllByRecursion}
use Rattle.std.proofs.lemmas.Bool.{cases_eq, cases_lt, cases_Bool, eqb-true, eq-eqb, false≢true}
use Rattle.std.proofs.lemmas.Bool.Decides.{nat_tests}
use Rattle.std.proofs.lemmas.List.Elements.{Contains-append_left, Contains-append_right, Contains-append_cases}
use Rattle.std.proofs.lemmas.Map.Steps.{length-le_from_distinct_below}
use Rattle.sd_machine.specs.Graphs.{Wait, Graph, IsAhead, IsBehind, InCycle}
use Rattle.sd_machine.specs.Graphs.IsBehind.{near, far}
use Rattle.sd_machine.specs.Cycles.{owner_at, ahead, IsIn, AreApart, IsLinked, IsCycle, IsFromLeast, joined, lap, none_or_one, cycles_below, cycles, AreCycles}
use Rattle.sd_machine.specs.Listing.{head_of, AreRising, ListsCycles}
use Rattle.sd_machine.proofs.Chains.{ahead_one}
use Rattle.sd_machine.proofs.Moves.{none_some}
use Rattle.sd_machine.proofs.Steps.{behind_waits, IsFrame}
use Rattle.std.proofs.lemmas.Option.{same_Some}

joined_is : (first t : ℕ) (o : Option ℕ) (f : ℕ → Option (List ℕ)) (ts : List ℕ) → joined first t o f ≡ Some ts
    → ((u : ℕ) × (o ≡ Some u) × (u ≡ first) × (ts ≡ t ∷ [])) ⊎ ((u : ℕ) × (xs : List ℕ) × (o ≡ Some u) × (first < u) × (f u ≡ Some xs) × (ts ≡ t ∷ xs))
joined_is first t None f ts e = absurd (none_some None ts refl e)
joined_is first t (Some u) f ts e = tests (eqb u first) refl (ltb u first) refl e
  where
    rest : first < u → (o : Option (List ℕ)) → f u ≡ o → option_map (λ xs. t ∷ xs) o ≡ Some ts
        → ((v : ℕ) × (Some u ≡ Some v) × (v ≡ first) × (ts ≡ t ∷ [])) ⊎ ((v : ℕ) × (xs : List ℕ) × (Some u ≡ Some v) × (first < v) × (f v ≡ Some xs) × (ts ≡ t ∷ xs))
    rest less None found e = absurd (none_some None ts refl e)
    rest less (Some xs) found e = inr (u, xs, refl, less, found, sym (same_Some (t ∷ xs) ts e))

    tests : (b : Bool) → eqb u first ≡ b → (c : Bool) → ltb u first ≡ c → cond b (Some (t ∷ [])) (cond c None (option_map (λ xs. t ∷ xs) (f u))) ≡ Some ts
        → ((v : ℕ) × (Some u ≡ Some v) × (v ≡ first) × (ts ≡ t ∷ [])) ⊎ ((v : ℕ) × (xs : List ℕ) × (Some u ≡ Some v) × (first < v) × (f v ≡ Some xs) × (ts ≡ t ∷ xs))
    tests true same c d e = inl (u, refl, eqb-true u first same, sym (same_Some (t ∷ []) ts e))
    tests false same true less e = absurd (none_some None ts refl e)
    tests false same false less e = rest (grind (arith, nat_tests)) (f u) refl e

joined_last : (first t : ℕ) (f : ℕ → Option (List ℕ)) → joined first t (Some first) f ≡ Some (t ∷ [])
joined_last first t f = rw (eq-eqb first first refl) refl

joined_more : (first t u : ℕ) (f : ℕ → Option (List ℕ)) (xs : List ℕ) → first < u → f u ≡ Some xs → joined first t (Some u) f ≡ Some (t ∷ xs)
joined_more first t u f xs less found =
    let apart : eqb u first ≡ false = grind (arith, nat_tests) in
    let not_less : ltb u first ≡ false = grind (arith, nat_tests) in
    rw apart (rw not_less (ap (λ (o : Option (List ℕ)). option_map (λ (ys : List ℕ). t ∷ ys) o) found))

module _ (g : Graph) where
  -- the word and the function
  ahead_is : (t u : ℕ) → IsAhead g t u → ahead g t ≡ Some u
  ahead_is t u (w, waits, own) = ap (owner_at g) waits ∙ own

  is_ahead : (t u : ℕ) → ahead g t ≡ Some u → IsAhead g t u
  is_ahead t u e = by (g.waits t) refl
    where
      by : (o : Option Wait) → g.waits t ≡ o → IsAhead g t u
      by None is = absurd (none_some (ahead g t) u (ap (owner_at g) is) e)
      by (Some w) is = (w, is, ap (owner_at g) (sym is) ∙ e)

  -- the way of a lap from t back to first
  data IsLap (first : ℕ) : ℕ → List ℕ → Type 0 where
    last : {t : ℕ} → IsAhead g t first → IsLap first t (t ∷ [])
    more : {t u : ℕ} {ts : List ℕ} → IsAhead g t u → first < u → IsLap first u ts → IsLap first t (t ∷ ts)

  lap_is : (first n t : ℕ) (ts : List ℕ) → lap g first n t ≡ Some ts → IsLap first t ts
  unfolding lap
  lap_is first zero t ts e = absurd (none_some None ts refl e)
  lap_is first (suc n) t ts e = elim (joined_is first t (ahead g t) (λ u. lap g first n u) ts e) [
    | inl (u, is, same, all) ↦ subst (IsLap first t) (sym all) (last (is_ahead t first (is ∙ ap Some same)))
    | inr (u, xs, is, less, found, all) ↦ subst (IsLap first t) (sym all) (more (is_ahead t u is) less (lap_is first n u xs found))
  ]

  is_lap : (first n t : ℕ) (ts : List ℕ) → IsLap first t ts → length ts ≤ n → lap g first n t ≡ Some ts
  unfolding lap
  is_lap first zero t ts (last a) le = absurd (omega arith)
  is_lap first zero t ts (more a less l) le = absurd (omega arith)
  is_lap first (suc n) t ts (last a) le = ap (λ o. joined first t o (λ u. lap g first n u)) (ahead_is t first a) ∙ joined_last first t (λ u. lap g first n u)
  is_lap first (suc n) t ts (more {u = u} {ts = us} a less l) le =
      ap (λ o. joined first t o (λ u. lap g first n u)) (ahead_is t u a) ∙ joined_more first t u (λ u. lap g first n u) us less (is_lap first n u us l (omega arith))

  -- the lap is one
  lap_one : (first t : ℕ) (xs ys : List ℕ) → IsLap first t xs → IsLap first t ys → xs ≡ ys
  lap_one first t xs ys (last a) (last b) = refl
  lap_one first t xs ys (last a) (more {u = u} b less l) = let e : first ≡ u = ahead_one g t first u a b in absurd (omega arith)
  lap_one first t xs ys (more {u = u} a less l) (last b) = let e : first ≡ u = ahead_one g t first u b a in absurd (omega arith)
  lap_one first t xs ys (more {u = u} {ts = us} a less l) (more {u = v} {ts = vs} b less' l') =
      ap (λ (zs : List ℕ). t ∷ zs) (lap_one first u us vs l (subst (λ k. IsLap first k vs) (ahead_one g t v u b a) l'))

  -- from each thread of a lap the rest is its lap
  lap_from : (first t : ℕ) (ts : List ℕ) → IsLap first t ts → (x : ℕ) → IsIn x ts → (xs : List ℕ) × IsLap first x xs × (length xs ≤ length ts)
  lap_from first t ts (last a) x (inl is) = (t ∷ [], subst (λ k. IsLap first k (t ∷ [])) (sym is) (last a), omega arith)
  lap_from first t ts (last a) x (inr no_more) = absurd no_more
  lap_from first t ts (more {ts = us} a less l) x (inl is) = (t ∷ us, subst (λ k. IsLap first k (t ∷ us)) (sym is) (more a less l), omega arith)
  lap_from first t ts (more {u = u} {ts = us} a less l) x (inr later) = let r = lap_from first u us l x later in (r.0, r.1, let e = r.2 in omega arith)

  lap_apart : (first t : ℕ) (ts : List ℕ) → IsLap first t ts → AreApart ts
  lap_apart first t ts (last a) = ((λ none. none), tt)
  lap_apart first t ts (more {u = u} {ts = us} a less l) = (
    (λ again.
        let r = lap_from first u us l t again in
        let same = ap (λ (zs : List ℕ). length zs) (lap_one first t (t ∷ us) r.0 (more a less l) r.1) in
        let le = r.2 in absurd (omega arith)),
    lap_apart first u us l,
  )

  lap_head : (first t : ℕ) (ts : List ℕ) → IsLap first t ts → IsIn t ts
  lap_head first t ts (last a) = inl refl
  lap_head first t ts (more a less l) = inl refl

  lap_linked : (first t : ℕ) (ts : List ℕ) → IsLap first t ts → IsLinked g first ts
  lap_linked first t ts (last a) = a
  lap_linked first t ts (more a less l) = on a l (lap_linked first _ _ l)
    where
      on : {t u : ℕ} {us : List ℕ} → IsAhead g t u → IsLap first u us → IsLinked g first us → IsLinked g first (t ∷ us)
      on a (last b) links = (a, links)
      on a (more b less l) links = (a, links)

  lap_least : (first t : ℕ) (ts : List ℕ) → IsLap first t ts → first ≤ t → (x : ℕ) → IsIn x ts → first ≤ x
  lap_least first t ts (last a) le x (inl is) = let e : x ≡ t = is in omega arith
  lap_least first t ts (last a) le x (inr no_more) = absurd no_more
  lap_least first t ts (more a less l) le x (inl is) = let e : x ≡ t = is in omega arith
  lap_least first t ts (more {u = u} {ts = us} a less l) le x (inr later) = lap_least first u us l (omega arith) x later

  lap_cycle : (first : ℕ) (ts : List ℕ) → IsLap first first ts → IsCycle g ts × IsFromLeast ts
  lap_cycle first ts (last a) = ((a, ((λ none. none), tt)), lap_least first first (first ∷ []) (last a) (omega arith))
  lap_cycle first ts (more {ts = us} a less l) =
      ((lap_linked first first (first ∷ us) (more a less l), lap_apart first first (first ∷ us) (more a less l)), lap_least first first (first ∷ us) (more a less l) (omega arith))

  -- a lap has the thread ahead of each of its threads, or is back there
  lap_ahead : (first t : ℕ) (ts : List ℕ) → IsLap first t ts → (x v : ℕ) → IsIn x ts → IsAhead g x v → (v ≡ first) ⊎ IsIn v ts
  lap_ahead first t ts (last a) x v (inl is) b = inl (ahead_one g t v first (subst (λ k. IsAhead g k v) is b) a)
  lap_ahead first t ts (last a) x v (inr no_more) b = absurd no_more
  lap_ahead first t ts (more {u = u} {ts = us} a less l) x v (inl is) b =
      inr (inr (subst (λ k. IsIn k us) (ahead_one g t u v a (subst (λ k. IsAhead g k v) is b)) (lap_head first u us l)))
  lap_ahead first t ts (more {u = u} {ts = us} a less l) x v (inr later) b = elim (lap_ahead first u us l x v later b) [ inl is ↦ inl is | inr at ↦ inr (inr at) ]

  round_ahead : (first : ℕ) (ts : List ℕ) → IsLap first first ts → (x v : ℕ) → IsIn x ts → IsAhead g x v → IsIn v ts
  round_ahead first ts l x v at a = elim (lap_ahead first first ts l x v at a) [
    | inl is ↦ subst (λ k. IsIn k ts) (sym is) (lap_head first first ts l)
    | inr there ↦ there
  ]

  -- and each thread that the chain of one of them gets to
  round_behind : (first : ℕ) (ts : List ℕ) → IsLap first first ts → (v x : ℕ) → IsIn x ts → IsBehind g v x → IsIn v ts
  round_behind first ts l v x at (near a) = round_ahead first ts l x v at a
  round_behind first ts l v x at (far {u = u} a r) = round_behind first ts l v u (round_ahead first ts l x u at a) r

  -- from each of them the chain gets to first
  lap_behind : (first t : ℕ) (ts : List ℕ) → IsLap first t ts → (x : ℕ) → IsIn x ts → IsBehind g first x
  lap_behind first t ts (last a) x (inl is) = subst (IsBehind g first) (sym is) (near a)
  lap_behind first t ts (last a) x (inr no_more) = absurd no_more
  lap_behind first t ts (more {u = u} {ts = us} a less l) x (inl is) = subst (IsBehind g first) (sym is) (far a (lap_behind first u us l u (lap_head first u us l)))
  lap_behind first t ts (more {u = u} {ts = us} a less l) x (inr later) = lap_behind first u us l x later

  -- the way from t to first is a lap, or passes a thread that has a smaller number
  way : (first t : ℕ) → IsBehind g first t → ((ts : List ℕ) × IsLap first t ts) ⊎ ((u : ℕ) × (u < first) × IsBehind g u t × IsBehind g first u)
  way first t (near a) = inl (t ∷ [], last a)
  way first t (far {u = u} a r) = elim (cases_eq u first) [
    | inl is ↦ inl (t ∷ [], last (subst (IsAhead g t) is a))
    | inr other ↦ elim (cases_lt u first) [
      | inl less ↦ inr (u, less, near a, r)
      | inr le ↦ elim (way first u r) [
        | inl (us, l) ↦ inl (t ∷ us, more a (omega arith) l)
        | inr (v, less, b, c) ↦ inr (v, less, far a b, c)
      ]
    ]
  ]

  behind_behind : (o u t : ℕ) → IsBehind g o u → IsBehind g u t → IsBehind g o t
  behind_behind o u t r (near a) = far a r
  behind_behind o u t r (far a s) = far a (behind_behind o u _ r s)

  -- each thread in a cycle is in a lap from the least
  in_round : (k o : ℕ) → o < k → InCycle g o → (m : ℕ) × (ts : List ℕ) × IsLap m m ts × IsIn o ts
  in_round zero o lt c = absurd (omega arith)
  in_round (suc k) o lt c = elim (way o o c) [
    | inl (ts, l) ↦ (o, ts, l, lap_head o o ts l)
    | inr (u, less, b, a) ↦
        let r = in_round k u (omega arith) (behind_behind u o u b a) in
        (r.0, r.1, r.2, round_behind r.0 r.1 r.2 o u r.3 a)
  ]

  -- A list of linked threads.

  linked_behind : (first t : ℕ) (ts : List ℕ) → IsLinked g first (t ∷ ts) → (x : ℕ) → IsIn x (t ∷ ts) → IsBehind g first x
  linked_behind first t [] link x (inl is) = subst (IsBehind g first) (sym is) (near link)
  linked_behind first t [] link x (inr no_more) = absurd no_more
  linked_behind first t (u ∷ us) link x (inl is) = subst (IsBehind g first) (sym is) (far link.0 (linked_behind first u us link.1 u (inl refl)))
  linked_behind first t (u ∷ us) link x (inr later) = linked_behind first u us link.1 x later

  -- from the head the chain gets to each that comes after it
  linked_after : (first t : ℕ) (ts : List ℕ) → IsLinked g first (t ∷ ts) → (x : ℕ) → IsIn x ts → IsBehind g x t
  linked_after first t [] link x no_more = absurd no_more
  linked_after first t (u ∷ us) link x (inl is) = near (subst (IsAhead g t) (sym is) link.0)
  linked_after first t (u ∷ us) link x (inr later) = far link.0 (linked_after first u us link.1 x later)

  linked_ahead : (first t : ℕ) (ts : List ℕ) → IsLinked g first (t ∷ ts) → (x v : ℕ) → IsIn x (t ∷ ts) → IsAhead g x v → (v ≡ first) ⊎ IsIn v (t ∷ ts)
  linked_ahead first t [] link x v (inl is) a = inl (ahead_one g t v first (subst (λ k. IsAhead g k v) is a) link)
  linked_ahead first t [] link x v (inr no_more) a = absurd no_more
  linked_ahead first t (u ∷ us) link x v (inl is) a = inr (inr (inl (ahead_one g t v u (subst (λ k. IsAhead g k v) is a) link.0)))
  linked_ahead first t (u ∷ us) link x v (inr later) a = elim (linked_ahead first u us link.1 x v later a) [ inl is ↦ inl is | inr at ↦ inr (inr at) ]

  cycle_closed : (t : ℕ) (ts : List ℕ) → IsLinked g t (t ∷ ts) → (v x : ℕ) → IsIn x (t ∷ ts) → IsBehind g v x → IsIn v (t ∷ ts)
  cycle_closed t ts link v x at (near a) = elim (linked_ahead t t ts link x v at a) [ inl is ↦ inl is | inr there ↦ there ]
  cycle_closed t ts link v x at (far {u = u} a r) = cycle_closed t ts link v u (elim (linked_ahead t t ts link x u at a) [ inl is ↦ inl is | inr there ↦ there ]) r

  -- in a round the chain of the first gets to each
  lap_after : (first t : ℕ) (ts : List ℕ) → IsLap first t ts → (x : ℕ) → IsIn x ts → (x ≡ t) ⊎ IsBehind g x t
  lap_after first t ts (last a) x (inl is) = inl is
  lap_after first t ts (last a) x (inr no_more) = absurd no_more
  lap_after first t ts (more a less l) x (inl is) = inl is
  lap_after first t ts (more {u = u} {ts = us} a less l) x (inr later) = inr (elim (lap_after first u us l x later) [
    | inl is ↦ near (subst (IsAhead g t) (sym is) a)
    | inr behind ↦ far a behind
  ])

  -- and so the chain of each gets to each
  round_all : (first : ℕ) (ts : List ℕ) → IsLap first first ts → (x y : ℕ) → IsIn x ts → IsIn y ts → IsBehind g y x
  round_all first ts l x y at there = elim (lap_after first first ts l y there) [
    | inl is ↦ subst (λ k. IsBehind g k x) (sym is) (lap_behind first first ts l x at)
    | inr behind ↦ behind_behind y first x behind (lap_behind first first ts l x at)
  ]

  module _ (count : ℕ) (inside : (t : ℕ) (w : Wait) → g.waits t ≡ Some w → t < count) where
    any_in : (q : ℕ) (xs : List ℕ) → list_any (eqb q) xs ≡ true → IsIn q xs
    any_in q [] e = absurd (false≢true e)
    any_in q (x ∷ xs) e = elim (cases_Bool (eqb q x)) [
      | inl is ↦ inl (eqb-true q x is)
      | inr other ↦ inr (any_in q xs (grind (arith, nat_tests)))
    ]

    not_in : (q : ℕ) (xs : List ℕ) → (IsIn q xs → ⊥) → AllByRecursion (λ y. eqb q y ≡ false) xs
    not_in q [] none = tt
    not_in q (x ∷ xs) none = (elim (cases_Bool (eqb q x)) [ inl is ↦ absurd (none (inl (eqb-true q x is))) | inr other ↦ other ], not_in q xs (λ later. none (inr later)))

    apart_distinct : (xs : List ℕ) → AreApart xs → IsDistinct eqb xs
    unfolding IsDistinct
    apart_distinct [] apart = tt
    apart_distinct (x ∷ xs) apart = (not_in x xs apart.0, apart_distinct xs apart.1)

    behind_inside : (o t : ℕ) → IsBehind g o t → t < count
    behind_inside o t r = let is = behind_waits g o t r in inside t is.0 is.1

    lap_short : (first t : ℕ) (ts : List ℕ) → IsLap first t ts → length ts ≤ count
    lap_short first t ts l =
        length-le_from_distinct_below ts count (apart_distinct ts (lap_apart first t ts l)) (λ q e. behind_inside first q (lap_behind first t ts l q (any_in q ts e)))

    one_contained : {X : Type 0} (o : Option X) (x : X) → Contains (none_or_one o) x → o ≡ Some x
    one_contained None x (i, lt, e) = absurd (omega arith)
    one_contained (Some y) x (zero, lt, e) = ap Some e
    one_contained (Some y) x (suc i, lt, e) = absurd (omega arith)

    listed_is : (k : ℕ) (ts : List ℕ) → Contains (cycles_below g count k) ts → (m : ℕ) × (m < k) × IsLap m m ts
    unfolding cycles_below
    listed_is zero ts (i, lt, e) = absurd (omega arith)
    listed_is (suc k) ts c = elim (Contains-append_cases (cycles_below g count k) (none_or_one (lap g k count k)) ts c) [
      | inl old ↦ let r = listed_is k ts old in (r.0, (let e = r.1 in omega arith), r.2)
      | inr new ↦ (k, omega arith, lap_is k count k ts (one_contained (lap g k count k) ts new))
    ]

    is_listed : (k m : ℕ) (ts : List ℕ) → m < k → IsLap m m ts → Contains (cycles_below g count k) ts
    unfolding cycles_below
    is_listed zero m ts lt l = absurd (omega arith)
    is_listed (suc k) m ts lt l = elim (cases_lt m k) [
      | inl less ↦ Contains-append_left (cycles_below g count k) (none_or_one (lap g k count k)) ts (is_listed k m ts less l)
      | inr le ↦
          let is : m ≡ k = omega arith in
          let found : lap g k count k ≡ Some ts = subst (λ j. lap g j count j ≡ Some ts) is (is_lap m count m ts l (lap_short m m ts l)) in
          Contains-append_right (cycles_below g count k) (none_or_one (lap g k count k)) ts
          (subst (λ (o : Option (List ℕ)). Contains (none_or_one o) ts) (sym found) (0, omega arith, refl))
    ]

    line_of : (o : ℕ) → InCycle g o → (m : ℕ) × (ts : List ℕ) × IsLap m m ts × IsIn o ts × Contains (cycles g count) ts
    line_of o c =
        let r = in_round (suc o) o (omega arith) c in
        (r.0, r.1, r.2, r.3, is_listed count r.0 r.1 (behind_inside r.0 r.0 (lap_behind r.0 r.0 r.1 r.2 r.0 (lap_head r.0 r.0 r.1 r.2))) r.2)

    all_cycles : (xs : List ℕ) → IsCycle g xs → (ts : List ℕ) × Contains (cycles g count) ts × ((x : ℕ) → IsIn x xs ↔ IsIn x ts)
    all_cycles [] bad = absurd bad
    all_cycles (t ∷ xs) (link, apart) =
        let cycle : InCycle g t = linked_behind t t xs link t (inl refl) in
        let r = line_of t cycle in (
          r.1,
          r.4,
          λ x. (
            (λ at. elim at [ inl is ↦ subst (λ k. IsIn k r.1) (sym is) r.3 | inr later ↦ round_behind r.0 r.1 r.2 x t r.3 (linked_after t t xs link x later) ]),
            (λ there. cycle_closed t xs link x t (inl refl) (round_all r.0 r.1 r.2 t x r.3 there)),
          ),
        )

    pub are_cycles : AreCycles g (cycles g count)
    are_cycles = record {
      each = λ ts c. let r = listed_is count ts c in lap_cycle r.0 ts r.2;
      every = λ o c. let r = line_of o c in (r.1, r.4, r.3);
      all = all_cycles;
      once = λ o ts us c d at there.
          let a = listed_is count ts c in
          let b = listed_is count us d in
          let up = lap_least b.0 b.0 us b.2 (omega arith) a.0 (round_behind b.0 us b.2 a.0 o there (lap_behind a.0 a.0 ts a.2 o at)) in
          let down = lap_least a.0 a.0 ts a.2 (omega arith) b.0 (round_behind a.0 ts a.2 b.0 o at (lap_behind b.0 b.0 us b.2 o there)) in
          let is : b.0 ≡ a.0 = omega arith in
          lap_one a.0 a.0 ts us a.2 (subst (λ k. IsLap k k us) is b.2);
    }

    -- The same as a list of exactly these.

    -- threads that are linked from the least of them on are its lap
    linked_lap : (first t : ℕ) (ts : List ℕ) → IsLinked g first (t ∷ ts) → ((x : ℕ) → IsIn x ts → first < x) → IsLap first t (t ∷ ts)
    linked_lap first t [] link above = last link
    linked_lap first t (u ∷ us) link above = more link.0 (above u (inl refl)) (linked_lap first u us link.1 (λ x at. above x (inr at)))

    least_lap : (t : ℕ) (ts : List ℕ) → IsCycle g (t ∷ ts) → IsFromLeast (t ∷ ts) → IsLap t t (t ∷ ts)
    least_lap t ts (link, (first_apart, apart)) least = linked_lap t t ts link (λ x at.
        let le : t ≤ x = least x (inr at) in
        elim (cases_eq x t) [ inl is ↦ absurd (first_apart (subst (λ k. IsIn k ts) is at)) | inr other ↦ omega arith ])

    least_listed : (ts : List ℕ) → IsCycle g ts × IsFromLeast ts → Contains (cycles g count) ts
    least_listed [] (bad, least) = absurd bad
    least_listed (t ∷ ts) (cycle, least) =
        let l = least_lap t ts cycle least in
        is_listed count t (t ∷ ts) (behind_inside t t (lap_behind t t (t ∷ ts) l t (lap_head t t (t ∷ ts) l))) l

    listed_least : (ts : List ℕ) → Contains (cycles g count) ts → IsCycle g ts × IsFromLeast ts
    listed_least ts c = let r = listed_is count ts c in lap_cycle r.0 ts r.2

    lap_from_head : (first t : ℕ) (ts : List ℕ) → IsLap first t ts → head_of ts ≡ t
    lap_from_head first t ts (last a) = refl
    lap_from_head first t ts (more a less l) = refl

    in_more : (xs : List (List ℕ)) (o : Option (List ℕ)) (y : ℕ) → IsIn y (map head_of (xs ++ none_or_one o))
        → IsIn y (map head_of xs) ⊎ ((ts : List ℕ) × (o ≡ Some ts) × (y ≡ head_of ts))
    in_more [] None y no_more = inl no_more
    in_more [] (Some ts) y (inl is) = inr (ts, refl, is)
    in_more [] (Some ts) y (inr no_more) = absurd no_more
    in_more (x ∷ xs) o y (inl is) = inl (inl is)
    in_more (x ∷ xs) o y (inr later) = elim (in_more xs o y later) [ inl there ↦ inl (inr there) | inr new ↦ inr new ]

    rising_more : (xs : List (List ℕ)) (o : Option (List ℕ)) (k : ℕ) → AreRising (map head_of xs) → ((y : ℕ) → IsIn y (map head_of xs) → y < k)
        → ((ts : List ℕ) → o ≡ Some ts → head_of ts ≡ k) → AreRising (map head_of (xs ++ none_or_one o))
    rising_more [] None k rising below top = tt
    rising_more [] (Some ts) k rising below top = ((λ y no_more. absurd no_more), tt)
    rising_more (x ∷ xs) o k (first, rest) below top = (
      (λ y at. elim (in_more xs o y at) [
        | inl there ↦ first y there
        | inr (ts, is, head) ↦
            let less : head_of x < k = below (head_of x) (inl refl) in
            let same : head_of ts ≡ k = top ts is in omega (arith, less, same, head)
      ]),
      rising_more xs o k rest (λ y at. below y (inr at)) top,
    )

    top_head : (k : ℕ) (ts : List ℕ) → lap g k count k ≡ Some ts → head_of ts ≡ k
    top_head k ts is = lap_from_head k k ts (lap_is k count k ts is)

    heads_below : (k y : ℕ) → IsIn y (map head_of (cycles_below g count k)) → y < k
    unfolding cycles_below
    heads_below zero y no_more = absurd no_more
    heads_below (suc k) y at = elim (in_more (cycles_below g count k) (lap g k count k) y at) [
      | inl old ↦ let less : y < k = heads_below k y old in omega arith
      | inr (ts, is, head) ↦ let same : head_of ts ≡ k = top_head k ts is in omega (arith, same, head)
    ]

    heads_rise : (k : ℕ) → AreRising (map head_of (cycles_below g count k))
    unfolding cycles_below
    heads_rise zero = tt
    heads_rise (suc k) = rising_more (cycles_below g count k) (lap g k count k) k (heads_rise k) (heads_below k) (top_head k)

    behind_itself : (o : ℕ) (ts : List ℕ) → Contains (cycles g count) ts → IsIn o ts → InCycle g o
    behind_itself o ts c at = let r = listed_is count ts c in round_all r.0 ts r.2 o o at at

    pub lists_cycles : ListsCycles g (cycles g count)
    lists_cycles = record {
      listed = λ ts. (listed_least ts, least_listed ts);
      rising = heads_rise count;
      every = λ o. ((λ c. are_cycles.every o c), (λ line. behind_itself o line.0 line.1 line.2));
    }

-- a blocking cycle stays one
pub cycle_list_stays : (g h : Graph) → IsFrame g h → (ts : List ℕ) → IsCycle g ts → IsCycle h ts
cycle_list_stays g h f [] bad = bad
cycle_list_stays g h f (t ∷ ts) (link, apart) = (links t ts link, apart)
  where
    first_waits : (x : Wait) × (g.waits t ≡ Some x)
    first_waits = behind_waits g t t (linked_behind g t t ts link t (inl refl))

    edge : (a b : ℕ) (x : Wait) → g.waits b ≡ Some x → IsAhead g a b → IsAhead h a b
    edge a b x is (w, waits, own) = (w, f.stays a b w waits own, f.owns w.lock b x own is)

    links : (a : ℕ) (us : List ℕ) → IsLinked g t (a ∷ us) → IsLinked h t (a ∷ us)
    links a [] l = edge a t first_waits.0 first_waits.1 l
    links a (u ∷ us) l =
        let next = behind_waits g t u (linked_behind g t u us l.1 u (inl refl)) in
        (edge a u next.0 next.1 l.0, links u us l.1)
