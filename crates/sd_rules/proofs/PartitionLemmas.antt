-- What a valid workload's partitions are.
use Rattle.std.proofs.Common.{◌≡◌, ◌≢◌, ℕ, zero, suc, ◌+◌, ◌<◌, ◌≤◌, Bool, true, false, not, ◌||◌, List, [], ◌∷◌, ◌++◌, length, map, filter, get_or, ◌⊎◌, inl, inr, Some, refl, sym, ap, ◌∙◌, subst, arith, append-nil, slice_get, nat_lt, ◌==◌, Contains}
use Rattle.std.specs.List.{list_any, list_all, range_with_len}
use Rattle.std.proofs.lemmas.Bool.{eq-eqb, eqb-true, cases_eq, false≢true, cases_Bool}
use Rattle.std.proofs.lemmas.Bool.Decides.{nat_tests}
use Rattle.std.proofs.lemmas.List.{map-append}
use Rattle.std.proofs.lemmas.List.Elements.{filter-append}
use Rattle.std.proofs.lemmas.Option.{slice_get_cases, same_Some}
use Rattle.sd_basics.proofs.Ranges.{range_more}
use Rattle.sd_basics.proofs.Lists.{all_at}
use Rattle.sd_types.specs.declared.numbers.CpuId.{CpuId}
use Rattle.sd_types.specs.declared.names.Name.{Name}
use Rattle.sd_types.specs.declared.works.Work.{Work}
use Rattle.sd_types.specs.Works.{same_cpu, is_distinct, set_cpus, set_fits}
use Rattle.sd_types.specs.Partitions.{set_naming, set_of_cpu, cpus_of_set, cpu_of_number}
use Rattle.sd_rules.specs.Lists.{is_rising}
use Rattle.sd_types.proofs.SameLemmas.{same_cpu as same_number}

abbrev names : ℕ → List CpuId → Bool
names c cpus = list_any (λ d. d.0 == c) cpus

-- ---- the numbers of sets

pub set_naming-named : (c n : ℕ) (s : Name × List CpuId) (ss : List (Name × List CpuId)) → names c s.1 ≡ true → set_naming c n (s ∷ ss) ≡ n
set_naming-named c n s ss h = rw h refl

pub set_naming-other : (c n : ℕ) (s : Name × List CpuId) (ss : List (Name × List CpuId)) → names c s.1 ≡ false → set_naming c n (s ∷ ss) ≡ set_naming c (n + 1) ss
set_naming-other c n s ss h = rw h refl

-- at most the number of the last set
pub set_naming-most : (c n : ℕ) (sets : List (Name × List CpuId)) → set_naming c (n + 1) sets ≤ n + length sets
set_naming-most c n [] = omega arith
set_naming-most c n (s ∷ ss) = elim (cases_Bool (names c s.1)) [
  | inl h ↦ rw (set_naming-named c (n + 1) s ss h) (omega arith)
  | inr h ↦ rw (set_naming-other c (n + 1) s ss h) (omega (arith, set_naming-most c (n + 1) ss))
]

names-append : (c : ℕ) (xs ys : List CpuId) → names c (xs ++ ys) ≡ (names c xs || names c ys)
names-append c [] ys = refl
names-append c (x ∷ xs) ys = grind (arith, nat_tests, names-append c xs ys)

-- a processor that no set names is in the default partition
pub set_naming-none : (c n : ℕ) (sets : List (Name × List CpuId)) → names c (set_cpus sets) ≡ false → set_naming c n sets ≡ 0
set_naming-none c n [] h = refl
set_naming-none c n (s ∷ ss) h =
    let e = names-append c s.1 (set_cpus ss) in
    let here : names c s.1 ≡ false = grind (arith, nat_tests) in
    let rest : names c (set_cpus ss) ≡ false = grind (arith, nat_tests) in
    set_naming-other c n s ss here ∙ set_naming-none c (n + 1) ss rest

-- the two ways to compare processors agree
same-names : (x : CpuId) (zs : List CpuId) → list_any (same_cpu x) zs ≡ names x.0 zs
same-names x [] = refl
same-names x (z ∷ zs) = let r = same-names x zs in grind (arith, nat_tests)

-- of lists whose processors differ at most one names a processor
apart : (c : ℕ) (xs ys : List CpuId) → is_distinct same_cpu (xs ++ ys) ≡ true → names c ys ≡ true → names c xs ≡ false
apart c [] ys d h = refl
apart c (x ∷ xs) ys d h = elim (cases_eq x.0 c) [
  | inl e ↦
      let found : list_any (same_cpu x) (xs ++ ys) ≡ names c (xs ++ ys) = subst (λ (n : ℕ). list_any (same_cpu x) (xs ++ ys) ≡ names n (xs ++ ys)) e (same-names x (xs ++ ys)) in
      let both = names-append c xs ys in
      grind (arith, nat_tests)
  | inr e ↦
      let rest : is_distinct same_cpu (xs ++ ys) ≡ true = grind (arith, nat_tests) in
      let r = apart c xs ys rest h in
      grind (arith, nat_tests)
]

distinct-rest : (xs ys : List CpuId) → is_distinct same_cpu (xs ++ ys) ≡ true → is_distinct same_cpu ys ≡ true
distinct-rest [] ys d = d
distinct-rest (x ∷ xs) ys d = let rest : is_distinct same_cpu (xs ++ ys) ≡ true = grind (arith, nat_tests) in distinct-rest xs ys rest

-- a set that names a processor is among the sets
names-set : (c i : ℕ) (sets : List (Name × List CpuId)) (s : Name × List CpuId) → slice_get sets i ≡ Some s → names c s.1 ≡ true → names c (set_cpus sets) ≡ true
names-set c i [] s e h = absurd cc
names-set c zero (t ∷ ts) s e h =
    let same = same_Some t s e in
    let here = subst (λ (x : Name × List CpuId). names c x.1 ≡ true) (sym same) h in
    let both = names-append c t.1 (set_cpus ts) in
    grind (arith, nat_tests)
names-set c (suc i) (t ∷ ts) s e h = let rest = names-set c i ts s e h in let a = names-append c t.1 (set_cpus ts) in grind (arith, nat_tests)

-- the number of the set that names a processor
pub set_naming-at : (c n i : ℕ) (sets : List (Name × List CpuId)) (s : Name × List CpuId) → is_distinct same_cpu (set_cpus sets) ≡ true
    → slice_get sets i ≡ Some s → names c s.1 ≡ true → set_naming c n sets ≡ n + i
set_naming-at c n i [] s d e h = absurd cc
set_naming-at c n zero (t ∷ ts) s d e h =
    let here = subst (λ (x : Name × List CpuId). names c x.1 ≡ true) (sym (same_Some t s e)) h in
    set_naming-named c n t ts here ∙ omega arith
set_naming-at c n (suc i) (t ∷ ts) s d e h =
    set_naming-other c n t ts (apart c t.1 (set_cpus ts) d (names-set c i ts s e h))
    ∙ set_naming-at c (n + 1) i ts s (distinct-rest t.1 (set_cpus ts) d) e h ∙ omega arith

-- 0, or the number of one of the sets
set_naming-least : (c n : ℕ) (sets : List (Name × List CpuId)) → (set_naming c n sets ≡ 0) ⊎ (n ≤ set_naming c n sets)
set_naming-least c n [] = inl refl
set_naming-least c n (s ∷ ss) = elim (cases_Bool (names c s.1)) [
  | inl h ↦ let e = set_naming-named c n s ss h in inr (omega arith)
  | inr h ↦ let e = set_naming-other c n s ss h in elim (set_naming-least c (n + 1) ss) [ inl none ↦ inl (e ∙ none) | inr some ↦ inr (omega arith) ]
]

-- the set of that number names the processor
pub named-at : (c n i : ℕ) (sets : List (Name × List CpuId)) (s : Name × List CpuId) → 0 < n → slice_get sets i ≡ Some s → set_naming c n sets ≡ n + i → names c s.1 ≡ true
named-at c n i [] s p e h = absurd cc
named-at c n zero (t ∷ ts) s p e h = elim (cases_Bool (names c t.1)) [
  | inl here ↦ subst (λ (x : Name × List CpuId). names c x.1 ≡ true) (same_Some t s e) here
  | inr other ↦
      let next = set_naming-other c n t ts other in
      elim (set_naming-least c (n + 1) ts) [ inl none ↦ absurd (omega arith) | inr some ↦ absurd (omega arith) ]
]
named-at c n (suc i) (t ∷ ts) s p e h = elim (cases_Bool (names c t.1)) [
  | inl here ↦ let first = set_naming-named c n t ts here in absurd (omega arith)
  | inr other ↦ let next = set_naming-other c n t ts other in named-at c (n + 1) i ts s (omega arith) e (omega arith)
]

-- ---- more numbers than processors

covers : ℕ → List CpuId → Type 0
covers n xs = (c : ℕ) → c < n → names c xs ≡ true

without : ℕ → List CpuId → List CpuId
without c xs = filter (λ d. not (d.0 == c)) xs

names-without : (c m : ℕ) (xs : List CpuId) → c ≢ m → names c xs ≡ true → names c (without m xs) ≡ true
unfolding without
names-without c m [] ne h = h
names-without c m (x ∷ xs) ne h = elim (cases_eq x.0 m) [
  | inl e ↦ let rest : names c xs ≡ true = grind (arith, nat_tests) in let r = names-without c m xs ne rest in grind (arith, nat_tests)
  | inr e ↦ elim (cases_eq x.0 c) [
    | inl same ↦ grind (arith, nat_tests)
    | inr other ↦ let rest : names c xs ≡ true = grind (arith, nat_tests) in let r = names-without c m xs ne rest in grind (arith, nat_tests)
  ]
]

length-without_le : (m : ℕ) (xs : List CpuId) → length (without m xs) ≤ length xs
unfolding without
length-without_le m [] = omega arith
length-without_le m (x ∷ xs) = let r = length-without_le m xs in grind (arith, nat_tests)

length-without : (m : ℕ) (xs : List CpuId) → names m xs ≡ true → length (without m xs) < length xs
unfolding without
length-without m [] h = absurd (false≢true h)
length-without m (x ∷ xs) h = elim (cases_eq x.0 m) [
  | inl e ↦ let r = length-without_le m xs in grind (arith, nat_tests)
  | inr e ↦ let rest : names m xs ≡ true = grind (arith, nat_tests) in let r = length-without m xs rest in grind (arith, nat_tests)
]

covers_most : (n : ℕ) (xs : List CpuId) → covers n xs → n ≤ length xs
unfolding covers
covers_most zero xs h = omega arith
covers_most (suc n) xs h =
    let less = length-without n xs (h n (omega arith)) in
    let r = covers_most n (without n xs) (λ c k. names-without c n xs (λ e. omega arith) (h c (omega arith))) in
    omega arith

find_missing : (n : ℕ) (xs : List CpuId) → covers n xs ⊎ ((c : ℕ) × (c < n) × (names c xs ≡ false))
unfolding covers
find_missing zero xs = inl (λ c h. absurd (omega arith))
find_missing (suc n) xs = elim (find_missing n xs) [
  | inr w ↦ inr (w.0, omega arith, w.2)
  | inl all ↦ elim (cases_Bool (names n xs)) [
    | inr h ↦ inr (n, omega arith, h)
    | inl h ↦ inl (λ c k. elim (cases_eq c n) [ inl e ↦ subst (λ (x : ℕ). names x xs ≡ true) (sym e) h | inr e ↦ all c (omega arith) ])
  ]
]

-- a list with fewer items than numbers leaves one out
pub missing : (n : ℕ) (xs : List CpuId) → length xs < n → (c : ℕ) × (c < n) × (names c xs ≡ false)
missing n xs short = elim (find_missing n xs) [
  | inl all ↦ absurd (omega (arith, covers_most n xs all))
  | inr w ↦ w
]

-- ---- the processors of a set

-- numbers in rising order from a on
all_above : (c n a : ℕ) (p : ℕ → Bool) → c < a → list_all (λ d. nat_lt c d.0) (map cpu_of_number (filter p (range_with_len a n))) ≡ true
all_above c zero a p h = refl
all_above c (suc n) a p h = let r = all_above c n (a + 1) p (omega arith) in grind (arith, nat_tests)

pub rising : (n a : ℕ) (p : ℕ → Bool) → is_rising (map cpu_of_number (filter p (range_with_len a n))) ≡ true
rising zero a p = refl
rising (suc n) a p = let r = rising n (a + 1) p in let s = all_above a n (a + 1) p (omega arith) in grind (arith, nat_tests)

least : (a c : ℕ) (p : ℕ → Bool) → a ≤ c → p a ≡ false → p c ≡ true → a + 1 ≤ c
least a c p l fails passes = elim (cases_eq a c) [
  | inl e ↦ absurd (false≢true (sym fails ∙ ap p e ∙ passes))
  | inr ne ↦ omega arith
]

pub some_passes : (n a c : ℕ) (p : ℕ → Bool) → a ≤ c → c < a + n → p c ≡ true → 0 < length (map cpu_of_number (filter p (range_with_len a n)))
some_passes zero a c p l h t = absurd (omega arith)
some_passes (suc n) a c p l h t = elim (cases_Bool (p a)) [
  | inl pa ↦ rw pa (omega arith)
  | inr pa ↦ rw pa (some_passes n (a + 1) c p (least a c p l pa t) (omega arith) t)
]

-- a number that passes is among them
pub names-passing : (n a c : ℕ) (p : ℕ → Bool) → a ≤ c → c < a + n → p c ≡ true → names c (map cpu_of_number (filter p (range_with_len a n))) ≡ true
names-passing zero a c p l h t = absurd (omega arith)
names-passing (suc n) a c p l h t = elim (cases_eq a c) [
  | inl e ↦ let pa : p a ≡ true = subst (λ (x : ℕ). p x ≡ true) (sym e) t in rw pa (grind (arith, nat_tests))
  | inr ne ↦ let r = names-passing n (a + 1) c p (omega arith) (omega arith) t in
      elim (cases_Bool (p a)) [ inl pa ↦ rw pa (grind (arith, nat_tests)) | inr pa ↦ rw pa r ]
]

-- and no other number
pub passing-named : (n a c : ℕ) (p : ℕ → Bool) → names c (map cpu_of_number (filter p (range_with_len a n))) ≡ true → (a ≤ c) × (c < a + n) × (p c ≡ true)
passing-named zero a c p h = absurd (false≢true h)
passing-named (suc n) a c p h = elim (cases_Bool (p a)) [
  | inl pa ↦ elim (cases_eq a c) [
    | inl e ↦ (omega arith, omega arith, subst (λ (x : ℕ). p x ≡ true) e pa)
    | inr ne ↦
        let h' : names c (cpu_of_number a ∷ map cpu_of_number (filter p (range_with_len (a + 1) n))) ≡ true = rw pa at h in
        let rest : names c (map cpu_of_number (filter p (range_with_len (a + 1) n))) ≡ true = grind (arith, nat_tests) in
        let r = passing-named n (a + 1) c p rest in
        (omega arith, omega arith, r.2)
  ]
  | inr pa ↦
      let rest : names c (map cpu_of_number (filter p (range_with_len (a + 1) n))) ≡ true = rw pa at h in
      let r = passing-named n (a + 1) c p rest in
      (omega arith, omega arith, r.2)
]

-- ---- membership by index and by test

pub Contains-from_names : (c : CpuId) (cpus : List CpuId) → names c.0 cpus ≡ true → Contains cpus c
Contains-from_names c [] h = absurd (false≢true h)
Contains-from_names c (d ∷ ds) h = elim (cases_eq d.0 c.0) [
  | inl same ↦ (0, omega arith, same_number d c same)
  | inr other ↦
      let rest : names c.0 ds ≡ true = grind (arith, nat_tests) in
      let w = Contains-from_names c ds rest in
      (suc w.0, omega arith, w.2)
]

names-at : (c : CpuId) (cpus : List CpuId) (i : ℕ) → i < length cpus → get_or cpus i c ≡ c → names c.0 cpus ≡ true
names-at c [] i h e = absurd (omega arith)
names-at c (d ∷ ds) zero h e = let same = ap (λ (x : CpuId). x.0) e in grind (arith, nat_tests)
names-at c (d ∷ ds) (suc i) h e = let r = names-at c ds i (omega arith) e in grind (arith, nat_tests)

pub names-from_Contains : (c : CpuId) (cpus : List CpuId) → Contains cpus c → names c.0 cpus ≡ true
names-from_Contains c cpus (i, h, e) = names-at c cpus i h e

-- ---- a workload's partitions

-- a set that fits names one of the workload's processors
first_named : (cpus : ℕ) (s : Name × List CpuId) → set_fits cpus s ≡ true → (c : ℕ) × (c < cpus) × (names c s.1 ≡ true)
first_named cpus (name, []) h = absurd (false≢true h)
first_named cpus (name, c ∷ cs) h = (c.0, grind (arith, nat_tests), grind (arith, nat_tests))

pub set-partition : (w : Work) (i : ℕ) (set : Name × List CpuId) (c : CpuId) → slice_get w.sets i ≡ Some set → names c.0 set.1 ≡ true → set_of_cpu w c.0 ≡ i + 1
set-partition w i set c e h = set_naming-at c.0 1 i w.sets set w.cpus_differ e h ∙ omega arith

pub partition-set : (w : Work) (i : ℕ) (set : Name × List CpuId) (c : CpuId) → slice_get w.sets i ≡ Some set → set_of_cpu w c.0 ≡ i + 1 → names c.0 set.1 ≡ true
partition-set w i set c e h = named-at c.0 1 i w.sets set (omega arith) e (h ∙ omega arith)

pub some_cpu : (w : Work) (p : ℕ) → p ≤ length w.sets → 0 < length (cpus_of_set w p)
some_cpu w zero h =
    let m = missing w.cpus (set_cpus w.sets) w.cpu_left in
    some_passes w.cpus 0 m.0 (λ c. set_of_cpu w c == 0) (omega arith) (omega arith) (eq-eqb _ 0 (set_naming-none m.0 1 w.sets m.2))
some_cpu w (suc i) h = elim (slice_get_cases w.sets i).1 [
  | inl s ↦
      let c = first_named w.cpus s.0 (all_at (set_fits w.cpus) w.sets i s.0 w.sets_fit s.2) in
      let e = set_naming-at c.0 1 i w.sets s.0 w.cpus_differ s.2 c.2 in
      some_passes w.cpus 0 c.0 (λ x. set_of_cpu w x == suc i) (omega arith) (omega arith) (eq-eqb _ (suc i) (omega arith))
  | inr past ↦ absurd (omega arith)
]

pub rising_cpus : (w : Work) (p : ℕ) → is_rising (cpus_of_set w p) ≡ true
rising_cpus w p = rising w.cpus 0 (λ c. set_of_cpu w c == p)

pub set-at_most : (w : Work) (c : ℕ) → set_of_cpu w c ≤ length w.sets
set-at_most w c = omega (arith, set_naming-most c 0 w.sets)

pub in_its_set : (w : Work) (c : CpuId) (p : ℕ) → (c.0 < w.cpus) × (set_of_cpu w c.0 ≡ p) → Contains (cpus_of_set w p) c
in_its_set w c p (within, e) =
    Contains-from_names c (cpus_of_set w p) (names-passing w.cpus 0 c.0 (λ x. set_of_cpu w x == p) (omega arith) (omega arith) (eq-eqb _ p e))

pub in_no_other : (w : Work) (c : CpuId) (p : ℕ) → Contains (cpus_of_set w p) c → (c.0 < w.cpus) × (set_of_cpu w c.0 ≡ p)
in_no_other w c p h =
    let f = passing-named w.cpus 0 c.0 (λ x. set_of_cpu w x == p) (names-from_Contains c (cpus_of_set w p) h) in
    (omega arith, eqb-true _ p f.2)

-- ---- one more number

-- one more processor that is in the set
pub passing-more_in : (n : ℕ) (p : ℕ → Bool) → p n ≡ true → map cpu_of_number (filter p (range_with_len 0 (n + 1))) ≡ map cpu_of_number (filter p (range_with_len 0 n)) ++ cpu_of_number n ∷ []
passing-more_in n p h = rw (range_more n, filter-append, map-append, h) refl

-- and one that is not
pub passing-more_out : (n : ℕ) (p : ℕ → Bool) → p n ≡ false → map cpu_of_number (filter p (range_with_len 0 (n + 1))) ≡ map cpu_of_number (filter p (range_with_len 0 n))
passing-more_out n p h = rw (range_more n, filter-append, map-append, h, append-nil) refl
