-- Whose the rows of a picture are, and who comes first.
use Rattle.std.proofs.Common.{◌≡◌, ℕ, zero, suc, ◌+◌, ◌<◌, ◌≤◌, Bool, true, false, cond, eqb, leb, List, [], ◌∷◌, ◌++◌, length, take, drop, get_or, refl, sym, ap, subst, ◌∙◌, arith, ◌⊎◌, inl, inr}
use Rattle.std.specs.Prelude.{filter, not, min}
use Rattle.std.specs.List.{All, AllByRecursion, Contains, IsDistinct, range_with_len}
use Rattle.std.specs.List.Sorted.{IsPermutation}
use Rattle.std.proofs.lemmas.Bool.Decides.{nat_tests}
use Rattle.std.proofs.lemmas.List.{length-take, take-append-drop, take-append-le}
use Rattle.std.proofs.lemmas.List.Elements.{All-take, Contains-append_cases, Contains-append_left, filter-append, filter_passes}
use Rattle.std.proofs.lemmas.List.FromFn.{get_or-range_with_len, length-range_with_len}
use Rattle.std.proofs.lemmas.List.Sorted.{All-permutation, Contains-permutation, IsPermutation-filter_both, length_permutation}
use Rattle.std.proofs.lemmas.Map.Keys.{IsDistinct-IsPermutation}
use Rattle.std.proofs.Math.Seq.{take-append-add}
use Rattle.sd_basics.proofs.Ranges.{range_more}
use Rattle.sd_basics.proofs.Truths.{either}
use Rattle.sd_types.specs.declared.works.Work.{Work}
use Rattle.sd_stretches.specs.declared.histories.History.{History}
use Rattle.sd_layout.specs.declared.frames.Frame.{Frame}
use Rattle.sd_state.specs.States.{thread_numbers}
use Rattle.sd_layout.specs.Rows.{ActingThreadsComeFirst, AllRowsAreOwn, acts, ordered, rows_of}

-- ---- numbers in a row differ

differs : (a b : ℕ) → a < b → eqb a b ≡ false
differs a b h = grind (arith, nat_tests)

same_way : (a b : ℕ) → eqb a b ≡ eqb b a
same_way a b = grind (arith, nat_tests)

apart : (a b n : ℕ) → a < b → AllByRecursion (λ y. eqb a y ≡ false) (range_with_len b n)
apart a b zero h = tt
apart a b (suc n) h = (differs a b h, apart a (b + 1) n (omega (arith, h)))

distinct_range : (a n : ℕ) → IsDistinct eqb (range_with_len a n)
unfolding IsDistinct
distinct_range a zero = tt
distinct_range a (suc n) = (apart a (a + 1) n (omega arith), distinct_range (a + 1) n)

all_take : {X : Type 0} (P : X → Type 0) (n : ℕ) (xs : List X) → AllByRecursion P xs → AllByRecursion P (take n xs)
all_take P zero xs h = tt
all_take P (suc n) [] h = tt
all_take P (suc n) (x ∷ xs) h = (h.0, all_take P n xs h.1)

distinct_take : (n : ℕ) (xs : List ℕ) → IsDistinct eqb xs → IsDistinct eqb (take n xs)
unfolding IsDistinct
distinct_take zero xs h = tt
distinct_take (suc n) [] h = tt
distinct_take (suc n) (x ∷ xs) h = (all_take (λ y. eqb x y ≡ false) n xs h.0, distinct_take n xs h.1)

-- ---- a range, and one number more

pub range_grown : (n : ℕ) (old new : List ℕ) → old ≡ range_with_len 0 n → new ≡ old ++ n ∷ [] → new ≡ range_with_len 0 (n + 1)
range_grown n old new so_far more = more ∙ ap (λ (xs : List ℕ). xs ++ n ∷ []) so_far ∙ sym (range_more n)

pub filter_grown : (p : ℕ → Bool) (n : ℕ) (b : Bool) (old new : List ℕ) → b ≡ p n → old ≡ filter p (range_with_len 0 n) → new ≡ old ++ cond b (n ∷ []) []
    → new ≡ filter p (range_with_len 0 (n + 1))
filter_grown p n b old new is so_far more =
    more ∙ ap (λ (c : Bool). old ++ cond c (n ∷ []) []) is ∙ ap (λ (xs : List ℕ). xs ++ filter p (n ∷ [])) so_far
    ∙ sym (filter-append p (range_with_len 0 n) (n ∷ [])) ∙ ap (filter p) (sym (range_more n))

-- ---- those that come first, and the others

permutes : (p : ℕ → Bool) (ts : List ℕ) → IsPermutation ts (ordered p ts)
permutes p ts = IsPermutation-filter_both p (λ t. not (p t)) (λ t. refl) ts

nothing_added : (k : ℕ) → 0 + k ≡ k
nothing_added k = omega arith

below : (n : ℕ) → All (λ t. t < n) (range_with_len 0 n)
below n k d h =
    let inside : k < n = subst (λ m. k < m) (length-range_with_len 0 n) h in
    let is : get_or (range_with_len 0 n) k d ≡ k = get_or-range_with_len 0 n k d inside ∙ nothing_added k in
    subst (λ t. t < n) (sym is) inside

threads : (w : Work) (f : Frame) (h : History) → All (λ t. t < length w.threads) (rows_of w f h)
unfolding rows_of
threads w f h =
    let n = length w.threads in
    let all = thread_numbers w in
    let own = ordered (acts w f h) all in
    either (All (λ t. t < n)) (leb n f.threads) all (take f.threads own) (below n)
    (All-take (λ t. t < n) f.threads own (All-permutation (λ t. t < n) all own (permutes (acts w f h) all) (below n)))

distinct : (w : Work) (f : Frame) (h : History) → IsDistinct eqb (rows_of w f h)
unfolding rows_of
distinct w f h =
    let n = length w.threads in
    let all = thread_numbers w in
    let own = ordered (acts w f h) all in
    either (IsDistinct eqb) (leb n f.threads) all (take f.threads own) (distinct_range 0 n)
    (distinct_take f.threads own (IsDistinct-IsPermutation eqb same_way all own (permutes (acts w f h) all) (distinct_range 0 n)))

room_by : (b : Bool) (n m : ℕ) (xs ys : List ℕ) → leb n m ≡ b → length xs ≡ n → length ys ≡ n → length (cond b xs (take m ys)) ≡ min m n
room_by true n m xs ys fits p q = p ∙ grind (arith, nat_tests)
room_by false n m xs ys fits p q = length-take m ys ∙ ap (min m) q

room : (w : Work) (f : Frame) (h : History) → length (rows_of w f h) ≡ min f.threads (length w.threads)
unfolding rows_of
room w f h =
    let n = length w.threads in
    let all = thread_numbers w in
    let own = ordered (acts w f h) all in
    let many : length all ≡ n = length-range_with_len 0 n in
    room_by (leb n f.threads) n f.threads all own refl many (length_permutation all own (permutes (acts w f h) all) ∙ many)

pub all_own : AllRowsAreOwn
all_own w f h = record { threads = threads w f h; distinct = distinct w f h; room = room w f h }

-- ---- who comes first

contains_take : (n : ℕ) (xs : List ℕ) (x : ℕ) → Contains (take n xs) x → Contains xs x
contains_take n xs x h = subst (λ ys. Contains ys x) (take-append-drop n xs) (Contains-append_left (take n xs) (drop n xs) x h)

of_all : (P : ℕ → Type 0) (xs : List ℕ) (x : ℕ) → All P xs → Contains xs x → P x
of_all P xs x h (k, inside, is) = subst P is (h k x inside)

passes : (p : ℕ → Bool) (xs : List ℕ) (x : ℕ) → Contains (filter p xs) x → p x ≡ true
passes p xs x h = of_all (λ y. p y ≡ true) (filter p xs) x (filter_passes p xs) h

no_other : (b : Bool) → b ≡ true → not b ≡ true → ⊥
no_other b good bad = grind arith

neither : (b : Bool) → b ≡ true → b ≡ false → ⊥
neither b good bad = grind arith

-- who passes is among those that come first
kept_by : (p : ℕ → Bool) (xs : List ℕ) (x : ℕ) → p x ≡ true → Contains (filter p xs) x ⊎ Contains (filter (λ t. not (p t)) xs) x → Contains (filter p xs) x
kept_by p xs x good (inl h) = h
kept_by p xs x good (inr h) = absurd (no_other (p x) good (passes (λ t. not (p t)) xs x h))

kept : (p : ℕ → Bool) (xs : List ℕ) (x : ℕ) → p x ≡ true → Contains xs x → Contains (filter p xs) x
kept p xs x good h =
    let others = filter (λ t. not (p t)) xs in
    kept_by p xs x good (Contains-append_cases (filter p xs) others x (Contains-permutation xs (ordered p xs) x (permutes p xs) h))

-- n of them are at most the first m, or those and k others
room_step : (n m : ℕ) → (n ≤ m) ⊎ ((k : ℕ) × (n ≡ m + k)) → (suc n ≤ suc m) ⊎ ((k : ℕ) × (suc n ≡ suc m + k))
room_step n m (inl h) = inl (omega (arith, h))
room_step n m (inr (k, h)) = inr (k, omega (arith, h))

room_for : (n m : ℕ) → (n ≤ m) ⊎ ((k : ℕ) × (n ≡ m + k))
room_for zero m = inl (omega arith)
room_for (suc n) zero = inr (suc n, sym (nothing_added (suc n)))
room_for (suc n) (suc m) = room_step n m (room_for n m)

first_by : (p : ℕ → Bool) (n : ℕ) (xs : List ℕ) (t u : ℕ) → p t ≡ false → p u ≡ true → Contains xs u → Contains (take n (ordered p xs)) t
    → (n ≤ length (filter p xs)) ⊎ ((k : ℕ) × (n ≡ length (filter p xs) + k)) → Contains (take n (ordered p xs)) u
first_by p n xs t u bad good inside row (inl few) =
    let first = filter p xs in
    let others = filter (λ s. not (p s)) xs in
    let among : Contains (take n first) t = subst (λ ys. Contains ys t) (take-append-le n first others few) row in
    absurd (neither (p t) (passes p xs t (contains_take n first t among)) bad)
first_by p n xs t u bad good inside row (inr (k, many)) =
    let first = filter p xs in
    let others = filter (λ s. not (p s)) xs in
    let all : first ++ take k others ≡ take n (first ++ others) = sym (ap (λ m. take m (first ++ others)) many ∙ take-append-add first others k) in
    subst (λ ys. Contains ys u) all (Contains-append_left first (take k others) u (kept p xs u good inside))

inside_all : (n u : ℕ) → u < n → Contains (range_with_len 0 n) u
inside_all n u h = (u, subst (λ m. u < m) (sym (length-range_with_len 0 n)) h, get_or-range_with_len 0 n u u h ∙ nothing_added u)

first_if : (b : Bool) (xs ys : List ℕ) (t u : ℕ) → Contains xs u → (Contains ys t → Contains ys u) → Contains (cond b xs ys) t → Contains (cond b xs ys) u
first_if true xs ys t u all first row = all
first_if false xs ys t u all first row = first row

pub acting_first : ActingThreadsComeFirst
unfolding rows_of
acting_first w f h t u inside bad good row =
    let n = length w.threads in
    let all = thread_numbers w in
    let p = acts w f h in
    first_if (leb n f.threads) all (take f.threads (ordered p all)) t u (inside_all n u inside)
    (λ r. first_by p f.threads all t u bad good (inside_all n u inside) r (room_for f.threads (length (filter p all)))) row
