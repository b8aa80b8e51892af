-- Lists of items that tell a rank, a key and an id, and the orders in which queues of threads stand.
-- Every word takes the functions that it reads from an item, so that it serves items of every type.
-- Source: Solaris Internals, dispatch queues, sleep queues and turnstiles. Keys are this project's own.
use Rattle.std.specs.Prelude.{◌≡◌, ℕ, ℤ, Bool, true, false, ◌&&◌, ◌||◌, ◌==◌, nat_lt, int_lt, if◌then◌else◌, List, [], ◌∷◌, Option, Some, None}
use Rattle.std.specs.List.{Contains}
use Rattle.std.specs.Ordering.{int_eq}

-- x goes before the first item that passes the test p, and at the back where none does
abbrev pub insert_before : {X : Type 0} → (X → Bool) → X → List X → List X
insert_before p x [] = x ∷ []
insert_before p x (y ∷ ys) = if p y then (x ∷ (y ∷ ys)) else (y ∷ insert_before p x ys)

-- by rank and key: the greater rank first, and of equal ranks the smaller key
abbrev pub precedes : {X : Type 0} → (X → ℕ) → (X → ℤ) → X → X → Bool
precedes rank key x y = nat_lt (rank y) (rank x) || ((rank x == rank y) && int_lt (key x) (key y))

-- by key alone, whatever the ranks: the smaller key first
abbrev pub precedes_by_key : {X : Type 0} → (X → ℤ) → X → X → Bool
precedes_by_key key x y = int_lt (key x) (key y)

-- by key and id, whatever the ranks: the smaller key first, and of equal keys the smaller id
abbrev pub precedes_keyed : {X : Type 0} → (X → ℤ) → (X → ℕ) → X → X → Bool
precedes_keyed key id x y = int_lt (key x) (key y) || (int_eq (key x) (key y) && nat_lt (id x) (id y))

-- x before the first item that it precedes by rank and key
abbrev pub insert_ranked : {X : Type 0} → (X → ℕ) → (X → ℤ) → X → List X → List X
insert_ranked rank key x ys = insert_before (precedes rank key x) x ys

-- x before the first item that it precedes by key alone
abbrev pub insert_by_key : {X : Type 0} → (X → ℤ) → X → List X → List X
insert_by_key key x ys = insert_before (precedes_by_key key x) x ys

-- x before the first item that it precedes by key and id
abbrev pub insert_keyed : {X : Type 0} → (X → ℤ) → (X → ℕ) → X → List X → List X
insert_keyed key id x ys = insert_before (precedes_keyed key id x) x ys

-- the first item that passes the test p
abbrev pub find_first : {X : Type 0} → (X → Bool) → List X → Option X
find_first p [] = None
find_first p (x ∷ xs) = if p x then Some x else find_first p xs

-- the list without that item
abbrev pub drop_first : {X : Type 0} → (X → Bool) → List X → List X
drop_first p [] = []
drop_first p (x ∷ xs) = if p x then xs else (x ∷ drop_first p xs)

-- the list with y at the index of that item
abbrev pub replace_first : {X : Type 0} → (X → Bool) → X → List X → List X
replace_first p y [] = []
replace_first p y (x ∷ xs) = if p x then (y ∷ xs) else (x ∷ replace_first p y xs)

-- the first item with the id n, and the list without it
abbrev pub find_id : {X : Type 0} → (X → ℕ) → ℕ → List X → Option X
find_id id n xs = find_first (λ x. id x == n) xs

abbrev pub drop_id : {X : Type 0} → (X → ℕ) → ℕ → List X → List X
drop_id id n xs = drop_first (λ x. id x == n) xs

-- the list with y at the index of the first item with the id n
abbrev pub replace_id : {X : Type 0} → (X → ℕ) → ℕ → X → List X → List X
replace_id id n y xs = replace_first (λ x. id x == n) y xs

-- two items of one rank, key and id
abbrev pub IsAlike : {X : Type 0} → (X → ℕ) → (X → ℤ) → (X → ℕ) → X → X → Type 0
IsAlike rank key id x y = (rank x ≡ rank y) × (key x ≡ key y) × (id x ≡ id y)

-- the first item with a key smaller than k, and the list without it
abbrev pub find_below : {X : Type 0} → (X → ℤ) → ℤ → List X → Option X
find_below key k xs = find_first (λ x. int_lt (key x) k) xs

abbrev pub drop_below : {X : Type 0} → (X → ℤ) → ℤ → List X → List X
drop_below key k xs = drop_first (λ x. int_lt (key x) k) xs

-- each item fails the test
abbrev pub IsNowhere : {X : Type 0} → (X → Bool) → List X → Type 0
IsNowhere p [] = Unit {0}
IsNowhere p (x ∷ xs) = (p x ≡ false) × IsNowhere p xs

-- no item precedes one that stands before it
abbrev pub IsInOrder : {X : Type 0} → (X → X → Bool) → List X → Type 0
IsInOrder before [] = Unit {0}
IsInOrder before (x ∷ xs) = IsNowhere (λ y. before y x) xs × IsInOrder before xs

-- the order of dispatch queues, sleep queues and turnstiles
abbrev pub IsRanked : {X : Type 0} → (X → ℕ) → (X → ℤ) → List X → Type 0
IsRanked rank key xs = IsInOrder (precedes rank key) xs

-- the order of nappers
abbrev pub IsKeyed : {X : Type 0} → (X → ℤ) → (X → ℕ) → List X → Type 0
IsKeyed key id xs = IsInOrder (precedes_keyed key id) xs

-- x is one of the items and passes the test, and no item that passes it precedes x
abbrev pub IsBest : {X : Type 0} → (X → Bool) → (X → X → Bool) → X → List X → Type 0
IsBest p before x xs = Contains xs x × (p x ≡ true) × IsNowhere (λ y. p y && before y x) xs
