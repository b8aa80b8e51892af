-- The numbers of a row that lie in the ranges of their columns.
use Rattle.std.proofs.Common.{◌≡◌, ℕ, ◌<◌, ◌≤◌, zero, suc, get_or, Bool, true, ◌&&◌, nat_eq, List, [], ◌∷◌, length, map, slice_index, refl, ap, ◌∙◌, arith, eq-eqb}
use Rattle.std.specs.List.{list_all}
use Rattle.std.proofs.lemmas.Bool.{false≢true, and_parts}
use Rattle.std.proofs.lemmas.Bool.Decides.{nat_tests}
use Rattle.sd_dispadmin.specs.TableText.{is_within, ts_columns, fixed_columns, ts_numbers, fixed_numbers, is_unit}
use Rattle.sd_dispadmin.specs.TableRows.{ts_row_of, fixed_row_of}
use Rattle.sd_dispadmin.proofs.TicksLemmas.{some_ticks}
use Rattle.sd_types.specs.Ticks.{ticks_of}
use Rattle.sd_types.specs.Rows.{ts_row_fits, fixed_row_fits}
use Rattle.sd_types.specs.declared.tables.TsRow.{TsRow}
use Rattle.sd_types.specs.declared.tables.FixedRow.{FixedRow}

too_long : (n m : ℕ) (b : Bool) → m < n → (nat_eq n m && b) ≡ true → ⊥
too_long n m b more h = let e : n ≡ m = grind (arith, nat_tests) in omega arith

-- a test that holds of each element of a list holds at an index
pub all_at : {X Y : Type 0} (p : Y → Bool) (f : X → Y) (xs : List X) (i : ℕ) (d : X) → list_all p (map f xs) ≡ true → i < length xs → p (f (get_or xs i d)) ≡ true
all_at p f [] i d h within = absurd (omega arith)
all_at p f (x ∷ xs) zero d h within = (and_parts (p (f x)) _ h).0
all_at p f (x ∷ xs) (suc i) d h within = all_at p f xs i d (and_parts (p (f x)) _ h).1 (omega arith)

pub record AreTs (numbers : List ℕ) : Type 0 where
  pub count : length numbers ≡ 5
  pub some : 1 ≤ slice_index numbers 0
  pub most : slice_index numbers 0 ≤ 1000000000
  pub tqexp : slice_index numbers 1 ≤ 59
  pub slpret : slice_index numbers 2 ≤ 59
  pub maxwait : slice_index numbers 3 ≤ 32767
  pub lwait : slice_index numbers 4 ≤ 59

ts_bounds : (q a b m l : ℕ) → is_within ts_columns (q ∷ a ∷ b ∷ m ∷ l ∷ []) ≡ true → AreTs (q ∷ a ∷ b ∷ m ∷ l ∷ [])
ts_bounds q a b m l h = record {
  count = refl;
  some = grind (arith, nat_tests);
  most = grind (arith, nat_tests);
  tqexp = grind (arith, nat_tests);
  slpret = grind (arith, nat_tests);
  maxwait = grind (arith, nat_tests);
  lwait = grind (arith, nat_tests);
}

pub are_ts : (numbers : List ℕ) → is_within ts_columns numbers ≡ true → AreTs numbers
are_ts [] h = absurd (false≢true h)
are_ts (q ∷ []) h = absurd (false≢true h)
are_ts (q ∷ a ∷ []) h = absurd (false≢true h)
are_ts (q ∷ a ∷ b ∷ []) h = absurd (false≢true h)
are_ts (q ∷ a ∷ b ∷ m ∷ []) h = absurd (false≢true h)
are_ts (q ∷ a ∷ b ∷ m ∷ l ∷ []) h = ts_bounds q a b m l h
are_ts (q ∷ a ∷ b ∷ m ∷ l ∷ x ∷ xs) h = absurd (let more : 5 < length (q ∷ a ∷ b ∷ m ∷ l ∷ x ∷ xs) = omega arith in too_long (length (q ∷ a ∷ b ∷ m ∷ l ∷ x ∷ xs)) 5 _ more h)

five : (xs : List ℕ) → length xs ≡ 5 → slice_index xs 0 ∷ slice_index xs 1 ∷ slice_index xs 2 ∷ slice_index xs 3 ∷ slice_index xs 4 ∷ [] ≡ xs
five [] h = absurd (omega arith)
five (q ∷ []) h = absurd (omega arith)
five (q ∷ a ∷ []) h = absurd (omega arith)
five (q ∷ a ∷ b ∷ []) h = absurd (omega arith)
five (q ∷ a ∷ b ∷ m ∷ []) h = absurd (omega arith)
five (q ∷ a ∷ b ∷ m ∷ l ∷ []) h = refl
five (q ∷ a ∷ b ∷ m ∷ l ∷ x ∷ xs) h = absurd (omega arith)

ts_row-right : (hz res : ℕ) (x : List ℕ) → 1 ≤ hz → is_unit res ≡ true → is_within ts_columns x ≡ true
    → (ts_numbers (ts_row_of hz res x) ≡ x) × (ts_row_fits (ts_row_of hz res x) ≡ true)
    × (nat_eq (ts_row_of hz res x).ticks (ticks_of (ts_row_of hz res x).quantum hz res) ≡ true)
unfolding ts_row_of
ts_row-right hz res x h unit all =
    let a = are_ts x all in
    let some : 1 ≤ res = grind (arith, nat_tests) in
    let ticks : 1 ≤ ticks_of (slice_index x 0) hz res = some_ticks (slice_index x 0) hz res a.some h some in
    (five x a.count, grind (arith, nat_tests), eq-eqb _ _ refl)

pub record AreFixed (numbers : List ℕ) : Type 0 where
  pub count : length numbers ≡ 1
  pub some : 1 ≤ slice_index numbers 0
  pub most : slice_index numbers 0 ≤ 1000000000

fixed_bounds : (q : ℕ) → is_within fixed_columns (q ∷ []) ≡ true → AreFixed (q ∷ [])
fixed_bounds q h = record { count = refl; some = grind (arith, nat_tests); most = grind (arith, nat_tests) }

pub are_fixed : (numbers : List ℕ) → is_within fixed_columns numbers ≡ true → AreFixed numbers
are_fixed [] h = absurd (false≢true h)
are_fixed (q ∷ []) h = fixed_bounds q h
are_fixed (q ∷ x ∷ xs) h = absurd (let more : 1 < length (q ∷ x ∷ xs) = omega arith in too_long (length (q ∷ x ∷ xs)) 1 _ more h)

-- ---- the rows of a table

pub ts_rows-right : (hz res : ℕ) (xs : List (List ℕ)) → 1 ≤ hz → is_unit res ≡ true → list_all (is_within ts_columns) xs ≡ true
    → (map ts_numbers (map (ts_row_of hz res) xs) ≡ xs)
    × (list_all ts_row_fits (map (ts_row_of hz res) xs) ≡ true)
    × (list_all (λ (r : TsRow). nat_eq r.ticks (ticks_of r.quantum hz res)) (map (ts_row_of hz res) xs) ≡ true)
ts_rows-right hz res [] h unit all = (refl, refl, refl)
ts_rows-right hz res (x ∷ xs) h unit all =
    let p = and_parts (is_within ts_columns x) _ all in
    let here = ts_row-right hz res x h unit p.0 in
    let rest = ts_rows-right hz res xs h unit p.1 in
    (ap (λ l. ts_numbers (ts_row_of hz res x) ∷ l) rest.0 ∙ ap (λ y. y ∷ xs) here.0, rw (here.1) (rest.1), rw (here.2) (rest.2))

one : (xs : List ℕ) → length xs ≡ 1 → slice_index xs 0 ∷ [] ≡ xs
one [] h = absurd (omega arith)
one (q ∷ []) h = refl
one (q ∷ x ∷ xs) h = absurd (omega arith)

fixed_row-right : (hz res : ℕ) (x : List ℕ) → 1 ≤ hz → is_unit res ≡ true → is_within fixed_columns x ≡ true
    → (fixed_numbers (fixed_row_of hz res x) ≡ x) × (fixed_row_fits (fixed_row_of hz res x) ≡ true)
    × (nat_eq (fixed_row_of hz res x).ticks (ticks_of (fixed_row_of hz res x).quantum hz res) ≡ true)
unfolding fixed_row_of
fixed_row-right hz res x h unit all =
    let a = are_fixed x all in
    let some : 1 ≤ res = grind (arith, nat_tests) in
    let ticks : 1 ≤ ticks_of (slice_index x 0) hz res = some_ticks (slice_index x 0) hz res a.some h some in
    (one x a.count, grind (arith, nat_tests), eq-eqb _ _ refl)

pub fixed_rows-right : (hz res : ℕ) (xs : List (List ℕ)) → 1 ≤ hz → is_unit res ≡ true → list_all (is_within fixed_columns) xs ≡ true
    → (map fixed_numbers (map (fixed_row_of hz res) xs) ≡ xs)
    × (list_all fixed_row_fits (map (fixed_row_of hz res) xs) ≡ true)
    × (list_all (λ (r : FixedRow). nat_eq r.ticks (ticks_of r.quantum hz res)) (map (fixed_row_of hz res) xs) ≡ true)
fixed_rows-right hz res [] h unit all = (refl, refl, refl)
fixed_rows-right hz res (x ∷ xs) h unit all =
    let p = and_parts (is_within fixed_columns x) _ all in
    let here = fixed_row-right hz res x h unit p.0 in
    let rest = fixed_rows-right hz res xs h unit p.1 in
    (ap (λ l. fixed_numbers (fixed_row_of hz res x) ∷ l) rest.0 ∙ ap (λ y. y ∷ xs) here.0, rw (here.1) (rest.1), rw (here.2) (rest.2))
