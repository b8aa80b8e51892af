-- What is done at the index of the first item that passes a test, and behind the last item.
use Rattle.std.proofs.Common.{◌≡◌, ℕ, Bool, true, false, List, [], ◌∷◌, ◌++◌, None, length, slice_get, slice_set, refl, sym, ap, ◌∙◌, arith}
use Rattle.std.specs.Prelude.{ℤ}
use Prim.Native.Nat.{zero, suc}
use Rattle.std.specs.List.{insert, remove}
use Rattle.sd_boxq.specs.Boxes.{count_before}
use Rattle.sd_boxq.specs.Search.{precedes_by}
use Rattle.sd_boxq.specs.Order.{precedes, insert_before, insert_ranked, find_first, drop_first, replace_first}

-- ---- behind the last item
pub insert_end : {X : Type 0} (xs : List X) (k : ℕ) (x : X) → k ≡ length xs → insert xs k x ≡ xs ++ x ∷ []
insert_end [] zero x e = refl
insert_end [] (suc k) x e = absurd (omega arith)
insert_end (y ∷ xs) zero x e = absurd (omega arith)
insert_end (y ∷ xs) (suc k) x e = ap (λ l. y ∷ l) (insert_end xs k x (omega arith))

pub get_end : {X : Type 0} (xs : List X) (k : ℕ) → k ≡ length xs → slice_get xs k ≡ None
get_end [] k e = refl
get_end (y ∷ xs) zero e = absurd (omega arith)
get_end (y ∷ xs) (suc k) e = get_end xs k (omega arith)

pub remove_end : {X : Type 0} (xs : List X) (k : ℕ) → k ≡ length xs → remove xs k ≡ xs
remove_end [] zero e = refl
remove_end [] (suc k) e = absurd (omega arith)
remove_end (y ∷ xs) zero e = absurd (omega arith)
remove_end (y ∷ xs) (suc k) e = ap (λ l. y ∷ l) (remove_end xs k (omega arith))

pub set_end : {X : Type 0} (xs : List X) (k : ℕ) (x : X) → k ≡ length xs → slice_set xs k x ≡ xs
set_end [] k x e = refl
set_end (y ∷ xs) zero x e = absurd (omega arith)
set_end (y ∷ xs) (suc k) x e = ap (λ l. y ∷ l) (set_end xs k x (omega arith))

-- ---- at the first item that passes p
module _ {X : Type 0} (p : X → Bool) where
  pub insert_counted : (x : X) (xs : List X) → insert_before p x xs ≡ insert xs (count_before p xs) x
  insert_counted x [] = refl
  insert_counted x (y ∷ xs) = by (p y) refl (insert_counted x xs)
    where
      by : (b : Bool) → p y ≡ b → insert_before p x xs ≡ insert xs (count_before p xs) x → insert_before p x (y ∷ xs) ≡ insert (y ∷ xs) (count_before p (y ∷ xs)) x
      by true e r = rw e refl
      by false e r = rw e (ap (λ l. y ∷ l) r)

  pub find_counted : (xs : List X) → find_first p xs ≡ slice_get xs (count_before p xs)
  find_counted [] = refl
  find_counted (y ∷ xs) = by (p y) refl (find_counted xs)
    where
      by : (b : Bool) → p y ≡ b → find_first p xs ≡ slice_get xs (count_before p xs) → find_first p (y ∷ xs) ≡ slice_get (y ∷ xs) (count_before p (y ∷ xs))
      by true e r = rw e refl
      by false e r = rw e r

  pub drop_counted : (xs : List X) → drop_first p xs ≡ remove xs (count_before p xs)
  drop_counted [] = refl
  drop_counted (y ∷ xs) = by (p y) refl (drop_counted xs)
    where
      by : (b : Bool) → p y ≡ b → drop_first p xs ≡ remove xs (count_before p xs) → drop_first p (y ∷ xs) ≡ remove (y ∷ xs) (count_before p (y ∷ xs))
      by true e r = rw e refl
      by false e r = rw e (ap (λ l. y ∷ l) r)

  pub replace_counted : (x : X) (xs : List X) → replace_first p x xs ≡ slice_set xs (count_before p xs) x
  replace_counted x [] = refl
  replace_counted x (y ∷ xs) = by (p y) refl (replace_counted x xs)
    where
      by : (b : Bool) → p y ≡ b → replace_first p x xs ≡ slice_set xs (count_before p xs) x → replace_first p x (y ∷ xs) ≡ slice_set (y ∷ xs) (count_before p (y ∷ xs)) x
      by true e r = rw e refl
      by false e r = rw e (ap (λ l. y ∷ l) r)

-- where the rank and the key of x are read before the search
pub ranked_counted : {X : Type 0} (rank : X → ℕ) (key : X → ℤ) (r : ℕ) (k : ℤ) (x : X) (xs : List X) → r ≡ rank x → k ≡ key x
    → insert_ranked rank key x xs ≡ insert xs (count_before (precedes_by rank key r k) xs) x
ranked_counted rank key r k x xs same_rank same_key =
    insert_counted (precedes rank key x) x xs ∙ sym (λ i. insert xs (count_before (precedes_by rank key (same_rank i) (same_key i)) xs) x)
