-- How a search goes through the boxes of a queue, and what it has seen where it ends.
use Rattle.std.proofs.Common.{◌≡◌, ℕ, ◌+◌, ◌<◌, ◌≤◌, Bool, true, false, List, [], ◌∷◌, Some, length, drop, slice_get, refl, sym, subst, ap, ◌∙◌, arith}
use Prim.Native.Nat.{zero, suc}
use lib.ListN.{length-map}
use Rattle.std.specs.Prelude.{map, not, IsTrue, ◌↔◌}
use Rattle.sd_boxq.specs.Links.{Link, has_some}
use Rattle.sd_boxq.specs.Boxes.{BoxOf, boxes_from, items_in, LiesAt, count_before}

-- ---- the boxes as a list
pub boxes_items : {T : Type 0} (i : ℕ) (ls : List Link) (xs : List T) → length xs ≡ length ls → items_in (boxes_from i ls xs) ≡ xs
boxes_items i [] [] e = refl
boxes_items i [] (x ∷ xs) e = absurd (omega arith)
boxes_items i (l ∷ ls) [] e = refl
boxes_items i (l ∷ ls) (x ∷ xs) e = ap (λ ys. x ∷ ys) (boxes_items (suc i) ls xs (omega arith))

boxes_cons : {T : Type 0} (i : ℕ) (ls : List Link) (xs : List T) (b : BoxOf T) (bs : List (BoxOf T)) → boxes_from i ls xs ≡ b ∷ bs
    → (l : Link) × (lr : List Link) × (x : T) × (xr : List T) × (ls ≡ l ∷ lr) × (xs ≡ x ∷ xr) × (b ≡ (l.0, i, x)) × (bs ≡ boxes_from (suc i) lr xr)
boxes_cons i [] xs b bs e = absurd cc
boxes_cons i (l ∷ ls) [] b bs e = absurd cc
boxes_cons i (l ∷ ls) (x ∷ xs) b bs e = (l, ls, x, xs, refl, refl, cc, cc)

get_map : {X Y : Type 0} (f : X → Y) (xs : List X) (k : ℕ) (x : X) → slice_get xs k ≡ Some x → slice_get (map f xs) k ≡ Some (f x)
get_map f [] k x e = absurd cc
get_map f (y ∷ xs) zero x e = let same : y ≡ x = cc in ap (λ z. Some (f z)) same
get_map f (y ∷ xs) (suc k) x e = get_map f xs k x e

-- what a list has from the index k on
drop_cons : {X : Type 0} (k : ℕ) (xs : List X) (x : X) (ys : List X) → drop k xs ≡ x ∷ ys
    → (drop (suc k) xs ≡ ys) × (slice_get xs k ≡ Some x) × (length xs ≡ suc k + length ys)
drop_cons zero [] x ys e = absurd cc
drop_cons (suc k) [] x ys e = absurd cc
drop_cons zero (z ∷ xs) x ys e = let n = ap length e in (cc, cc, omega arith)
drop_cons (suc k) (z ∷ xs) x ys e = let on = drop_cons k xs x ys e in let n = on.2 in (on.0, on.1, omega arith)

-- a search of the items xs, whose boxes have the links ls, has passed k of them, and has the boxes bs left
pub record Searched {T : Type 0} (p : T → Bool) (ls : List Link) (xs : List T) (k : ℕ) (bs : List (BoxOf T)) : Type 0 where
  pub here : bs ≡ boxes_from k (drop k ls) (drop k xs)
  pub items : items_in bs ≡ drop k xs
  pub count : count_before p xs ≡ k + count_before p (drop k xs)
  pub within : k ≤ length xs

module _ {T : Type 0} (p : T → Bool) (ls : List Link) (xs : List T) where
  pub search_starts : (i : ℕ) (ms : List Link) (ys : List T) → i ≡ 0 → ms ≡ ls → ys ≡ xs → length ys ≡ length ms → Searched p ls xs 0 (boxes_from i ms ys)
  search_starts i ms ys first links items e =
      let n = ap length links in
      let m = ap length items in
      let whole : boxes_from i ms ys ≡ boxes_from 0 ls xs = λ j. boxes_from (first j) (links j) (items j) in
      subst (λ bs. Searched p ls xs 0 bs) (sym whole) (record { here = refl; items = boxes_items 0 ls xs (omega arith); count = omega arith; within = omega arith })

  -- the first box that is left
  pub search_sees : (k : ℕ) (b : BoxOf T) (bs : List (BoxOf T)) → Searched p ls xs k (b ∷ bs)
      → (b.1 ≡ k) × LiesAt ls b.1 b.0 × (k < length xs) × (length xs ≡ suc k + length bs) × (slice_get xs k ≡ Some b.2)
  search_sees k b bs s =
      let c = boxes_cons k (drop k ls) (drop k xs) b bs (sym s.here) in
      let l = c.0 in
      let x = c.2 in
      let on_links = drop_cons k ls l c.1 c.4 in
      let on_items = drop_cons k xs x c.3 c.5 in
      let whole : items_in (b ∷ bs) ≡ x ∷ c.3 = s.items ∙ c.5 in
      let long = length-map bs (λ d. d.2) in
      let rest : length (items_in bs) ≡ length c.3 = cc in
      let many = on_items.2 in
      let index : b.1 ≡ k = ap (λ d. d.1) c.6 in (
        index,
        subst (λ n. LiesAt ls n b.0) (sym index) (get_map (λ m. m.0) ls k l on_links.1 ∙ ap (λ d. Some d.0) (sym c.6)),
        omega arith,
        omega arith,
        on_items.1 ∙ ap (λ d. Some d.2) (sym c.6),
      )

  pub search_passes : (k : ℕ) (b : BoxOf T) (bs : List (BoxOf T)) → Searched p ls xs k (b ∷ bs) → false ≡ p b.2 → Searched p ls xs (suc k) bs
  search_passes k b bs s f =
      let c = boxes_cons k (drop k ls) (drop k xs) b bs (sym s.here) in
      let on_links = drop_cons k ls c.0 c.1 c.4 in
      let on_items = drop_cons k xs c.2 c.3 c.5 in
      let same : b.2 ≡ c.2 = ap (λ d. d.2) c.6 in
      let fails : p c.2 ≡ false = ap p (sym same) ∙ sym f in
      let behind : count_before p (c.2 ∷ c.3) ≡ suc (count_before p c.3) = rw fails refl in
      let counted = s.count ∙ ap (λ ys. k + count_before p ys) c.5 ∙ ap (λ n. k + n) behind in
      let many = on_items.2 in
      let whole : items_in (b ∷ bs) ≡ c.2 ∷ c.3 = s.items ∙ c.5 in
      let items_are : items_in bs ≡ c.3 = cc in
      let more = ap (λ ys. suc k + count_before p ys) (sym on_items.0) in
      record {
        here = c.7 ∙ sym (λ i. boxes_from (suc k) (on_links.0 i) (on_items.0 i));
        items = items_are ∙ sym on_items.0;
        count = omega arith;
        within = omega arith;
      }

-- whether boxes follow tells whether the one before was the last
pub last_is : {T : Type 0} (i : ℕ) (ls : List Link) (xs : List T) (more : Bool) (k n : ℕ) → length xs ≡ length ls → more ≡ has_some xs
    → n ≡ suc k + length (boxes_from i ls xs) → IsTrue (not more) ↔ (suc k ≡ n)
last_is i [] [] true k n e m w = absurd cc
last_is i [] [] false k n e m w = ((λ t. omega arith), (λ q. refl))
last_is i [] (x ∷ xs) more k n e m w = absurd (omega arith)
last_is i (l ∷ ls) [] more k n e m w = absurd (omega arith)
last_is i (l ∷ ls) (x ∷ xs) true k n e m w = ((λ t. absurd cc), (λ q. absurd (omega arith)))
last_is i (l ∷ ls) (x ∷ xs) false k n e m w = absurd cc
