-- The levels against the one list that they are.
use Rattle.std.proofs.Common.{◌≡◌, ℕ, zero, suc, ◌+◌, ◌-◌, ◌<◌, ◌≤◌, Bool, true, false, nat_lt, nat_le, int_lt, List, [], ◌∷◌, ◌++◌, length, set, drop, max, Option, Some, None, IfSome, slice_get, drop-cons, refl, sym, ap, ◌∙◌, arith, subst, length-set, ℤ}
use Rattle.std.proofs.lemmas.Bool.Decides.{nat_tests}
use Rattle.std.proofs.lemmas.Int.{ints}
use Rattle.sd_boxq.specs.Order.{insert_before, insert_by_key, insert_ranked, precedes, find_id, drop_id, replace_id, IsAlike, IsNowhere}
use Rattle.sd_dispq.specs.Levels.{all_of, level_at, HaveRank, IsLevelled, IsNextBusy, AreIdleFrom}
use Rattle.sd_dispq.specs.Ranks.{put_front, put_back, IsByRank, greatest_rank, raised}

-- ---- a list in two parts
pub insert-behind : {X : Type 0} (q : X → Bool) (x : X) (l m : List X) → IsNowhere q l → insert_before q x (l ++ m) ≡ l ++ insert_before q x m
insert-behind q x [] m s = refl
insert-behind q x (y ∷ l) m s = rw s.0 (ap (λ ys. y ∷ ys) (insert-behind q x l m s.1))

-- the first item passes
abbrev pub Begins : {X : Type 0} → (X → Bool) → List X → Type 0
Begins q [] = Unit {0}
Begins q (y ∷ m) = q y ≡ true

pub insert-within : {X : Type 0} (q : X → Bool) (x : X) (l m : List X) → Begins q m → insert_before q x (l ++ m) ≡ insert_before q x l ++ m
insert-within q x [] [] s = refl
insert-within q x [] (y ∷ m) s = rw s refl
insert-within q x (y ∷ l) m s = grind (arith, insert-within q x l m s)

pub find-behind : {X : Type 0} (id : X → ℕ) (n : ℕ) (l m : List X) → find_id id n l ≡ None → find_id id n (l ++ m) ≡ find_id id n m
find-behind id n [] m s = refl
find-behind id n (y ∷ l) m s = grind (arith, find-behind id n l m)

pub drop-behind : {X : Type 0} (id : X → ℕ) (n : ℕ) (l m : List X) → find_id id n l ≡ None → drop_id id n (l ++ m) ≡ l ++ drop_id id n m
drop-behind id n [] m s = refl
drop-behind id n (y ∷ l) m s = grind (arith, drop-behind id n l m)

pub find-within : {X : Type 0} (id : X → ℕ) (n : ℕ) (y : X) (l m : List X) → find_id id n l ≡ Some y → find_id id n (l ++ m) ≡ Some y
find-within id n y [] m s = absurd cc
find-within id n y (z ∷ l) m s = grind (arith, find-within id n y l m)

pub drop-within : {X : Type 0} (id : X → ℕ) (n : ℕ) (y : X) (l m : List X) → find_id id n l ≡ Some y → drop_id id n (l ++ m) ≡ drop_id id n l ++ m
drop-within id n y [] m s = absurd cc
drop-within id n y (z ∷ l) m s = grind (arith, drop-within id n y l m)

pub drop-absent : {X : Type 0} (id : X → ℕ) (n : ℕ) (l : List X) → find_id id n l ≡ None → drop_id id n l ≡ l
drop-absent id n [] s = refl
drop-absent id n (y ∷ l) s = grind (arith, drop-absent id n l)

-- ---- levels
module _ {X : Type 0} (rank : X → ℕ) where
  pub HaveRank-at : (ls : List (List X)) (p r : ℕ) → IsLevelled rank ls → p + suc r ≡ length ls → HaveRank rank r (level_at ls p)
  HaveRank-at [] p r s e = absurd (omega arith)
  HaveRank-at (l ∷ ls) zero r s e = let same : length ls ≡ r = omega arith in subst (λ n. HaveRank rank n l) same s.0
  HaveRank-at (l ∷ ls) (suc p) r s e = HaveRank-at ls p r s.1 (omega arith)

  pub IsLevelled-set : (ls : List (List X)) (p r : ℕ) (l : List X) → IsLevelled rank ls → p + suc r ≡ length ls → HaveRank rank r l → IsLevelled rank (set ls p l)
  IsLevelled-set [] p r m s e h = absurd (omega arith)
  IsLevelled-set (l ∷ ls) zero r m s e h = let same : r ≡ length ls = omega arith in (subst (λ n. HaveRank rank n m) same h, s.1)
  IsLevelled-set (l ∷ ls) (suc p) r m s e h =
      (subst (λ n. HaveRank rank n l) (sym (length-set ls p m)) s.0, IsLevelled-set ls p r m s.1 (omega arith) h)

  nowhere : (q : X → Bool) (n : ℕ) (l : List X) → HaveRank rank n l → ((y : X) → rank y ≡ n → q y ≡ false) → IsNowhere q l
  nowhere q n [] h f = tt
  nowhere q n (y ∷ l) h f = (f y h.0, nowhere q n l h.1 f)

  begins : (q : X → Bool) (ls : List (List X)) → IsLevelled rank ls → ((y : X) → rank y < length ls → q y ≡ true) → Begins q (all_of ls)
  begins q [] s f = tt
  begins q ([] ∷ ls) s f = begins q ls s.1 (λ y h. f y (omega arith))
  begins q ((y ∷ l) ∷ ls) s f = f y (omega arith)

  -- an item of rank r goes into its level, where a greater rank fails the test and a smaller rank passes it
  pub all_of-insert : (q : X → Bool) (x : X) (ls : List (List X)) (p r : ℕ) → IsLevelled rank ls → p + suc r ≡ length ls
      → ((y : X) → r < rank y → q y ≡ false) → ((y : X) → rank y < r → q y ≡ true)
      → all_of (set ls p (insert_before q x (level_at ls p))) ≡ insert_before q x (all_of ls)
  all_of-insert q x [] p r s e above below = absurd (omega arith)
  all_of-insert q x (l ∷ ls) zero r s e above below =
      sym (insert-within q x l (all_of ls) (begins q ls s.1 (λ y h. below y (omega arith))))
  all_of-insert q x (l ∷ ls) (suc p) r s e above below =
      ap (λ ys. l ++ ys) (all_of-insert q x ls p r s.1 (omega arith) above below)
      ∙ sym (insert-behind q x l (all_of ls) (nowhere q (length ls) l s.0 (λ y h. above y (omega arith))))

  HaveRank-insert : (q : X → Bool) (x : X) (r : ℕ) (l : List X) → rank x ≡ r → HaveRank rank r l → HaveRank rank r (insert_before q x l)
  HaveRank-insert q x r [] e h = (e, tt)
  HaveRank-insert q x r (y ∷ l) e h = grind (arith, HaveRank-insert q x r l e h.1)

  -- where all have one rank, the key alone tells the place
  pub ranked-by_key : (key : X → ℤ) (x : X) (l : List X) → HaveRank rank (rank x) l → insert_by_key key x l ≡ insert_ranked rank key x l
  ranked-by_key key x [] h = refl
  ranked-by_key key x (y ∷ l) h =
      let alike : rank y ≡ rank x = h.0 in
      let same : precedes rank key x y ≡ int_lt (key x) (key y) = grind (arith, nat_tests, ints) in
      grind (arith, same, ranked-by_key key x l h.1)

  -- within a level
  front-level : (x : X) (l : List X) → HaveRank rank (rank x) l → put_front rank x l ≡ x ∷ l
  front-level x [] h = refl
  front-level x (y ∷ l) h = grind (arith, nat_tests)

  back-level : (x : X) (l : List X) → HaveRank rank (rank x) l → put_back rank x l ≡ l ++ x ∷ []
  back-level x [] h = refl
  back-level x (y ∷ l) h = grind (arith, nat_tests, back-level x l h.1)

  pub all_of-front : (x : X) (ls : List (List X)) (p : ℕ) → IsLevelled rank ls → p + suc (rank x) ≡ length ls
      → all_of (set ls p (x ∷ level_at ls p)) ≡ put_front rank x (all_of ls)
  all_of-front x ls p s e =
      ap (λ l. all_of (set ls p l)) (sym (front-level x (level_at ls p) (HaveRank-at ls p (rank x) s e)))
      ∙ all_of-insert (λ y. nat_le (rank y) (rank x)) x ls p (rank x) s e (λ y h. grind (arith, nat_tests)) (λ y h. grind (arith, nat_tests))

  pub all_of-back : (x : X) (ls : List (List X)) (p : ℕ) → IsLevelled rank ls → p + suc (rank x) ≡ length ls
      → all_of (set ls p (level_at ls p ++ x ∷ [])) ≡ put_back rank x (all_of ls)
  all_of-back x ls p s e =
      ap (λ l. all_of (set ls p l)) (sym (back-level x (level_at ls p) (HaveRank-at ls p (rank x) s e)))
      ∙ all_of-insert (λ y. nat_lt (rank y) (rank x)) x ls p (rank x) s e (λ y h. grind (arith, nat_tests)) (λ y h. grind (arith, nat_tests))

  pub all_of-ranked : (key : X → ℤ) (x : X) (ls : List (List X)) (p : ℕ) → IsLevelled rank ls → p + suc (rank x) ≡ length ls
      → all_of (set ls p (insert_ranked rank key x (level_at ls p))) ≡ insert_ranked rank key x (all_of ls)
  all_of-ranked key x ls p s e =
      all_of-insert (precedes rank key x) x ls p (rank x) s e (λ y h. grind (arith, nat_tests)) (λ y h. grind (arith, nat_tests))

  pub levelled-front : (x : X) (ls : List (List X)) (p : ℕ) → IsLevelled rank ls → p + suc (rank x) ≡ length ls → IsLevelled rank (set ls p (x ∷ level_at ls p))
  levelled-front x ls p s e = IsLevelled-set ls p (rank x) _ s e (refl, HaveRank-at ls p (rank x) s e)

  HaveRank-snoc : (x : X) (r : ℕ) (l : List X) → rank x ≡ r → HaveRank rank r l → HaveRank rank r (l ++ x ∷ [])
  HaveRank-snoc x r [] e h = (e, tt)
  HaveRank-snoc x r (y ∷ l) e h = (h.0, HaveRank-snoc x r l e h.1)

  pub levelled-back : (x : X) (ls : List (List X)) (p : ℕ) → IsLevelled rank ls → p + suc (rank x) ≡ length ls → IsLevelled rank (set ls p (level_at ls p ++ x ∷ []))
  levelled-back x ls p s e = IsLevelled-set ls p (rank x) _ s e (HaveRank-snoc x (rank x) _ refl (HaveRank-at ls p (rank x) s e))

  pub levelled-ranked : (key : X → ℤ) (x : X) (ls : List (List X)) (p : ℕ) → IsLevelled rank ls → p + suc (rank x) ≡ length ls
      → IsLevelled rank (set ls p (insert_ranked rank key x (level_at ls p)))
  levelled-ranked key x ls p s e = IsLevelled-set ls p (rank x) _ s e (HaveRank-insert (precedes rank key x) x (rank x) _ refl (HaveRank-at ls p (rank x) s e))

  HaveRank-drop : (r : ℕ) (l : List X) → HaveRank rank r l → HaveRank rank r (drop 1 l)
  HaveRank-drop r [] h = tt
  HaveRank-drop r (y ∷ l) h = h.1

  HaveRank-drop_id : (id : X → ℕ) (n r : ℕ) (l : List X) → HaveRank rank r l → HaveRank rank r (drop_id id n l)
  HaveRank-drop_id id n r [] h = tt
  HaveRank-drop_id id n r (y ∷ l) h = grind (arith, HaveRank-drop_id id n r l h.1)

  levelled-there : (ls : List (List X)) (p : ℕ) (l : List X) → IsLevelled rank ls → p < length ls
      → ((r : ℕ) → HaveRank rank r (level_at ls p) → HaveRank rank r l) → IsLevelled rank (set ls p l)
  levelled-there ls p l s h f =
      let r = length ls - suc p in let e : p + suc r ≡ length ls = omega arith in IsLevelled-set ls p r l s e (f r (HaveRank-at ls p r s e))

  pub levelled-drop : (ls : List (List X)) (p : ℕ) → IsLevelled rank ls → p < length ls → IsLevelled rank (set ls p (drop 1 (level_at ls p)))
  levelled-drop ls p s h = levelled-there ls p _ s h (λ r. HaveRank-drop r (level_at ls p))

  pub levelled-drop_id : (id : X → ℕ) (n : ℕ) (ls : List (List X)) (p : ℕ) → IsLevelled rank ls → p < length ls → IsLevelled rank (set ls p (drop_id id n (level_at ls p)))
  levelled-drop_id id n ls p s h = levelled-there ls p _ s h (λ r. HaveRank-drop_id id n r (level_at ls p))

  -- no item has a rank as great as the number of levels
  low : (ls : List (List X)) (y : X) (ys : List X) → IsLevelled rank ls → all_of ls ≡ y ∷ ys → length ls ≤ rank y → ⊥
  low [] y ys s a h = cc
  low ([] ∷ ls) y ys s a h = low ls y ys s.1 a (omega arith)
  low ((z ∷ l) ∷ ls) y ys s a h = let same : z ≡ y = cc in let r = ap rank same in let t = s.0.0 in omega arith

  -- the first item stands in the level of its rank
  pub first_there : (ls : List (List X)) (p : ℕ) (y : X) (ys : List X) → IsLevelled rank ls → all_of ls ≡ y ∷ ys → p + suc (rank y) ≡ length ls
      → (slice_get (level_at ls p) 0 ≡ Some y) × (all_of (set ls p (drop 1 (level_at ls p))) ≡ ys)
  first_there [] p y ys s a e = absurd cc
  first_there ([] ∷ ls) zero y ys s a e = absurd (low ls y ys s.1 a (omega arith))
  first_there ([] ∷ ls) (suc p) y ys s a e = first_there ls p y ys s.1 a (omega arith)
  first_there ((z ∷ l) ∷ ls) zero y ys s a e = let same : z ≡ y = cc in let rest : l ++ all_of ls ≡ ys = cc in (ap Some same, rest)
  first_there ((z ∷ l) ∷ ls) (suc p) y ys s a e =
      let same : z ≡ y = cc in let r = ap rank same in let t = s.0.0 in absurd (omega arith)

  -- ---- the greatest rank
  pub greatest-insert : (q : X → Bool) (x : X) (xs : List X) → ((y : X) → q y ≡ true → rank y ≤ rank x) → ((y : X) → q y ≡ false → rank x ≤ rank y)
      → greatest_rank rank (insert_before q x xs) ≡ raised (greatest_rank rank xs) (rank x)
  greatest-insert q x [] f g = refl
  greatest-insert q x (y ∷ xs) f g = by (q y) refl
    where
      by : (b : Bool) → q y ≡ b → greatest_rank rank (insert_before q x (y ∷ xs)) ≡ Some (max (rank y) (rank x))
      by true e = let h = f y e in rw e (ap Some (omega arith))
      by false e = let h = g y e in rw e (ap Some (omega arith))

  pub greatest-front : (x : X) (xs : List X) → greatest_rank rank (put_front rank x xs) ≡ raised (greatest_rank rank xs) (rank x)
  greatest-front x xs = greatest-insert (λ y. nat_le (rank y) (rank x)) x xs (λ y h. grind (arith, nat_tests)) (λ y h. grind (arith, nat_tests))

  pub greatest-back : (x : X) (xs : List X) → greatest_rank rank (put_back rank x xs) ≡ raised (greatest_rank rank xs) (rank x)
  greatest-back x xs = greatest-insert (λ y. nat_lt (rank y) (rank x)) x xs (λ y h. grind (arith, nat_tests)) (λ y h. grind (arith, nat_tests))

  pub greatest-ranked : (key : X → ℤ) (x : X) (xs : List X) → greatest_rank rank (insert_ranked rank key x xs) ≡ raised (greatest_rank rank xs) (rank x)
  greatest-ranked key x xs = greatest-insert (precedes rank key x) x xs (λ y h. grind (arith, nat_tests)) (λ y h. grind (arith, nat_tests))

  pub all_of-empty : (ls : List (List X)) → ((i : ℕ) → level_at ls i ≡ []) → all_of ls ≡ []
  all_of-empty [] f = refl
  all_of-empty (l ∷ ls) f = let e : l ≡ [] = f 0 in rw e (all_of-empty ls (λ i. f (suc i)))

  pub greatest-busy : (ls : List (List X)) (p r : ℕ) → IsLevelled rank ls → IsNextBusy ls 0 p → p + suc r ≡ length ls → greatest_rank rank (all_of ls) ≡ Some r
  greatest-busy [] p r s f e = absurd (omega arith)
  greatest-busy ([] ∷ ls) zero r s f e = absurd cc
  greatest-busy ((z ∷ l) ∷ ls) zero r s f e = let t = s.0.0 in ap Some (omega arith)
  greatest-busy (l ∷ ls) (suc p) r s f e =
      let empty : l ≡ [] = f.3 0 (omega arith) (omega arith) in
      rw empty (greatest-busy ls p r s.1 (omega arith, omega arith, f.2, λ i g h. f.3 (suc i) (omega arith) (omega arith)) (omega arith))

  -- ---- the order
  lower : (ls : List (List X)) (n : ℕ) → IsLevelled rank ls → length ls ≤ suc n → IsNowhere (λ y. nat_lt n (rank y)) (all_of ls)
  lower [] n s h = tt
  lower ([] ∷ ls) n s h = lower ls n s.1 (omega arith)
  lower ((y ∷ l) ∷ ls) n s h = (grind (arith, nat_tests, s.0.0), lower (l ∷ ls) n (s.0.1, s.1) h)

  pub in_order : (ls : List (List X)) → IsLevelled rank ls → IsByRank rank (all_of ls)
  in_order [] s = tt
  in_order ([] ∷ ls) s = in_order ls s.1
  in_order ((y ∷ l) ∷ ls) s =
      let t = s.0.0 in (lower (l ∷ ls) (rank y) (s.0.1, s.1) (omega arith), in_order (l ∷ ls) (s.0.1, s.1))

-- ---- the first item with an id
module _ {X : Type 0} (id : X → ℕ) (n : ℕ) where
  pub found_there : (ls : List (List X)) (p : ℕ) (y : X) → p < length ls → ((i : ℕ) → i < p → find_id id n (level_at ls i) ≡ None)
      → find_id id n (level_at ls p) ≡ Some y
      → (find_id id n (all_of ls) ≡ Some y) × (all_of (set ls p (drop_id id n (level_at ls p))) ≡ drop_id id n (all_of ls))
  found_there [] p y h f e = absurd (omega arith)
  found_there (l ∷ ls) zero y h f e = (find-within id n y l (all_of ls) e, sym (drop-within id n y l (all_of ls) e))
  found_there (l ∷ ls) (suc p) y h f e =
      let rest = found_there ls p y (omega arith) (λ i b. f (suc i) (omega arith)) e in
      let none : find_id id n l ≡ None = f 0 (omega arith) in
      (find-behind id n l (all_of ls) none ∙ rest.0, ap (λ ys. l ++ ys) rest.1 ∙ sym (drop-behind id n l (all_of ls) none))

  pub found_nowhere : (ls : List (List X)) → ((i : ℕ) → i < length ls → find_id id n (level_at ls i) ≡ None) → find_id id n (all_of ls) ≡ None
  found_nowhere [] f = refl
  found_nowhere (l ∷ ls) f =
      find-behind id n l (all_of ls) (f 0 (omega arith)) ∙ found_nowhere ls (λ i b. f (suc i) (omega arith))

-- ---- from level to level
module _ {X : Type 0} (ls : List (List X)) where
  step : (m : ℕ) → m < length ls → all_of (drop m ls) ≡ level_at ls m ++ all_of (drop (suc m) ls)
  step m h = ap all_of (drop-cons ls m [] h)

  -- the levels up to the next one with an item have none
  to_next_by : (m k : ℕ) → m + k < length ls → ((j : ℕ) → m ≤ j → j < m + k → level_at ls j ≡ [])
      → all_of (drop m ls) ≡ level_at ls (m + k) ++ all_of (drop (suc (m + k)) ls)
  to_next_by m zero h f = let e : m + zero ≡ m = omega arith in rw e (step m (omega arith))
  to_next_by m (suc k) h f =
      let e : m + suc k ≡ suc m + k = omega arith in
      let here : level_at ls m ≡ [] = f m (omega arith) (omega arith) in
      step m (omega arith) ∙ ap (λ l. l ++ all_of (drop (suc m) ls)) here
      ∙ rw e (to_next_by (suc m) k (omega arith) (λ j a b. f j (omega arith) (omega arith)))

  pub to_next : (m i : ℕ) → IsNextBusy ls m i → all_of (drop m ls) ≡ level_at ls i ++ all_of (drop (i + 1) ls)
  to_next m i h =
      let a = h.0 in
      let b = h.1 in
      let e : m + (i - m) ≡ i = omega arith in
      let d : i + 1 ≡ suc i = omega arith in
      let all = to_next_by m (i - m) (omega arith) (λ j g l. h.3 j g (omega arith)) in
      rw d (rw e at all)

pub to_end : {X : Type 0} (ls : List (List X)) (m : ℕ) → AreIdleFrom ls m → all_of (drop m ls) ≡ []
to_end [] zero f = refl
to_end [] (suc m) f = refl
to_end (l ∷ ls) zero f = let here : l ≡ [] = f 0 (omega arith) in rw here (to_end ls zero (λ i h. f (suc i) (omega arith)))
to_end (l ∷ ls) (suc m) f = to_end ls m (λ i h. f (suc i) (omega arith))

-- ---- what makes room for one alike
module _ {X : Type 0} (rank : X → ℕ) (key : X → ℤ) (id : X → ℕ) (n : ℕ) (y : X) where
  replace-within : (x : X) (l m : List X) → find_id id n l ≡ Some x → replace_id id n y (l ++ m) ≡ replace_id id n y l ++ m
  replace-within x [] m e = absurd cc
  replace-within x (z ∷ l) m e = grind (arith, replace-within x l m)

  replace-behind : (l m : List X) → find_id id n l ≡ None → replace_id id n y (l ++ m) ≡ l ++ replace_id id n y m
  replace-behind [] m e = refl
  replace-behind (z ∷ l) m e = grind (arith, replace-behind l m)

  pub replace-absent : (l : List X) → find_id id n l ≡ None → replace_id id n y l ≡ l
  replace-absent [] e = refl
  replace-absent (z ∷ l) e = grind (arith, replace-absent l)

  pub of_level : (r : ℕ) (l : List X) (x : X) → HaveRank rank r l → find_id id n l ≡ Some x → rank x ≡ r
  of_level r [] x h e = absurd cc
  of_level r (z ∷ l) x h e = grind (arith, of_level r l x h.1)

  -- an item has a rank below the number of levels
  pub found_below : (ls : List (List X)) (x : X) → IsLevelled rank ls → find_id id n (all_of ls) ≡ Some x → rank x < length ls
  found_below [] x s e = absurd cc
  found_below (l ∷ ls) x s e = by (find_id id n l) refl (found_below ls x s.1)
    where
      by : (o : Option X) → find_id id n l ≡ o → (find_id id n (all_of ls) ≡ Some x → rank x < length ls) → rank x < suc (length ls)
      by None f b = let rest = b (sym (find-behind id n l (all_of ls) f) ∙ e) in omega arith
      by (Some z) f b =
          let same : z ≡ x = let k : Some z ≡ Some x = sym (find-within id n z l (all_of ls) f) ∙ e in cc in
          let r = of_level (length ls) l z s.0 f in let t = ap rank same in omega arith

  HaveRank-replace : (r : ℕ) (l : List X) → rank y ≡ r → HaveRank rank r l → HaveRank rank r (replace_id id n y l)
  HaveRank-replace r [] e h = tt
  HaveRank-replace r (z ∷ l) e h = grind (arith, HaveRank-replace r l e h.1)

  pub levelled-replace : (ls : List (List X)) (p : ℕ) → IsLevelled rank ls → p + suc (rank y) ≡ length ls
      → IsLevelled rank (set ls p (replace_id id n y (level_at ls p)))
  levelled-replace ls p s e = IsLevelled-set rank ls p (rank y) _ s e (HaveRank-replace (rank y) _ refl (HaveRank-at rank ls p (rank y) s e))

  -- one alike stands in the level of its rank, if at all
  pub alike_there : (ls : List (List X)) (p : ℕ) → IsLevelled rank ls → p + suc (rank y) ≡ length ls
      → IfSome (find_id id n (all_of ls)) (λ x. rank x ≡ rank y)
      → (find_id id n (level_at ls p) ≡ find_id id n (all_of ls)) × (all_of (set ls p (replace_id id n y (level_at ls p))) ≡ replace_id id n y (all_of ls))
  alike_there [] p s e a = absurd (omega arith)
  alike_there (l ∷ ls) zero s e a = by (find_id id n l) refl
    where
      gone : (o : Option X) → find_id id n (all_of ls) ≡ o → IfSome o (λ x. rank x ≡ rank y) → find_id id n (all_of ls) ≡ None
      gone None f b = f
      gone (Some x) f b = let low = found_below ls x s.1 f in absurd (omega arith)

      by : (o : Option X) → find_id id n l ≡ o
          → (find_id id n l ≡ find_id id n (l ++ all_of ls)) × (replace_id id n y l ++ all_of ls ≡ replace_id id n y (l ++ all_of ls))
      by (Some x) f = (f ∙ sym (find-within id n x l (all_of ls) f), sym (replace-within x l (all_of ls) f))
      by None f =
          let behind = find-behind id n l (all_of ls) f in
          let none = gone (find_id id n (all_of ls)) refl (subst (λ o. IfSome o (λ x. rank x ≡ rank y)) behind a) in
          (f ∙ sym (behind ∙ none), ap (λ m. m ++ all_of ls) (replace-absent l f) ∙ sym (replace-behind l (all_of ls) f ∙ ap (λ m. l ++ m) (replace-absent (all_of ls) none)))
  alike_there (l ∷ ls) (suc p) s e a = by (find_id id n l) refl (alike_there ls p s.1 (omega arith))
    where
      by : (o : Option X) → find_id id n l ≡ o
          → (IfSome (find_id id n (all_of ls)) (λ x. rank x ≡ rank y)
          → (find_id id n (level_at ls p) ≡ find_id id n (all_of ls)) × (all_of (set ls p (replace_id id n y (level_at ls p))) ≡ replace_id id n y (all_of ls)))
          → (find_id id n (level_at ls p) ≡ find_id id n (l ++ all_of ls))
          × (l ++ all_of (set ls p (replace_id id n y (level_at ls p))) ≡ replace_id id n y (l ++ all_of ls))
      by (Some x) f k =
          let r = of_level (length ls) l x s.0 f in
          let b : rank x ≡ rank y = subst (λ o. IfSome o (λ x. rank x ≡ rank y)) (find-within id n x l (all_of ls) f) a in
          absurd (omega arith)
      by None f k =
          let behind = find-behind id n l (all_of ls) f in
          let rest = k (subst (λ o. IfSome o (λ x. rank x ≡ rank y)) behind a) in
          (rest.0 ∙ sym behind, ap (λ m. l ++ m) rest.1 ∙ sym (replace-behind l (all_of ls) f))

  pub greatest-replace : (xs : List X) → IfSome (find_id id n xs) (λ x. rank x ≡ rank y) → greatest_rank rank (replace_id id n y xs) ≡ greatest_rank rank xs
  greatest-replace [] a = refl
  greatest-replace (x ∷ xs) a = grind arith

  pub alike_rank : (o : Option X) → IfSome o (λ x. IsAlike rank key id x y) → IfSome o (λ x. rank x ≡ rank y)
  alike_rank None a = tt
  alike_rank (Some x) a = a.0

  -- the item of the level is the one that is alike
  pub alike_in_level : (ls : List (List X)) (p : ℕ) → IsLevelled rank ls → p + suc (rank y) ≡ length ls
      → IfSome (find_id id n (all_of ls)) (λ x. IsAlike rank key id x y) → IfSome (find_id id n (level_at ls p)) (λ x. IsAlike rank key id x y)
  alike_in_level ls p s e a =
      let both = alike_there ls p s e (alike_rank (find_id id n (all_of ls)) a) in
      subst (λ o. IfSome o (λ x. IsAlike rank key id x y)) (sym both.0) a
