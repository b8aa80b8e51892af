-- What each call makes of the levels and the greatest rank.
use Rattle.std.proofs.Common.{◌≡◌, ℕ, zero, suc, ◌+◌, ◌<◌, List, [], ◌∷◌, ◌++◌, length, set, drop, Option, Some, None, slice_get, refl, sym, ap, ◌∙◌, arith, subst, length-set, ℤ, is_some, true, ◌≤◌, ◌≢◌, ◌⊎◌, inl, inr, IfSome}
use Rattle.sd_boxq.specs.Order.{insert_ranked, insert_by_key, find_id, drop_id, replace_id, IsAlike}
use Rattle.std.proofs.lemmas.Bool.{cases_eq}
use Rattle.sd_basics.proofs.Lists.{get_more}
use Rattle.sd_dispq.specs.Levels.{all_of, level_at, IsLevelled, IsHolder, IsNextBusy, AreIdleFrom}
use Rattle.sd_dispq.specs.Ranks.{put_front, put_back, greatest_rank, raised}
use Rattle.sd_dispq.proofs.LevelLemmas.{HaveRank-at, ranked-by_key, all_of-front, all_of-back, all_of-ranked, levelled-front, levelled-back, levelled-ranked, levelled-drop, greatest-front, greatest-back, greatest-ranked, first_there, found_there, found_nowhere, find-within, find-behind, to_next, levelled-replace, alike_there, alike_rank, greatest-replace}

module _ {X : Type 0} (rank : X → ℕ) where
  abbrev pub Sound : List (List X) → Option ℕ → Type 0
  Sound ls o = (length ls ≡ 160) × (IsLevelled rank ls) × (o ≡ greatest_rank rank (all_of ls))

  changed : (ls new : List (List X)) (o o' : Option ℕ) (p r : ℕ) (l xs : List X) → Sound ls o → new ≡ set ls p l → IsLevelled rank (set ls p l)
      → all_of (set ls p l) ≡ xs → greatest_rank rank xs ≡ raised (greatest_rank rank (all_of ls)) r → o' ≡ raised o r
      → Sound new o' × (all_of new ≡ xs)
  changed ls new o o' p r l xs s e v a k t =
      let all : all_of new ≡ xs = ap all_of e ∙ a in
      ((ap length e ∙ length-set ls p l ∙ s.0, subst (IsLevelled rank) (sym e) v, t ∙ ap (λ m. raised m r) s.2 ∙ sym k ∙ ap (greatest_rank rank) (sym all)), all)

  there : (ls : List (List X)) (p r : ℕ) (x : X) → length ls ≡ 160 → r ≡ rank x → p + r + 1 ≡ 160 → p + suc (rank x) ≡ length ls
  there ls p r x n e h = omega arith

  module _ (ls new : List (List X)) (o o' : Option ℕ) (p r : ℕ) (x : X) (s : Sound ls o) (e : r ≡ rank x) (h : p + r + 1 ≡ 160) (t : o' ≡ raised o r) where
    at : p + suc (rank x) ≡ length ls
    at = there ls p r x s.0 e h

    up : o' ≡ raised o (rank x)
    up = t ∙ ap (raised o) e

    pub to_front : new ≡ set ls p (x ∷ level_at ls p) → Sound new o' × (all_of new ≡ put_front rank x (all_of ls))
    to_front k = changed ls new o o' p (rank x) _ _ s k (levelled-front rank x ls p s.1 at) (all_of-front rank x ls p s.1 at) (greatest-front rank x (all_of ls)) up

    pub to_back : new ≡ set ls p (level_at ls p ++ x ∷ []) → Sound new o' × (all_of new ≡ put_back rank x (all_of ls))
    to_back k = changed ls new o o' p (rank x) _ _ s k (levelled-back rank x ls p s.1 at) (all_of-back rank x ls p s.1 at) (greatest-back rank x (all_of ls)) up

    pub to_rank : (key : X → ℤ) → new ≡ set ls p (insert_ranked rank key x (level_at ls p)) → Sound new o' × (all_of new ≡ insert_ranked rank key x (all_of ls))
    to_rank key k = changed ls new o o' p (rank x) _ _ s k (levelled-ranked rank key x ls p s.1 at) (all_of-ranked rank key x ls p s.1 at) (greatest-ranked rank key x (all_of ls)) up

    pub to_rank_by_key : (key : X → ℤ) → new ≡ set ls p (insert_by_key key x (level_at ls p)) → Sound new o' × (all_of new ≡ insert_ranked rank key x (all_of ls))
    to_rank_by_key key k = to_rank key (k ∙ ap (set ls p) (ranked-by_key rank key x (level_at ls p) (HaveRank-at rank ls p (rank x) s.1 at)))

  small : (ls : List (List X)) (r : ℕ) → IsLevelled rank ls → Some r ≡ greatest_rank rank (all_of ls) → r < length ls
  small [] r s e = absurd cc
  small ([] ∷ ls) r s e = let h = small ls r s.1 e in omega arith
  small ((y ∷ l) ∷ ls) r s e = let t = s.0.0 in let same : r ≡ rank y = cc in omega arith

  -- a greatest rank is that of a level
  pub is_rank : (ls : List (List X)) (o : Option ℕ) (r : ℕ) → Sound ls o → o ≡ Some r → r < 160
  is_rank ls o r s e = let h = small ls r s.1 (sym e ∙ s.2) in let n = s.0 in omega arith

  -- the best is the first of the level of the greatest rank
  pub record BestThere (ls : List (List X)) (p : ℕ) : Type 0 where
    pub y : X
    pub ys : List X
    pub all : all_of ls ≡ y ∷ ys
    pub first : slice_get (level_at ls p) 0 ≡ Some y
    pub rest : all_of (set ls p (drop 1 (level_at ls p))) ≡ ys

  best_by : (ls : List (List X)) (p r : ℕ) (xs : List X) → all_of ls ≡ xs → IsLevelled rank ls → Some r ≡ greatest_rank rank xs → p + suc r ≡ length ls → BestThere ls p
  best_by ls p r [] a s e h = absurd cc
  best_by ls p r (y ∷ ys) a s e h =
      let same : r ≡ rank y = cc in
      let f = first_there rank ls p y ys s a (omega arith) in
      record { y = y; ys = ys; all = a; first = f.0; rest = f.1 }

  pub best_there : (ls : List (List X)) (o : Option ℕ) (p r : ℕ) → Sound ls o → o ≡ Some r → p + r + 1 ≡ 160 → BestThere ls p
  best_there ls o p r s e h = let n = s.0 in best_by ls p r (all_of ls) refl s.1 (sym e ∙ s.2) (omega arith)

  pub none_there : (ls : List (List X)) (o : Option ℕ) → Sound ls o → o ≡ None → all_of ls ≡ []
  none_there ls o s e = by (all_of ls) refl
    where
      by : (xs : List X) → all_of ls ≡ xs → all_of ls ≡ []
      by [] a = a
      by (y ∷ ys) a = let k : None ≡ greatest_rank rank (y ∷ ys) = sym e ∙ s.2 ∙ ap (greatest_rank rank) a in absurd cc

  -- a level that changes keeps the ranks
  pub levelled_without : (ls new : List (List X)) (p r : ℕ) → length ls ≡ 160 → IsLevelled rank ls → p + r + 1 ≡ 160
      → new ≡ set ls p (drop 1 (level_at ls p)) → (length new ≡ 160) × (IsLevelled rank new)
  levelled_without ls new p r n s h e =
      (ap length e ∙ length-set ls p _ ∙ n, subst (IsLevelled rank) (sym e) (levelled-drop rank ls p s (omega arith)))

  -- an item makes room for one alike
  pub replaced : (key : X → ℤ) (id : X → ℕ) (n : ℕ) (y : X) (ls new : List (List X)) (o : Option ℕ) (p r : ℕ) → Sound ls o → r ≡ rank y → p + r + 1 ≡ 160
      → IfSome (find_id id n (all_of ls)) (λ x. IsAlike rank key id x y) → new ≡ set ls p (replace_id id n y (level_at ls p))
      → Sound new o × (find_id id n (level_at ls p) ≡ find_id id n (all_of ls)) × (all_of new ≡ replace_id id n y (all_of ls))
  replaced key id n y ls new o p r s e h a t =
      let at = there ls p r y s.0 e h in
      let alike = alike_rank rank key id n y (find_id id n (all_of ls)) a in
      let both = alike_there rank key id n y ls p s.1 at alike in
      let all : all_of new ≡ replace_id id n y (all_of ls) = ap all_of t ∙ both.1 in (
        (
          ap length t ∙ length-set ls p _ ∙ s.0,
          subst (IsLevelled rank) (sym t) (levelled-replace rank key id n y ls p s.1 at),
          s.2 ∙ sym (ap (greatest_rank rank) all ∙ greatest-replace rank key id n y (all_of ls) alike),
        ),
        both.0,
        all,
      )

module _ {X : Type 0} (id : X → ℕ) (n : ℕ) (ls : List (List X)) (p : ℕ) where
  by_find : (o : Option X) → find_id id n (level_at ls p) ≡ o → IsHolder id n ls p
      → (find_id id n (all_of ls) ≡ find_id id n (level_at ls p)) × (all_of (set ls p (drop_id id n (level_at ls p))) ≡ drop_id id n (all_of ls))
  by_find None e h = let k : is_some {T = X} None ≡ true = sym (ap is_some e) ∙ h.1 in absurd cc
  by_find (Some y) e h = let f = found_there id n ls p y h.0 h.2 e in (f.0 ∙ sym e, f.1)

  -- the first level that has the id has the first item with it
  pub holder_is : IsHolder id n ls p
      → (find_id id n (all_of ls) ≡ find_id id n (level_at ls p)) × (all_of (set ls p (drop_id id n (level_at ls p))) ≡ drop_id id n (all_of ls))
  holder_is h = by_find (find_id id n (level_at ls p)) refl h

-- ---- by index

get-behind : {X : Type 0} (l m : List X) (i k : ℕ) → i ≡ length l + k → slice_get (l ++ m) i ≡ slice_get m k
get-behind [] m i k e = ap (slice_get m) (omega arith)
get-behind (y ∷ l) m zero k e = absurd (omega arith)
get-behind (y ∷ l) m (suc i) k e = get-behind l m i k (omega arith)

module _ {X : Type 0} (ls : List (List X)) (m i : ℕ) (h : IsNextBusy ls m i) where
  pub seek_here : (left : ℕ) (x : X) → slice_get (level_at ls i) left ≡ Some x → slice_get (all_of (drop m ls)) left ≡ Some x
  seek_here left x e = ap (λ xs. slice_get xs left) (to_next ls m i h) ∙ get_more (level_at ls i) (all_of (drop (i + 1) ls)) left x e

  pub seek_past : (left rest : ℕ) → left ≡ length (level_at ls i) + rest → slice_get (all_of (drop (i + 1) ls)) rest ≡ slice_get (all_of (drop m ls)) left
  seek_past left rest e =
      sym (ap (λ xs. slice_get xs left) (to_next ls m i h) ∙ get-behind (level_at ls i) (all_of (drop (i + 1) ls)) left rest e)

-- ---- by id, from level to level
module _ {X : Type 0} (id : X → ℕ) (n : ℕ) (ls : List (List X)) where
  pub found_here : (m i : ℕ) (x : X) → IsNextBusy ls m i → find_id id n (level_at ls i) ≡ Some x → find_id id n (all_of (drop m ls)) ≡ Some x
  found_here m i x h e = ap (find_id id n) (to_next ls m i h) ∙ find-within id n x (level_at ls i) (all_of (drop (i + 1) ls)) e

  pub found_past : (m i : ℕ) → IsNextBusy ls m i → find_id id n (level_at ls i) ≡ None → find_id id n (all_of (drop (i + 1) ls)) ≡ find_id id n (all_of (drop m ls))
  found_past m i h e = sym (ap (find_id id n) (to_next ls m i h) ∙ find-behind id n (level_at ls i) (all_of (drop (i + 1) ls)) e)

  -- no level before m has the id
  abbrev pub AreWithout : ℕ → Type 0
  AreWithout m = (j : ℕ) → j < m → find_id id n (level_at ls j) ≡ None

  without_more : (m i j : ℕ) → AreWithout m → ((k : ℕ) → m ≤ k → k < i → level_at ls k ≡ []) → j < i → (j < m) ⊎ (m ≤ j) → find_id id n (level_at ls j) ≡ None
  without_more m i j w e h (inl less) = w j less
  without_more m i j w e h (inr more) = ap (find_id id n) (e j more h)

  pub without_to : (m i : ℕ) → AreWithout m → IsNextBusy ls m i → AreWithout i
  without_to m i w h j b = without_more m i j w h.3 b (grind arith)

  pub without_past : (m i : ℕ) → AreWithout m → IsNextBusy ls m i → find_id id n (level_at ls i) ≡ None → AreWithout (i + 1)
  without_past m i w h e j b = by (cases_eq j i)
    where
      by : (j ≡ i) ⊎ (j ≢ i) → find_id id n (level_at ls j) ≡ None
      by (inl same) = ap (λ k. find_id id n (level_at ls k)) same ∙ e
      by (inr other) = without_to m i w h j (omega arith)

  pub without_all : (m : ℕ) → AreWithout m → AreIdleFrom ls m → find_id id n (all_of ls) ≡ None
  without_all m w h = found_nowhere id n ls (λ i b. without_more m (length ls) i w (λ k g l. h k g) b (grind arith))

  pub holder_here : (m i : ℕ) (x : X) → AreWithout m → IsNextBusy ls m i → find_id id n (level_at ls i) ≡ Some x → IsHolder id n ls i
  holder_here m i x w h e = (h.1, ap is_some e, without_to m i w h)
