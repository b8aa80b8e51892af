-- An item with an id, where it is known of which rank it is.
use Rattle.std.proofs.Common.{◌≡◌, ℕ, zero, suc, ◌+◌, ◌<◌, ◌≤◌, List, [], ◌∷◌, ◌++◌, length, set, Option, Some, None, IfSome, refl, sym, ap, ◌∙◌, arith, subst, length-set, ℤ}
use Rattle.sd_boxq.specs.Order.{find_id, drop_id}
use Rattle.sd_dispq.specs.Levels.{all_of, level_at, IsLevelled}
use Rattle.sd_dispq.specs.Ranks.{greatest_rank}
use Rattle.sd_dispq.proofs.LevelLemmas.{drop-absent, drop-behind, drop-within, find-behind, find-within, found_below, levelled-drop_id, of_level}

module _ {X : Type 0} (rank : X → ℕ) (key : X → ℤ) (id : X → ℕ) (n : ℕ) where
  -- the first item with the id has rank r, if there is one
  abbrev pub HasRank : ℕ → List X → Type 0
  HasRank r xs = IfSome (find_id id n xs) (λ x. rank x ≡ r)

  -- then it stands in the level of that rank
  pub ranked_there : (ls : List (List X)) (p r : ℕ) → IsLevelled rank ls → p + suc r ≡ length ls → HasRank r (all_of ls)
      → (find_id id n (level_at ls p) ≡ find_id id n (all_of ls)) × (all_of (set ls p (drop_id id n (level_at ls p))) ≡ drop_id id n (all_of ls))
  ranked_there [] p r s e a = absurd (omega arith)
  ranked_there (l ∷ ls) zero r s e a = by (find_id id n l) refl
    where
      gone : (o : Option X) → find_id id n (all_of ls) ≡ o → IfSome o (λ x. rank x ≡ r) → find_id id n (all_of ls) ≡ None
      gone None f b = f
      gone (Some x) f b = let low = found_below rank key id n x ls x s.1 f in absurd (omega arith)

      by : (o : Option X) → find_id id n l ≡ o
          → (find_id id n l ≡ find_id id n (l ++ all_of ls)) × (drop_id id n l ++ all_of ls ≡ drop_id id n (l ++ all_of ls))
      by (Some x) f = (f ∙ sym (find-within id n x l (all_of ls) f), sym (drop-within id n x l (all_of ls) f))
      by None f =
          let behind = find-behind id n l (all_of ls) f in
          let none = gone (find_id id n (all_of ls)) refl (subst (λ o. IfSome o (λ x. rank x ≡ r)) behind a) in
          (f ∙ sym (behind ∙ none), ap (λ m. m ++ all_of ls) (drop-absent id n l f) ∙ sym (drop-behind id n l (all_of ls) f ∙ ap (λ m. l ++ m) (drop-absent id n (all_of ls) none)))
  ranked_there (l ∷ ls) (suc p) r s e a = by (find_id id n l) refl (ranked_there ls p r s.1 (omega arith))
    where
      by : (o : Option X) → find_id id n l ≡ o
          → (HasRank r (all_of ls) → (find_id id n (level_at ls p) ≡ find_id id n (all_of ls)) × (all_of (set ls p (drop_id id n (level_at ls p))) ≡ drop_id id n (all_of ls)))
          → (find_id id n (level_at ls p) ≡ find_id id n (l ++ all_of ls)) × (l ++ all_of (set ls p (drop_id id n (level_at ls p))) ≡ drop_id id n (l ++ all_of ls))
      by (Some x) f k =
          let own = of_level rank key id n x (length ls) l x s.0 f in
          let b : rank x ≡ r = subst (λ o. IfSome o (λ x. rank x ≡ r)) (find-within id n x l (all_of ls) f) a in
          absurd (omega arith)
      by None f k =
          let behind = find-behind id n l (all_of ls) f in
          let rest = k (subst (λ o. IfSome o (λ x. rank x ≡ r)) behind a) in
          (rest.0 ∙ sym behind, ap (λ m. l ++ m) rest.1 ∙ sym (drop-behind id n l (all_of ls) f))

  -- no item has a rank as great as the number of levels
  pub none_so_high : (ls : List (List X)) (r : ℕ) → IsLevelled rank ls → length ls ≤ r → HasRank r (all_of ls) → find_id id n (all_of ls) ≡ None
  none_so_high ls r s h a = by (find_id id n (all_of ls)) refl a
    where
      by : (o : Option X) → find_id id n (all_of ls) ≡ o → IfSome o (λ x. rank x ≡ r) → find_id id n (all_of ls) ≡ None
      by None e b = e
      by (Some x) e b = let low = found_below rank key id n x ls x s e in absurd (omega arith)

  -- the level without the item keeps the ranks
  pub levelled_taken : (ls new : List (List X)) (p r : ℕ) → length ls ≡ 160 → IsLevelled rank ls → p + r + 1 ≡ 160 → new ≡ set ls p (drop_id id n (level_at ls p))
      → (length new ≡ 160) × (IsLevelled rank new)
  levelled_taken ls new p r k s h e =
      (ap length e ∙ length-set ls p _ ∙ k, subst (IsLevelled rank) (sym e) (levelled-drop_id rank id n ls p s (omega arith)))
