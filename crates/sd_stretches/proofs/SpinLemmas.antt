-- The stretches cut at the ticks that are spent spinning.
use Rattle.std.proofs.Common.{◌≡◌, ℕ, ◌-◌, Bool, true, false, List, [], ◌∷◌, ◌++◌, refl, sym, ap, subst, ◌∙◌, append_assoc, arith}
use Rattle.std.specs.Prelude.{nat_lt, max, min, if◌then◌else◌}
use Rattle.std.proofs.lemmas.Bool.Decides.{nat_tests}
use Rattle.sd_types.specs.declared.numbers.CpuId.{CpuId}
use Rattle.sd_stretches.specs.declared.sights.Doing.{Doing}
use Rattle.sd_stretches.specs.declared.sights.Doing.TheVariants.{Running}
use Rattle.sd_stretches.specs.declared.rows.Stretch.{Stretch}
use Rattle.sd_stretches.specs.declared.spin_pieces.Spell.{Spell}
use Rattle.sd_stretches.specs.SpinPieces.{before, cut, cut_all, pieces_by, rest_after, spells_of, spun, Fills, PiecesFillStretches}

-- a piece behind which more follow
pub cut_more : (c : CpuId) (x : Stretch) (s : Spell) (ss : List Spell) → nat_lt s.to x.to ≡ true → cut c x (s ∷ ss) ≡ (before x s ++ spun c x s ∷ []) ++ cut c (rest_after x s) ss
unfolding cut
cut_more c x s ss more =
    ap (λ b. before x s ++ spun c x s ∷ (if b then cut c (rest_after x s) ss else [])) more
    ∙ sym (append_assoc (before x s) (spun c x s ∷ []) (cut c (rest_after x s) ss))

-- the last piece
pub cut_last : (c : CpuId) (x : Stretch) (s : Spell) (ss : List Spell) → nat_lt s.to x.to ≡ false → cut c x (s ∷ ss) ≡ before x s ++ spun c x s ∷ []
unfolding cut
cut_last c x s ss last = ap (λ b. before x s ++ spun c x s ∷ (if b then cut c (rest_after x s) ss else [])) last

-- stretches that are cut nowhere
pieces_whole : (d : Doing) (x : Stretch) → pieces_by d x [] ≡ x ∷ []
unfolding cut spells_of
pieces_whole (Running c) x = refl
pieces_whole d x = refl

pub cut_nowhere : (own : List Stretch) → cut_all own [] ≡ own
unfolding cut_all
cut_nowhere [] = refl
cut_nowhere (x ∷ xs) = ap (λ (ys : List Stretch). ys ++ cut_all xs []) (pieces_whole x.doing x) ∙ ap (λ (ys : List Stretch). x ∷ ys) (cut_nowhere xs)

-- what is pushed in two steps
pub pushed_two : {A : Type 0} (out first both bef one rest whole all : List A) → first ≡ out ++ bef → both ≡ first ++ one → whole ≡ (bef ++ one) ++ rest
    → out ++ whole ≡ all → both ++ rest ≡ all
pushed_two {A} out first both bef one rest whole all is-first is-both is-whole so-far =
    ap (λ (xs : List A). xs ++ rest) (is-both ∙ ap (λ (xs : List A). xs ++ one) is-first ∙ append_assoc out bef one)
    ∙ append_assoc out (bef ++ one) rest ∙ ap (λ (xs : List A). out ++ xs) (sym is-whole) ∙ so-far

pub fills_cons : (from to : ℕ) (p : Stretch) (ys : List Stretch) → p.from ≡ from → Fills p.to to ys → Fills from to (p ∷ ys)
fills_cons from to p [] begins fills = absurd fills
fills_cons from to p (q ∷ qs) begins fills = (begins, fills)

module _ (c : CpuId) (x : Stretch) (s : Spell) (ss : List Spell) where
  -- the spell and what follows it
  fills_spell : (b : Bool) (from : ℕ) → nat_lt s.to x.to ≡ b → max x.from s.from ≡ from → Fills s.to x.to (cut c (rest_after x s) ss)
      → Fills from x.to (spun c x s ∷ (if b then cut c (rest_after x s) ss else []))
  fills_spell true from more begins rest =
      let ends : s.to ≡ min s.to x.to = grind (arith, nat_tests) in
      fills_cons from x.to (spun c x s) (cut c (rest_after x s) ss) begins (subst (λ n. Fills n x.to (cut c (rest_after x s) ss)) ends rest)
  fills_spell false from last begins rest =
      let ends : min s.to x.to ≡ x.to = grind (arith, nat_tests) in
      (begins, ends)

  fills_by : (b : Bool) (ys : List Stretch) → nat_lt x.from s.from ≡ b → ((from : ℕ) → max x.from s.from ≡ from → Fills from x.to ys)
      → Fills x.from x.to ((if b then record x { last = s.first - 1; to = s.from } ∷ [] else []) ++ ys)
  fills_by true ys before rest =
      let begins : max x.from s.from ≡ s.from = grind (arith, nat_tests) in
      fills_cons x.from x.to (record x { last = s.first - 1; to = s.from }) ys refl (rest s.from begins)
  fills_by false ys none rest =
      let begins : max x.from s.from ≡ x.from = grind (arith, nat_tests) in
      rest x.from begins

fills_cut : (c : CpuId) (spells : List Spell) (x : Stretch) → Fills x.from x.to (cut c x spells)
unfolding cut
fills_cut c [] x = (refl, refl)
fills_cut c (s ∷ ss) x =
    fills_by c x s ss (nat_lt x.from s.from) (spun c x s ∷ (if nat_lt s.to x.to then cut c (rest_after x s) ss else [])) refl
    (λ from begins. fills_spell c x s ss (nat_lt s.to x.to) from refl begins (fills_cut c ss (rest_after x s)))

fills_pieces : (d : Doing) (x : Stretch) (spells : List Spell) → Fills x.from x.to (pieces_by d x spells)
fills_pieces (Running c) x spells = fills_cut c (spells_of spells) x
fills_pieces d x spells = (refl, refl)

pub pieces_fill : PiecesFillStretches
pieces_fill x spells = fills_pieces x.doing x spells
