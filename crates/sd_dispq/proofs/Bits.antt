-- Bits of words.
use Rattle.std.proofs.Common.{◌≡◌, ◌≢◌, ℕ, zero, suc, ◌+◌, ◌-◌, ◌*◌, ◌/◌, ◌%◌, ◌^◌, ◌<◌, ◌≤◌, ◌⊎◌, List, [], ◌∷◌, length, get_or, set, bit_and, bit_or, min, refl, subst, sym, ap, ◌∙◌, arith, inl, inr, w64}
use Rattle.std.specs.Int.{bit_at, trailing_zeros}
use Rattle.std.proofs.lemmas.List.{get_or-set_same, get_or-set_other}
use Rattle.std.proofs.lemmas.Nat.Bits.{bit_at_set_same, bit_at_set_other, bit_at_clear_same, bit_at_clear_other, bit_at-trailing_zeros, bit_at_and, bit_at-lt, bit_at_mask_inside, bit_at_mask_below, ones_shl}
use Rattle.std.proofs.lemmas.Bool.{cases_eq}
use Rattle.sd_dispq.specs.Bitmap.{bit_of, HasBit, IsNextSet}

others : (v : List ℕ) (p x i : ℕ) → p / 64 < length v
    → ((j : ℕ) → j < 64 → j ≢ p % 64 → bit_at x j ≡ bit_at (get_or v (p / 64) 0) j)
    → i ≢ p → (i / 64 ≡ p / 64) ⊎ (i / 64 ≢ p / 64) → bit_of (set v (p / 64) x) i ≡ bit_of v i
others v p x i h same n (inl e) =
    ap (λ k. bit_at (get_or (set v (p / 64) x) k 0) (i % 64)) e
    ∙ ap (λ w. bit_at w (i % 64)) (get_or-set_same v (p / 64) x 0 h)
    ∙ same (i % 64) (omega arith) (omega arith)
    ∙ ap (λ k. bit_at (get_or v k 0) (i % 64)) (sym e)
others v p x i h same n (inr m) = ap (λ w. bit_at w (i % 64)) (get_or-set_other v (p / 64) (i / 64) x 0 m)

made : (v : List ℕ) (p x b : ℕ) → p / 64 < length v → bit_at x (p % 64) ≡ b
    → ((j : ℕ) → j < 64 → j ≢ p % 64 → bit_at x j ≡ bit_at (get_or v (p / 64) 0) j)
    → HasBit v p b (set v (p / 64) x)
made v p x b h here same =
    (ap (λ w. bit_at w (p % 64)) (get_or-set_same v (p / 64) x 0 h) ∙ here, λ i n. others v p x i h same n (cases_eq (i / 64) (p / 64)))

HasBit-set : (v : List ℕ) (p : ℕ) → p / 64 < length v
    → HasBit v p 1 (set v (p / 64) (bit_or (get_or v (p / 64) 0) (1 * 2 ^ (p % 64) % 2 ^ 64)))
HasBit-set v p h =
    made v p _ 1 h (bit_at_set_same w64 (get_or v (p / 64) 0) (p % 64) (omega arith))
    (λ j _ n. bit_at_set_other w64 (get_or v (p / 64) 0) (p % 64) (omega arith) j n)

HasBit-clear : (v : List ℕ) (p : ℕ) → p / 64 < length v
    → HasBit v p 0 (set v (p / 64) (bit_and (get_or v (p / 64) 0) (2 ^ 64 - 1 - 1 * 2 ^ (p % 64) % 2 ^ 64)))
HasBit-clear v p h =
    made v p _ 0 h (bit_at_clear_same w64 (get_or v (p / 64) 0) (p % 64) (omega arith))
    (λ j b n. bit_at_clear_other w64 (get_or v (p / 64) 0) (p % 64) (omega arith) j b n)

any_default : (v : List ℕ) (k a b : ℕ) → k < length v → get_or v k a ≡ get_or v k b
any_default [] k a b h = absurd (omega arith)
any_default (w ∷ v) zero a b h = refl
any_default (w ∷ v) (suc k) a b h = any_default v k a b (omega arith)

-- x is the word that was read
word_read : (v : List ℕ) (k x : ℕ) → k < length v → x ≡ get_or v k x → get_or v k 0 ≡ x
word_read v k x h e = any_default v k 0 x h ∙ sym e

pub bit_set : (v w : List ℕ) (p x : ℕ) → v ≡ w → p / 64 < length v → x ≡ get_or v (p / 64) x → HasBit w p 1 (set v (p / 64) (bit_or x (1 * 2 ^ (p % 64) % 2 ^ 64)))
bit_set v w p x same h e =
    subst (λ u. HasBit u p 1 (set v (p / 64) (bit_or x (1 * 2 ^ (p % 64) % 2 ^ 64)))) same
    (subst (λ y. HasBit v p 1 (set v (p / 64) (bit_or y (1 * 2 ^ (p % 64) % 2 ^ 64)))) (word_read v (p / 64) x h e) (HasBit-set v p h))

pub bit_cleared : (v w : List ℕ) (p x : ℕ) → v ≡ w → p / 64 < length v → x ≡ get_or v (p / 64) x → HasBit w p 0 (set v (p / 64) (bit_and x (2 ^ 64 - 1 - 1 * 2 ^ (p % 64) % 2 ^ 64)))
bit_cleared v w p x same h e =
    subst (λ u. HasBit u p 0 (set v (p / 64) (bit_and x (2 ^ 64 - 1 - 1 * 2 ^ (p % 64) % 2 ^ 64)))) same
    (subst (λ y. HasBit v p 0 (set v (p / 64) (bit_and y (2 ^ 64 - 1 - 1 * 2 ^ (p % 64) % 2 ^ 64)))) (word_read v (p / 64) x h e) (HasBit-clear v p h))

past_or_in : (a b : ℕ) → (a < b) ⊎ (b ≤ a)
past_or_in a b = grind arith

bit_in : (v : List ℕ) (k i : ℕ) → i / 64 ≡ k → bit_of v i ≡ bit_at (get_or v k 0) (i % 64)
bit_in v k i e = ap (λ j. bit_at (get_or v j 0) (i % 64)) e

-- ---- a word without its low bits
word_bit : (v : List ℕ) (k i : ℕ) → i < 64 → bit_at (get_or v k 0) i ≡ bit_of v (64 * k + i)
word_bit v k i h =
    let q : (64 * k + i) / 64 ≡ k = omega arith in
    let r : (64 * k + i) % 64 ≡ i = omega arith in
    sym (bit_in v k (64 * k + i) q ∙ ap (bit_at (get_or v k 0)) r)

pub read_bit : (v w : List ℕ) (k x i : ℕ) → v ≡ w → k < length v → x ≡ get_or v k x → i < 64 → bit_at x i ≡ bit_of w (64 * k + i)
read_bit v w k x i same h e b = ap (λ y. bit_at y i) (sym (word_read v k x h e)) ∙ word_bit v k i b ∙ ap (λ u. bit_of u (64 * k + i)) same

min_one : (a : ℕ) → a < 2 → min a 1 ≡ a
min_one a h = omega arith

min_zero : (a : ℕ) → min a 0 ≡ 0
min_zero a = omega arith

pub masked_kept : (w k i : ℕ) → k < 64 → k ≤ i → i < 64 → bit_at (bit_and w ((2 ^ 64 - 1) * 2 ^ k % 2 ^ 64)) i ≡ bit_at w i
masked_kept w k i h b f =
    ap (λ m. bit_at (bit_and w m) i) (ones_shl 64 k (omega arith)) ∙ bit_at_and w (2 ^ 64 - 2 ^ k) i
    ∙ ap (min (bit_at w i)) (bit_at_mask_inside k 64 i b f) ∙ min_one (bit_at w i) (bit_at-lt w i)

pub masked_cleared : (w k i : ℕ) → k < 64 → i < k → bit_at (bit_and w ((2 ^ 64 - 1) * 2 ^ k % 2 ^ 64)) i ≡ 0
masked_cleared w k i h b =
    ap (λ m. bit_at (bit_and w m) i) (ones_shl 64 k (omega arith)) ∙ bit_at_and w (2 ^ 64 - 2 ^ k) i
    ∙ ap (min (bit_at w i)) (bit_at_mask_below k 64 i b) ∙ min_zero (bit_at w i)

-- ---- the next bit that is set
-- no bit is set from m on in the words before k
abbrev pub AreZero : List ℕ → ℕ → ℕ → Type 0
AreZero v m k = (i : ℕ) → m ≤ i → i < 64 * k → bit_of v i ≡ 0

-- w is word k without its bits before m
pub record IsFrom (v : List ℕ) (m k w : ℕ) : Type 0 where
  pub kept : (i : ℕ) → i < 64 → m ≤ 64 * k + i → bit_at w i ≡ bit_of v (64 * k + i)
  pub cleared : (i : ℕ) → i < 64 → 64 * k + i < m → bit_at w i ≡ 0

pub next_set : (v : List ℕ) (m k w : ℕ) → k < length v → IsFrom v m k w → AreZero v m k → w ≢ 0 → w < 2 ^ 64 → IsNextSet v m (64 * k + trailing_zeros w64 w)
next_set v m k w h f z n b =
    let low = bit_at-trailing_zeros w64 w (omega arith) b in
    let t = trailing_zeros w64 w in
    let small : t < 64 = low.0 in
    let reached : m ≤ 64 * k + t = reach t small low.1 (past_or_in (64 * k + t) m) in
    (reached, omega arith, sym (f.kept t small reached) ∙ low.1, λ i g l. before t small low.2 i g l (past_or_in i (64 * k)))
  where
    reach : (t : ℕ) → t < 64 → bit_at w t ≡ 1 → (64 * k + t < m) ⊎ (m ≤ 64 * k + t) → m ≤ 64 * k + t
    reach t s one (inl less) = let no : 0 ≡ 1 = sym (f.cleared t s less) ∙ one in absurd (omega (arith, no))
    reach t s one (inr more) = more

    before : (t : ℕ) → t < 64 → ((j : ℕ) → j < t → bit_at w j ≡ 0) → (i : ℕ) → m ≤ i → i < 64 * k + t → (i < 64 * k) ⊎ (64 * k ≤ i) → bit_of v i ≡ 0
    before t s below i g l (inl less) = z i g less
    before t s below i g l (inr more) =
        let same : 64 * k + i % 64 ≡ i = omega arith in
        ap (bit_of v) (sym same) ∙ sym (f.kept (i % 64) (omega arith) (omega arith)) ∙ below (i % 64) (omega arith)
