-- What a set of byte strings is after an insertion.
use Rattle.std.proofs.Common.{◌≡◌, ℕ, zero, suc, ◌+◌, ◌<◌, ◌≤◌, length, get_or, arith, Bool, true, false, not, ◌||◌, cond, List, [], ◌∷◌, ◌++◌, map, Option, Some, None, refl, sym, ap, ◌∙◌, subst}
use Rattle.std.specs.Prelude.{Vec, is_some, nat_eq, option_map, position, slice_get}
use Rattle.std.specs.List.{list_any}
use Rattle.std.specs.Cmp.Lexicographic.{pointwise, bytes_decides}
use Rattle.std.specs.declared.alloc.Global.{Global}
use Rattle.std.proofs.lemmas.Bool.{true≢false}
use Rattle.std.proofs.lemmas.List.{length-append, length-map, map-append}
use Rattle.std.proofs.lemmas.List.Quantifiers.{position-Some}
use Rattle.std.proofs.lemmas.Option.{same_Some, slice_get-get_or, slice_get-map, slice_get_read}
use Rattle.sd_search.specs.Stored.{IsIndex, IsInserted}

abbrev Bytes : Type 0
Bytes = Vec ℕ Global

abbrev items_of : Bytes → List ℕ
items_of v = v.items

abbrev same : List ℕ → Bytes → Bool
same b k = pointwise nat_eq b k.items

abbrev IsKept : List Bytes → List ℕ → Type 0
IsKept ks b = (i : ℕ) × (slice_get (map items_of ks) i ≡ Some b)

there : (b : List ℕ) (ks : List Bytes) → list_any (same b) ks ≡ true → IsKept ks b
there b [] h = cc
there b (k ∷ ks) h = by (same b k) refl (λ any. there b ks any) h
  where
    by : (t : Bool) → same b k ≡ t → (list_any (same b) ks ≡ true → IsKept ks b) → (t || list_any (same b) ks) ≡ true → IsKept (k ∷ ks) b
    by true e rest any = (zero, ap (λ (xs : List ℕ). Some xs) (sym ((bytes_decides b k.items).0 e)))
    by false e rest any = let later = rest any in (suc later.0, later.1)

nowhere : (b : List ℕ) (ks : List Bytes) → list_any (same b) ks ≡ false → (i : ℕ) → slice_get (map items_of ks) i ≡ Some b → ⊥
nowhere b [] none i at = cc
nowhere b (k ∷ ks) none i at = by (same b k) refl none (λ rest j there. nowhere b ks rest j there) i at
  where
    by : (t : Bool) → same b k ≡ t → (t || list_any (same b) ks) ≡ false → (list_any (same b) ks ≡ false → (j : ℕ) → slice_get (map items_of ks) j ≡ Some b → ⊥)
        → (j : ℕ) → slice_get (map items_of (k ∷ ks)) j ≡ Some b → ⊥
    by true e any rest j here = cc
    by false e any rest zero here =
        let same_bytes : pointwise nat_eq b k.items ≡ true = (bytes_decides b k.items).1 (sym (same_Some k.items b here)) in
        cc
    by false e any rest (suc j) here = rest any j here

-- the place that a look-up finds
pub index_is : (b : List ℕ) (ks : List Bytes) (o : Option ℕ) → o ≡ position (same b) ks → is_some o ≡ list_any (same b) ks → IsIndex (map items_of ks) b o
index_is b [] (Some i) is found = absurd (true≢false found)
index_is b (k ∷ ks) (Some i) is found =
    let p = position-Some (same b) (k ∷ ks) i k (sym is) in
    let bytes : b ≡ (get_or (k ∷ ks) i k).items = (bytes_decides b (get_or (k ∷ ks) i k).items).0 p.1 in
    slice_get-map items_of (k ∷ ks) i ∙ ap (option_map items_of) (slice_get-get_or (k ∷ ks) i k p.0) ∙ ap (λ (z : List ℕ). Some z) (sym bytes)
index_is b ks None is found = nowhere b ks (sym found)

pub is_inserted : (ks ks' : List Bytes) (v : Bytes) (new : Bool) → new ≡ not (list_any (same v.items) ks) → ks' ≡ cond (list_any (same v.items) ks) ks (ks ++ v ∷ [])
    → IsInserted (map items_of ks) (map items_of ks') v.items new
is_inserted ks ks' v new added keys = by (list_any (same v.items) ks) refl added keys
  where
    by : (b : Bool) → list_any (same v.items) ks ≡ b → new ≡ not b → ks' ≡ cond b ks (ks ++ v ∷ []) → IsInserted (map items_of ks) (map items_of ks') v.items new
    by true e none is = subst (λ n. IsInserted (map items_of ks) (map items_of ks') v.items n) (sym none) (ap (map items_of) is, there v.items ks e)
    by false e one is = subst (λ n. IsInserted (map items_of ks) (map items_of ks') v.items n) (sym one) (ap (map items_of) is ∙ map-append items_of ks (v ∷ []), nowhere v.items ks e)

-- one string more stands there at most
pub few_inserted : (bs bs' : List (List ℕ)) (b : List ℕ) (new : Bool) → IsInserted bs bs' b new → length bs' ≤ length bs + 1
few_inserted bs bs' b true is = let many = ap length is.0 ∙ length-append bs (b ∷ []) in omega (arith, many)
few_inserted bs bs' b false is = let many = ap length is.0 in omega (arith, many)

pub no_items : (ks : List Bytes) → ks ≡ [] → map items_of ks ≡ []
no_items ks e = ap (map items_of) e

-- what was read at a place
pub bytes_read : (ks ks' : List Bytes) (v : Bytes) (i : ℕ) (b : List ℕ) → ks ≡ ks' → i < length (map items_of ks') → v ≡ get_or ks i v → b ≡ v.items → slice_get (map items_of ks') i ≡ Some b
bytes_read ks ks' v i b same inside is bytes =
    let many : length (map items_of ks') ≡ length ks' = length-map ks' items_of in
    let long : length ks ≡ length ks' = ap length same in
    let there : slice_get ks i ≡ Some v = slice_get_read ks (length ks) i v refl (omega (arith, many, long, inside)) is in
    slice_get-map items_of ks' i ∙ ap (λ (xs : List Bytes). option_map items_of (slice_get xs i)) (sym same) ∙ ap (option_map items_of) there ∙ ap (λ (z : List ℕ). Some z) (sym bytes)
