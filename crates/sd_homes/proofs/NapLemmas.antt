-- Which threads nap, by the bits under their numbers, as threads come and leave.
use Rattle.std.proofs.Common.{◌≡◌, ◌≢◌, ℕ, ◌*◌, ◌<◌, ◌≤◌, ◌==◌, Bool, true, false, inl, inr, List, is_some, length, refl, sym, ap, ◌∙◌}
use Rattle.std.proofs.lemmas.Bool.{cases_lt, eqb-false}
use Rattle.sd_boxq.specs.Order.{drop_id, find_id, insert_before, insert_keyed, precedes_keyed}
use Rattle.sd_dispq.specs.Bitmap.{HasBit, bit_of}
use Rattle.sd_record.specs.Records.{ThreadRecord}
use Rattle.sd_homes.specs.ReadyIndexes.{AreNumbersOf}
use Rattle.sd_homes.specs.Standing.{id_of, key_in}
use Rattle.sd_homes.proofs.IndexLemmas.{clash, put_own}
use Rattle.sd_homes.proofs.ListLemmas.{find-dropped_other, find-inserted_other}

-- ---- a thread comes
come : (p : ThreadRecord → Bool) (x : ThreadRecord) (ws vs : List ℕ) (rs : List ThreadRecord) → ((j : ℕ) → j ≢ id_of x → bit_of vs j ≡ bit_of ws j) → AreNumbersOf ws rs
    → AreNumbersOf vs (insert_before p x rs)
come p x ws vs rs others h = λ i e. by i e (id_of x == i) refl
  where
    by : (i : ℕ) → bit_of vs i ≡ 1 → (b : Bool) → (id_of x == i) ≡ b → is_some (find_id id_of i (insert_before p x rs)) ≡ true
    by i e true f = put_own p x i rs f
    by i e false f =
        let n = eqb-false (id_of x) i f in
        ap is_some (find-inserted_other id_of p i x n rs) ∙ h i (sym (others i (λ k. n (sym k))) ∙ e)

others_stay : (i : ℕ) (ws vs : List ℕ) → (i < 64 * length ws → HasBit ws i 1 vs) → (64 * length ws ≤ i → vs ≡ ws) → (j : ℕ) → j ≢ i → bit_of vs j ≡ bit_of ws j
others_stay i ws vs bits beyond j n = elim (cases_lt i (64 * length ws)) [ inl a ↦ (bits a).1 j n | inr b ↦ ap (λ us. bit_of us j) (beyond b) ]

-- the bit under its number is set, where there is one
pub nap_put : (x : ThreadRecord) (i : ℕ) (ws vs : List ℕ) (rs : List ThreadRecord) → i ≡ id_of x → (i < 64 * length ws → HasBit ws i 1 vs) → (64 * length ws ≤ i → vs ≡ ws) → AreNumbersOf ws rs
    → AreNumbersOf vs (insert_keyed key_in id_of x rs)
nap_put x i ws vs rs own bits beyond h = come (precedes_keyed key_in id_of x) x ws vs rs (λ j n. others_stay i ws vs bits beyond j (λ k. n (k ∙ own))) h

-- ---- a thread leaves, and its bit is cleared
pub nap_taken : (t : ℕ) (ws vs : List ℕ) (rs : List ThreadRecord) → HasBit ws t 0 vs → AreNumbersOf ws rs → AreNumbersOf vs (drop_id id_of t rs)
nap_taken t ws vs rs bits h = λ i e.
    let n : i ≢ t = λ k. clash (bit_of vs i) e (ap (bit_of vs) k ∙ bits.0) in
    ap is_some (find-dropped_other id_of i t n rs) ∙ h i (sym (bits.1 i n) ∙ e)
