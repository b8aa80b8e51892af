-- A word that changes, seen through the functions.
use Rattle.std.proofs.Common.{◌≡◌, ◌≢◌, ◌⊎◌, ℕ, ◌+◌, ◌*◌, ◌<◌, ◌≤◌, List, length, set, refl, sym, ⊎_elim, arith}
use Rattle.std.specs.Prelude.{slice_index}
use Rattle.std.proofs.lemmas.Bool.{cases_eq}
use Rattle.std.proofs.lemmas.Bool.Decides.{nat_tests}
use Rattle.std.proofs.lemmas.List.{get_or-set_same, get_or-set_other}
use Rattle.sd_types.specs.declared.works.Work.{Work}
use Rattle.sd_shared_rule.specs.Places.{home_count}
use Rattle.sd_shared_rule.specs.Words.{hint_at, lock_of, put, thread_count, thread_word, tick_of, tick_word, word_count, word_of}

module _ (w : Work) (ws : List ℕ) where
  pub lock_is : (k : ℕ) → k < home_count w → lock_of w ws k ≡ slice_index ws k
  unfolding lock_of
  lock_is k i = grind (arith, nat_tests)

  pub word_is : (t : ℕ) → t < thread_count w → word_of w ws t ≡ slice_index ws (thread_word w t)
  unfolding word_of
  word_is t i = grind (arith, nat_tests)

  pub tick_is : (c : ℕ) → tick_of w ws c ≡ slice_index ws (tick_word w c)
  unfolding tick_of
  tick_is c = refl

  pub hint_is : (i : ℕ) → i < 2 * w.cpus → hint_at w ws i ≡ slice_index ws (home_count w + 1 + thread_count w + i)
  unfolding hint_at
  hint_is i inside = grind (arith, nat_tests)

  module _ (wide : length ws ≡ word_count w) where
    pub lock_set : (k x : ℕ) → k < home_count w → lock_of w (set ws k x) ≡ put (lock_of w ws) k x
    unfolding lock_of put
    lock_set k x i = λ z j. at j z
      where
        at : (j : ℕ) → lock_of w (set ws k x) j ≡ put (lock_of w ws) k x j
        at j = ⊎_elim (λ (e : j ≡ k). let q = get_or-set_same ws k x 0 (omega arith) in grind (arith, nat_tests)) (λ (n : j ≢ k). let q = get_or-set_other ws k j x 0 n in grind (arith, nat_tests)) (cases_eq j k)

    pub lock_kept : (i x : ℕ) → home_count w ≤ i → lock_of w (set ws i x) ≡ lock_of w ws
    unfolding lock_of
    lock_kept i x h = λ z j. at j z
      where
        at : (j : ℕ) → lock_of w (set ws i x) j ≡ lock_of w ws j
        at j = ⊎_elim (λ (e : j ≡ i). grind (arith, nat_tests)) (λ (n : j ≢ i). let q = get_or-set_other ws i j x 0 n in grind (arith, nat_tests)) (cases_eq j i)

    pub word_set : (t x : ℕ) → t < thread_count w → word_of w (set ws (thread_word w t) x) ≡ put (word_of w ws) t x
    unfolding word_of put
    word_set t x i = λ z j. at j z
      where
        at : (j : ℕ) → word_of w (set ws (thread_word w t) x) j ≡ put (word_of w ws) t x j
        at j =
            ⊎_elim (λ (e : j ≡ t). let q = get_or-set_same ws (thread_word w t) x 0 (omega arith) in grind (arith, nat_tests))
            (λ (n : j ≢ t). let q = get_or-set_other ws (thread_word w t) (thread_word w j) x 0 (λ e. n (omega arith)) in grind (arith, nat_tests))
            (cases_eq j t)

    pub word_kept : (i x : ℕ) → (i ≤ home_count w) ⊎ (home_count w + 1 + thread_count w ≤ i) → word_of w (set ws i x) ≡ word_of w ws
    unfolding word_of
    word_kept i x h = λ z j. at j z
      where
        at : (j : ℕ) → word_of w (set ws i x) j ≡ word_of w ws j
        at j = ⊎_elim (λ (e : thread_word w j ≡ i). grind (arith, nat_tests)) (λ (n : thread_word w j ≢ i). let q = get_or-set_other ws i (thread_word w j) x 0 n in grind (arith, nat_tests)) (cases_eq (thread_word w j) i)

    pub tick_else : (i x c : ℕ) → i ≢ tick_word w c → tick_of w (set ws i x) c ≡ tick_of w ws c
    unfolding tick_of
    tick_else i x c n = get_or-set_other ws i (tick_word w c) x 0 (λ e. n (sym e))

    pub tick_set : (c x : ℕ) → c < w.cpus → tick_of w (set ws (tick_word w c) x) c ≡ x
    unfolding tick_of
    tick_set c x i = get_or-set_same ws (tick_word w c) x 0 (omega arith)

    pub stamp_set : (x : ℕ) → slice_index (set ws (home_count w) x) (home_count w) ≡ x
    stamp_set x = get_or-set_same ws (home_count w) x 0 (omega arith)

    pub stamp_kept : (i x : ℕ) → i ≢ home_count w → slice_index (set ws i x) (home_count w) ≡ slice_index ws (home_count w)
    stamp_kept i x n = get_or-set_other ws i (home_count w) x 0 (λ e. n (sym e))

    pub hint_set : (i x : ℕ) → i < 2 * w.cpus → hint_at w (set ws (home_count w + 1 + thread_count w + i) x) ≡ put (hint_at w ws) i x
    unfolding hint_at put
    hint_set i x inside = λ z j. at j z
      where
        at : (j : ℕ) → hint_at w (set ws (home_count w + 1 + thread_count w + i) x) j ≡ put (hint_at w ws) i x j
        at j =
            ⊎_elim (λ (e : j ≡ i). let q = get_or-set_same ws (home_count w + 1 + thread_count w + i) x 0 (omega arith) in grind (arith, nat_tests))
            (λ (n : j ≢ i). let q = get_or-set_other ws (home_count w + 1 + thread_count w + i) (home_count w + 1 + thread_count w + j) x 0 (λ e. n (omega arith)) in grind (arith, nat_tests))
            (cases_eq j i)

    pub hint_kept : (i x : ℕ) → (i < home_count w + 1 + thread_count w) ⊎ (home_count w + 1 + thread_count w + 2 * w.cpus ≤ i) → hint_at w (set ws i x) ≡ hint_at w ws
    unfolding hint_at
    hint_kept i x h = λ z j. at j z
      where
        at : (j : ℕ) → hint_at w (set ws i x) j ≡ hint_at w ws j
        at j =
            ⊎_elim (λ (e : home_count w + 1 + thread_count w + j ≡ i). grind (arith, nat_tests))
            (λ (n : home_count w + 1 + thread_count w + j ≢ i). let q = get_or-set_other ws i (home_count w + 1 + thread_count w + j) x 0 n in grind (arith, nat_tests))
            (cases_eq (home_count w + 1 + thread_count w + j) i)
