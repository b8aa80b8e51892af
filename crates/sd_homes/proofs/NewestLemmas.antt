-- A number that no key passes, as threads come and leave.
use Rattle.std.proofs.Common.{◌≡◌, ℕ, ℤ, ◌≤ℤ◌, ◌<ℤ◌, ◌==◌, Bool, true, false, List, [], ◌∷◌, refl, sym, subst, arith}
use Rattle.std.proofs.lemmas.Int.{ints}
use Rattle.sd_boxq.specs.Order.{drop_first, drop_id, insert_before, insert_ranked, precedes}
use Rattle.sd_dispq.specs.Laws.{KeysBelow}
use Rattle.sd_dispq.specs.Ranks.{put_back}
use Rattle.sd_dispq.proofs.LawLemmas.{back_is_ranked}
use Rattle.sd_record.specs.Records.{ThreadRecord}
use Rattle.sd_homes.specs.Standing.{id_of, key_in, rank_of}
use Rattle.sd_homes.specs.Newest.{KeysAtMost}

below : (k : ℤ) (x : ThreadRecord) (xs : List ThreadRecord) → k <ℤ x.key → KeysAtMost k xs → KeysBelow key_in x.key xs
below k x [] new most = tt
below k x (y ∷ ys) new most =
    let first = most.0 in
    let less : y.key <ℤ x.key = omega (arith, ints) in
    (less, below k x ys new most.1)

-- a thread with a greater key goes to the back of its rank
pub newest_goes_back : (k : ℤ) (x : ThreadRecord) (xs : List ThreadRecord) → k <ℤ x.key → KeysAtMost k xs → put_back rank_of x xs ≡ insert_ranked rank_of key_in x xs
newest_goes_back k x xs new most = back_is_ranked rank_of key_in x xs (below k x xs new most)

pub at_most_more : (k m : ℤ) (xs : List ThreadRecord) → k ≤ℤ m → KeysAtMost k xs → KeysAtMost m xs
at_most_more k m [] more most = tt
at_most_more k m (x ∷ xs) more most =
    let first = most.0 in
    let here : x.key ≤ℤ m = omega (arith, ints) in
    (here, at_most_more k m xs more most.1)

at_most_before : (k : ℤ) (p : ThreadRecord → Bool) (x : ThreadRecord) (xs : List ThreadRecord) → x.key ≤ℤ k → KeysAtMost k xs → KeysAtMost k (insert_before p x xs)
at_most_before k p x [] here most = (here, tt)
at_most_before k p x (y ∷ ys) here most = by (p y) refl (at_most_before k p x ys here most.1)
  where
    by : (b : Bool) → p y ≡ b → KeysAtMost k (insert_before p x ys) → KeysAtMost k (insert_before p x (y ∷ ys))
    by true e rest = rw e (here, most)
    by false e rest = rw e (most.0, rest)

-- once a thread has come
pub at_most_put : (k m : ℤ) (x : ThreadRecord) (xs ys : List ThreadRecord) → k ≤ℤ m → x.key ≤ℤ m → KeysAtMost k xs → ys ≡ insert_ranked rank_of key_in x xs → KeysAtMost m ys
at_most_put k m x xs ys more here most is =
    subst (KeysAtMost m) (sym is) (at_most_before m (precedes rank_of key_in x) x xs here (at_most_more k m xs more most))

-- once one has left
at_most_without : (k : ℤ) (p : ThreadRecord → Bool) (xs : List ThreadRecord) → KeysAtMost k xs → KeysAtMost k (drop_first p xs)
at_most_without k p [] most = tt
at_most_without k p (x ∷ xs) most = by (p x) refl (at_most_without k p xs most.1)
  where
    by : (b : Bool) → p x ≡ b → KeysAtMost k (drop_first p xs) → KeysAtMost k (drop_first p (x ∷ xs))
    by true e rest = rw e most.1
    by false e rest = rw e (most.0, rest)

pub at_most_taken : (k : ℤ) (t : ℕ) (xs ys : List ThreadRecord) → KeysAtMost k xs → ys ≡ drop_id id_of t xs → KeysAtMost k ys
at_most_taken k t xs ys most is = subst (KeysAtMost k) (sym is) (at_most_without k (λ x. id_of x == t) xs most)
