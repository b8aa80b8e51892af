-- Numbers as bytes and back.
use Rattle.std.proofs.Common.{◌≡◌, ℕ, zero, suc, ◌+◌, ◌-◌, ◌*◌, ◌/◌, ◌%◌, ◌^◌, ◌<◌, ◌≤◌, Bool, true, false, List, [], ◌∷◌, ◌++◌, length, get_or, drop, Option, Some, None, refl, sym, ap, ◌∙◌, arith, inl, inr, cond}
use Rattle.std.proofs.Common.{set, take, ◌≢◌, get_or-set_other}
use Rattle.std.specs.List.{sum_by}
use Rattle.std.proofs.lemmas.List.Sums.{sum_by_more}
use Rattle.std.specs.Prelude.{nat_lt, ◌&&◌, ◌==◌}
use Rattle.std.specs.List.{AllByRecursion}
use Rattle.std.proofs.Math.Seq.{drop-cons}
use Rattle.std.proofs.lemmas.Bool.{lt-ltb, le-ltb, ltb-true, eqb-true, and_parts, cases_lt}
use Rattle.std.proofs.lemmas.List.{append-nil, drop-set, drop_all}
use Rattle.sd_encoding.specs.Bytes.{number_within, number_bytes, bytes_from, bytes_of, with_zeros, continued, joined, numbers_in}
use Rattle.sd_encoding.specs.Placing.{AreZeros, placed, room_of}

abbrev none : Option ℕ
none = None

abbrev none_read : Option (List ℕ)
none_read = None

-- more room than a number needs changes nothing
same_within : (a b n z : ℕ) → n ≤ a → n ≤ b → number_within a n z ≡ number_within b n z
unfolding number_within
same_within zero zero n z p q = refl
same_within zero (suc b) n z p q = let few : nat_lt n 32 ≡ true = lt-ltb n 32 (omega arith) in rw few refl
same_within (suc a) zero n z p q = let few : nat_lt n 32 ≡ true = lt-ltb n 32 (omega arith) in rw few refl
same_within (suc a) (suc b) n z p q =
    elim (cases_lt n 32) [
      | inl lt ↦ let few : nat_lt n 32 ≡ true = lt-ltb n 32 lt in rw few refl
      | inr le ↦
          let many : nat_lt n 32 ≡ false = le-ltb n 32 le in
          let below : n / 32 < n = omega arith in
          rw many (ap (λ (ns : List ℕ). (n % 32 + 224) ∷ ns) (same_within a b (n / 32) z (omega arith) (omega arith)))
    ]

pub last_byte : (n z : ℕ) → n < 32 → number_bytes n z ≡ (n + 32 * z) ∷ []
unfolding number_bytes number_within
last_byte zero z lt = refl
last_byte (suc n) z lt = let few : nat_lt (suc n) 32 ≡ true = lt-ltb (suc n) 32 lt in rw few refl

pub first_byte : (n z : ℕ) → 32 ≤ n → number_bytes n z ≡ (n % 32 + 224) ∷ number_bytes (n / 32) z
unfolding number_bytes number_within
first_byte zero z le = absurd (omega arith)
first_byte (suc n) z le =
    let many : nat_lt (suc n) 32 ≡ false = le-ltb (suc n) 32 le in
    let below : suc n / 32 < suc n = omega arith in
    rw many (ap (λ (ns : List ℕ). (suc n % 32 + 224) ∷ ns) (same_within n (suc n / 32) (suc n / 32) z (omega arith) (omega arith)))

one_byte : (n z : ℕ) (bytes ns : List ℕ) → n < 32 → z ≤ 6 → numbers_in bytes ≡ Some ns → numbers_in ((n + 32 * z) ∷ bytes) ≡ Some (n ∷ with_zeros z ns)
unfolding numbers_in joined
one_byte n z bytes ns lt few is =
    let ends : nat_lt (n + 32 * z) 224 ≡ true = lt-ltb (n + 32 * z) 224 (omega arith) in
    let low : (n + 32 * z) % 32 ≡ n = omega arith in
    let high : (n + 32 * z) / 32 ≡ z = omega arith in
    rw (is, ends, low, high) refl

within_again : (room n z : ℕ) (bytes ns : List ℕ) → n ≤ room → n < 2 ^ 64 → z ≤ 6 → numbers_in bytes ≡ Some ns → numbers_in (number_within room n z ++ bytes) ≡ Some (n ∷ with_zeros z ns)
unfolding number_within numbers_in joined continued
within_again zero n z bytes ns p lt few is = one_byte n z bytes ns (omega arith) few is
within_again (suc room) n z bytes ns p lt few is =
    elim (cases_lt n 32) [
      | inl less ↦ let ends : nat_lt n 32 ≡ true = lt-ltb n 32 less in rw ends (one_byte n z bytes ns less few is)
      | inr le ↦
          let many : nat_lt n 32 ≡ false = le-ltb n 32 le in
          let goes_on : nat_lt (n % 32 + 224) 224 ≡ false = le-ltb (n % 32 + 224) 224 (omega arith) in
          let whole : n % 32 + 224 - 224 + 32 * (n / 32) ≡ n = omega arith in
          let below : nat_lt n (2 ^ 64) ≡ true = lt-ltb n (2 ^ 64) lt in
          rw (many, within_again room (n / 32) z bytes ns (omega arith) (omega arith) few is, goes_on, whole, below) refl
    ]

pub zeros_more : (z : ℕ) (ns : List ℕ) → with_zeros (suc z) ns ≡ with_zeros z (0 ∷ ns)
unfolding with_zeros
zeros_more zero ns = refl
zeros_more (suc z) ns = ap (λ (ms : List ℕ). 0 ∷ ms) (zeros_more z ns)

from_step : (b : Bool) (n z m : ℕ) (ns : List ℕ) → (m == 0 && nat_lt z 6) ≡ b → n < 2 ^ 64 → z ≤ 6 → (z < 6 → numbers_in (bytes_from n (suc z) ns) ≡ Some (n ∷ with_zeros (suc z) ns)) → numbers_in (bytes_from m 0 ns) ≡ Some (m ∷ ns)
    → numbers_in (bytes_from n z (m ∷ ns)) ≡ Some (n ∷ with_zeros z (m ∷ ns))
unfolding bytes_from number_bytes
from_step true n z m ns e lt few counted other =
    let parts = and_parts (m == 0) (nat_lt z 6) e in
    let is_zero : m ≡ 0 = eqb-true m 0 parts.0 in
    let less : z < 6 = ltb-true z 6 parts.1 in
    rw e (counted less ∙ ap (λ (ms : List ℕ). Some (n ∷ ms)) (zeros_more z ns ∙ ap (λ (k : ℕ). with_zeros z (k ∷ ns)) (sym is_zero)))
from_step false n z m ns e lt few counted other = rw e (within_again n n z (bytes_from m 0 ns) (m ∷ ns) (omega arith) lt few other)

from_again : (n z : ℕ) (ns : List ℕ) → n < 2 ^ 64 → z ≤ 6 → AllByRecursion (λ m. m < 2 ^ 64) ns → numbers_in (bytes_from n z ns) ≡ Some (n ∷ with_zeros z ns)
unfolding bytes_from number_bytes numbers_in with_zeros
from_again n z [] lt few h = ap numbers_in (sym (append-nil (number_within n n z))) ∙ within_again n n z [] [] (omega arith) lt few refl
from_again n z (m ∷ ns) lt few h = from_step (m == 0 && nat_lt z 6) n z m ns refl lt few (λ less. from_again n (suc z) ns lt (omega arith) h.1) (from_again m 0 ns h.0 (omega arith) h.1)

-- what numbers are written as is read as these numbers
pub numbers_again : (ns : List ℕ) → AllByRecursion (λ n. n < 2 ^ 64) ns → numbers_in (bytes_of ns) ≡ Some ns
unfolding bytes_of numbers_in with_zeros
numbers_again [] h = refl
numbers_again (n ∷ ns) h = from_again n 0 ns h.0 (omega arith) h.1

-- ---- reading

pub zeros_before : (ns : List ℕ) (z i : ℕ) → z ≤ i → i ≤ length ns → AreZeros i ns → drop (i - z) ns ≡ with_zeros z (drop i ns)
unfolding with_zeros
zeros_before ns zero i le within zeros = let same : i - 0 ≡ i = omega arith in rw same refl
zeros_before ns (suc z) i le within zeros =
    let next : suc (i - suc z) ≡ i - z = omega arith in
    let here : get_or ns (i - suc z) 0 ≡ 0 = zeros (i - suc z) (omega arith) in
    drop-cons ns (i - suc z) 0 (omega arith) ∙ rw (here, next) (ap (λ (ms : List ℕ). 0 ∷ ms) (zeros_before ns z i (omega arith) within zeros))

-- a number and the zeros behind it, of which each stands there already
pub places_last : (byte at from : ℕ) (ns : List ℕ) → byte < 224 → byte / 32 + 1 ≤ at → at ≤ length ns → AreZeros at ns → from ≡ at - byte / 32 - 1 → placed (set ns from (byte % 32)) (Some from) ≡ joined byte (drop at ns)
unfolding joined
places_last byte at from ns lt room within zeros is =
    let ends : nat_lt byte 224 ≡ true = lt-ltb byte 224 lt in
    let next : from + 1 ≡ at - byte / 32 = omega arith in
    let inside : from < length ns = omega arith in
    let cut = drop-set ns from (byte % 32) inside in
    let rest = zeros_before ns (byte / 32) at (omega arith) within zeros in
    rw (ends, cut, next, rest) refl

pub zeros_stay : (at from n : ℕ) (ns : List ℕ) → from ≤ at → AreZeros at ns → AreZeros from (set ns from n)
zeros_stay at from n ns le zeros k lt =
    let ne : k ≢ from = omega arith in
    rw get_or-set_other (zeros k (omega arith))

chosen : (b : Bool) (number m : ℕ) (ns : List ℕ) → Some number ≡ cond b (Some m) None → cond b (Some (m ∷ ns)) None ≡ Some (number ∷ ns)
chosen true number m ns e = cc
chosen false number m ns e = absurd cc

refused : (b : Bool) (m : ℕ) (ns : List ℕ) → none ≡ cond b (Some m) none → cond b (Some (m ∷ ns)) None ≡ None
refused true m ns e = absurd cc
refused false m ns e = refl

pub places_nothing : (low at : ℕ) (ns new : List ℕ) → length ns ≤ at → placed new None ≡ continued low (drop at ns)
unfolding continued
places_nothing low at ns new le = let empty = drop_all at ns le in rw empty refl

pub places_more : (low at number : ℕ) (ns : List ℕ) → at < length ns → Some number ≡ cond (nat_lt (low + 32 * get_or ns at 0) (2 ^ 64)) (Some (low + 32 * get_or ns at 0)) None → placed (set ns at number) (Some at) ≡ continued low (drop at ns)
unfolding continued
places_more low at number ns lt is =
    let cut = drop-set ns at number lt in
    let next : suc at ≡ at + 1 = omega arith in
    rw (cut, drop-cons ns at 0 lt, next) (sym (chosen (nat_lt (low + 32 * get_or ns at 0) (2 ^ 64)) number (low + 32 * get_or ns at 0) (drop (at + 1) ns) is))

pub places_too_much : (low at : ℕ) (ns new : List ℕ) → at < length ns → none ≡ cond (nat_lt (low + 32 * get_or ns at 0) (2 ^ 64)) (Some (low + 32 * get_or ns at 0)) none → placed new None ≡ continued low (drop at ns)
unfolding continued
places_too_much low at ns new lt is =
    rw (drop-cons ns at 0 lt) (sym (refused (nat_lt (low + 32 * get_or ns at 0) (2 ^ 64)) (low + 32 * get_or ns at 0) (drop (suc at) ns) is))

pub room_ended : (byte at : ℕ) → byte < 224 → room_of byte ≤ at → byte / 32 + 1 ≤ at
room_ended byte at lt le = let ends : nat_lt byte 224 ≡ true = lt-ltb byte 224 lt in rw ends at le

pub room_before : (bytes : List ℕ) (i : ℕ) → 0 < i → i ≤ length bytes → sum_by room_of (take i bytes) ≡ sum_by room_of (take (i - 1) bytes) + room_of (get_or bytes (i - 1) 0)
room_before bytes i some le =
    let next : i - 1 + 1 ≡ i = omega arith in
    ap (λ (j : ℕ). sum_by room_of (take j bytes)) (sym next) ∙ sum_by_more room_of bytes (i - 1) 0 (omega arith)

pub goes_on : (byte : ℕ) (ns : List ℕ) → 224 ≤ byte → continued (byte - 224) ns ≡ joined byte ns
unfolding joined
goes_on byte ns le = let many : nat_lt byte 224 ≡ false = le-ltb byte 224 le in rw many refl

pub one_before : (bytes ns : List ℕ) (i : ℕ) (r : Option (List ℕ)) → 0 < i → i ≤ length bytes → numbers_in (drop i bytes) ≡ Some ns → r ≡ joined (get_or bytes (i - 1) 0) ns → numbers_in (drop (i - 1) bytes) ≡ r
unfolding numbers_in
one_before bytes ns i r some le so_far e =
    let next : suc (i - 1) ≡ i = omega arith in
    let cut : drop (i - 1) bytes ≡ get_or bytes (i - 1) 0 ∷ drop i bytes = drop-cons bytes (i - 1) 0 (omega arith) ∙ ap (λ (j : ℕ). get_or bytes (i - 1) 0 ∷ drop j bytes) next in
    rw (cut, so_far) (sym e)

pub none_stays : (i : ℕ) (bytes : List ℕ) → numbers_in (drop i bytes) ≡ None → none_read ≡ numbers_in bytes
unfolding numbers_in
none_stays zero bytes e = sym e
none_stays (suc i) [] e = sym e
none_stays (suc i) (byte ∷ bytes) e = let before = none_stays i bytes e in rw (← before) refl

pub at_end : (bytes ns : List ℕ) → numbers_in (drop (length bytes) bytes) ≡ Some (drop (length ns) ns)
unfolding numbers_in
at_end bytes ns = rw (drop_all (length bytes) bytes (omega arith), drop_all (length ns) ns (omega arith)) refl
