-- What a writer has written after a number more.
use Rattle.std.proofs.Common.{◌≡◌, ℕ, ◌+◌, ◌*◌, ◌/◌, ◌%◌, ◌^◌, ◌<◌, ◌≤◌, suc, Bool, true, false, List, [], ◌∷◌, ◌++◌, refl, sym, ap, ◌∙◌, subst, append_assoc, arith, cond}
use Rattle.std.specs.Prelude.{nat_lt, ◌&&◌, ◌==◌}
use Rattle.std.specs.List.{All, AllByRecursion}
use Rattle.std.proofs.lemmas.Bool.{lt-ltb, le-ltb, ltb-true, ltb-false, and_parts}
use Rattle.std.proofs.lemmas.List.{append-nil}
use Rattle.std.proofs.lemmas.List.Elements.{All-from_recursion}
use Rattle.sd_encoding.specs.Bytes.{number_bytes, bytes_from, bytes_of}
use Rattle.sd_encoding.specs.Writing.{IsWritten, or_none, pending, pending_from, written}
use Rattle.sd_encoding.proofs.ByteLemmas.{first_byte, last_byte, numbers_again}

abbrev Small : List ℕ → Type 0
Small ns = AllByRecursion (λ m. m < 2 ^ 64) ns

small_more : (ns : List ℕ) (m : ℕ) → Small ns → m < 2 ^ 64 → Small (ns ++ m ∷ [])
small_more [] m h lt = (lt, tt)
small_more (n ∷ ns) m h lt = (h.0, small_more ns m h.1 lt)

-- what is held back
pub pending_byte : (begun : Bool) (into new : List ℕ) (last : ℕ) → begun ≡ true → new ≡ into ++ last ∷ [] → new ≡ into ++ pending begun last
unfolding pending
pending_byte true into new last is e = e
pending_byte false into new last is e = absurd cc

pub pending_none : (begun : Bool) (into : List ℕ) (last : ℕ) → begun ≡ false → into ≡ into ++ pending begun last
unfolding pending
pending_none true into last is = absurd cc
pending_none false into last is = sym (append-nil into)

nothing_more : (begun : Bool) (last : ℕ) → last < 224 → pending_from begun last [] ≡ pending begun last
unfolding pending_from pending bytes_from bytes_of
nothing_more true last lt =
    let whole : last % 32 + 32 * (last / 32) ≡ last = omega arith in
    last_byte (last % 32) (last / 32) (omega arith) ∙ ap (λ (n : ℕ). n ∷ []) whole
nothing_more false last lt = refl

-- the bytes with what is held back are those of the numbers
pub all_bytes : (begun : Bool) (bytes : List ℕ) (last : ℕ) (ns : List ℕ) → IsWritten begun bytes last ns → bytes ++ pending begun last ≡ bytes_of ns
all_bytes begun bytes last ns is = ap (λ (xs : List ℕ). bytes ++ xs) (sym (nothing_more begun last is.room)) ∙ is.whole [] ∙ ap bytes_of (append-nil ns)

pub view_is : (begun : Bool) (bytes : List ℕ) (last : ℕ) (ns : List ℕ) → IsWritten begun bytes last ns → written begun bytes last ≡ ns
unfolding written or_none
view_is begun bytes last ns is = let e = all_bytes begun bytes last ns is in let again = numbers_again ns is.small in rw (e, again) refl

pub closed : (begun : Bool) (bytes : List ℕ) (last : ℕ) (ns : List ℕ) → IsWritten begun bytes last ns → IsWritten begun bytes last (written begun bytes last)
closed begun bytes last ns is = subst (λ (xs : List ℕ). IsWritten begun bytes last xs) (sym (view_is begun bytes last ns is)) is

-- ---- no number yet

pub none_written : IsWritten false [] 192 []
unfolding pending_from
none_written = record { whole = λ more. refl; small = tt; room = omega arith; first = λ e. omega arith }

-- ---- a number more

joined_more : (ns more : List ℕ) (m : ℕ) → bytes_of (ns ++ m ∷ more) ≡ bytes_of ((ns ++ m ∷ []) ++ more)
joined_more ns more m = ap bytes_of (sym (append_assoc ns (m ∷ []) more))

-- a zero is counted exactly where the last byte has room
zero_from : (last m : ℕ) (more : List ℕ) → (m == 0 && nat_lt last 192) ≡ true → bytes_from (last % 32) (last / 32) (m ∷ more) ≡ bytes_from ((last + 32) % 32) ((last + 32) / 32) more
unfolding bytes_from
zero_from last m more counted =
    let parts = and_parts (m == 0) (nat_lt last 192) counted in
    let less = ltb-true last 192 parts.1 in
    let room : nat_lt (last / 32) 6 ≡ true = lt-ltb (last / 32) 6 (omega (arith, less)) in
    let same : (last + 32) % 32 ≡ last % 32 = omega arith in
    let next : (last + 32) / 32 ≡ suc (last / 32) = omega arith in
    rw (parts.0, room, same, next) refl

no_room : (last : ℕ) (zero : Bool) → last < 224 → (zero && nat_lt last 192) ≡ false → (zero && nat_lt (last / 32) 6) ≡ false
no_room last false lt other = refl
no_room last true lt other = le-ltb (last / 32) 6 (let le = ltb-false last 192 other in omega (arith, le))

other_from : (last m : ℕ) (more : List ℕ) → last < 224 → (m == 0 && nat_lt last 192) ≡ false → bytes_from (last % 32) (last / 32) (m ∷ more) ≡ last ∷ bytes_from m 0 more
unfolding bytes_from
other_from last m more lt other =
    let none : (m == 0 && nat_lt (last / 32) 6) ≡ false = no_room last (m == 0) lt other in
    let whole : last % 32 + 32 * (last / 32) ≡ last = omega arith in
    let byte : number_bytes (last % 32) (last / 32) ≡ last ∷ [] = last_byte (last % 32) (last / 32) (omega arith) ∙ ap (λ (n : ℕ). n ∷ []) whole in
    rw (none, byte) refl

pub zero_written : (begun : Bool) (bytes : List ℕ) (last m : ℕ) (ns : List ℕ) → (m == 0 && nat_lt last 192) ≡ true → m < 2 ^ 64 → IsWritten begun bytes last ns → IsWritten begun bytes (last + 32) (ns ++ m ∷ [])
unfolding pending_from
zero_written true bytes last m ns counted lt is = record {
  whole = λ more. ap (λ (xs : List ℕ). bytes ++ xs) (sym (zero_from last m more counted)) ∙ is.whole (m ∷ more) ∙ joined_more ns more m;
  small = small_more ns m is.small lt;
  room = let less = ltb-true last 192 (and_parts (m == 0) (nat_lt last 192) counted).1 in omega (arith, less);
  first = λ e. absurd cc;
}
zero_written false bytes last m ns counted lt is = absurd (let less = ltb-true last 192 (and_parts (m == 0) (nat_lt last 192) counted).1 in let e = is.first refl in omega (arith, less, e))

-- the byte that was held back is written, and the number follows: `front` has its bytes but for the last one
pub number_written : (begun : Bool) (bytes flushed front : List ℕ) (last m top : ℕ) (ns : List ℕ) → (m == 0 && nat_lt last 192) ≡ false → m < 2 ^ 64 → flushed ≡ bytes ++ pending begun last
    → top < 32 → ((more : List ℕ) → front ++ bytes_from top 0 more ≡ flushed ++ bytes_from m 0 more) → IsWritten begun bytes last ns → IsWritten true front top (ns ++ m ∷ [])
unfolding pending_from pending bytes_of
number_written true bytes flushed front last m top ns other lt e few split is =
    let low : top % 32 ≡ top = omega arith in
    let high : top / 32 ≡ 0 = omega arith in
    record {
      whole = λ more.
          rw (low, high) (split more ∙ ap (λ (xs : List ℕ). xs ++ bytes_from m 0 more) e ∙ append_assoc bytes (last ∷ []) (bytes_from m 0 more)
          ∙ ap (λ (xs : List ℕ). bytes ++ xs) (sym (other_from last m more is.room other)) ∙ is.whole (m ∷ more) ∙ joined_more ns more m);
      small = small_more ns m is.small lt;
      room = omega arith;
      first = λ e. absurd cc;
    }
number_written false bytes flushed front last m top ns other lt e few split is =
    let low : top % 32 ≡ top = omega arith in
    let high : top / 32 ≡ 0 = omega arith in
    record {
      whole = λ more.
          rw (low, high) (split more ∙ ap (λ (xs : List ℕ). xs ++ bytes_from m 0 more) (e ∙ append-nil bytes) ∙ is.whole (m ∷ more) ∙ joined_more ns more m);
      small = small_more ns m is.small lt;
      room = omega arith;
      first = λ e. absurd cc;
    }

-- ---- the bytes of a number but for the last one

from_front : (n z : ℕ) (more : List ℕ) → 32 ≤ n → bytes_from n z more ≡ (n % 32 + 224) ∷ bytes_from (n / 32) z more
unfolding bytes_from
from_front n z [] le = first_byte n z le
from_front n z (m ∷ ms) le =
    elim (m == 0 && nat_lt z 6) as (λ b. cond b (bytes_from n (suc z) ms) (number_bytes n z ++ bytes_from m 0 ms) ≡ (n % 32 + 224) ∷ cond b (bytes_from (n / 32) (suc z) ms) (number_bytes (n / 32) z ++ bytes_from m 0 ms)) [
      | true ↦ from_front n (suc z) ms le
      | false ↦ ap (λ (xs : List ℕ). xs ++ bytes_from m 0 ms) (first_byte n z le)
    ]

pub byte_more : (into new : List ℕ) (rest : ℕ) (whole : List ℕ → List ℕ) → 32 ≤ rest → new ≡ into ++ (rest % 32 + 224) ∷ [] → ((more : List ℕ) → into ++ bytes_from rest 0 more ≡ whole more)
    → (more : List ℕ) → new ++ bytes_from (rest / 32) 0 more ≡ whole more
byte_more into new rest whole le e so_far more =
    ap (λ (xs : List ℕ). xs ++ bytes_from (rest / 32) 0 more) e ∙ append_assoc into ((rest % 32 + 224) ∷ []) (bytes_from (rest / 32) 0 more)
    ∙ ap (λ (xs : List ℕ). into ++ xs) (sym (from_front rest 0 more le)) ∙ so_far more

-- ---- all numbers

pub all_small : (begun : Bool) (bytes : List ℕ) (last : ℕ) (ns : List ℕ) → IsWritten begun bytes last ns → All (λ m. m < 2 ^ 64) ns
all_small begun bytes last ns is = All-from_recursion (λ m. m < 2 ^ 64) ns is.small
