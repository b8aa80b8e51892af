-- The digits of a number, of which the last is counted up.
use Rattle.std.proofs.Common.{◌≡◌, ℕ, ◌+◌, ◌-◌, ◌/◌, ◌%◌, ◌^◌, ◌<◌, ◌≤◌, ◌⊎◌, inl, inr, List, [], ◌∷◌, ◌++◌, get_or, length, take, drop, refl, sym, ap, ◌∙◌, arith, length-append, length-drop, length-take, length-take-le}
use Rattle.std.proofs.lemmas.Bool.{cases_lt}
use Rattle.std.proofs.lemmas.Fmt.{decimal_nonempty, decimal_step}
use Rattle.std.proofs.lemmas.List.{append_cancel_left, drop-append-le, take-append-le, take_all}
use Rattle.std.proofs.Math.Seq.{take-suc}
use Rattle.std.specs.Fmt.{decimal}
use Rattle.sd_entries.proofs.LineLemmas.{rest_of}
use Rattle.sd_entries.proofs.TextLemmas.{last_alone}

-- a beginning as long as the first of two texts is that text
first_of : (first more : List ℕ) (k : ℕ) → k ≡ length first → take k (first ++ more) ≡ first
first_of first more k e = rw e (take-append-le (length first) first more (omega arith) ∙ take_all (length first) first (omega arith))

-- digits that stand before the end of a line's number
pub digits_before : (new number tail : List ℕ) (from at : ℕ) → from + length number ≡ at → drop from new ≡ number ++ tail → drop from (take at new) ≡ number
digits_before new number tail from at sum is =
    rest_of new from at (omega (arith, sum)) ∙ ap (λ (xs : List ℕ). take (at - from) xs) is ∙ first_of number tail (at - from) (omega (arith, sum))

-- where the digits of a number stand before 20, there are 20 bytes
pub room_before : (line : List ℕ) (from n : ℕ) → n < 2 ^ 64 → from + length (decimal n) ≡ 20 → drop from (take 20 line) ≡ decimal n → 20 ≤ length line
room_before line from n small begin stand =
    let some : 0 < length (decimal n) = decimal_nonempty n small in
    let same : length (drop from (take 20 line)) ≡ length (decimal n) = ap length stand in
    omega (arith, begin, some, same, length-drop from (take 20 line), length-take 20 line)

-- The digits of n before its last one, which those of the next number have too where the last one is no 9.
pub record Ends (n : ℕ) : Type 0 where
  pub front : List ℕ
  pub is : decimal n ≡ front ++ (48 + n % 10) ∷ []
  pub next : n % 10 < 9 → decimal (n + 1) ≡ front ++ (48 + n % 10 + 1) ∷ []

ends_by : (n : ℕ) → n + 1 < 2 ^ 64 → (n < 10) ⊎ (10 ≤ n) → Ends n
ends_by n small (inl one) = record {
  front = [];
  is = last_alone n one;
  next = λ low.
      let same : 48 + (n + 1) % 10 ≡ 48 + n % 10 + 1 = omega (arith, one, low) in
      last_alone (n + 1) (omega (arith, one, low)) ∙ ap (λ d. d ∷ []) same;
}
ends_by n small (inr more) = record {
  front = decimal (n / 10);
  is = decimal_step n more (omega (arith, small));
  next = λ low.
      let tens : (n + 1) / 10 ≡ n / 10 = omega (arith, low) in
      let ones : 48 + (n + 1) % 10 ≡ 48 + n % 10 + 1 = omega (arith, low) in
      decimal_step (n + 1) (omega (arith, more)) small ∙ ap (λ k. decimal k ++ (48 + (n + 1) % 10) ∷ []) tens ∙ ap (λ d. decimal (n / 10) ++ d ∷ []) ones;
}

ends : (n : ℕ) → n + 1 < 2 ^ 64 → Ends n
ends n small = ends_by n small (cases_lt n 10)

-- of two texts with a last byte each that are the same, so are the texts
fronts_same : (xs ys : List ℕ) (a b : ℕ) → xs ++ a ∷ [] ≡ ys ++ b ∷ [] → xs ≡ ys
fronts_same xs ys a b is =
    let long : length xs + 1 ≡ length ys + 1 = sym (length-append xs (a ∷ [])) ∙ ap length is ∙ length-append ys (b ∷ []) in
    sym (first_of xs (a ∷ []) (length xs) refl) ∙ ap (λ (zs : List ℕ). take (length xs) zs) is ∙ first_of ys (b ∷ []) (length xs) (omega (arith, long))

lasts_same : (xs ys : List ℕ) (a b : ℕ) → xs ++ a ∷ [] ≡ ys ++ b ∷ [] → a ≡ b
lasts_same xs ys a b is =
    ap (λ (zs : List ℕ). get_or zs 0 0) (append_cancel_left ys (a ∷ []) (b ∷ []) (ap (λ (zs : List ℕ). zs ++ a ∷ []) (sym (fronts_same xs ys a b is)) ∙ is))

-- The last of the digits that end at 20 is counted up.
pub record CountsUp (n from : ℕ) (new : List ℕ) : Type 0 where
  pub begin : from + length (decimal (n + 1)) ≡ 20
  pub stand : drop from (take 20 new) ≡ decimal (n + 1)

pub counts_up : (n from : ℕ) (line new : List ℕ) → n + 1 < 2 ^ 64 → from + length (decimal n) ≡ 20 → drop from (take 20 line) ≡ decimal n → 20 ≤ length line
    → get_or line 19 0 < 57 → take 20 new ≡ take 19 line ++ (get_or line 19 0 + 1) ∷ [] → CountsUp n from new
counts_up n from line new small begin stand long low is =
    let e = ends n small in
    let b = get_or line 19 0 in
    let before = take 19 line in
    let some : 0 < length (decimal n) = decimal_nonempty n (omega (arith, small)) in
    let inside : from ≤ length before = omega (arith, begin, some, length-take-le 19 line (omega (arith, long))) in
    let split : take 20 line ≡ before ++ b ∷ [] = take-suc line 19 0 (omega (arith, long)) in
    let both : drop from before ++ b ∷ [] ≡ e.front ++ (48 + n % 10) ∷ [] =
    sym (drop-append-le from before (b ∷ []) inside) ∙ ap (λ (xs : List ℕ). drop from xs) (sym split) ∙ stand ∙ e.is in
    let fronts : drop from before ≡ e.front = fronts_same (drop from before) e.front b (48 + n % 10) both in
    let last : b ≡ 48 + n % 10 = lasts_same (drop from before) e.front b (48 + n % 10) both in
    let next = e.next (omega (arith, low, last)) in
    let same : length (decimal (n + 1)) ≡ length (decimal n) =
    ap length next ∙ length-append e.front ((48 + n % 10 + 1) ∷ []) ∙ sym (length-append e.front ((48 + n % 10) ∷ [])) ∙ ap length (sym e.is) in
    record {
      begin = omega (arith, begin, same);
      stand = ap (λ (xs : List ℕ). drop from xs) is ∙ drop-append-le from before ((b + 1) ∷ []) inside
          ∙ ap (λ (xs : List ℕ). xs ++ (b + 1) ∷ []) fronts ∙ ap (λ k. e.front ++ (k + 1) ∷ []) last ∙ sym next;
    }
