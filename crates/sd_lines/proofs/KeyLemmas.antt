-- Keys and the words that they are keys of.
use Rattle.std.proofs.Common.{◌≡◌, ℕ, ◌+◌, ◌-◌, ◌<◌, ◌≤◌, Bool, true, false, not, ◌&&◌, ◌||◌, cond, ltb, leb, List, [], ◌∷◌, ◌++◌, length, map, replicate, Some, None, refl, sym, ap, ◌∙◌, arith}
use Rattle.std.specs.Prelude.{nat_eq}
use Rattle.std.specs.List.{position, position_or_len, list_any, list_all}
use Rattle.std.specs.Cmp.Lexicographic.{pointwise, bytes_decides}
use Rattle.std.proofs.Math.Seq.{take-append_seam}
use Rattle.std.proofs.lemmas.List.{map-append}
use Rattle.std.proofs.lemmas.Bool.{and_parts}
use Rattle.std.proofs.lemmas.Bool.Decides.{nat_tests}
use Rattle.sd_basics.proofs.Lists.{any-map}
use Rattle.sd_basics.proofs.Truths.{same_truth}
use Rattle.sd_types.specs.Works.{same_bytes}
use Rattle.sd_lines.specs.contracts.key.NameKeyPartialEq.TheImpl.{eq-value}
use Rattle.sd_lines.specs.declared.key.NameKey.{NameKey}
use Rattle.sd_lines.specs.Keys.{padded, key_of, word_of, is_key}
use Rattle.sd_lines.proofs.PlaceLemmas.{position-map}

abbrev same_key : NameKey → NameKey → Bool
same_key = eq-value.it

-- ---- what tests decide

same_pointwise : (xs ys : List ℕ) → same_bytes xs ys ≡ pointwise nat_eq xs ys
same_pointwise [] [] = refl
same_pointwise [] (y ∷ ys) = refl
same_pointwise (x ∷ xs) [] = refl
same_pointwise (x ∷ xs) (y ∷ ys) = ap (λ b. nat_eq x y && b) (same_pointwise xs ys)

pub bytes_same : (xs ys : List ℕ) → same_bytes xs ys ≡ true → xs ≡ ys
bytes_same xs ys h = (bytes_decides xs ys).0 (sym (same_pointwise xs ys) ∙ h)

bytes_are : (xs ys : List ℕ) → xs ≡ ys → same_bytes xs ys ≡ true
bytes_are xs ys h = same_pointwise xs ys ∙ (bytes_decides xs ys).1 h

key_same : (x y : NameKey) → same_key x y ≡ true → x ≡ y
key_same x y h =
    let p = and_parts (nat_eq x.length y.length) (pointwise nat_eq x.bytes y.bytes) h in
    let many : x.length ≡ y.length = grind (arith, nat_tests, p.0) in
    let bytes = (bytes_decides x.bytes y.bytes).0 p.1 in
    λ i. record { length = many i; bytes = bytes i }

key_are : (x y : NameKey) → x ≡ y → same_key x y ≡ true
key_are x y h =
    let many : nat_eq x.length y.length ≡ true = let e = ap (λ (k : NameKey). k.length) h in grind (arith, nat_tests, e) in
    rw many ((bytes_decides x.bytes y.bytes).1 (ap (λ (k : NameKey). k.bytes) h))

-- ---- a key and its word

-- the word of the key of a word
pub word_of_key : (word : List ℕ) → word_of (key_of word) ≡ word
word_of_key word = take-append_seam word (replicate (16 - length word) 0)

module _ (k : NameKey) (own : is_key k ≡ true) where
  short_of : length (word_of k) ≤ 16
  short_of =
      let p = and_parts (leb k.length 16 && nat_eq (length (word_of k)) k.length) (same_bytes (padded (word_of k)) k.bytes) own in
      let q = and_parts (leb k.length 16) (nat_eq (length (word_of k)) k.length) p.0 in
      grind (arith, nat_tests, q.0, q.1)

  key_of_word : key_of (word_of k) ≡ k
  key_of_word =
      let p = and_parts (leb k.length 16 && nat_eq (length (word_of k)) k.length) (same_bytes (padded (word_of k)) k.bytes) own in
      let q = and_parts (leb k.length 16) (nat_eq (length (word_of k)) k.length) p.0 in
      let many : length (word_of k) ≡ k.length = grind (arith, nat_tests, q.1) in
      let bytes = bytes_same (padded (word_of k)) k.bytes p.1 in
      λ i. record { length = many i; bytes = bytes i }

-- a key is that of a word exactly where its word is that word
keys_tell_words : (word : List ℕ) (k : NameKey) → is_key k ≡ true → same_key (key_of word) k ≡ same_bytes (word_of k) word
keys_tell_words word k own =
    same_truth (same_key (key_of word) k) (same_bytes (word_of k) word)
    (λ h. bytes_are (word_of k) word (ap word_of (sym (key_same (key_of word) k h)) ∙ word_of_key word))
    (λ h. key_are (key_of word) k (ap key_of (sym (bytes_same (word_of k) word h)) ∙ key_of_word k own))

-- no key is that of a word of more than 16 bytes
keys_are_short : (word : List ℕ) → 16 < length word → (k : NameKey) → is_key k ≡ true → same_bytes (word_of k) word ≡ false
keys_are_short word long k own = by (same_bytes (word_of k) word) refl
  where
    by : (b : Bool) → same_bytes (word_of k) word ≡ b → b ≡ false
    by true e = absurd (let few = short_of k own in let is = ap length (bytes_same (word_of k) word e) in omega (arith, few, is, long))
    by false e = refl

-- ---- lists of keys

module _ {A : Type 0} (good : A → Bool) (p q : A → Bool) (same : (x : A) → good x ≡ true → p x ≡ q x) where
  place_same : (xs : List A) → list_all good xs ≡ true → position_or_len p xs ≡ position_or_len q xs
  place_same [] h = refl
  place_same (x ∷ xs) h =
      let r = and_parts (good x) (list_all good xs) h in
      ap (λ b. cond (not b) (1 + position_or_len p xs) 0) (same x r.0) ∙ ap (λ n. cond (not (q x)) (1 + n) 0) (place_same xs r.1)

  position_same : (xs : List A) → list_all good xs ≡ true → position p xs ≡ position q xs
  position_same xs h = ap (λ n. cond (ltb n (length xs)) (Some n) None) (place_same xs h)

  any_same : (xs : List A) → list_all good xs ≡ true → list_any p xs ≡ list_any q xs
  any_same [] h = refl
  any_same (x ∷ xs) h =
      let r = and_parts (good x) (list_all good xs) h in
      ap (λ b. b || list_any p xs) (same x r.0) ∙ ap (λ b. q x || b) (any_same xs r.1)

none_at : {A : Type 0} (xs : List A) → position (λ x. false) xs ≡ None
none_at {A} xs = ap (λ n. cond (ltb n (length xs)) (Some n) None) (past xs) ∙ rw (not_less (length xs)) refl
  where
    past : (ys : List A) → position_or_len (λ x. false) ys ≡ length ys
    past [] = refl
    past (y ∷ ys) = ap (λ n. 1 + n) (past ys) ∙ omega arith

    not_less : (n : ℕ) → ltb n n ≡ false
    not_less n = grind (arith, nat_tests)

module _ (ks : List NameKey) (own : list_all is_key ks ≡ true) (word : List ℕ) where
  -- the key of a word is found where the word is
  pub found_there : position (same_key (key_of word)) ks ≡ position (λ name. same_bytes name word) (map word_of ks)
  found_there =
      position_same is_key (same_key (key_of word)) (λ k. same_bytes (word_of k) word) (keys_tell_words word) ks own
      ∙ sym (position-map word_of (λ name. same_bytes name word) ks)

  pub none_long : 16 < length word → position (λ name. same_bytes name word) (map word_of ks) ≡ None
  none_long long =
      position-map word_of (λ name. same_bytes name word) ks
      ∙ position_same is_key (λ k. same_bytes (word_of k) word) (λ k. false) (keys_are_short word long) ks own
      ∙ none_at ks

  any_there : list_any (same_key (key_of word)) ks ≡ list_any (λ name. same_bytes name word) (map word_of ks)
  any_there =
      any_same is_key (same_key (key_of word)) (λ k. same_bytes (word_of k) word) (keys_tell_words word) ks own
      ∙ sym (any-map (λ name. same_bytes name word) word_of ks)

  -- one more name goes last
  pub pushed : (new : List NameKey) → new ≡ cond (list_any (same_key (key_of word)) ks) ks (ks ++ key_of word ∷ [])
      → list_any (λ name. same_bytes name word) (map word_of ks) ≡ false → map word_of new ≡ map word_of ks ++ word ∷ []
  pushed new is none =
      ap (map word_of) (is ∙ ap (λ b. cond b ks (ks ++ key_of word ∷ [])) (any_there ∙ none))
      ∙ map-append word_of ks (key_of word ∷ [])
      ∙ ap (λ w. map word_of ks ++ w ∷ []) (word_of_key word)
