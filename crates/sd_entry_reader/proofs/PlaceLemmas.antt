-- The places of words: one more, the last, and the word that stands at one.
use Rattle.std.proofs.Common.{◌≡◌, ℕ, ◌≤◌, ◌<◌, List, [], ◌∷◌, ◌++◌, length, take, drop, get_or, append_assoc, sym, ap, subst, ◌∙◌, arith}
use Rattle.std.specs.Prelude.{slice_range}
use Rattle.std.proofs.lemmas.List.{append-nil, length-map, map-append, take_all, take_at, get_or-map, get_or-take, get_or_past}
use Rattle.std.proofs.lemmas.List.Elements.{All-push, All-get_or}
use Rattle.sd_text.specs.Words.{words_of}
use Rattle.sd_entries.specs.Reading.{at}
use Rattle.sd_entry_reader.specs.Cutting.{AreWithin, ArePlaces, words_at}

-- what stands at a place
abbrev pub word_of : List ℕ → ℕ × ℕ → List ℕ
word_of line p = slice_range line p.0 p.1

-- a place inside the line
abbrev pub IsWithin : List ℕ → ℕ × ℕ → Type 0
IsWithin line p = (p.0 ≤ p.1) × (p.1 ≤ length line)

pub within_more : (line : List ℕ) (places : List (ℕ × ℕ)) (place : ℕ × ℕ) → AreWithin line places → IsWithin line place → AreWithin line (places ++ place ∷ [])
within_more line places place all here = All-push (IsWithin line) places place all here

-- the words so far, and those of what is left, are all
module _ (line : List ℕ) (places : List (ℕ × ℕ)) (from : ℕ) (so_far : words_at line places ++ words_of (drop from line) ≡ words_of line) where
  pub words_more : (place : ℕ × ℕ) → words_of (drop from line) ≡ word_of line place ∷ words_of (drop place.1 line)
      → words_at line (places ++ place ∷ []) ++ words_of (drop place.1 line) ≡ words_of line
  words_more place word =
      let rest = words_of (drop place.1 line) in
      ap (λ (ws : List (List ℕ)). ws ++ rest) (map-append (word_of line) places (place ∷ []))
      ∙ append_assoc (words_at line places) (word_of line place ∷ []) rest
      ∙ ap (λ (ws : List (List ℕ)). words_at line places ++ ws) (sym word)
      ∙ so_far

  -- no word is left
  pub words_last : length places ≤ 11 → words_of (drop from line) ≡ [] → words_at line places ≡ take 11 (words_of line)
  words_last few none =
      let made = words_at line places in
      let all : made ≡ words_of line = sym (append-nil made) ∙ ap (λ (ws : List (List ℕ)). made ++ ws) (sym none) ∙ so_far in
      let most : length made ≤ 11 = omega (arith, length-map places (word_of line)) in
      sym (take_all 11 made most) ∙ ap (take 11) all

  -- no more than eleven
  pub words_full : length places ≡ 11 → words_at line places ≡ take 11 (words_of line)
  words_full full =
      sym (take_at (words_at line places) (words_of (drop from line)) 11 (length-map places (word_of line) ∙ full)) ∙ ap (take 11) so_far

module _ (line : List ℕ) (places : List (ℕ × ℕ)) (i : ℕ) (are : ArePlaces line places) where
  pub place_within : (place : ℕ × ℕ) → i < length places → place ≡ get_or places i place → IsWithin line place
  place_within place inside is = subst (IsWithin line) (sym is) (All-get_or (IsWithin line) places i place inside are.within)

  at_first : i ≤ 10 → get_or (words_at line places) i [] ≡ at (words_of line) i
  at_first few = ap (λ (ws : List (List ℕ)). get_or ws i []) are.words ∙ get_or-take 11 (words_of line) i [] (omega arith)

  pub word_there : (d : ℕ × ℕ) → i ≤ 10 → i < length places → word_of line (get_or places i d) ≡ at (words_of line) i
  word_there d few inside = sym (get_or-map (word_of line) places i d [] inside) ∙ at_first few

  pub word_none : i ≤ 10 → length places ≤ i → [] ≡ at (words_of line) i
  word_none few past =
      let short : length (words_at line places) ≤ i = omega (arith, length-map places (word_of line)) in
      sym (get_or_past (words_at line places) i [] short) ∙ at_first few
