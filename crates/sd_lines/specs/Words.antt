-- How the forms of a workload text take the words of a line: each word as a name, a number, a signed number or a
-- quantum, from the left to the right. A byte outside comments that is neither a blank nor printable ASCII is part of a
-- word, and no word of a form has such a byte.
-- Source: this project's own; the quanta are those of priocntl(2).
use Rattle.std.specs.Prelude.{ℕ, Bool, true, false, List, [], ◌∷◌, cond, codes, Option, Some, None, option_map, option_and_then}
use Rattle.sd_types.specs.NameWords.{is_name}
use Rattle.sd_types.specs.Works.{same_bytes}
use Rattle.sd_text.specs.Numbers.{number_of}
use Rattle.sd_lines.specs.declared.words.QuantumWord.{QuantumWord}
use Rattle.sd_lines.specs.declared.words.QuantumWord.TheVariants.{Def, Inf, Ticks}

abbrev pub Word : Type 0
Word = List ℕ

-- a line, or what is left of it, as its words
abbrev pub Line : Type 0
Line = List Word

-- ---- what a word is

-- a name
abbrev pub name_of : Word → Option Word
name_of word = cond (is_name word) (Some word) None

-- `def`, `inf` or ticks
unfoldable pub quantum_of : Word → Option QuantumWord
quantum_of word =
    cond (same_bytes word (codes "def")) (Some Def)
    (cond (same_bytes word (codes "inf")) (Some Inf)
    (option_map Ticks (number_of word)))

-- `-`, or what another word is
abbrev pub unless_dash : {X : Type 0} → (Word → Option X) → Word → Option (Option X)
unless_dash of word = cond (same_bytes word (codes "-")) (Some None) (option_map Some (of word))

-- ---- the words of a line

-- what the first word is, and the words behind it
unfoldable pub first : {X : Type 0} → (Word → Option X) → Line → Option (X × Line)
first of [] = None
first of (word ∷ words) = option_map (λ x. (x, words)) (of word)

-- the word that stands alone
unfoldable pub only_word : Line → Option Word
only_word [] = None
only_word (word ∷ []) = Some word
only_word (word ∷ other ∷ words) = None

-- what the word is that stands alone
abbrev pub only : {X : Type 0} → (Word → Option X) → Line → Option X
only of words = option_and_then of (only_word words)

-- the words behind this first word
unfoldable pub behind : Word → Line → Option Line
behind keyword [] = None
behind keyword (word ∷ words) = cond (same_bytes word keyword) (Some words) None

-- no word is left
abbrev pub is_done : Line → Bool
is_done [] = true
is_done (word ∷ words) = false

-- numbers, to the end of the line
unfoldable pub all_numbers : Line → Option (List ℕ)
all_numbers [] = Some []
all_numbers (word ∷ words) = option_and_then (λ n. option_map (λ ns. n ∷ ns) (all_numbers words)) (number_of word)

abbrev pub is_end_word : Option Word → Bool
is_end_word None = false
is_end_word (Some word) = same_bytes word (codes "end")

-- the line that closes a block: the word `end` alone
abbrev pub is_end : Line → Bool
is_end line = is_end_word (only_word line)
