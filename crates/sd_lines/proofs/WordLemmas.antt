-- Lines by their first words.
use Rattle.std.proofs.Common.{◌≡◌, true, ◌&&◌, codes, [], ◌∷◌, option_map, refl, sym, subst}
use Rattle.std.proofs.Math.Bool.{and-true, and-false}
use Rattle.sd_types.specs.Works.{same_bytes}
use Rattle.sd_lines.specs.Words.{Word, Line, name_of, only, only_word, is_done, is_end}
use Rattle.sd_lines.specs.Threads.{thread_line}
use Rattle.sd_lines.specs.Statements.{Declare, Script, thread_statement, object_statement, setting_statement, statement_of}
use Rattle.sd_lines.proofs.KeyLemmas.{bytes_same}

-- the line that closes a block
pub end_word : (word : Word) (words : Line) → is_end (word ∷ words) ≡ (same_bytes word (codes "end") && is_done words)
unfolding only_word
end_word word [] = sym (and-true (same_bytes word (codes "end")))
end_word word (other ∷ words) = sym (and-false (same_bytes word (codes "end")))

-- the lines that are asked for first
pub declares : (word : Word) (words : Line) → same_bytes word (codes "thread") ≡ true → option_map Declare (thread_line words) ≡ statement_of (word ∷ words)
unfolding thread_statement object_statement setting_statement statement_of
declares word words h =
    subst (λ (w : Word). option_map Declare (thread_line words) ≡ statement_of (w ∷ words)) (sym (bytes_same word (codes "thread") h)) refl

pub begins : (word : Word) (words : Line) → same_bytes word (codes "script") ≡ true → option_map Script (only name_of words) ≡ statement_of (word ∷ words)
unfolding thread_statement object_statement setting_statement statement_of
begins word words h =
    subst (λ (w : Word). option_map Script (only name_of words) ≡ statement_of (w ∷ words)) (sym (bytes_same word (codes "script") h)) refl
