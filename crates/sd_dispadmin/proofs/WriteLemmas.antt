-- The line of a row, from the pieces that are written.
use Rattle.std.proofs.Common.{◌≡◌, ℕ, ◌<◌, List, [], ◌∷◌, ◌++◌, length, map, sym, ap, ◌∙◌, arith, append_assoc}
use Rattle.std.specs.Fmt.{decimal}
use Rattle.std.specs.List.{flat_map, join_with_byte}
use Rattle.sd_dispadmin.specs.TableSpelling.{row_text}

-- numbers with a space behind each are numbers with a space between them, and one more
spaced : (numbers : List ℕ) → 0 < length numbers → flat_map (λ n. decimal n ++ 32 ∷ []) numbers ≡ join_with_byte 32 (map decimal numbers) ++ 32 ∷ []
spaced [] some = absurd (omega arith)
spaced (n ∷ []) some = simp append_assoc
spaced (n ∷ m ∷ ns) some =
    ap (λ l. (decimal n ++ 32 ∷ []) ++ l) (spaced (m ∷ ns) (omega arith)) ∙ simp append_assoc

pub row_text_spaced : (numbers : List ℕ) (level : ℕ) → 0 < length numbers
    → row_text numbers level ≡ flat_map (λ n. decimal n ++ 32 ∷ []) numbers ++ (35 ∷ 32 ∷ decimal level)
unfolding row_text
row_text_spaced numbers level some = sym (ap (λ l. l ++ (35 ∷ 32 ∷ decimal level)) (spaced numbers some) ∙ simp append_assoc)
