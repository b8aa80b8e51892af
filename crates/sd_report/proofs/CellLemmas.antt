-- Blanks, and digits behind blanks.
use Rattle.std.proofs.Common.{◌≡◌, ℕ, ◌+◌, ◌-◌, ◌≤◌, List, ◌++◌, length, take, drop, replicate, min, sym, ap, ◌∙◌, arith}
use Rattle.std.proofs.lemmas.List.{append-nil, drop-append-le, drop-replicate, length-replicate, take-append-drop, take-replicate}
use Rattle.sd_report.specs.Cells.{blanks, right}
use Rattle.sd_report.specs.Histograms.{marks}

pub blanks_taken : (n : ℕ) → n ≤ 32 → take n (replicate 32 32) ≡ blanks n
blanks_taken n fits = take-replicate n 32 32 fits

-- of a row of marks the first
pub marks_taken : (n : ℕ) → take (min n 60) (replicate 60 35) ≡ marks n
marks_taken n = take-replicate (min n 60) 60 35 (omega arith)

-- no blanks are left behind the last place
none_left : (digits : List ℕ) → digits ++ drop 32 (replicate 32 32) ≡ digits
none_left digits = append-nil digits

-- a text of 32 bytes, whose end the digits have overwritten
overwritten : (text digits : List ℕ) (start : ℕ) → start ≤ 32 → take start text ≡ take start (replicate 32 32) → drop start text ≡ digits ++ drop 32 (replicate 32 32)
    → text ≡ blanks start ++ digits
overwritten text digits start fits before written =
    sym (take-append-drop start text)
    ∙ ap (λ (xs : List ℕ). xs ++ drop start text) (before ∙ blanks_taken start fits)
    ∙ ap (λ (xs : List ℕ). blanks start ++ xs) (written ∙ none_left digits)

fewer_blanks : (digits : List ℕ) (start k : ℕ) → k ≤ start → drop k (blanks start ++ digits) ≡ blanks (start - k) ++ digits
fewer_blanks digits start k few =
    drop-append-le k (blanks start) digits (omega (arith, length-replicate {A = ℕ} start 32))
    ∙ ap (λ (xs : List ℕ). xs ++ digits) (drop-replicate k start 32)

-- its end that is as wide as the cell, or the digits where they are wider
pub end_is_cell : (text digits : List ℕ) (start width : ℕ) → start + length digits ≡ 32 → width ≤ 32
    → take start text ≡ take start (replicate 32 32) → drop start text ≡ digits ++ drop 32 (replicate 32 32)
    → drop (min start (32 - width)) text ≡ right width digits
unfolding right
end_is_cell text digits start width sum fits before written =
    let k = min start (32 - width) in
    let many : start - k ≡ width - length digits = omega (arith, sum, fits) in
    ap (λ (xs : List ℕ). drop k xs) (overwritten text digits start (omega (arith, sum)) before written)
    ∙ fewer_blanks digits start k (omega arith)
    ∙ ap (λ n. blanks n ++ digits) many
