-- The line in which two texts differ first, from the first byte in which they do.
use Rattle.std.proofs.Common.{◌≡◌, ℕ, ◌+◌, Bool, true, false, cond, List, [], ◌∷◌, refl, sym, ap, ◌∙◌, arith}
use Rattle.std.specs.Prelude.{◌==◌, ⊤}
use Rattle.std.specs.List.{onto_first}
use Rattle.std.proofs.lemmas.Bool.{eq-eqb}
use Rattle.std.proofs.lemmas.Bool.Decides.{nat_tests}
use Rattle.sd_types.specs.Works.{same_bytes}
use Rattle.sd_text.specs.Lines.{is_newline}
use Rattle.sd_audit.specs.Audits.{whole_lines, common_lines}
use Rattle.sd_audit.specs.Differences.{newlines_before}
use Rattle.sd_audit.proofs.DifferenceLemmas.{same_first, other_first, none_left, no_other}
use Rattle.sd_types.proofs.SameLemmas.{bytes_same_itself}

-- no line is empty
abbrev FirstSome : List (List ℕ) → Type 0
FirstSome [] = ⊤
FirstSome (l ∷ ls) = (same_bytes [] l ≡ false) × (same_bytes l [] ≡ false)

some_onto : (x : ℕ) (ls : List (List ℕ)) → FirstSome (onto_first x ls)
some_onto x [] = (refl, refl)
some_onto x (l ∷ ls) = (refl, refl)

some_step : (b : Bool) (x : ℕ) (ls : List (List ℕ)) → FirstSome (cond b ((x ∷ []) ∷ ls) (onto_first x ls))
some_step true x ls = (refl, refl)
some_step false x ls = some_onto x ls

some_first : (xs : List ℕ) → FirstSome (whole_lines xs)
unfolding whole_lines
some_first [] = tt
some_first (x ∷ xs) = some_step (is_newline x) x (whole_lines xs)

-- the first line begins with the first byte
record Begins (x : ℕ) (ls : List (List ℕ)) : Type 0 where
  line : List ℕ
  rest : List (List ℕ)
  is : ls ≡ (x ∷ line) ∷ rest

begins_onto : (x : ℕ) (ls : List (List ℕ)) → Begins x (onto_first x ls)
begins_onto x [] = record { line = []; rest = []; is = refl }
begins_onto x (l ∷ ls) = record { line = l; rest = ls; is = refl }

begins_step : (b : Bool) (x : ℕ) (ls : List (List ℕ)) → Begins x (cond b ((x ∷ []) ∷ ls) (onto_first x ls))
begins_step true x ls = record { line = []; rest = ls; is = refl }
begins_step false x ls = begins_onto x ls

begins : (x : ℕ) (xs : List ℕ) → Begins x (whole_lines (x ∷ xs))
unfolding whole_lines
begins x xs = begins_step (is_newline x) x (whole_lines xs)

pub nil_cons : (l : List ℕ) (ls : List (List ℕ)) → [] ≡ l ∷ ls → ⊥
nil_cons l ls e = cc

no_lines : (xs : List ℕ) → whole_lines xs ≡ [] → xs ≡ []
no_lines [] h = refl
no_lines (x ∷ xs) h = let b = begins x xs in absurd (nil_cons (x ∷ b.line) b.rest (sym h ∙ b.is))

-- ---- lines in common

common_nil : (ls : List (List ℕ)) → common_lines ls [] ≡ 0
unfolding common_lines
common_nil [] = refl
common_nil (l ∷ ls) = refl

nil_common : (ls : List (List ℕ)) → common_lines [] ls ≡ 0
unfolding common_lines
nil_common ls = refl

common_cons : (k l : List ℕ) (ks ls : List (List ℕ)) → common_lines (k ∷ ks) (l ∷ ls) ≡ cond (same_bytes k l) (1 + common_lines ks ls) 0
unfolding common_lines
common_cons k l ks ls = refl

-- one byte before both first lines
onto_both : (x : ℕ) (ks ls : List (List ℕ)) → FirstSome ks → FirstSome ls → (ks ≡ [] → ls ≡ [] → ⊥)
    → common_lines (onto_first x ks) (onto_first x ls) ≡ common_lines ks ls
onto_both x [] [] p q some = absurd (some refl refl)
onto_both x [] (l ∷ ls) p q some =
    common_cons (x ∷ []) (x ∷ l) [] ls ∙ rw (eq-eqb x x refl, q.0) (sym (nil_common (l ∷ ls)))
onto_both x (k ∷ ks) [] p q some =
    common_cons (x ∷ k) (x ∷ []) ks [] ∙ rw (eq-eqb x x refl, p.1) (sym (common_nil (k ∷ ks)))
onto_both x (k ∷ ks) (l ∷ ls) p q some =
    common_cons (x ∷ k) (x ∷ l) ks ls ∙ rw (eq-eqb x x refl) (sym (common_cons k l ks ls))

lines_step : (b : Bool) (x : ℕ) (ks ls : List (List ℕ)) (n : ℕ) → FirstSome ks → FirstSome ls → (ks ≡ [] → ls ≡ [] → ⊥) → n ≡ common_lines ks ls
    → cond b (1 + n) n ≡ common_lines (cond b ((x ∷ []) ∷ ks) (onto_first x ks)) (cond b ((x ∷ []) ∷ ls) (onto_first x ls))
lines_step true x ks ls n p q some same =
    ap (λ (k : ℕ). 1 + k) same
    ∙ sym (common_cons (x ∷ []) (x ∷ []) ks ls ∙ ap (λ b. cond b (1 + common_lines ks ls) 0) (bytes_same_itself (x ∷ [])))
lines_step false x ks ls n p q some same = same ∙ sym (onto_both x ks ls p q some)

on_lines : (x : ℕ) (xs ys : List ℕ) → (xs ≡ ys → ⊥) → newlines_before xs ys ≡ common_lines (whole_lines xs) (whole_lines ys)
    → cond (is_newline x) (1 + newlines_before xs ys) (newlines_before xs ys) ≡ common_lines (whole_lines (x ∷ xs)) (whole_lines (x ∷ ys))
unfolding whole_lines
on_lines x xs ys differs same =
    lines_step (is_newline x) x (whole_lines xs) (whole_lines ys) (newlines_before xs ys) (some_first xs) (some_first ys)
    (λ p q. differs (no_lines xs p ∙ sym (no_lines ys q))) same

none_here : (zs : List ℕ) → common_lines (whole_lines []) (whole_lines zs) ≡ 0
unfolding whole_lines
none_here zs = nil_common (whole_lines zs)

none_there : (zs : List ℕ) → common_lines (whole_lines zs) (whole_lines []) ≡ 0
unfolding whole_lines
none_there zs = common_nil (whole_lines zs)

pub newlines_are_lines : (xs ys : List ℕ) → (xs ≡ ys → ⊥) → newlines_before xs ys ≡ common_lines (whole_lines xs) (whole_lines ys)
newlines_are_lines [] [] differs = absurd (differs refl)
newlines_are_lines [] (y ∷ ys) differs = none_left (y ∷ ys) ∙ sym (none_here (y ∷ ys))
newlines_are_lines (x ∷ xs) [] differs = no_other (x ∷ xs) ∙ sym (none_there (x ∷ xs))
newlines_are_lines (x ∷ xs) (y ∷ ys) differs = by (x == y) refl (λ rest. newlines_are_lines xs ys rest)
  where
    by : (b : Bool) → (x == y) ≡ b → ((xs ≡ ys → ⊥) → newlines_before xs ys ≡ common_lines (whole_lines xs) (whole_lines ys))
        → newlines_before (x ∷ xs) (y ∷ ys) ≡ common_lines (whole_lines (x ∷ xs)) (whole_lines (y ∷ ys))
    by true e further =
        let same : x ≡ y = grind (arith, nat_tests) in
        let rest = λ (is : xs ≡ ys). differs (ap (λ (z : ℕ). z ∷ xs) same ∙ ap (λ (l : List ℕ). y ∷ l) is) in
        same_first x y xs ys e ∙ on_lines x xs ys rest (further rest) ∙ ap (λ (z : ℕ). common_lines (whole_lines (x ∷ xs)) (whole_lines (z ∷ ys))) same
    by false e further =
        let k = begins x xs in
        let l = begins y ys in
        other_first x y xs ys e
        ∙ sym (ap (λ (z : List (List ℕ)). common_lines z (whole_lines (y ∷ ys))) k.is ∙ ap (common_lines ((x ∷ k.line) ∷ k.rest)) l.is
        ∙ common_cons (x ∷ k.line) (y ∷ l.line) k.rest l.rest ∙ rw e refl)
