-- The blocks of tables are taken in.
use Rattle.std.proofs.Common.{◌≡◌, ℕ, ◌+◌, Bool, true, false, not, nat_eq, List, [], ◌∷◌, ◌++◌, length, map, take, get_or, Some, None, refl, sym, ap, ◌∙◌, arith, append_assoc, if◌then◌else◌}
use Rattle.std.specs.Prelude.{codes}
use Rattle.std.specs.List.{list_all, onto_first}
use Rattle.std.proofs.lemmas.Bool.{false≢true, and_parts, and_right}
use Rattle.std.proofs.lemmas.Bool.Decides.{nat_tests}
use Rattle.std.proofs.lemmas.List.{map-append}
use Rattle.std.proofs.lemmas.Option.{none-some}
use Rattle.sd_basics.proofs.Lists.{all_each}
use Rattle.sd_types.specs.Works.{same_bytes}
use Rattle.sd_text.specs.Lines.{is_newline, lines_of, text_of_lines}
use Rattle.sd_text.specs.Words.{words_of}
use Rattle.sd_dispadmin.specs.declared.columns.Column.{Column}
use Rattle.sd_dispadmin.specs.declared.fault.TableFault.TheVariants.{NotANumber}
use Rattle.sd_dispadmin.specs.TableText.{IsTableText, word_lines, is_res_word, line_fault, fault_at, AreClean, has_rows}
use Rattle.sd_lines.specs.declared.statements.TableClass.{TableClass}
use Rattle.sd_lines.specs.Words.{Word, Line, is_end, only_word}
use Rattle.sd_lines.specs.Statements.{Table, statement_of}
use Rattle.sd_declare.specs.Declarations.{Declarations}
use Rattle.sd_declare.specs.Statements.{is_table_given}
use Rattle.sd_workload.specs.Texts.{Outside, InTable, format_of, with_table, judged}
use Rattle.sd_workload.proofs.TableLemmas.{table-clean, table-closed}
use Rattle.sd_canonical.specs.Canonical.{line_text}
use Rattle.sd_canonical.proofs.TextLemmas.{is_plain, are_plain, line-again}
use Rattle.sd_canonical.proofs.TakesLemmas.{Takes, takes-both, takes-line}

-- ---- texts that end with a newline

abbrev Some-lines : List (List ℕ) → Type 0
Some-lines ls = (first : List ℕ) × (more : List (List ℕ)) × (ls ≡ first ∷ more)

onto-some : (b : ℕ) (n : Bool) (ls : List (List ℕ)) → Some-lines ls → Some-lines (if n then [] ∷ ls else onto_first b ls)
onto-some b true ls p = ([], ls, refl)
onto-some b false ls p = (b ∷ p.0, p.1, ap (onto_first b) p.2)

some-lines : (text : List ℕ) → Some-lines (lines_of (text ++ 10 ∷ []))
unfolding lines_of
some-lines [] = ([], [], refl)
some-lines (b ∷ bs) = onto-some b (is_newline b) (lines_of (bs ++ 10 ∷ [])) (some-lines bs)

onto-cut : (b : ℕ) (n : Bool) (whole ls rest : List (List ℕ)) → Some-lines ls → whole ≡ ls ++ rest
    → (if n then [] ∷ whole else onto_first b whole) ≡ (if n then [] ∷ ls else onto_first b ls) ++ rest
onto-cut b true whole ls rest p e = ap (λ (l : List (List ℕ)). [] ∷ l) e
onto-cut b false whole ls rest p e = ap (onto_first b) e ∙ rw (p.2) refl

-- lines on from a newline
lines-cut : (text rest : List ℕ) → lines_of (text ++ 10 ∷ rest) ≡ lines_of (text ++ 10 ∷ []) ++ lines_of rest
unfolding lines_of
lines-cut [] rest = refl
lines-cut (b ∷ bs) rest = onto-cut b (is_newline b) (lines_of (bs ++ 10 ∷ rest)) (lines_of (bs ++ 10 ∷ [])) (lines_of rest) (some-lines bs) (lines-cut bs rest)

lines-of-text : (lines : List (List ℕ)) (rest : List ℕ) → lines_of (text_of_lines lines ++ rest) ≡ lines_of (text_of_lines lines) ++ lines_of rest
unfolding lines_of
lines-of-text [] rest = refl
lines-of-text (line ∷ lines) rest =
    let more = text_of_lines lines in
    let front : lines_of (((line ++ 10 ∷ []) ++ more) ++ rest) ≡ lines_of (line ++ 10 ∷ []) ++ (lines_of more ++ lines_of rest) =
    ap lines_of (append_assoc (line ++ 10 ∷ []) more rest ∙ append_assoc line (10 ∷ []) (more ++ rest)) ∙ lines-cut line (more ++ rest) ∙ ap (λ l. lines_of (line ++ 10 ∷ []) ++ l) (lines-of-text lines rest) in
    let back : lines_of ((line ++ 10 ∷ []) ++ more) ≡ lines_of (line ++ 10 ∷ []) ++ lines_of more =
    ap lines_of (append_assoc line (10 ∷ []) more) ∙ lines-cut line more in
    front ∙ sym (ap (λ l. l ++ lines_of rest) back ∙ append_assoc (lines_of (line ++ 10 ∷ [])) (lines_of more) (lines_of rest))

word-lines-of-text : (lines : List (List ℕ)) (rest : List ℕ) → word_lines (text_of_lines lines ++ rest) ≡ word_lines (text_of_lines lines) ++ word_lines rest
word-lines-of-text lines rest = ap (map words_of) (lines-of-text lines rest) ∙ map-append words_of (lines_of (text_of_lines lines)) (lines_of rest)

-- ---- no line of a table without faults closes its block

pub same-word : (a b : Word) → same_bytes a b ≡ true → a ≡ b
same-word [] [] h = refl
same-word [] (y ∷ ys) h = absurd (false≢true h)
same-word (x ∷ xs) [] h = absurd (false≢true h)
same-word (x ∷ xs) (y ∷ ys) h =
    let p = and_parts (nat_eq x y) (same_bytes xs ys) h in
    let e : x ≡ y = grind (arith, nat_tests, p.0) in
    ap (λ (n : ℕ). n ∷ xs) e ∙ ap (λ (l : List ℕ). y ∷ l) (same-word xs ys p.1)

end-fault : (columns : List Column) (above : List Line) (number : ℕ) → line_fault columns above (codes "end" ∷ []) number ≡ Some (NotANumber number)
unfolding is_res_word
end-fault columns above number = rw (and_right (nat_eq 1 (length columns)) false refl) refl

not-end : (columns : List Column) (above : List Line) (line : Line) (number : ℕ) → line_fault columns above line number ≡ None → not (is_end line) ≡ true
unfolding only_word
not-end columns above [] number h = refl
not-end columns above (word ∷ []) number h = by (same_bytes word (codes "end")) refl
  where
    by : (b : Bool) → same_bytes word (codes "end") ≡ b → not b ≡ true
    by false e = refl
    by true e =
        let is_end_line : line_fault columns above (word ∷ []) number ≡ Some (NotANumber number) =
        ap (λ (x : Word). line_fault columns above (x ∷ []) number) (same-word word (codes "end") e) ∙ end-fault columns above number in
        absurd (none-some (NotANumber number) (sym h ∙ is_end_line))
not-end columns above (word ∷ other ∷ words) number h = refl

none-ends : (columns : List Column) (lines : List Line) → AreClean columns lines (length lines) → list_all (λ line. not (is_end line)) lines ≡ true
unfolding fault_at
none-ends columns lines clean =
    all_each (λ (line : Line). not (is_end line)) [] lines (λ i h. not-end columns (take i lines) (get_or lines i []) (i + 1) (clean i h))

-- ---- blocks

takes-rows : (class : TableClass) (lines : List (List ℕ)) (d : Declarations) → IsTableText (format_of class) (text_of_lines lines)
    → Takes (text_of_lines lines) d (InTable class []) d (InTable class (word_lines (text_of_lines lines)))
takes-rows class lines d t = record {
  on = λ n rest.
      let words = word_lines (text_of_lines lines) in (
        n + length words,
        ap (judged n d (InTable class [])) (word-lines-of-text lines rest)
            ∙ table-clean n (n + length words) d class words (word_lines rest) (none-ends (format_of class).columns words t.clean) refl t.clean,
      );
}

takes-end : (class : TableClass) (words : List Line) (d : Declarations) → has_rows (format_of class) words ≡ true
    → Takes (line_text (codes "end" ∷ [])) d (InTable class words) (with_table d class words) Outside
unfolding only_word
takes-end class words d rows = record {
  on = λ n rest. (
    n + 1,
    table-closed n (n + 1) d class words (word_lines (line_text (codes "end" ∷ []) ++ rest)) (word_lines rest) (codes "end" ∷ []) (line-again (codes "end" ∷ []) rest refl) refl refl rows,
  );
}

pub takes-block : (class : TableClass) (name : Word) (lines : List (List ℕ)) (d : Declarations) → is_plain name ≡ true → statement_of (codes "table" ∷ name ∷ []) ≡ Some (Table class)
    → is_table_given d class ≡ false → IsTableText (format_of class) (text_of_lines lines)
    → Takes (line_text (codes "table" ∷ name ∷ []) ++ (text_of_lines lines ++ line_text (codes "end" ∷ []))) d Outside (with_table d class (word_lines (text_of_lines lines))) Outside
takes-block class name lines d plain form new t =
    let words = word_lines (text_of_lines lines) in
    let plains : are_plain (codes "table" ∷ name ∷ []) ≡ true = rw plain refl in
    takes-both _ _ d d (with_table d class words) Outside (InTable class []) Outside
    (takes-line (codes "table") (name ∷ []) (Table class) d plains form
    (record { syntax = refl; unknown = refl; twice = new; range = refl; sets = refl; limits = refl }))
    (takes-both _ _ d d (with_table d class words) (InTable class []) (InTable class words) Outside
    (takes-rows class lines d t)
    (takes-end class words d t.rows))
