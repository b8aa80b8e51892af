-- What a line that gives RES adds to a sheet.
use Rattle.std.proofs.Common.{◌≡◌, ℕ, Bool, true, false, ◌||◌, cond, nat_lt, List, [], ◌∷◌, ◌++◌, length, filter, drop, take, get_or, slice_index_or, Option, Some, None, is_some, is_none, option_and_then, IfSome, Err, refl, sym, ap, ◌∙◌, subst, ◌+◌, ◌<◌, ◌≤◌, suc, arith, add-zero, below_more, length-drop, drop-drop}
use Rattle.std.specs.List.{list_any}
use Rattle.std.proofs.lemmas.List.{get_or-drop, take_more, length-map}
use Rattle.std.proofs.lemmas.List.Elements.{filter-append}
use Rattle.std.proofs.lemmas.List.Folds.{list_any-append}
use Rattle.std.proofs.lemmas.Grind.{common_steps}
use Rattle.sd_text.specs.Numbers.{number_of}
use Rattle.sd_dispadmin.specs.declared.columns.Column.{Column}
use Rattle.sd_dispadmin.specs.declared.fault.TableFault.{TableFault}
use Rattle.sd_dispadmin.specs.declared.sheet.Sheet.{Sheet}
use Rattle.sd_dispadmin.specs.TableText.{Line, is_res_word, is_res_line, is_row_line, is_unit, res_of_line, line_fault, fault_at, AreClean, IsLineFault, units_in}
use Rattle.sd_dispadmin.specs.Sheets.{StandsFor, TakesLine}

filter_none-step : {X : Type 0} (b : Bool) (x : X) (xs ys : List X) (rest : Bool) → (b || rest) ≡ false → (rest ≡ false → ys ≡ []) → cond b (x ∷ ys) ys ≡ []
filter_none-step true x xs ys rest h more = cc
filter_none-step false x xs ys rest h more = more h

-- no element passes a test that none passes
pub filter_none : {X : Type 0} (p : X → Bool) (xs : List X) → list_any p xs ≡ false → filter p xs ≡ []
filter_none p [] h = refl
filter_none p (x ∷ xs) h = filter_none-step (p x) x xs (filter p xs) (list_any p xs) h (filter_none p xs)

chosen_unit : (b : Bool) (n : ℕ) → is_unit n ≡ b → IfSome (cond b (Some n) None) (λ m. is_unit m ≡ true)
chosen_unit true n h = h
chosen_unit false n h = tt

unit_of : (o : Option ℕ) → IfSome (option_and_then (λ n. cond (is_unit n) (Some n) None) o) (λ n. is_unit n ≡ true)
unit_of None = tt
unit_of (Some n) = chosen_unit (is_unit n) n refl

unit_of_word : (b : Bool) (o : Option ℕ) → IfSome (cond b (option_and_then (λ n. cond (is_unit n) (Some n) None) o) None) (λ n. is_unit n ≡ true)
unit_of_word true o = unit_of o
unit_of_word false o = tt

-- what a line gives is in the range of RES
pub unit_of_line : (line : Line) → IfSome (res_of_line line) (λ n. is_unit n ≡ true)
unit_of_line [] = tt
unit_of_line (word ∷ []) = unit_of_word (is_res_word word) (number_of (drop 4 word))
unit_of_line (word ∷ other ∷ words) = tt

first_unit : (above : List Line) (line : Line) → list_any is_res_line above ≡ false → is_res_line line ≡ true → units_in (above ++ line ∷ []) ≡ res_of_line line ∷ []
first_unit above line none here =
    rw (filter-append is_res_line above (line ∷ []), filter_none is_res_line above none, here) refl

pub res_taken : (columns : List Column) (line : Line) (number : ℕ) (old new : Sheet) (res : Option ℕ)
    → is_res_line line ≡ true → is_row_line line ≡ false → res_of_line line ≡ res
    → (is_none res || is_some old.res || nat_lt 0 old.count) ≡ false
    → new.res ≡ res → new.count ≡ old.count → new.rows.items ≡ old.rows.items
    → (above : List Line) → StandsFor columns above old
    → (line_fault columns above line number ≡ None) × StandsFor columns (above ++ line ∷ []) new
res_taken columns line number old new res here no_row gives ok new_res new_count new_rows above h =
    let none : list_any is_res_line above ≡ false = grind (arith, h.has_res) in
    let first = first_unit above line none here in (
      grind (arith, common_steps, h.has_res, h.has_row),
      record {
        res = new_res ∙ sym (ap (λ (l : List (Option ℕ)). slice_index_or l 0 None) first ∙ gives);
        has_res = grind (arith, list_any-append);
        count = grind (arith, common_steps, h.count);
        rows = λ (few : new.count ≤ 61). let below : old.count ≤ 61 = omega arith in grind (arith, common_steps, h.rows below);
        has_row = grind (arith, list_any-append, h.has_row);
        unit = subst (λ (o : Option ℕ). IfSome o (λ n. is_unit n ≡ true)) (gives ∙ sym new_res) (unit_of_line line);
        within = grind (arith, common_steps, h.within);
      },
    )

-- ---- lines, one after the other

-- where a list goes on from an index with an element
pub goes_on : {X : Type 0} (xs : List X) (k : ℕ) (d x : X) (rest : List X) → drop k xs ≡ x ∷ rest
    → (k < length xs) × (get_or xs k d ≡ x) × (drop (k + 1) xs ≡ rest)
goes_on xs k d x rest h =
    let n : length (drop k xs) ≡ suc (length rest) = ap length h in (
      omega (arith, n, length-drop k xs),
      sym (get_or-drop k xs 0 d ∙ ap (λ i. get_or xs i d) (add-zero k)) ∙ ap (λ l. get_or l 0 d) h,
      sym (drop-drop 1 k xs) ∙ ap (drop 1) h,
    )

-- and where it ends
pub ended : {X : Type 0} (xs : List X) (k : ℕ) → drop k xs ≡ [] → length xs ≤ k
ended xs k h = omega (arith, ap length h, length-drop k xs)

fault_at-next : (columns : List Column) (lines : List Line) (k : ℕ) (line : Line) (rest : List Line) → drop k lines ≡ line ∷ rest
    → fault_at columns lines k ≡ line_fault columns (take k lines) line (k + 1)
unfolding fault_at
fault_at-next columns lines k line rest h = ap (λ l. line_fault columns (take k lines) l (k + 1)) ((goes_on lines k [] line rest h).1)

-- one more line is not at fault
pub clean-next : (columns : List Column) (lines : List Line) (k : ℕ) (line : Line) (rest : List Line) → drop k lines ≡ line ∷ rest
    → AreClean columns lines k → line_fault columns (take k lines) line (k + 1) ≡ None → AreClean columns lines (k + 1)
clean-next columns lines k line rest h clean none = below_more _ _ clean (fault_at-next columns lines k line rest h ∙ none)

pub take-next : (lines : List Line) (k : ℕ) (line : Line) (rest : List Line) → drop k lines ≡ line ∷ rest → take (k + 1) lines ≡ take k lines ++ line ∷ []
take-next lines k line rest h =
    let p = goes_on lines k [] line rest h in
    take_more lines k [] p.0 ∙ ap (λ l. take k lines ++ l ∷ []) p.1

-- or it is the first that is
pub fault-next : (columns : List Column) (lines : List Line) (k : ℕ) (line : Line) (rest : List Line) (old new : Sheet) (fault : TableFault)
    → drop k lines ≡ line ∷ rest → AreClean columns lines k → StandsFor columns (take k lines) old
    → TakesLine columns line (k + 1) old new (Err fault) → IsLineFault columns lines fault
fault-next columns lines k line rest old new fault h clean stands taken =
    (k, (goes_on lines k [] line rest h).0, clean, fault_at-next columns lines k line rest h ∙ taken (take k lines) stands)
