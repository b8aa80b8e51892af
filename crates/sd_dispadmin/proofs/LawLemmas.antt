-- Each text is the spelling of one table, or has one fault.
use Rattle.std.proofs.Common.{◌≡◌, ℕ, zero, suc, ◌+◌, ◌-◌, ◌*◌, ◌/◌, ◌<◌, ◌≤◌, ◌↔◌, ◌⊎◌, inl, inr, Bool, true, false, ◌&&◌, nat_eq, List, [], ◌∷◌, length, map, get_or, Option, Some, None, refl, sym, ap, ◌∙◌, subst, arith}
use Rattle.std.proofs.lemmas.Bool.{and_parts}
use borrow.Author.Count.{below_none, below_more}
use Rattle.std.specs.List.{list_all}
use Rattle.std.proofs.Math.Nat.{le-div_iff_mul-le}
use Rattle.std.proofs.lemmas.List.{length-map}
use Rattle.std.proofs.lemmas.Bool.Decides.{nat_tests}
use Rattle.sd_types.specs.declared.tables.TsRow.{TsRow}
use Rattle.sd_types.specs.declared.tables.FixedRow.{FixedRow}
use Rattle.sd_types.specs.declared.tables.TsTable.{TsTable}
use Rattle.sd_types.specs.declared.tables.FixedTable.{FixedTable}
use Rattle.sd_types.specs.Rows.{ts_row_fits, fixed_row_fits}
use Rattle.sd_types.specs.Ticks.{ticks_of, ts_ticks_fit, fixed_ticks_fit}
use Rattle.sd_dispadmin.specs.declared.columns.Column.{Column}
use Rattle.sd_dispadmin.specs.declared.fault.TableFault.{TableFault}
use Rattle.sd_dispadmin.specs.declared.fault.TableFault.TheVariants.{Rows}
use Rattle.sd_dispadmin.specs.TableText.{Line, Format, ts_columns, fixed_columns, ts_format, fixed_format, word_lines, is_unit, is_within, fault_at, AreClean, rows_in, has_rows, IsLineFault, IsTableFault, IsTableText, ts_numbers, fixed_numbers, SpellsTs, SpellsFixed}
use Rattle.sd_dispadmin.specs.TableSpelling.{ts_text, fixed_text}
use Rattle.sd_dispadmin.proofs.AgainLemmas.{is_small, are_rows, table_again}

-- ---- ticks

pub ceiling : (quantum hz res n : ℕ) → 1 ≤ res → (ticks_of quantum hz res ≤ n) ↔ (quantum * hz ≤ n * res)
ceiling quantum hz res n some =
    let pos : zero < res = omega arith in
    let d = (quantum * hz + (res - 1)) / res in (
      λ le.
          let late : n * res < quantum * hz → ⊥ = λ lt.
          let enough : (n + 1) * res ≤ quantum * hz + (res - 1) = omega arith in
          let more : n + 1 ≤ d = (le-div_iff_mul-le pos).1 enough in omega arith
          in omega (arith, late),
      λ le.
          let late : n < d → ⊥ = λ lt.
          let more : n + 1 ≤ d = omega arith in
          let back : (n + 1) * res ≤ quantum * hz + (res - 1) = (le-div_iff_mul-le pos).0 more in omega arith
          in omega (arith, late),
    )

-- ---- one answer

abbrev FirstBelow : List Column → List Line → ℕ → Type 0
FirstBelow columns lines n = (fault : TableFault) × ((i : ℕ) × (i < n) × AreClean columns lines i × (fault_at columns lines i ≡ Some fault))

first-step : (columns : List Column) (lines : List Line) (n : ℕ) (o : Option TableFault) → fault_at columns lines n ≡ o → AreClean columns lines n
    → AreClean columns lines (suc n) ⊎ FirstBelow columns lines (suc n)
first-step columns lines n None h clean = inl (λ i below. below_more _ _ clean h i (omega arith))
first-step columns lines n (Some fault) h clean = inr (fault, (n, omega arith, clean, h))

first-below : (columns : List Column) (lines : List Line) (n : ℕ) → AreClean columns lines n ⊎ FirstBelow columns lines n
first-below columns lines zero = inl (below_none _)
first-below columns lines (suc n) =
    elim (first-below columns lines n) as (λ _. AreClean columns lines (suc n) ⊎ FirstBelow columns lines (suc n)) [
      | inl clean ↦ first-step columns lines n (fault_at columns lines n) refl clean
      | inr f ↦ inr (f.0, (f.1.0, omega (arith, f.1.1), f.1.2, f.1.3))
    ]

rows-step : (format : Format) (text : List ℕ) (b : Bool) → has_rows format (word_lines text) ≡ b
    → AreClean format.columns (word_lines text) (length (word_lines text)) → IsTableText format text ⊎ ((fault : TableFault) × IsTableFault format text fault)
rows-step format text true h clean = inl (record { clean = clean; rows = h })
rows-step format text false h clean = inr (Rows (length (rows_in (word_lines text))), inr (clean, h, refl))

pub table_or_fault : (format : Format) (text : List ℕ) → IsTableText format text ⊎ ((fault : TableFault) × IsTableFault format text fault)
table_or_fault format text =
    elim (first-below format.columns (word_lines text) (length (word_lines text))) as (λ _. IsTableText format text ⊎ ((fault : TableFault) × IsTableFault format text fault)) [
      | inl clean ↦ rows-step format text (has_rows format (word_lines text)) refl clean
      | inr f ↦ inr (f.0, inl f.1)
    ]

pub never_both : (format : Format) (text : List ℕ) (fault : TableFault) → IsTableText format text → IsTableFault format text fault → ⊥
never_both format text fault t (inl h) = let e = t.clean h.0 h.1 in cc (e, h.3)
never_both format text fault t (inr h) = let r = t.rows in cc (r, h.1)

-- the first of two lines at fault is not below the other
not-before : (columns : List Column) (lines : List Line) (a b : TableFault) (h : IsLineFault columns lines a) (k : IsLineFault columns lines b) → k.0 ≤ h.0
not-before columns lines a b h k =
    let late : h.0 < k.0 → ⊥ = λ before. let e = k.2 h.0 before in cc (e, h.3) in omega (arith, late)

same-line : (columns : List Column) (lines : List Line) (a b : TableFault) → IsLineFault columns lines a → IsLineFault columns lines b → a ≡ b
same-line columns lines a b h k =
    let x = not-before columns lines a b h k in
    let y = not-before columns lines b a k h in
    let e : h.0 ≡ k.0 = omega arith in
    let f = ap (fault_at columns lines) e in
    cc (f, h.3, k.3)

pub one_fault : (format : Format) (text : List ℕ) (a b : TableFault) → IsTableFault format text a → IsTableFault format text b → a ≡ b
one_fault format text a b (inl h) (inl k) = same-line format.columns (word_lines text) a b h k
one_fault format text a b (inl h) (inr k) = let e = k.0 h.0 h.1 in absurd (cc (e, h.3))
one_fault format text a b (inr h) (inl k) = let e = h.0 k.0 k.1 in absurd (cc (e, k.3))
one_fault format text a b (inr h) (inr k) = h.2 ∙ sym k.2

-- ---- one table

same_number : (m n : ℕ) → nat_eq m n ≡ true → m ≡ n
same_number m n h = grind (arith, nat_tests)

ts_row-same : (r s : TsRow) → ts_numbers r ≡ ts_numbers s → r.ticks ≡ s.ticks → r ≡ s
ts_row-same r s e t =
    let at : (k : ℕ) → get_or (ts_numbers r) k 0 ≡ get_or (ts_numbers s) k 0 = λ k. ap (λ (l : List ℕ). get_or l k 0) e in
    λ i. record { quantum = at 0 i; ticks = t i; tqexp = at 1 i; slpret = at 2 i; maxwait = at 3 i; lwait = at 4 i }

ts_rows-same : (hz res : ℕ) (xs ys : List TsRow) → map ts_numbers xs ≡ map ts_numbers ys
    → list_all (λ (r : TsRow). nat_eq r.ticks (ticks_of r.quantum hz res)) xs ≡ true
    → list_all (λ (r : TsRow). nat_eq r.ticks (ticks_of r.quantum hz res)) ys ≡ true → xs ≡ ys
ts_rows-same hz res [] [] e t u = refl
ts_rows-same hz res [] (y ∷ ys) e t u = cc
ts_rows-same hz res (x ∷ xs) [] e t u = cc
ts_rows-same hz res (x ∷ xs) (y ∷ ys) e t u =
    let p = and_parts (nat_eq x.ticks (ticks_of x.quantum hz res)) _ t in
    let q = and_parts (nat_eq y.ticks (ticks_of y.quantum hz res)) _ u in
    let head : ts_numbers x ≡ ts_numbers y = cc in
    let tail : map ts_numbers xs ≡ map ts_numbers ys = cc in
    let quantum : x.quantum ≡ y.quantum = ap (λ (l : List ℕ). get_or l 0 0) head in
    let ticks : x.ticks ≡ y.ticks = same_number _ _ p.0 ∙ ap (λ n. ticks_of n hz res) quantum ∙ sym (same_number _ _ q.0) in
    let first = ts_row-same x y head ticks in
    let rest = ts_rows-same hz res xs ys tail p.1 q.1 in
    λ i. first i ∷ rest i

pub one_ts : (text : List ℕ) (hz : ℕ) (a b : TsTable) → SpellsTs text hz a → SpellsTs text hz b → (a.res ≡ b.res) × (a.rows ≡ b.rows)
one_ts text hz a b h k =
    let res : a.res ≡ b.res = h.res ∙ sym k.res in (
      res,
      ts_rows-same hz a.res a.rows b.rows (sym h.rows ∙ k.rows) h.ticks
          (subst (λ n. list_all (λ (r : TsRow). nat_eq r.ticks (ticks_of r.quantum hz n)) b.rows ≡ true) (sym res) k.ticks),
    )

fixed_row-same : (r s : FixedRow) → fixed_numbers r ≡ fixed_numbers s → r.ticks ≡ s.ticks → r ≡ s
fixed_row-same r s e t =
    let at : r.quantum ≡ s.quantum = ap (λ (l : List ℕ). get_or l 0 0) e in
    λ i. record { quantum = at i; ticks = t i }

fixed_rows-same : (hz res : ℕ) (xs ys : List FixedRow) → map fixed_numbers xs ≡ map fixed_numbers ys
    → list_all (λ (r : FixedRow). nat_eq r.ticks (ticks_of r.quantum hz res)) xs ≡ true
    → list_all (λ (r : FixedRow). nat_eq r.ticks (ticks_of r.quantum hz res)) ys ≡ true → xs ≡ ys
fixed_rows-same hz res [] [] e t u = refl
fixed_rows-same hz res [] (y ∷ ys) e t u = cc
fixed_rows-same hz res (x ∷ xs) [] e t u = cc
fixed_rows-same hz res (x ∷ xs) (y ∷ ys) e t u =
    let p = and_parts (nat_eq x.ticks (ticks_of x.quantum hz res)) _ t in
    let q = and_parts (nat_eq y.ticks (ticks_of y.quantum hz res)) _ u in
    let head : fixed_numbers x ≡ fixed_numbers y = cc in
    let tail : map fixed_numbers xs ≡ map fixed_numbers ys = cc in
    let quantum : x.quantum ≡ y.quantum = ap (λ (l : List ℕ). get_or l 0 0) head in
    let ticks : x.ticks ≡ y.ticks = same_number _ _ p.0 ∙ ap (λ n. ticks_of n hz res) quantum ∙ sym (same_number _ _ q.0) in
    let first = fixed_row-same x y head ticks in
    let rest = fixed_rows-same hz res xs ys tail p.1 q.1 in
    λ i. first i ∷ rest i

pub one_fixed : (format : Format) (text : List ℕ) (hz : ℕ) (a b : FixedTable) → SpellsFixed format text hz a → SpellsFixed format text hz b → (a.res ≡ b.res) × (a.rows ≡ b.rows)
one_fixed format text hz a b h k =
    let res : a.res ≡ b.res = h.res ∙ sym k.res in (
      res,
      fixed_rows-same hz a.res a.rows b.rows (sym h.rows ∙ k.rows) h.ticks
          (subst (λ n. list_all (λ (r : FixedRow). nat_eq r.ticks (ticks_of r.quantum hz n)) b.rows ≡ true) (sym res) k.ticks),
    )

-- ---- written tables

ts_row-again : (r : TsRow) → ts_row_fits r ≡ true → (is_within ts_columns (ts_numbers r) && is_small (ts_numbers r)) ≡ true
ts_row-again r h = grind (arith, nat_tests)

ts_rows-again : (rows : List TsRow) → list_all ts_row_fits rows ≡ true → are_rows ts_columns (map ts_numbers rows) ≡ true
ts_rows-again [] h = refl
ts_rows-again (r ∷ rows) h = let p = and_parts (ts_row_fits r) _ h in rw (ts_row-again r p.0) (ts_rows-again rows p.1)

unit-of : (n : ℕ) → 1 ≤ n → n ≤ 1000000000 → is_unit n ≡ true
unit-of n some most = grind (arith, nat_tests)

pub ts_again : (hz : ℕ) (t : TsTable) → ts_ticks_fit hz t ≡ true → SpellsTs (ts_text t) hz t
ts_again hz t ticks =
    let n : length (map ts_numbers t.rows) ≡ 60 = length-map t.rows ts_numbers ∙ t.whole in
    let again = table_again ts_format t.res (map ts_numbers t.rows) (omega arith) (unit-of t.res t.some_res t.most_res) (ts_rows-again t.rows t.fits) (omega arith) (omega arith) (omega arith) in
    record { table = again.0; rows = again.1; res = sym again.2; ticks = ticks }

fixed_row-again : (r : FixedRow) → fixed_row_fits r ≡ true → (is_within fixed_columns (fixed_numbers r) && is_small (fixed_numbers r)) ≡ true
fixed_row-again r h = grind (arith, nat_tests)

fixed_rows-again : (rows : List FixedRow) → list_all fixed_row_fits rows ≡ true → are_rows fixed_columns (map fixed_numbers rows) ≡ true
fixed_rows-again [] h = refl
fixed_rows-again (r ∷ rows) h = let p = and_parts (fixed_row_fits r) _ h in rw (fixed_row-again r p.0) (fixed_rows-again rows p.1)

pub fixed_again : (most hz : ℕ) (t : FixedTable) → fixed_ticks_fit hz t ≡ true → length t.rows ≤ most → most ≤ 61 → SpellsFixed (fixed_format most) (fixed_text t) hz t
fixed_again most hz t ticks short small =
    let n : length (map fixed_numbers t.rows) ≡ length t.rows = length-map t.rows fixed_numbers in
    let least : 60 ≤ length t.rows = t.least in
    let again = table_again (fixed_format most) t.res (map fixed_numbers t.rows) (omega arith) (unit-of t.res t.some_res t.most_res) (fixed_rows-again t.rows t.fits) (omega arith) (omega arith) (omega arith) in
    record { table = again.0; rows = again.1; res = sym again.2; ticks = ticks }
