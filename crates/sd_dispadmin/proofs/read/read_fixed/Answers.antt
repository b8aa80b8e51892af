use Rattle.std.proofs.Common.{◌≡◌, map, ap, sym, ◌∙◌}
use Rattle.sd_dispadmin.specs.TableText.{is_unit}
use Rattle.sd_dispadmin.specs.Sheets.{rows_of}
use Rattle.sd_dispadmin.specs.TableRows.{fixed_row_of}
use Rattle.sd_dispadmin.proofs.SpellLemmas.{fixed_fits, fixed_spelled}
use Rattle.sd_dispadmin.proofs.read.read_fixed.Goals as goal

pub from_rows-requires-clause-fits : goal.from_rows-requires-clause-fits
from_rows-requires-clause-fits c =
    let made : c.from_vec.result ≡ map (fixed_row_of c.args.hz c.res-res.result) (rows_of c.in_ok-sheet.sheet) = cc (c.from_vec.ensures, c.in_ok-rows.ensures, c.deref.ensures.0) in
    fixed_fits c.args.text.now c.args.hz c.res-res.result c.in_ok-sheet.sheet c.from_vec.result c.in_ok-sheet.ensures.sheet c.in_ok-sheet.ensures.rows c.requires.hz (c.res-res.ensures.unit c.in_ok-sheet.ensures.sheet.unit) made

pub returns-clause-ok : goal.returns-clause-ok
returns-clause-ok c =
    let sheet = c.in_ok-sheet.sheet in
    let t = c.from_rows.result in
    let made : c.from_vec.result ≡ map (fixed_row_of c.args.hz c.res-res.result) (rows_of sheet) = cc (c.from_vec.ensures, c.in_ok-rows.ensures, c.deref.ensures.0) in
    let rows : t.rows ≡ map (fixed_row_of c.args.hz t.res) (rows_of sheet) =
    c.from_rows.ensures.rows ∙ made ∙ ap (λ n. map (fixed_row_of c.args.hz n) (rows_of sheet)) (sym c.from_rows.ensures.res) in
    fixed_spelled c.args.most c.args.text.now c.args.hz sheet t c.in_ok-sheet.ensures.ok c.in_ok-sheet.ensures.sheet c.in_ok-sheet.ensures.rows c.requires.hz
    (ap is_unit c.from_rows.ensures.res ∙ c.res-res.ensures.unit c.in_ok-sheet.ensures.sheet.unit)
    (c.from_rows.ensures.res ∙ c.res-res.ensures.value) rows
