use Rattle.std.proofs.Common.{◌≡◌, ◌+◌, ◌≤◌, ◌∷◌, [], List, length, take, drop, map, IfErr, Result, arith, ap, sym, subst, ◌∙◌, take_all}
use Rattle.std.proofs.lemmas.Result.{err_from_is_err_and}
use Rattle.sd_text.specs.Words.{words_of}
use Rattle.sd_dispadmin.specs.declared.sheet.Sheet.{Sheet}
use Rattle.sd_dispadmin.specs.declared.fault.TableFault.{TableFault}
use Rattle.sd_dispadmin.specs.TableText.{Line, word_lines, IsLineFault}
use Rattle.sd_dispadmin.specs.Sheets.{StandsFor}
use Rattle.sd_dispadmin.proofs.SheetLemmas.{clean-next, take-next, fault-next, goes_on, ended}
use Rattle.sd_dispadmin.proofs.sheet.read_sheet.Goals as goal

pub returns-in_err-take_line-clause-err : goal.returns-in_err-take_line-clause-err
returns-in_err-take_line-clause-err c =
    let e = err_from_is_err_and c.from_residual.result c.from_residual.ensures.1 in
    let lines = word_lines c.args.text.now in
    let next : drop c.loop-start.lines lines ≡ _ ∷ _ = sym c.loop-start.invariant.rest ∙ ap (map words_of) c.in-Some.ensures.line in
    let unread = fault-next c.args.columns.now lines c.loop-start.lines _ _ c.loop-start.sheet c.take_line.new.self _ next c.loop-start.invariant.clean c.loop-start.invariant.stands c.in_err-take_line.ensures.taken in
    let P : TableFault → Type 0 = IsLineFault c.args.columns.now lines in
    subst (λ (r : Result Sheet TableFault). IfErr r P) (sym e.1) (subst P (sym e.2) unread)

pub loop-start-preserved : goal.loop-start-preserved
loop-start-preserved c =
    let lines = word_lines c.args.text.now in
    let next : drop c.loop-start.lines lines ≡ _ ∷ _ = sym c.loop-start.invariant.rest ∙ ap (map words_of) c.in-Some.ensures.line in
    let taken = c.in_ok-take_line.ensures.taken (take c.loop-start.lines lines) c.loop-start.invariant.stands in
    let after : c.loop-start.from ≤ c.in-Some.end = c.in-Some.ensures.within.0 in
    let inside : c.in-Some.end ≤ length c.args.text.now = c.in-Some.ensures.within.1 in
    let one : c.take_line.new.self.count ≤ c.loop-start.sheet.count + 1 = c.in_ok-take_line.ensures.count in
    record {
      within = omega arith;
      lines = omega arith;
      count = omega arith;
      rest = sym ((goes_on lines c.loop-start.lines [] _ _ next).2);
      clean = clean-next c.args.columns.now lines c.loop-start.lines _ _ next c.loop-start.invariant.clean taken.0;
      stands = subst (λ (above : List Line). StandsFor c.args.columns.now above c.take_line.new.self) (sym (take-next lines c.loop-start.lines _ _ next)) taken.1;
    }

pub returns-clause-clean : goal.returns-clause-clean
returns-clause-clean c =
    let end = ended (word_lines c.args.text.now) c.loop-start.lines (sym c.loop-start.invariant.rest ∙ ap (map words_of) c.in_default.ensures.none) in
    λ i below. c.loop-start.invariant.clean i (omega arith)

pub returns-clause-value : goal.returns-clause-value
returns-clause-value c =
    let lines = word_lines c.args.text.now in
    let end = ended lines c.loop-start.lines (sym c.loop-start.invariant.rest ∙ ap (map words_of) c.in_default.ensures.none) in
    subst (λ (above : List Line). StandsFor c.args.columns.now above c.loop-start.sheet) (take_all c.loop-start.lines lines end) c.loop-start.invariant.stands
