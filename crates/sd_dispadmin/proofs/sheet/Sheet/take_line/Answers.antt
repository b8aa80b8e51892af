use Rattle.sd_text.specs.Words.{words_of}
use Rattle.sd_dispadmin.proofs.SheetLemmas.{res_taken}
use Rattle.sd_dispadmin.proofs.sheet.Sheet.take_line.Goals as goal

pub returns-in_ok-take_res-in-Resolution-clause-taken : goal.returns-in_ok-take_res-in-Resolution-clause-taken
returns-in_ok-take_res-in-Resolution-clause-taken c =
    let kind = c.in-Resolution.ensures in
    let done = c.in_ok-take_res-in-Resolution.ensures in
    res_taken c.args.columns.now (words_of c.args.line.now) c.args.number c.args.self.now c.take_res.new.self c.in-Resolution.res kind.0 kind.1 kind.2 done.ok done.new_res done.new_count done.new_rows
