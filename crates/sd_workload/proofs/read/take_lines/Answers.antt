use Rattle.std.proofs.Common.{◌≡◌, [], ◌∷◌, refl, sym, ap, ◌∙◌, rules}
use Rattle.sd_text.specs.Words.{words_of}
use Rattle.sd_declare.specs.Kept.{declarations}
use Rattle.sd_workload.specs.LineStarts.{lines_from, judged_from}
use Rattle.sd_workload.specs.Texts.{Outside, InTable, InScript, block_of, judged}
use Rattle.sd_workload.proofs.JudgedLemmas.{judged-on, fault-at, fault-along}
use Rattle.sd_workload.proofs.read.take_lines.Goals.{In-Table, In-Script}
use Rattle.sd_workload.proofs.read.take_lines.Goals as goal

pub returns-in_err-take_line-clause-err : goal.returns-in_err-take_line-clause-err
returns-in_err-take_line-clause-err c =
    let fault = fault-at c.args.number (declarations c.args.d.now) Outside (words_of c.args.line.now ∷ lines_from c.args.bytes.now c.args.below) (lines_from c.args.bytes.now c.args.below) (words_of c.args.line.now) _ refl c.in_err-take_line.ensures.err in
    search rules

pub returns-in-Nothing-clause-ok : goal.returns-in-Nothing-clause-ok
returns-in-Nothing-clause-ok c =
    judged-on c.args.number c.args.below.number (declarations c.args.d.now) (declarations c.take_line.new.d) Outside Outside _ (lines_from c.args.bytes.now c.args.below) (words_of c.args.line.now)
    refl c.in_ok-take_line.ensures.ok c.requires.below c.in_ok-take_line.ensures.new (sym (ap block_of c.in-Nothing.is) ∙ c.in_ok-take_line.ensures.opened)

table : (c : In-Table) → judged c.args.number (declarations c.args.d.now) Outside (words_of c.args.line.now ∷ lines_from c.args.bytes.now c.args.below)
    ≡ judged_from c.args.bytes.now c.args.below (declarations c.take_line.new.d) (InTable c.in-Table.class [])
table c =
    judged-on c.args.number c.args.below.number (declarations c.args.d.now) (declarations c.take_line.new.d) Outside (InTable c.in-Table.class []) _ (lines_from c.args.bytes.now c.args.below) (words_of c.args.line.now)
    refl c.in_ok-take_line.ensures.ok c.requires.below c.in_ok-take_line.ensures.new (sym (ap block_of c.in-Table.is) ∙ c.in_ok-take_line.ensures.opened)

script : (c : In-Script) → judged c.args.number (declarations c.args.d.now) Outside (words_of c.args.line.now ∷ lines_from c.args.bytes.now c.args.below)
    ≡ judged_from c.args.bytes.now c.args.below (declarations c.take_line.new.d) (InScript c.in-Script.thread [])
script c =
    judged-on c.args.number c.args.below.number (declarations c.args.d.now) (declarations c.take_line.new.d) Outside (InScript c.in-Script.thread []) _ (lines_from c.args.bytes.now c.args.below) (words_of c.args.line.now)
    refl c.in_ok-take_line.ensures.ok c.requires.below c.in_ok-take_line.ensures.new (sym (ap block_of c.in-Script.is) ∙ c.in_ok-take_line.ensures.opened)

pub returns-in_ok-to-in-Table-clause-ok : goal.returns-in_ok-to-in-Table-clause-ok
returns-in_ok-to-in-Table-clause-ok c = table ((goal.at.returns-in_ok-to-in-Table-clause-ok c).In-Table) ∙ c.in_ok-to-in-Table.ensures.ok

pub returns-in_ok-to-in-Script-clause-ok : goal.returns-in_ok-to-in-Script-clause-ok
returns-in_ok-to-in-Script-clause-ok c = script ((goal.at.returns-in_ok-to-in-Script-clause-ok c).In-Script) ∙ c.in_ok-to-in-Script.ensures.ok

pub returns-in_err-to-in-Table-clause-err : goal.returns-in_err-to-in-Table-clause-err
returns-in_err-to-in-Table-clause-err c =
    let fault = fault-along _ _ _ (table ((goal.at.returns-in_err-to-in-Table-clause-err c).In-Table)) c.in_err-to-in-Table.ensures.err in
    search rules

pub returns-in_err-to-in-Script-clause-err : goal.returns-in_err-to-in-Script-clause-err
returns-in_err-to-in-Script-clause-err c =
    let fault = fault-along _ _ _ (script ((goal.at.returns-in_err-to-in-Script-clause-err c).In-Script)) c.in_err-to-in-Script.ensures.err in
    search rules
