use Rattle.std.proofs.Common.{List, [], ℕ, sym, ap, ◌∙◌, subst, rules}
use Rattle.sd_dispadmin.specs.TableText.{IsTableText, IsTableFault}
use Rattle.sd_declare.specs.Declarations.{Declarations}
use Rattle.sd_declare.specs.Kept.{declarations}
use Rattle.sd_workload.specs.LineStarts.{IsFault, judged_from, lines_from}
use Rattle.sd_workload.specs.Texts.{Outside, InTable, format_of}
use Rattle.sd_workload.proofs.JudgedLemmas.{none-above}
use Rattle.sd_workload.proofs.BlockLemmas.{fault-bound, block-open, block-done, block-refused}
use Rattle.sd_workload.proofs.tables.take_table.Goals.{In-Some, In_default}
use Rattle.sd_workload.proofs.tables.take_table.Goals as goal

faulty : (c : In-Some) → IsTableFault (format_of c.args.class) c.in_ok-block.block.text.items c.in-Some.fault
faulty c =
    subst (λ (text : List ℕ). IsTableFault (format_of c.args.class) text c.in-Some.fault) c.deref.ensures.value c.in-Some.ensures.some

given : (c : In_default) → IsTableText (format_of c.args.class) c.in_ok-block.block.text.items
given c =
    subst (IsTableText (format_of c.args.class)) c.deref.ensures.value c.in_default.ensures.none

pub returns-in_err-block-clause-err : goal.returns-in_err-block-clause-err
returns-in_err-block-clause-err c =
    let table = declarations c.args.d.now in
    let none = none-above c.args.at.number table (InTable c.args.class []) (lines_from c.args.bytes.now c.args.at) in
    let fault = subst (IsFault (judged_from c.args.bytes.now c.args.at table (InTable c.args.class []))) (sym c.in_err-block.ensures.err) none in
    search rules

pub block_fault-requires : goal.block_fault-requires
block_fault-requires c =
    fault-bound c.args.class c.in_ok-block.block.text.items c.in-Some.fault c.args.at.number c.in_ok-block.block.end (faulty ((goal.at.block_fault-requires c).In-Some)) c.in_ok-block.ensures.block.end

pub returns-in-Some-clause-err : goal.returns-in-Some-clause-err
returns-in-Some-clause-err c =
    block-refused c.args.bytes.now c.args.at c.in_ok-block.block (declarations c.args.d.now) c.args.class c.in-Some.fault c.in_ok-block.ensures.block
    (faulty ((goal.at.returns-in-Some-clause-err c).In-Some)) c.is_some-is_closed.result c.is_some-is_closed.ensures
    c.block_fault.result c.block_fault.ensures.line c.block_fault.ensures.rows c.block_fault.ensures.unclosed

pub returns-in_default-below-clause-err : goal.returns-in_default-below-clause-err
returns-in_default-below-clause-err c =
    block-open c.args.bytes.now c.args.at c.in_ok-block.block (declarations c.args.d.now) c.args.class c.in_ok-block.ensures.block
    (given ((goal.at.returns-in_default-below-clause-err c).In_default)).clean c.in_default-below.is

pub returns-clause-ok : goal.returns-clause-ok
returns-clause-ok c =
    block-done c.args.bytes.now c.args.at c.in-Some-below.below c.in_ok-block.block (declarations c.args.d.now) c.args.class c.in_ok-block.ensures.block
    (given ((goal.at.returns-clause-ok c).In_default)) c.in-Some-below.is
    ∙ ap (λ (d : Declarations). judged_from c.args.bytes.now c.in-Some-below.below d Outside) (sym c.set_table.ensures)
