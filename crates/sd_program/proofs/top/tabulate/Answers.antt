use Rattle.std.proofs.Common.{Err, ap}
use Rattle.sd_answers.specs.Answers.{unwritten_answer}
use Rattle.sd_answers.specs.Languages.{workloads}
use Rattle.sd_answers.specs.StreamChanges.{change_of}
use Rattle.sd_program.proofs.TopLemmas.{tables_unwritten, tables_exit}
use Rattle.sd_answers.proofs.HandingLemmas.{leaves_exit, leaves_refused, leaves_unwritten}
use Rattle.sd_program.proofs.top.tabulate.Goals as goal

pub returns-in_err-print_tables-clause-caused : goal.returns-in_err-print_tables-clause-caused
returns-in_err-print_tables-clause-caused g c =
    let left = g.S.Source.remaining in
    let read = g.S.Source.fault_count in
    let held = g.K.Sink.contents in
    let written = g.K.Sink.fault_count in
    let i = c.args.input.now in
    let j = c.read_input.new.input in
    let o = c.args.out.now in
    let p = c.print_tables.new.out in
    let input = change_of (left i) (left j) (read i) (read j) in
    let out = change_of (held o) (held p) (written o) (written p) in
    let unwritten = c.in_err-print_tables.field-0.0 in
    tables_exit input out c.from_residual-in_err-print_tables.result (unwritten_answer unwritten) c.from_residual-in_err-print_tables.ensures.1
    (tables_unwritten input out c.in_ok-work.work unwritten c.in_ok-work.ensures c.in_err-print_tables.ensures.puts (λ is. c.in_err-print_tables.ensures.kept (ap Err is)))

pub returns-clause-caused : goal.returns-clause-caused
returns-clause-caused g c =
    let p = c.in_ok-print_tables.ensures.puts in
    (c.in_ok-work.work, c.in_ok-work.ensures, p.ok, p.no_fault (λ e. cc))

pub returns-in_err-print_tables-clause-leaves : goal.returns-in_err-print_tables-clause-leaves
returns-in_err-print_tables-clause-leaves g c =
    let held = g.K.Sink.held_back in
    let unwritten = c.in_err-print_tables.field-0.0 in
    leaves_exit c.from_residual-in_err-print_tables.result (unwritten_answer unwritten) (held c.args.out.now) (held c.print_tables.new.out) c.from_residual-in_err-print_tables.ensures.1
    (leaves_unwritten unwritten (held c.args.out.now) (held c.print_tables.new.out) c.in_err-print_tables.ensures.leaves)

pub returns-in_err-work-clause-leaves : goal.returns-in_err-work-clause-leaves
returns-in_err-work-clause-leaves g c =
    let left = g.S.Source.remaining in
    let read = g.S.Source.fault_count in
    let i = c.args.input.now in
    let j = c.read_input.new.input in
    let held = g.K.Sink.held_back c.args.out.now in
    let answer = c.in_err-work.field-0.0 in
    leaves_exit c.from_residual.result answer held held c.from_residual.ensures.1 (leaves_refused workloads (change_of (left i) (left j) (read i) (read j)) answer held c.in_err-work.ensures)
