use Rattle.std.proofs.Common.{List, Err, refl, ap, subst}
use Rattle.std.specs.Io.KnownBytes.{Appends}
use Rattle.sd_tasks.specs.Written.{Written}
use Rattle.sd_tasks.specs.WrittenKept.{lines_kept}
use Rattle.sd_answers.specs.Answers.{unwritten_answer}
use Rattle.sd_answers.specs.StreamChanges.{change_of, Puts}
use Rattle.sd_answers.proofs.HandingLemmas.{leaves_exit, leaves_unwritten}
use Rattle.sd_task_program.specs.Printed.{printed}
use Rattle.sd_task_program.proofs.SetLemmas.{caused_unread, caused_unwritten, leaves_unread, set_exit}
use Rattle.sd_task_program.proofs.expanding.expand_input.Goals as goal

pub returns-in_err-expansion-clause-caused : goal.returns-in_err-expansion-clause-caused
returns-in_err-expansion-clause-caused g c =
    let left = g.S.Source.remaining in
    let faults = g.S.Source.fault_count in
    let held = g.K.Sink.contents c.args.out.now in
    let written = g.K.Sink.fault_count c.args.out.now in
    let i = c.args.input.now in
    let j = c.read_expansion.new.input in
    let input = change_of (left i) (left j) (faults i) (faults j) in
    let out = change_of held held written written in
    let answer = c.in_err-expansion.field-0.0 in
    set_exit c.args.is_mapped input out c.from_residual.result answer c.from_residual.ensures.1
    (caused_unread c.args.is_mapped input out answer c.in_err-expansion.ensures (record { bytes = refl; no_fault = refl }))

pub returns-in_err-expansion-clause-leaves : goal.returns-in_err-expansion-clause-leaves
returns-in_err-expansion-clause-leaves g c =
    let left = g.S.Source.remaining in
    let faults = g.S.Source.fault_count in
    let i = c.args.input.now in
    let j = c.read_expansion.new.input in
    let held = g.K.Sink.held_back c.args.out.now in
    let answer = c.in_err-expansion.field-0.0 in
    leaves_exit c.from_residual.result answer held held c.from_residual.ensures.1
    (leaves_unread (change_of (left i) (left j) (faults i) (faults j)) answer held c.in_err-expansion.ensures)

pub returns-in_err-print_lines-clause-caused : goal.returns-in_err-print_lines-clause-caused
returns-in_err-print_lines-clause-caused g c =
    let left = g.S.Source.remaining in
    let faults = g.S.Source.fault_count in
    let held = g.K.Sink.contents in
    let written = g.K.Sink.fault_count in
    let i = c.args.input.now in
    let j = c.read_expansion.new.input in
    let o = c.args.out.now in
    let p = c.print_lines.new.out in
    let input = change_of (left i) (left j) (faults i) (faults j) in
    let out = change_of (held o) (held p) (written o) (written p) in
    let unwritten = c.in_err-print_lines.field-0.0 in
    let lines = lines_kept c.in_ok-expansion.expansion.lines.items in
    let puts = subst (λ (ls : List Written). Puts (held o) (held p) (written o) (written p) (printed c.args.is_mapped ls) (Err unwritten))
    (ap lines_kept c.deref.ensures.value) c.in_err-print_lines.ensures.puts in
    set_exit c.args.is_mapped input out c.from_residual-in_err-print_lines.result (unwritten_answer unwritten) c.from_residual-in_err-print_lines.ensures.1
    (caused_unwritten c.args.is_mapped input out lines unwritten c.in_ok-expansion.ensures puts (λ is. c.in_err-print_lines.ensures.kept (ap Err is)))

pub returns-in_err-print_lines-clause-leaves : goal.returns-in_err-print_lines-clause-leaves
returns-in_err-print_lines-clause-leaves g c =
    let held = g.K.Sink.held_back in
    let unwritten = c.in_err-print_lines.field-0.0 in
    leaves_exit c.from_residual-in_err-print_lines.result (unwritten_answer unwritten) (held c.args.out.now) (held c.print_lines.new.out) c.from_residual-in_err-print_lines.ensures.1
    (leaves_unwritten unwritten (held c.args.out.now) (held c.print_lines.new.out) c.in_err-print_lines.ensures.leaves)

pub returns-clause-caused : goal.returns-clause-caused
returns-clause-caused g c =
    let p = c.in_ok-print_lines.ensures.puts in
    let held = g.K.Sink.contents in
    record {
      lines = lines_kept c.in_ok-expansion.expansion.lines.items;
      set = c.in_ok-expansion.ensures;
      written = subst (λ (ls : List Written). Appends (held c.args.out.now) (held c.print_lines.new.out) (printed c.args.is_mapped ls)) (ap lines_kept c.deref.ensures.value) p.ok;
      no_fault = p.no_fault (λ e. cc);
    }
