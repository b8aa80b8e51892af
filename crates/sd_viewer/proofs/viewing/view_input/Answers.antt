use Rattle.std.proofs.Common.{refl, sym, ap, subst, List, ℕ, Ok, Err}
use Rattle.sd_text.specs.Lines.{EndsLine}
use Rattle.sd_viewer.proofs.ClosingLemmas.{drawn-ends}
use Rattle.sd_answers.specs.StreamChanges.{change_of, Puts}
use Rattle.sd_answers.specs.Answers.{unwritten_answer}
use Rattle.sd_viewer.proofs.ViewLemmas.{leaves_exit, leaves_undrawn, undrawn, unwritten_view, view_exit}
use Rattle.sd_answers.proofs.HandingLemmas.{leaves_unwritten}
use Rattle.sd_viewer.proofs.viewing.view_input.Goals as goal

pub returns-in_err-drawn-clause-caused : goal.returns-in_err-drawn-clause-caused
returns-in_err-drawn-clause-caused g c =
    let left = g.S.Source.remaining in
    let read = g.S.Source.fault_count in
    let i = c.args.input.now in
    let j = c.draw_input.new.input in
    let input = change_of (left i) (left j) (read i) (read j) in
    let held = g.K.Sink.contents c.args.out.now in
    let written = g.K.Sink.fault_count c.args.out.now in
    let out = change_of held held written written in
    let answer = c.in_err-drawn.field-0.0 in
    view_exit c.args.drawing.now input out c.from_residual.result answer c.from_residual.ensures.1
    (undrawn c.args.drawing.now input out answer c.in_err-drawn.ensures (record { bytes = refl; no_fault = refl }))

pub returns-in_err-print_text-clause-caused : goal.returns-in_err-print_text-clause-caused
returns-in_err-print_text-clause-caused g c =
    let left = g.S.Source.remaining in
    let read = g.S.Source.fault_count in
    let held = g.K.Sink.contents in
    let written = g.K.Sink.fault_count in
    let i = c.args.input.now in
    let j = c.draw_input.new.input in
    let o = c.args.out.now in
    let p = c.print_text.new.out in
    let input = change_of (left i) (left j) (read i) (read j) in
    let out = change_of (held o) (held p) (written o) (written p) in
    let text = c.in_ok-drawn.drawn.text.items in
    let e = c.in_err-print_text.field-0.0 in
    view_exit c.args.drawing.now input out c.from_residual-in_err-print_text.result (unwritten_answer e) c.from_residual-in_err-print_text.ensures.1
    (unwritten_view c.args.drawing.now input out text e c.in_ok-drawn.ensures.0
    (subst (λ (t : List ℕ). Puts (held o) (held p) (written o) (written p) t (Err e)) c.deref.ensures.value c.in_err-print_text.ensures.puts) (λ is. c.in_err-print_text.ensures.no_memory (ap Err is)))

pub returns-clause-caused : goal.returns-clause-caused
returns-clause-caused g c =
    let held = g.K.Sink.contents in
    let written = g.K.Sink.fault_count in
    let o = c.args.out.now in
    let p = c.print_text.new.out in
    let puts = subst (λ (t : List ℕ). Puts (held o) (held p) (written o) (written p) t (Ok tt)) c.deref.ensures.value c.in_ok-print_text.ensures.puts in
    let drawn = c.in_ok-drawn.drawn in
    (drawn.text.items, c.in_ok-drawn.ensures.0, puts.ok, puts.no_fault (λ is. cc), c.in_ok-drawn.ensures.1)

pub print_text-requires : goal.print_text-requires
print_text-requires g c =
    let of = c.in_ok-drawn.ensures.0 in
    subst EndsLine (sym c.deref.ensures.value) (drawn-ends c.args.drawing.now of.tasks of.work of.journal c.in_ok-drawn.drawn.text.items of.drawn)

pub returns-in_err-drawn-clause-leaves : goal.returns-in_err-drawn-clause-leaves
returns-in_err-drawn-clause-leaves g c =
    let left = g.S.Source.remaining in
    let read = g.S.Source.fault_count in
    let i = c.args.input.now in
    let j = c.draw_input.new.input in
    let held = g.K.Sink.held_back c.args.out.now in
    let answer = c.in_err-drawn.field-0.0 in
    leaves_exit c.from_residual.result answer held held c.from_residual.ensures.1 (leaves_undrawn c.args.drawing.now (change_of (left i) (left j) (read i) (read j)) answer held c.in_err-drawn.ensures)

pub returns-in_err-print_text-clause-leaves : goal.returns-in_err-print_text-clause-leaves
returns-in_err-print_text-clause-leaves g c =
    let held = g.K.Sink.held_back in
    let o = c.args.out.now in
    let p = c.print_text.new.out in
    let e = c.in_err-print_text.field-0.0 in
    leaves_exit c.from_residual-in_err-print_text.result (unwritten_answer e) (held o) (held p) c.from_residual-in_err-print_text.ensures.1
    (leaves_unwritten e (held o) (held p) c.in_err-print_text.ensures.leaves)
