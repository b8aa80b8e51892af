use Rattle.std.proofs.Common.{refl}
use Rattle.sd_answers.specs.Answers.{answer_of}
use Rattle.sd_answers.specs.Languages.{workloads}
use Rattle.sd_answers.specs.StreamChanges.{change_of}
use Rattle.sd_program.proofs.TopLemmas.{run_of, refused_of, caused_exit}
use Rattle.sd_answers.proofs.HandingLemmas.{leaves_exit, leaves_refused}
use Rattle.sd_program.proofs.top.run_input.Goals as goal

pub returns-in_err-work-clause-caused : goal.returns-in_err-work-clause-caused
returns-in_err-work-clause-caused g c =
    let left = g.S.Source.remaining in
    let read = g.S.Source.fault_count in
    let i = c.args.input.now in
    let j = c.read_input.new.input in
    let input = change_of (left i) (left j) (read i) (read j) in
    let held = g.K.Sink.contents c.args.out.now in
    let written = g.K.Sink.fault_count c.args.out.now in
    let out = change_of held held written written in
    let answer = c.in_err-work.field-0.0 in
    caused_exit c.args.form input out c.from_residual.result answer c.from_residual.ensures.1 (refused_of c.args.form input out answer c.in_err-work.ensures (record { bytes = refl; no_fault = refl }))

pub returns-clause-caused : goal.returns-clause-caused
returns-clause-caused g c =
    let left = g.S.Source.remaining in
    let read = g.S.Source.fault_count in
    let held = g.K.Sink.contents in
    let written = g.K.Sink.fault_count in
    let i = c.args.input.now in
    let j = c.read_input.new.input in
    let o = c.args.out.now in
    let p = c.run_work.new.out in
    run_of c.args.form (change_of (left i) (left j) (read i) (read j)) (change_of (held o) (held p) (written o) (written p)) c.in_ok-work.work (answer_of c.run_work.result)
    c.in_ok-work.ensures c.run_work.ensures.ran

pub returns-in_err-work-clause-leaves : goal.returns-in_err-work-clause-leaves
returns-in_err-work-clause-leaves g c =
    let left = g.S.Source.remaining in
    let read = g.S.Source.fault_count in
    let i = c.args.input.now in
    let j = c.read_input.new.input in
    let held = g.K.Sink.held_back c.args.out.now in
    let answer = c.in_err-work.field-0.0 in
    leaves_exit c.from_residual.result answer held held c.from_residual.ensures.1 (leaves_refused workloads (change_of (left i) (left j) (read i) (read j)) answer held c.in_err-work.ensures)
