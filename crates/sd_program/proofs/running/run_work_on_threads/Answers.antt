use Rattle.std.proofs.Common.{Err, refl}
use Rattle.sd_answers.specs.Answers.{stop_answer}
use Rattle.sd_answers.specs.StreamChanges.{change_of}
use Rattle.sd_program.specs.declared.forms.Form.TheVariants.{Journal}
use Rattle.sd_program.specs.declared.forms.Mode.TheVariants.{Threads}
use Rattle.sd_program.proofs.TopLemmas.{stopped_of, ran_exit}
use Rattle.sd_answers.proofs.HandingLemmas.{leaves_exit, leaves_stopped}
use Rattle.sd_program.proofs.running.run_work_on_threads.Goals as goal

pub returns-in_err-run-clause-ran : goal.returns-in_err-run-clause-ran
returns-in_err-run-clause-ran g c =
    let w = c.args.work.now in
    let held = g.K.Sink.contents c.args.out.now in
    let faults = g.K.Sink.fault_count c.args.out.now in
    let out = change_of held held faults faults in
    let stop = c.in_err-run.field-0.0 in
    ran_exit w (Journal Threads) out c.from_residual.result (stop_answer stop) c.from_residual.ensures.1
    (stopped_of w (Journal Threads) out (Err stop) c.in_err-run.ensures.full (record { bytes = refl; no_fault = refl }))

pub put_finished-requires-clause-run : goal.put_finished-requires-clause-run
put_finished-requires-clause-run g c = c.in_ok-run.ensures.run

pub returns-clause-ran : goal.returns-clause-ran
returns-clause-ran g c = c.put_finished.ensures.ran

pub returns-in_err-run-clause-leaves : goal.returns-in_err-run-clause-leaves
returns-in_err-run-clause-leaves g c =
    let held = g.K.Sink.held_back c.args.out.now in
    let reason = c.in_err-run.field-0.0 in
    leaves_exit c.from_residual.result (stop_answer reason) held held c.from_residual.ensures.1 (leaves_stopped reason held)
