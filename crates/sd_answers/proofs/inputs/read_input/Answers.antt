use Rattle.std.proofs.Common.{List, ℕ, Err, sym, subst}
use Rattle.sd_answers.specs.Answers.{work_answer}
use Rattle.sd_answers.specs.StreamChanges.{change_of}
use Rattle.sd_types.specs.Limits.{most_workload_bytes}
use Rattle.sd_answers.specs.Inputs.{HasRead}
use Rattle.sd_answers.specs.Languages.{workloads}
use Rattle.sd_answers.proofs.InputLemmas.{reading_exit, textless_of, unspelled_of}
use Rattle.sd_answers.proofs.inputs.read_input.Goals as goal

pub returns-in_err-bytes : goal.returns-in_err-bytes
returns-in_err-bytes g c =
    let left = g.S.Source.remaining in
    let faults = g.S.Source.fault_count in
    let old = c.args.input.now in
    let new = c.read_text.new.input in
    let input = change_of (left old) (left new) (faults old) (faults new) in
    let answer = c.in_err-bytes.field-0.0 in
    reading_exit workloads input c.from_residual.result answer c.from_residual.ensures.1 (textless_of workloads input answer c.in_err-bytes.ensures)

pub returns-in_err-read_work : goal.returns-in_err-read_work
returns-in_err-read_work g c =
    let left = g.S.Source.remaining in
    let faults = g.S.Source.fault_count in
    let old = c.args.input.now in
    let new = c.read_text.new.input in
    let input = change_of (left old) (left new) (faults old) (faults new) in
    let bytes = c.deref.result.now in
    let read = subst (λ (bs : List ℕ). HasRead most_workload_bytes input bs) (sym c.deref.ensures.value) c.in_ok-bytes.ensures in
    let fault = c.in_err-read_work.field-0.0 in
    reading_exit workloads input c.from_residual-in_err-read_work.result (work_answer fault) c.from_residual-in_err-read_work.ensures.1
    (unspelled_of input bytes (Err fault) read c.in_err-read_work.ensures.err)

pub returns : goal.returns
returns g c =
    let left = g.S.Source.remaining in
    let faults = g.S.Source.fault_count in
    let old = c.args.input.now in
    let new = c.read_text.new.input in
    let input = change_of (left old) (left new) (faults old) (faults new) in
    record {
      bytes = c.deref.result.now;
      read = subst (λ (bs : List ℕ). HasRead most_workload_bytes input bs) (sym c.deref.ensures.value) c.in_ok-bytes.ensures;
      accepted = c.in_ok-read_work.ensures.ok;
    }
