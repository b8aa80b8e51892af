use Rattle.std.proofs.Common.{◌≡◌, List, ℕ, Err, length, sym, ap, subst, ◌∙◌, arith}
use Rattle.std.specs.Io.KnownBytes.{Consumes}
use Rattle.sd_answers.specs.Answers.{read_answer}
use Rattle.sd_answers.specs.StreamChanges.{change_of}
use Rattle.sd_types.specs.Limits.{most_workload_bytes}
use Rattle.sd_answers.specs.Inputs.{HasRead}
use Rattle.sd_answers.proofs.InputLemmas.{unread_of}
use Rattle.sd_task_program.specs.Promises.{IsUnread}
use Rattle.sd_task_program.proofs.SetLemmas.{unread_set, refused_set, expanded_exit}
use Rattle.sd_task_program.proofs.expanding.read_expansion.Goals as goal

pub returns-in_err-bytes : goal.returns-in_err-bytes
returns-in_err-bytes g c =
    let left = g.S.Source.remaining in
    let faults = g.S.Source.fault_count in
    let old = c.args.input.now in
    let new = c.read_all.new.source in
    let input = change_of (left old) (left new) (faults old) (faults new) in
    let why = c.in_err-bytes.field-0.0 in
    expanded_exit input c.from_residual.result (read_answer why) c.from_residual.ensures.1
    (unread_set input why (unread_of input (Err why) c.in_err-bytes.ensures.taken c.in_err-bytes.ensures.read_fault c.in_err-bytes.ensures.no_fault c.in_err-bytes.ensures.memory))

pub returns : goal.returns
returns g c =
    let left = g.S.Source.remaining in
    let faults = g.S.Source.fault_count in
    let old = c.args.input.now in
    let new = c.read_all.new.source in
    let input = change_of (left old) (left new) (faults old) (faults new) in
    let e = c.in_ok-bytes.ensures in
    let bytes = c.deref.result.now in
    let same : bytes ≡ e.taken.bytes = c.deref.ensures.value ∙ e.taken.all in
    let was : HasRead most_workload_bytes input bytes = record {
      took = subst (λ (bs : List ℕ). Consumes (left old) (left new) bs) (sym same) e.taken.consumed;
      to_end = e.end;
      bound = omega (arith, ap length c.deref.ensures.value, e.bound);
      no_fault = e.no_fault (λ is. cc);
    } in
    subst (IsUnread input) (sym c.fault_answer.ensures) (refused_set input bytes c.in-Err.fault was c.in-Err.ensures.err)

pub returns-in-Ok : goal.returns-in-Ok
returns-in-Ok g c =
    let left = g.S.Source.remaining in
    let old = c.args.input.now in
    let new = c.read_all.new.source in
    let e = c.in_ok-bytes.ensures in
    let bytes = c.deref.result.now in
    let same : bytes ≡ e.taken.bytes = c.deref.ensures.value ∙ e.taken.all in
    record {
      bytes = bytes;
      read = record {
        took = subst (λ (bs : List ℕ). Consumes (left old) (left new) bs) (sym same) e.taken.consumed;
        to_end = e.end;
        bound = omega (arith, ap length c.deref.ensures.value, e.bound);
        no_fault = e.no_fault (λ is. cc);
      };
      expands = c.in-Ok.ensures.ok.expands;
    }
