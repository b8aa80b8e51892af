use Rattle.std.proofs.Common.{List, ℕ, Err, sym, subst}
use Rattle.std.specs.Io.KnownBytes.{Consumes}
use Rattle.sd_answers.specs.Answers.{read_answer}
use Rattle.sd_answers.specs.StreamChanges.{change_of}
use Rattle.sd_answers.proofs.InputLemmas.{text_exit, unread_of}
use Rattle.sd_answers.proofs.inputs.read_text.Goals as goal

pub returns-in_err-read_all : goal.returns-in_err-read_all
returns-in_err-read_all g c =
    let left = g.S.Source.remaining in
    let faults = g.S.Source.fault_count in
    let old = c.args.input.now in
    let new = c.read_all.new.source in
    let input = change_of (left old) (left new) (faults old) (faults new) in
    let fault = c.in_err-read_all.field-0.0 in
    text_exit input c.from_residual.result (read_answer fault) c.from_residual.ensures.1
    (unread_of input (Err fault) c.in_err-read_all.ensures.taken c.in_err-read_all.ensures.read_fault c.in_err-read_all.ensures.no_fault c.in_err-read_all.ensures.memory)

pub returns : goal.returns
returns g c =
    let left = g.S.Source.remaining in
    let old = c.args.input.now in
    let new = c.read_all.new.source in
    let e = c.in_ok-read_all.ensures in
    record {
      took = subst (λ (bs : List ℕ). Consumes (left old) (left new) bs) (sym e.taken.all) e.taken.consumed;
      to_end = e.end;
      bound = e.bound;
      no_fault = e.no_fault (λ is. cc);
    }
