use Rattle.std.proofs.Common.{◌≡◌, List, ℕ, ◌++◌, sym, ap, subst, ◌∙◌}
use Rattle.sd_text.specs.Lines.{EndsLine}
use Rattle.sd_state.specs.Opening.{opening}
use Rattle.sd_machine.specs.Runs.{final}
use Rattle.sd_machine.specs.Texts.{summary, summary_of}
use Rattle.sd_answers.specs.StreamChanges.{Puts}
use Rattle.sd_answers.proofs.PutLemmas.{Puts-memory, Puts-exit}
use Rattle.sd_program.proofs.ClosingLemmas.{summary-ends}
use Rattle.sd_program.proofs.writing.put_summary.Goals as goal

pub returns-in_err-accounts : goal.returns-in_err-accounts
returns-in_err-accounts g c = Puts-exit _ _ _ _ _ _ _ c.from_residual.ensures.1 (Puts-memory _ _ _)

pub returns-in_err-write_summary : goal.returns-in_err-write_summary
returns-in_err-write_summary g c = Puts-exit _ _ _ _ _ _ _ c.from_residual-in_err-write_summary.ensures.1 (Puts-memory _ _ _)

pub returns : goal.returns
unfolding summary
returns g c =
    let held = g.K.Sink.contents in
    let faults = g.K.Sink.fault_count in
    let o = c.args.out.now in
    let p = c.put_text.new.out in
    let w = c.args.work.now in
    let es = c.args.entries.now.items in
    let text : c.deref.result.now ≡ summary_of es (final w (opening w) es) =
    c.deref.ensures.value ∙ c.in_ok-write_summary.ensures.ok w es c.in_ok-accounts.ensures
    ∙ ap (λ (xs : List ℕ). xs ++ summary_of es c.args.s.now) c.new-text.ensures.items ∙ ap (summary_of es) c.requires.state in
    subst (λ (xs : List ℕ). Puts (held o) (held p) (faults o) (faults p) xs c.put_text.result) text c.put_text.ensures.puts

pub put_text-requires : goal.put_text-requires
put_text-requires g c =
    let es = c.args.entries.now.items in
    let s = c.args.s.now in
    let text =
    c.deref.ensures.value ∙ c.in_ok-write_summary.ensures.ok c.args.work.now es c.in_ok-accounts.ensures
    ∙ ap (λ (xs : List ℕ). xs ++ summary_of es s) c.new-text.ensures.items in
    subst EndsLine (sym text) (summary-ends es s)
