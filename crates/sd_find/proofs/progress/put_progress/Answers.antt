use Rattle.std.proofs.Common.{List, ℕ, sym, subst, ◌∙◌}
use Rattle.sd_text.specs.Lines.{EndsLine}
use Rattle.sd_answers.specs.StreamChanges.{Puts}
use Rattle.sd_answers.proofs.PutLemmas.{Puts-memory, Puts-exit}
use Rattle.sd_find.proofs.TextLemmas.{progress-ends}
use Rattle.sd_find.proofs.progress.put_progress.Goals as goal

pub put_text-requires : goal.put_text-requires
put_text-requires g c = subst EndsLine (sym (c.deref.ensures.value ∙ c.in_ok-line.ensures)) (progress-ends c.args.states c.args.depth)

pub returns-in_err-line-clause-puts : goal.returns-in_err-line-clause-puts
returns-in_err-line-clause-puts g c = Puts-exit _ _ _ _ _ _ _ c.from_residual.ensures.1 (Puts-memory _ _ _)

pub returns-clause-puts : goal.returns-clause-puts
returns-clause-puts g c =
    let held = g.P.Sink.contents in
    let faults = g.P.Sink.fault_count in
    let o = c.args.sink.now in
    let p = c.put_text.new.out in
    subst (λ (xs : List ℕ). Puts (held o) (held p) (faults o) (faults p) xs c.put_text.result) (c.deref.ensures.value ∙ c.in_ok-line.ensures) c.put_text.ensures.puts
