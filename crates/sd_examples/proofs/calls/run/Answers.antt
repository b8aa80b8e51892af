use Rattle.std.proofs.Common.{ℕ, subst, inl, inr}
use Rattle.sd_examples.specs.Calls.{Runs}
use Rattle.sd_examples.specs.Outcomes.{EndsWithoutRun, IsPrintedRun}
use Rattle.sd_examples.proofs.calls.run.Goals as goal
use Rattle.sd_examples.proofs.calls.run.Goals.{else-call-ne0-via-then-call-ne0+else-call-ne6, else-call-ne0-via-else-call-ne0}

pub returns-then-call-ne6 : goal.returns-then-call-ne6
unfolding EndsWithoutRun
returns-then-call-ne6 c = ((c.in_ok-call.call.out.held, c.in_ok-call.ensures), c.if-call-ne0.true, c.if-call-ne6.true)

pub returns : goal.returns
unfolding IsPrintedRun
returns c =
    let call = c.in_ok-call.call in
    let runs = λ (status : ℕ). Runs c.args.workload.now call.out.held status in
    elim c.else-call-ne0.branch [
      | else-call-ne0-via-then-call-ne0+else-call-ne6 w ↦ inr (subst runs w.if-call-ne6.false c.in_ok-call.ensures)
      | else-call-ne0-via-else-call-ne0 w ↦ inl (subst runs w.if-call-ne0.false c.in_ok-call.ensures)
    ]
