use Rattle.std.proofs.Common.{codes, subst, rules}
use Rattle.sd_examples.specs.Outcomes.{IsDrawing}
use Rattle.sd_examples.proofs.verdicts.judge_trace.Goals as goal

pub returns-in-Some-stored : goal.returns-in-Some-stored
returns-in-Some-stored c =
    let drawn = subst (IsDrawing (codes "trace") c.args.certificate.now) c.in-Wrote.is c.in_ok-trace.ensures in
    (c.in-Wrote.trace.held, c.in-Some-stored.stored.now, drawn, search rules, search rules)
