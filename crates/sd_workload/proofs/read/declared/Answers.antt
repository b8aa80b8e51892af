use Rattle.std.proofs.Common.{ap, ◌∙◌, rules}
use Rattle.sd_workload.specs.Texts.{unless_refused, Accepts}
use Rattle.sd_workload.proofs.JudgedLemmas.{judged-end, fault-end, fault-along}
use Rattle.sd_declare.specs.Kept.{declarations}
use Rattle.sd_workload.proofs.read.declared.Goals as goal

pub returns-clause-ok : goal.returns-clause-ok
returns-clause-ok c =
    c.lines.invariant.rest ∙ judged-end _ _ _ _ c.in_default.ensures.none
    ∙ ap (λ o. unless_refused c.lines.at.number o (Accepts (declarations c.lines.d))) c.in_ok-limit.ensures.ok

pub returns-in_err-limit-clause-err : goal.returns-in_err-limit-clause-err
returns-in_err-limit-clause-err c =
    let fault = fault-along _ _ _ c.lines.invariant.rest (fault-end _ _ _ _ _ c.in_default.ensures.none c.in_err-limit.ensures.err) in
    search rules
