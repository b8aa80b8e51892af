use Rattle.std.proofs.Common.{List, Err, subst, ap}
use Rattle.std.proofs.lemmas.Result.{err_from_is_err_and}
use Rattle.sd_types.specs.declared.scripts.Op.{Op}
use Rattle.sd_script.specs.Faults.{IsFault, IsWellFormed}
use Rattle.sd_script.proofs.FaultLemmas.{no_fault, same_fault}
use Rattle.sd_script.proofs.checks.check.Goals as goal

pub returns-in_err-check_ops-clause-well_formed : goal.returns-in_err-check_ops-clause-well_formed
returns-in_err-check_ops-clause-well_formed c =
    let p = err_from_is_err_and c.from_residual.result c.from_residual.ensures.1 in
    let fault = subst (λ (ops : List Op). IsFault ops c.in_err-check_ops.field-0.0) c.deref.ensures.value c.in_err-check_ops.ensures.fault in
    rw p.1 ((λ h. absurd cc), (λ w. absurd (no_fault c.args.ops.items _ w fault)))

pub returns-in_err-check_ops-clause-refuses : goal.returns-in_err-check_ops-clause-refuses
returns-in_err-check_ops-clause-refuses c =
    let p = err_from_is_err_and c.from_residual.result c.from_residual.ensures.1 in
    let fault = subst (λ (ops : List Op). IsFault ops c.in_err-check_ops.field-0.0) c.deref.ensures.value c.in_err-check_ops.ensures.fault in
    rw (p.1, p.2) (λ other h. ap Err (same_fault c.args.ops.items _ other fault h))

pub returns-clause-refuses : goal.returns-clause-refuses
returns-clause-refuses c =
    λ fault h. absurd (no_fault c.args.ops.items fault (subst IsWellFormed c.deref.ensures.value c.in_ok-check_ops.ensures.ok) h)
