use Rattle.std.proofs.Common.{◌+◌, ◌≤◌, Option, ℕ, sym, ◌∙◌, subst, arith}
use Rattle.std.specs.Prelude.{IfSome}
use Rattle.sd_workload.proofs.tables.block_fault.Goals as goal

pub overflow_add-result : goal.overflow_add-result
overflow_add-result c =
    let bound = subst (λ (o : Option ℕ). IfSome o (λ line. (1 ≤ line) × (c.args.number + line ≤ c.args.end + 1))) (sym c.line_of.ensures ∙ c.in-Some.is) c.requires in
    let fits = c.ranges.end in
    omega (arith, bound.0, bound.1, fits)
