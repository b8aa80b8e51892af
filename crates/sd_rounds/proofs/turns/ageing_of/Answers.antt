use Rattle.std.proofs.Common.{◌≡◌, Option, Some, IfSome, length, refl, sym, subst}
use Rattle.sd_machine.specs.declared.plans.Plan.{Plan}
use Rattle.sd_machine.specs.Prioritising.{age_plan}
use Rattle.sd_world.specs.Plain.{told}
use Rattle.sd_world.proofs.PlainLemmas as P
use Rattle.sd_rounds.proofs.turns.ageing_of.Goals as goal

pub returns-in-Ok : goal.returns-in-Ok
returns-in-Ok c =
    let w = c.args.work.now in
    let x = c.args.world.now in
    let s = told w x in
    subst (λ (o : Option Plan). IfSome o (λ p. Some p ≡ age_plan w s (Some c.args.t.0))) (sym (c.in-Ok.ensures.value (length x.entries.items) s (P.shown w x c.requires))) refl
