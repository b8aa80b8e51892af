use Rattle.std.proofs.Common.{◌≡◌, [], ◌∷◌, None, sym, ◌∙◌}
use Rattle.sd_machine.specs.Plans.{duty_plan}
use Rattle.sd_step.specs.Needed.{plan_parts}
use Rattle.sd_store.specs.Parts.{actor_part, cpu_part}
use Rattle.sd_step.proofs.Duties.{after_duty, lacks_after}
use Rattle.sd_step.proofs.plans.first_plan.Goals as goal

pub returns-in-None-clause-lack : goal.returns-in-None-clause-lack
returns-in-None-clause-lack g c =
    let w = c.args.work.now in
    let d = c.args.c in
    lacks_after g.L.Look.part (g.L.Look.shows c.args.x.now) (g.L.Look.has c.args.x.now) c.later_plan.result (λ s. actor_part d ∷ (cpu_part d ∷ [])) (λ s. plan_parts w s d) (λ s. duty_plan w s d.0 ≡ None)
    (λ s none. after_duty w s d none) c.later_plan.ensures.lack (λ n s h. sym (c.in_ok-plan.ensures.value n s h) ∙ c.in-None.is)
