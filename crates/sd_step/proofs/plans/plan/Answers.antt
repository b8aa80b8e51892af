use Rattle.std.proofs.Common.{◌≡◌, ◌∷◌, None, sym, ◌∙◌}
use Rattle.sd_machine.specs.Plans.{ageing_plan, duty_plan, first_of, nap_plan}
use Rattle.sd_step.specs.Needed.{cpu_parts, plan_parts}
use Rattle.sd_store.specs.Parts.{actor_part}
use Rattle.sd_step.proofs.Duties.{after_first, lacks_after}
use Rattle.sd_step.proofs.plans.plan.Goals as goal

pub returns-in-None-clause-lack : goal.returns-in-None-clause-lack
returns-in-None-clause-lack g c =
    let w = c.args.work.now in
    let d = c.args.c in
    lacks_after g.L.Look.part (g.L.Look.shows c.args.x.now) (g.L.Look.has c.args.x.now) c.cpu_plan.result (λ s. actor_part d ∷ cpu_parts w s d) (λ s. plan_parts w s d)
    (λ s. first_of (duty_plan w s d.0) (first_of (nap_plan w s d.0) (ageing_plan w s d.0)) ≡ None)
    (λ s none. after_first w s d none) c.cpu_plan.ensures.lack (λ n s h. sym (c.in_ok-first_plan.ensures.value n s h) ∙ c.in-None.is)
