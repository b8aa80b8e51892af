use Rattle.std.proofs.Common.{◌++◌, ◌∷◌, [], ap, ◌∙◌, arith}
use Rattle.sd_world.specs.Plain.{told}
use Rattle.sd_homes_replay.proofs.StepLemmas.{none_outside, on_step, told_after}
use Rattle.sd_homes_replay.proofs.stepping.step.Goals as goal

pub returns-then-entry-work-clause-step : goal.returns-then-entry-work-clause-step
returns-then-entry-work-clause-step c =
    let w = c.args.work.now in
    let e = c.args.entry.now in
    let none = none_outside w (told w c.args.world.now) e.cpu e.hints (omega arith) in
    (λ bad. cc, λ is. cc)

pub returns-clause-made : goal.returns-clause-made
returns-clause-made c =
    let w = c.args.work.now in
    let x = c.args.world.now in
    let e = c.args.entry.now in
    on_step c.step_as.result _ _ (λ es. told_after w x c.step_as.new.world e (es ∙ ap (λ l. l ++ e ∷ []) c.act_as.ensures.entries)) c.step_as.ensures.made
