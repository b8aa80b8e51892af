use Rattle.std.proofs.Common.{◌==◌, List, length, filter, not, sym, subst}
use Rattle.sd_types.specs.declared.numbers.CpuId.{CpuId}
use Rattle.sd_state.specs.States.{cpu_of}
use Rattle.sd_machine.specs.Choosing.{neighbours}
use Rattle.sd_world.specs.Plain.{AreCpus, told}
use Rattle.sd_world.proofs.PlainLemmas as P
use Rattle.sd_rounds.specs.Surveys.{IsSurvey}
use Rattle.sd_rounds.proofs.SurveyLemmas.{open_there}
use Rattle.sd_rounds.proofs.turns.act_by_search.Goals as goal

pub take_survey-found-requires-clause-there : goal.take_survey-found-requires-clause-there
take_survey-found-requires-clause-there c =
    let w = c.args.work.now in
    let x = c.args.world.now in
    let s = told w x in
    let n = length x.entries.items in
    subst (AreCpus w) (sym (c.in-Some.ensures.value n s (P.shown w x c.requires.stands))) (open_there w n s (cpu_of s x.acting.actor.cpu.0).set.0 (P.reached w x c.requires.stands))

pub act_by_survey-requires-clause-survey : goal.act_by_survey-requires-clause-survey
unfolding neighbours
act_by_survey-requires-clause-survey c =
    let w = c.args.work.now in
    let x = c.args.world.now in
    let s = told w x in
    subst (λ (cpus : List CpuId). IsSurvey s (filter (λ d. not (d.0 == x.acting.actor.cpu.0)) cpus) c.take_survey-found.result)
    (c.in-Some.ensures.value (length x.entries.items) s (P.shown w x c.requires.stands)) c.take_survey-found.ensures
