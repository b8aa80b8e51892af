use Rattle.std.proofs.lemmas.List.Elements.{Contains-get_or}
use Rattle.sd_rounds.proofs.survey.take_survey.Goals as goal

pub number_of-number-requires-clause-cpu : goal.number_of-number-requires-clause-cpu
number_of-number-requires-clause-cpu c = c.requires.there _ (Contains-get_or c.args.cpus.now c.loop-d.d-index (record { 0 = 0 }) c.loop-d-test.true)
