use Rattle.std.proofs.Common.{sym, ◌∙◌}
use Rattle.sd_cpu.proofs.MeaningLemmas as M
use Rattle.sd_cpu.proofs.SeekLemmas.{none_held}
use Rattle.sd_cpu.proofs.attempts.attempt.Goals as goal

pub act-acted-requires-clause-holds : goal.act-acted-requires-clause-holds
act-acted-requires-clause-holds g c = none_held (g.W.World.meaning c.args.world.now) c.requires.empty

pub returns-in-Ok-clause-empty : goal.returns-in-Ok-clause-empty
returns-in-Ok-clause-empty g c = λ few. c.give_all.ensures.gives.empty (sym c.give_all.ensures.gives.stays.all ∙ few)

pub returns-in-Err-clause-empty : goal.returns-in-Err-clause-empty
returns-in-Err-clause-empty g c = λ few. c.give_all.ensures.gives.empty (sym c.give_all.ensures.gives.stays.all ∙ few)

pub returns-in-Ok-clause-answers : goal.returns-in-Ok-clause-answers
returns-in-Ok-clause-answers g c =
    let gives = c.give_all.ensures.gives in
    M.answers_then (g.W.World.meaning c.args.world.now) (g.W.World.meaning c.act-acted.new.world) (g.W.World.meaning c.give_all.new.self) c.in-Ok.done c.act-acted.new.passed c.attempted_of.result c.attempted_of.ensures c.in-Ok.ensures.acts gives.stays gives.quiet

pub returns-in-Err-clause-answers : goal.returns-in-Err-clause-answers
returns-in-Err-clause-answers g c =
    let gives = c.give_all.ensures.gives in
    M.refuses_then (g.W.World.meaning c.args.world.now) (g.W.World.meaning c.act-acted.new.world) (g.W.World.meaning c.give_all.new.self) c.in-Err.stop c.in-Err.ensures.acts gives.stays

pub returns-in-Ok-clause-passed : goal.returns-in-Ok-clause-passed
returns-in-Ok-clause-passed g c = M.stays_passed c.args.passed c.act-acted.new.passed c.in-Ok.done c.attempted_of.result c.attempted_of.ensures c.act-acted.ensures.passed
