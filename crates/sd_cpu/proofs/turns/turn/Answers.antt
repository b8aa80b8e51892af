use Rattle.std.proofs.Common.{rules, sym, ◌∙◌, subst}
use Rattle.sd_cpu.specs.Attempts.{Attempts}
use Rattle.sd_cpu.proofs.TurnLemmas as T
use Rattle.sd_cpu.proofs.turns.turn.Goals as goal

pub loop-init : goal.loop-init
loop-init g c = record { can = search rules; ends = search rules; good = c.requires.good; empty = c.requires.empty; idles = T.idles_same (g.W.World.meaning c.args.world.now) }

pub attempt-requires-clause-good : goal.attempt-requires-clause-good
attempt-requires-clause-good g c = c.loop.invariant.good

pub attempt-requires-clause-work : goal.attempt-requires-clause-work
attempt-requires-clause-work g c = c.requires.work ∙ sym c.loop.invariant.idles.world.work

pub attempt-requires-clause-empty : goal.attempt-requires-clause-empty
attempt-requires-clause-empty g c = c.loop.invariant.empty

pub returns-in-Err-clause-good : goal.returns-in-Err-clause-good
returns-in-Err-clause-good g c = c.attempt.ensures.good

pub returns-in-Err-clause-empty : goal.returns-in-Err-clause-empty
returns-in-Err-clause-empty g c = c.attempt.ensures.empty

pub returns-in-Err-clause-world : goal.returns-in-Err-clause-world
returns-in-Err-clause-world g c =
    T.world_refused (g.W.World.meaning c.args.world.now) (g.W.World.meaning c.attempt.new.world) c.in-Err.stop
    (T.refuses_after (g.W.World.meaning c.args.world.now) (g.W.World.meaning c.loop.world) (g.W.World.meaning c.attempt.new.world) c.loop.invariant.idles c.in-Err.stop c.in-Err.ensures.answers)

pub returns-in-Err-clause-answers : goal.returns-in-Err-clause-answers
returns-in-Err-clause-answers g c =
    T.refuses_after (g.W.World.meaning c.args.world.now) (g.W.World.meaning c.loop.world) (g.W.World.meaning c.attempt.new.world) c.loop.invariant.idles c.in-Err.stop c.in-Err.ensures.answers

pub returns-in-Made-clause-good : goal.returns-in-Made-clause-good
returns-in-Made-clause-good g c = c.attempt.ensures.good

pub returns-in-Made-clause-empty : goal.returns-in-Made-clause-empty
returns-in-Made-clause-empty g c = c.attempt.ensures.empty

pub returns-in-Made-clause-world : goal.returns-in-Made-clause-world
returns-in-Made-clause-world g c =
    let m1 = g.W.World.meaning c.loop.world in
    let m2 = g.W.World.meaning c.attempt.new.world in
    T.world_turned (g.W.World.meaning c.args.world.now) m2 c.in-Made.turned (T.turn_after (g.W.World.meaning c.args.world.now) m1 m2 c.loop.invariant.idles c.in-Made.turned (subst (Attempts m1 m2) c.in-Made.is c.in-Ok.ensures.answers))

pub returns-in-Made-clause-answers : goal.returns-in-Made-clause-answers
returns-in-Made-clause-answers g c =
    let m1 = g.W.World.meaning c.loop.world in
    let m2 = g.W.World.meaning c.attempt.new.world in
    T.turn_after (g.W.World.meaning c.args.world.now) m1 m2 c.loop.invariant.idles c.in-Made.turned (subst (Attempts m1 m2) c.in-Made.is c.in-Ok.ensures.answers)

pub loop-preserved : goal.loop-preserved
loop-preserved g c =
    let m1 = g.W.World.meaning c.loop.world in
    let m2 = g.W.World.meaning c.attempt.new.world in
    record {
      can = search rules;
      ends = search rules;
      good = c.attempt.ensures.good;
      empty = c.attempt.ensures.empty;
      idles = T.idles_both (g.W.World.meaning c.args.world.now) m1 m2 c.loop.invariant.idles (subst (Attempts m1 m2) c.in-Again.is c.in-Ok.ensures.answers).idles;
    }
