use Rattle.std.proofs.Common.{rules, sym, ◌∙◌}
use Rattle.sd_cpu.proofs.MeaningLemmas.{world_then}
use Rattle.sd_cpu.proofs.PhaseLemmas as P
use Rattle.sd_cpu.proofs.phases.phase.Goals as goal

pub loop-init : goal.loop-init
loop-init g c =
    let m = g.W.World.meaning c.args.world.now in
    record { can = search rules; ends = search rules; good = c.requires.good; empty = c.requires.empty; same = P.world_same m; acts = P.none_acted m c.args.number.now }

pub turn-turned-requires-clause-good : goal.turn-turned-requires-clause-good
turn-turned-requires-clause-good g c = c.loop.invariant.good

pub turn-turned-requires-clause-work : goal.turn-turned-requires-clause-work
turn-turned-requires-clause-work g c = c.requires.work ∙ sym c.loop.invariant.same.work

pub turn-turned-requires-clause-empty : goal.turn-turned-requires-clause-empty
turn-turned-requires-clause-empty g c = c.loop.invariant.empty

pub returns-in-Err-clause-world : goal.returns-in-Err-clause-world
returns-in-Err-clause-world g c = world_then (g.W.World.meaning c.args.world.now) (g.W.World.meaning c.loop.world) (g.W.World.meaning c.turn-turned.new.world) c.loop.invariant.same c.turn-turned.ensures.world

pub returns-in-Err-clause-answers : goal.returns-in-Err-clause-answers
returns-in-Err-clause-answers g c =
    P.answers (g.W.World.meaning c.args.world.now) (g.W.World.meaning c.loop.world) (g.W.World.meaning c.turn-turned.new.world) c.args.number.now c.loop.entries c.loop.number c.saturating_add.result _ c.loop.invariant.acts
    c.saturating_add.ensures c.in-Err.ensures.answers

pub loop-preserved : goal.loop-preserved
loop-preserved g c =
    let m = g.W.World.meaning c.args.world.now in
    let m1 = g.W.World.meaning c.loop.world in
    let m2 = g.W.World.meaning c.turn-turned.new.world in
    record {
      can = search rules;
      ends = search rules;
      good = c.turn-turned.ensures.good;
      empty = c.turn-turned.ensures.empty;
      same = world_then m m1 m2 c.loop.invariant.same c.turn-turned.ensures.world;
      acts = P.one_acted m m1 m2 c.in-Ok.end c.in-Acted.number c.args.number.now c.loop.entries c.saturating_add-entries.result c.loop.number c.saturating_add.result c.in-Acted.is c.in-Ok.ensures.answers
          c.saturating_add-entries.ensures c.saturating_add.ensures c.loop.invariant.acts;
    }

pub returns-in-Ticked-clause-good : goal.returns-in-Ticked-clause-good
returns-in-Ticked-clause-good g c = c.turn-turned.ensures.good

pub returns-in-Ticked-clause-empty : goal.returns-in-Ticked-clause-empty
returns-in-Ticked-clause-empty g c = c.turn-turned.ensures.empty

pub returns-in-Ticked-clause-world : goal.returns-in-Ticked-clause-world
returns-in-Ticked-clause-world g c = world_then (g.W.World.meaning c.args.world.now) (g.W.World.meaning c.loop.world) (g.W.World.meaning c.turn-turned.new.world) c.loop.invariant.same c.turn-turned.ensures.world

pub returns-in-Ticked-clause-answers : goal.returns-in-Ticked-clause-answers
returns-in-Ticked-clause-answers g c =
    let m1 = g.W.World.meaning c.loop.world in
    let m2 = g.W.World.meaning c.turn-turned.new.world in
    let acts = c.loop.invariant.acts in
    P.answers (g.W.World.meaning c.args.world.now) m1 m2 c.args.number.now c.loop.entries c.loop.number c.saturating_add.result _ acts c.saturating_add.ensures
    (P.ticked (g.W.World.meaning c.args.world.now) m1 m2 c.args.number.now c.in-Ticked.number c.loop.entries c.saturating_add-entries-in-Ticked.result c.loop.number c.in-Ok.end acts c.in-Ticked.is c.in-Ok.ensures.answers
    c.saturating_add-entries-in-Ticked.ensures)

pub returns-in-Behind-clause-good : goal.returns-in-Behind-clause-good
returns-in-Behind-clause-good g c = c.turn-turned.ensures.good

pub returns-in-Behind-clause-empty : goal.returns-in-Behind-clause-empty
returns-in-Behind-clause-empty g c = c.turn-turned.ensures.empty

pub returns-in-Behind-clause-world : goal.returns-in-Behind-clause-world
returns-in-Behind-clause-world g c = world_then (g.W.World.meaning c.args.world.now) (g.W.World.meaning c.loop.world) (g.W.World.meaning c.turn-turned.new.world) c.loop.invariant.same c.turn-turned.ensures.world

pub returns-in-Behind-clause-answers : goal.returns-in-Behind-clause-answers
returns-in-Behind-clause-answers g c =
    let m1 = g.W.World.meaning c.loop.world in
    let m2 = g.W.World.meaning c.turn-turned.new.world in
    let acts = c.loop.invariant.acts in
    P.answers (g.W.World.meaning c.args.world.now) m1 m2 c.args.number.now c.loop.entries c.loop.number c.saturating_add.result _ acts c.saturating_add.ensures
    (P.was_behind m1 m2 acts.count c.in-Behind.count c.loop.entries c.in-Behind.cpu c.in-Ok.end c.in-Behind.is acts.told c.in-Ok.ensures.answers)

pub returns-in-Finished-clause-good : goal.returns-in-Finished-clause-good
returns-in-Finished-clause-good g c = c.turn-turned.ensures.good

pub returns-in-Finished-clause-empty : goal.returns-in-Finished-clause-empty
returns-in-Finished-clause-empty g c = c.turn-turned.ensures.empty

pub returns-in-Finished-clause-world : goal.returns-in-Finished-clause-world
returns-in-Finished-clause-world g c = world_then (g.W.World.meaning c.args.world.now) (g.W.World.meaning c.loop.world) (g.W.World.meaning c.turn-turned.new.world) c.loop.invariant.same c.turn-turned.ensures.world

pub returns-in-Finished-clause-answers : goal.returns-in-Finished-clause-answers
returns-in-Finished-clause-answers g c =
    let m1 = g.W.World.meaning c.loop.world in
    let m2 = g.W.World.meaning c.turn-turned.new.world in
    let acts = c.loop.invariant.acts in
    P.answers (g.W.World.meaning c.args.world.now) m1 m2 c.args.number.now c.loop.entries c.loop.number c.saturating_add.result _ acts c.saturating_add.ensures
    (P.was_over m1 m2 acts.count c.loop.entries c.in-Ok.end c.in-Finished.is acts.told c.in-Ok.ensures.answers)

pub returns-in-Err-clause-good : goal.returns-in-Err-clause-good
returns-in-Err-clause-good g c = c.turn-turned.ensures.good

pub returns-in-Err-clause-empty : goal.returns-in-Err-clause-empty
returns-in-Err-clause-empty g c = c.turn-turned.ensures.empty
