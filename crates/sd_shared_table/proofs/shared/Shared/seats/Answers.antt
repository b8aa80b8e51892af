use Rattle.std.proofs.Common.{◌+◌, [], get_or, sym, ap, ◌∙◌, arith}
use Rattle.sd_world.specs.Plain.{no_actor}
use Rattle.sd_shared_rule.specs.declared.views.View.TheVariants.{Maker}
use Rattle.sd_shared_table.specs.Seats.{id_of, work_of}
use Rattle.sd_shared_table.proofs.OpeningLemmas.{actor_cpu, actor_inside, actor_is, all_actors, cuts_first, cuts_last, cuts_new, cuts_next}
use Rattle.sd_shared_table.proofs.shared.Shared.seats.Goals as goal

pub loop-c-init : goal.loop-c-init
loop-c-init c = (c.requires.maker.0, c.requires.maker.1, cuts_first (work_of c.args.self.now) (id_of c.args.self.now) c.new-seats.result.items c.new-seats.ensures.items)

pub seat-requires-clause-maker : goal.seat-requires-clause-maker
seat-requires-clause-maker c =
    let cpu = actor_cpu (work_of c.args.self.now) c.args.actors.now c.requires.actors c.loop-c.c c.loop-c-test.true in
    (c.loop-c.invariant.0, c.loop-c.invariant.1 ∙ ap (λ n. (Maker n, [])) (sym cpu))

pub seat-requires-clause-inside : goal.seat-requires-clause-inside
seat-requires-clause-inside c = actor_inside (work_of c.args.self.now) c.args.actors.now c.requires.actors c.loop-c.c c.loop-c-test.true

pub seat-requires-clause-actor : goal.seat-requires-clause-actor
seat-requires-clause-actor c = actor_is (work_of c.args.self.now) c.args.actors.now c.requires.actors c.loop-c.c c.loop-c-test.true

pub loop-c-preserved : goal.loop-c-preserved
loop-c-preserved c =
    let w = work_of c.args.self.now in
    let a = get_or c.args.actors.now c.loop-c.c no_actor in
    let cpu = actor_cpu w c.args.actors.now c.requires.actors c.loop-c.c c.loop-c-test.true in
    let made = c.in_ok-seat.ensures in (
      made.maker.0,
      made.maker.1 ∙ ap (λ n. (Maker (n + 1), [])) cpu,
      cuts_next w (id_of c.args.self.now) c.loop-c.c c.loop-c.seats.items c.push.new.self.items c.in_ok-seat.field-0 a.cpu.0 c.loop-c.invariant.2 cpu made.seat made.fresh c.in_ok-push.ensures.items,
    )

pub returns-clause-seats : goal.returns-clause-seats
returns-clause-seats c =
    let w = work_of c.args.self.now in
    let high = c.loop-c-test.false in
    let end = c.loop-c.auto.c-end in
    let all = all_actors w c.args.actors.now c.requires.actors in
    cuts_last w (id_of c.args.self.now) c.loop-c.c c.loop-c.seats.items c.loop-c.invariant.2 (omega (arith, high, end, all))

pub returns-clause-fresh : goal.returns-clause-fresh
returns-clause-fresh c = cuts_new (work_of c.args.self.now) (id_of c.args.self.now) c.loop-c.c c.loop-c.seats.items c.loop-c.invariant.2
