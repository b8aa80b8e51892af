use Rattle.std.proofs.Common.{sym, ◌∙◌, subst}
use Rattle.sd_shared_table.specs.declared.seat.Seat.{Seat}
use Rattle.sd_shared_table.specs.Seats.{id_of, work_of}
use Rattle.sd_threads.specs.Tables.{world_meaning}
use Rattle.sd_shared_table_tests.specs.Sitting.{IsFreeAfter}
use Rattle.sd_shared_table_tests.proofs.SeatLemmas as S
use Rattle.sd_shared_table_tests.proofs.WorldLemmas as W
use Rattle.sd_shared_table_tests.proofs.counting.try_turns.Goals as goal

pub new-requires : goal.new-requires
new-requires c = record { fits = c.requires.fits }

pub loop-turn-init : goal.loop-turn-init
loop-turn-init c =
    let new = c.new.ensures in
    W.world_new c.args.shared.now c.args.seat c.new.result c.requires.fits c.requires.free new.good new.seat new.table

pub attempt-attempted-requires-clause-good : goal.attempt-attempted-requires-clause-good
attempt-attempted-requires-clause-good c = c.loop-turn.invariant.good

pub attempt-attempted-requires-clause-work : goal.attempt-attempted-requires-clause-work
attempt-attempted-requires-clause-work c = c.requires.work ∙ sym c.loop-turn.invariant.work

pub attempt-attempted-requires-clause-empty : goal.attempt-attempted-requires-clause-empty
attempt-attempted-requires-clause-empty c = λ none. c.loop-turn.invariant.seat.free

pub loop-turn-preserved : goal.loop-turn-preserved
loop-turn-preserved c =
    let e = c.attempt-attempted.ensures in
    let x = c.loop-turn.world.table in
    let y = c.attempt-attempted.new.world.table in
    W.world_after (id_of c.args.shared.now) (work_of c.args.shared.now) c.args.seat x y c.loop-turn.invariant e.good e.empty (W.same_world (world_meaning x) (world_meaning y) c.attempt-attempted.result e.answers)

pub returns : goal.returns
returns c = λ n is. S.seat_after (id_of c.args.shared.now) (work_of c.args.shared.now) n c.args.seat c.into_seat-seat.result is.cpu
    (subst (λ (s : Seat). IsFreeAfter (id_of c.args.shared.now) (work_of c.args.shared.now) c.args.seat s) (sym c.into_seat-seat.ensures) c.loop-turn.invariant.seat)
