use Rattle.std.proofs.Common.{sym, ◌∙◌, subst}
use Rattle.sd_shared_table.specs.declared.seat.Seat.{Seat}
use Rattle.sd_shared_table.specs.Seats.{id_of, work_of}
use Rattle.sd_shared_table_tests.specs.Sitting.{IsFreeAfter}
use Rattle.sd_shared_table_tests.proofs.SeatLemmas as S
use Rattle.sd_shared_table_tests.proofs.WorldLemmas as W
use Rattle.sd_shared_table_tests.proofs.sharing.four_turns.Goals as goal

pub new-world-requires : goal.new-world-requires
new-world-requires g c = record { fits = c.requires.fits }

pub loop-number-init : goal.loop-number-init
loop-number-init g c =
    let new = c.new-world.ensures in
    W.world_new c.args.shared.now c.args.seat c.new-world.result c.requires.fits c.requires.free new.good new.seat new.table

pub turn-requires-clause-good : goal.turn-requires-clause-good
turn-requires-clause-good g c = c.loop-number.invariant.good

pub turn-requires-clause-work : goal.turn-requires-clause-work
turn-requires-clause-work g c = c.requires.work ∙ sym c.loop-number.invariant.work

pub turn-requires-clause-empty : goal.turn-requires-clause-empty
turn-requires-clause-empty g c = λ none. c.loop-number.invariant.seat.free

pub loop-number-preserved : goal.loop-number-preserved
loop-number-preserved g c =
    let e = c.turn.ensures in
    W.world_after (id_of c.args.shared.now) (work_of c.args.shared.now) c.args.seat c.loop-number.world c.turn.new.world c.loop-number.invariant e.good e.empty e.world

pub returns : goal.returns
returns g c = λ n is. S.seat_after (id_of c.args.shared.now) (work_of c.args.shared.now) n c.args.seat c.into_seat-seat.result is.cpu
    (subst (λ (s : Seat). IsFreeAfter (id_of c.args.shared.now) (work_of c.args.shared.now) c.args.seat s) (sym c.into_seat-seat.ensures) c.loop-number.invariant.seat)
