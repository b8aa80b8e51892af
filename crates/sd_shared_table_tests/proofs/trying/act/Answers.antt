use Rattle.std.proofs.Common.{◌≡◌, sym, ap, ◌∙◌, subst}
use Rattle.sd_hand.specs.Hands.{how_many_held}
use Rattle.sd_shared_table.specs.declared.seat.Seat.{Seat}
use Rattle.sd_shared_table.specs.Seats.{id_of, work_of}
use Rattle.sd_threads.specs.Tables.{world_meaning}
use Rattle.sd_shared_table_tests.specs.Sitting.{IsFreeAfter}
use Rattle.sd_shared_table_tests.proofs.SeatLemmas as S
use Rattle.sd_shared_table_tests.proofs.WorldLemmas as W
use Rattle.sd_shared_table_tests.proofs.trying.act.Goals as goal

pub attempt-requires-clause-good : goal.attempt-requires-clause-good
attempt-requires-clause-good c = c.new-world.ensures.good

pub attempt-requires-clause-work : goal.attempt-requires-clause-work
attempt-requires-clause-work c = c.requires.work ∙ sym (ap work_of c.new-world.ensures.table)

pub attempt-requires-clause-empty : goal.attempt-requires-clause-empty
attempt-requires-clause-empty c = λ none. subst (λ (s : Seat). how_many_held s.acting.hand.slots ≡ 0) (sym c.new-world.ensures.seat) c.requires.free

pub returns : goal.returns
returns c =
    let new = c.new-world.ensures in
    let made = c.attempt.ensures in
    let x = c.new-world.result in
    let y = c.attempt.new.world in
    let before = W.world_new c.args.shared.now c.args.seat x c.requires.fits c.requires.free new.good new.seat new.table in
    let after = W.world_after (id_of c.args.shared.now) (work_of c.args.shared.now) c.args.seat x y before made.good made.empty (W.same_world (world_meaning x) (world_meaning y) c.attempt.result made.answers) in
    λ n is. S.seat_after (id_of c.args.shared.now) (work_of c.args.shared.now) n c.args.seat c.into_seat.result is.cpu
    (subst (λ (s : Seat). IsFreeAfter (id_of c.args.shared.now) (work_of c.args.shared.now) c.args.seat s) (sym c.into_seat.ensures) after.seat)
