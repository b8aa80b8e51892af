use Rattle.sd_shared_table.specs.Seats.{id_of, work_of}
use Rattle.sd_shared_table_tests.proofs.SeatLemmas as S
use Rattle.sd_shared_table_tests.proofs.trying.take_by_turns.Goals as goal

pub try_home-requires-clause-fits : goal.try_home-requires-clause-fits
try_home-requires-clause-fits c = c.requires.first.fits

pub try_home-requires-clause-free : goal.try_home-requires-clause-free
try_home-requires-clause-free c = c.requires.first.free

pub try_home-requires-2-clause-fits : goal.try_home-requires-2-clause-fits
try_home-requires-2-clause-fits c = c.requires.second.fits

pub try_home-requires-2-clause-free : goal.try_home-requires-2-clause-free
try_home-requires-2-clause-free c = c.requires.second.free

pub give_back-requires : goal.give_back-requires
give_back-requires c = record { fits = c.in-Taken.ensures.fits }

pub try_home-requires-3-clause-fits : goal.try_home-requires-3-clause-fits
try_home-requires-3-clause-fits c = c.in-Busy.ensures.goes_on.fits

pub try_home-requires-3-clause-free : goal.try_home-requires-3-clause-free
try_home-requires-3-clause-free c = c.in-Busy.ensures.free

pub give_back-requires-2 : goal.give_back-requires-2
give_back-requires-2 c = record { fits = c.in-Taken-try_home.ensures.fits }

pub returns-in_default-clause-first : goal.returns-in_default-clause-first
returns-in_default-clause-first c = tt

pub returns-in_default-clause-second : goal.returns-in_default-clause-second
returns-in_default-clause-second c = tt

pub returns-in_default-try_home-clause-first : goal.returns-in_default-try_home-clause-first
returns-in_default-try_home-clause-first c = tt

pub returns-in_default-try_home-clause-second : goal.returns-in_default-try_home-clause-second
returns-in_default-try_home-clause-second c = tt

pub returns-then-holder-ne0-clause-first : goal.returns-then-holder-ne0-clause-first
returns-then-holder-ne0-clause-first c = tt

pub returns-then-holder-ne0-clause-second : goal.returns-then-holder-ne0-clause-second
returns-then-holder-ne0-clause-second c = tt

pub returns-in_default-try_home-2-clause-first : goal.returns-in_default-try_home-2-clause-first
returns-in_default-try_home-2-clause-first c = tt

pub returns-in_default-try_home-2-clause-second : goal.returns-in_default-try_home-2-clause-second
returns-in_default-try_home-2-clause-second c = tt

pub returns-clause-first : goal.returns-clause-first
returns-clause-first c =
    let t = id_of c.args.shared.now in
    let w = work_of c.args.shared.now in
    let s = c.args.first.now in
    S.seat_after t w 0 s c.give_back.new.seat c.requires.first.cpu (S.free_then t w s c.try_home.new.seat c.give_back.new.seat c.in-Taken.ensures c.give_back.ensures)

pub returns-clause-second : goal.returns-clause-second
returns-clause-second c =
    let t = id_of c.args.shared.now in
    let w = work_of c.args.shared.now in
    let s = c.args.second.now in
    let between = c.try_home-2.new.seat in
    let last = c.give_back-2.new.seat in
    let given = S.free_then t w between c.try_home-3.new.seat last c.in-Taken-try_home.ensures c.give_back-2.ensures in
    S.seat_after t w 1 s last c.requires.second.cpu (S.free_then t w s between last c.in-Busy.ensures.goes_on given)
