use Rattle.sd_shared_table.specs.Seats.{id_of, work_of}
use Rattle.sd_shared_table_tests.proofs.SeatLemmas as S
use Rattle.sd_shared_table_tests.proofs.trying.seek_by_turns.Goals as goal

pub try_home-requires-clause-fits : goal.try_home-requires-clause-fits
try_home-requires-clause-fits c = c.requires.first.fits

pub try_home-requires-clause-free : goal.try_home-requires-clause-free
try_home-requires-clause-free c = c.requires.first.free

pub seek_thread-requires-clause-fits : goal.seek_thread-requires-clause-fits
seek_thread-requires-clause-fits c = c.requires.second.fits

pub seek_thread-requires-clause-free : goal.seek_thread-requires-clause-free
seek_thread-requires-clause-free c = c.requires.second.free

pub seek_thread-requires-clause-there : goal.seek_thread-requires-clause-there
seek_thread-requires-clause-there c = c.requires.there

pub give_back-requires : goal.give_back-requires
give_back-requires c = record { fits = c.in-Taken.ensures.fits }

pub seek_thread-requires-2-clause-fits : goal.seek_thread-requires-2-clause-fits
seek_thread-requires-2-clause-fits c = c.in-Busy.ensures.goes_on.fits

pub seek_thread-requires-2-clause-free : goal.seek_thread-requires-2-clause-free
seek_thread-requires-2-clause-free c = c.in-Busy.ensures.free

pub seek_thread-requires-2-clause-there : goal.seek_thread-requires-2-clause-there
seek_thread-requires-2-clause-there c = c.requires.there

pub give_back-requires-2 : goal.give_back-requires-2
give_back-requires-2 c = record { fits = c.in-Held.ensures.fits }

pub returns-clause-first : goal.returns-clause-first
returns-clause-first c =
    let t = id_of c.args.shared.now in
    let w = work_of c.args.shared.now in
    let s = c.args.first.now in
    S.seat_after t w 0 s c.give_back.new.seat c.requires.first.cpu (S.free_then t w s c.try_home.new.seat c.give_back.new.seat c.in-Taken.ensures c.give_back.ensures)

pub returns-clause-second : goal.returns-clause-second
returns-clause-second c =
    let t = id_of c.args.shared.now in
    let w = work_of c.args.shared.now in
    let s = c.args.second.now in
    let between = c.seek_thread.new.seat in
    let last = c.give_back-2.new.seat in
    let given = S.free_then t w between c.seek_thread-2.new.seat last c.in-Held.ensures c.give_back-2.ensures in
    S.seat_after t w 1 s last c.requires.second.cpu (S.free_then t w s between last c.in-Busy.ensures.goes_on given)
