use Rattle.std.proofs.Common.{[], is_some, length, refl, ap}
use Rattle.sd_shared_rule.specs.Places.{now}
use Rattle.sd_shared_table.specs.declared.seat.Seat.{Seat}
use Rattle.sd_shared_table.specs.Seats.{HasWritten, desk, work_of}
use Rattle.sd_shared_table.proofs.Fitting.{shown_since}
use Rattle.sd_shared_table.proofs.PublishingLemmas as P
use Rattle.sd_shared_table.proofs.shared.Shared.publish_hint.Goals as goal

pub shown_hint-hint-requires : goal.shown_hint-hint-requires
shown_hint-hint-requires c = record { stands = P.in_run (work_of c.args.self.now) _ c.args.seat.now c.requires.fits; home = ap is_some c.requires.held.1 }

pub write_hint-requires-clause-shown : goal.write_hint-requires-clause-shown
write_hint-requires-clause-shown c = λ h seen.
    let w = work_of c.args.self.now in
    c.shown_hint-hint.ensures (length h) (now w h) (shown_since w _ [] (desk c.args.seat.now) c.args.seat.now h c.requires.fits seen)

pub write_hint-requires-clause-table : goal.write_hint-requires-clause-table
write_hint-requires-clause-table c = c.requires.fits.table

pub write_hint-requires-clause-desk : goal.write_hint-requires-clause-desk
write_hint-requires-clause-desk c = ap (λ m. m.0) c.requires.fits.view

pub write_hint-requires-clause-inside : goal.write_hint-requires-clause-inside
write_hint-requires-clause-inside c = P.cpu_inside (work_of c.args.self.now) _ c.args.seat.now c.args.c c.requires.fits c.requires.held

abbrev after : goal.After-write_hint → Seat
after c = let s = c.args.seat.now in record { place = c.write_hint.new.place; acting = s.acting; order = s.order; log = s.log }

wrote : (c : goal.After-write_hint) → HasWritten c.args.seat.now (after c)
wrote c = P.one_written (work_of c.args.self.now) c.args.seat.now (after c) _ c.write_hint.ensures.told c.write_hint.ensures.table refl refl refl

pub returns-clause-fits : goal.returns-clause-fits
returns-clause-fits c = P.fits_same (work_of c.args.self.now) _ c.args.seat.now (after c) c.requires.fits (wrote c)

pub returns-clause-written : goal.returns-clause-written
returns-clause-written c = wrote c

pub returns-clause-shows : goal.returns-clause-shows
returns-clause-shows c =
    let w = work_of c.args.self.now in
    P.hint_written w c.args.seat.now (after c) c.args.c c.args.which c.shown_hint-hint.result
    (λ h seen. c.shown_hint-hint.ensures (length h) (now w h) (shown_since w _ [] (desk c.args.seat.now) c.args.seat.now h c.requires.fits seen)) c.write_hint.ensures.told
