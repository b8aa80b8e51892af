use Rattle.std.proofs.Common.{refl}
use Rattle.sd_shared_table.specs.declared.seat.Seat.{Seat}
use Rattle.sd_shared_table.specs.Seats.{HasWritten, work_of}
use Rattle.sd_shared_table.proofs.PublishingLemmas as P
use Rattle.sd_shared_table.proofs.shared.Shared.publish_count.Goals as goal

abbrev after : goal.After-write_count → Seat
after c = let s = c.args.seat.now in record { place = c.write_count.new.place; acting = s.acting; order = s.order; log = s.log }

wrote : (c : goal.After-write_count) → HasWritten c.args.seat.now (after c)
wrote c = P.one_written (work_of c.args.self.now) c.args.seat.now (after c) _ c.write_count.ensures.told c.write_count.ensures.table refl refl refl

pub returns-clause-fits : goal.returns-clause-fits
returns-clause-fits c = P.fits_same (work_of c.args.self.now) _ c.args.seat.now (after c) c.requires.fits (wrote c)

pub returns-clause-written : goal.returns-clause-written
returns-clause-written c = wrote c

pub returns-clause-shows : goal.returns-clause-shows
returns-clause-shows c = P.own_written (work_of c.args.self.now) _ c.args.seat.now (after c) _ c.requires.fits c.from-count.ensures c.write_count.ensures.told
