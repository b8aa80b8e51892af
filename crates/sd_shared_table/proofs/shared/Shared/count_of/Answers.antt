use Rattle.std.proofs.Common.{◌∙◌, refl}
use Rattle.sd_shared_table.specs.Seats.{work_of}
use Rattle.sd_shared_table.proofs.Fitting as F
use Rattle.sd_shared_table.proofs.shared.Shared.count_of.Goals as goal

pub returns-clause-fits : goal.returns-clause-fits
returns-clause-fits c =
    let s = c.args.seat.now in
    let f = c.requires.fits in
    let told = c.read_count-count.ensures.told in
    F.fits_counted (work_of c.args.self.now) _ s (record { place = c.read_count-count.new.place; acting = s.acting; order = s.order; log = s.log }) told.0 c.args.c.0 c.read_count-count.result f told.1 (c.read_count-count.ensures.table ∙ f.table) told.4 refl refl
    told.2 refl

pub returns-clause-counts : goal.returns-clause-counts
returns-clause-counts c =
    let s = c.args.seat.now in
    let f = c.requires.fits in
    let told = c.read_count-count.ensures.told in
    F.seat_counts (work_of c.args.self.now) _ s (record { place = c.read_count-count.new.place; acting = s.acting; order = s.order; log = s.log }) told.0 c.args.c.0 c.read_count-count.result f told.1 (c.read_count-count.ensures.table ∙ f.table) told.4 refl refl
