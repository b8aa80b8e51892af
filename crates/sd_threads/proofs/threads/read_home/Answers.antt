use Rattle.std.proofs.Common.{refl, ◌∙◌}
use Rattle.sd_shared_table.specs.Seats.{work_of}
use Rattle.sd_threads.proofs.Locking as L
use Rattle.sd_threads.proofs.threads.read_home.Goals as goal

pub home_at-requires : goal.home_at-requires
home_at-requires c = record { inside = c.look-index.ensures.told.3 }

pub returns-clause-fits : goal.returns-clause-fits
returns-clause-fits c =
    let s = c.args.seat.now in
    let told = c.look-index.ensures.told in
    L.fits_looked (work_of c.args.shared.now) _ s c.requires.fits (record { place = c.look-index.new.place; acting = s.acting; order = s.order; log = s.log }) told.0 c.args.t.0 c.look-index.result told.1 (c.look-index.ensures.table ∙ c.requires.fits.table) told.2 refl refl refl

pub returns-clause-number : goal.returns-clause-number
returns-clause-number c = c.home_at.ensures

pub returns-clause-reads : goal.returns-clause-reads
returns-clause-reads c =
    let s = c.args.seat.now in
    let told = c.look-index.ensures.told in
    L.reads_home (work_of c.args.shared.now) _ s c.requires.fits (record { place = c.look-index.new.place; acting = s.acting; order = s.order; log = s.log }) told.0 c.args.t.0 c.look-index.result told.1 (c.look-index.ensures.table ∙ c.requires.fits.table) told.2 refl refl
    c.home_at.result c.home_at.ensures told.4
