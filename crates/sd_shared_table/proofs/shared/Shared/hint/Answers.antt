use Rattle.std.proofs.Common.{◌∙◌, refl}
use Rattle.sd_shared_table.specs.Seats.{work_of}
use Rattle.sd_shared_table.proofs.Fitting as F
use Rattle.sd_shared_table.proofs.shared.Shared.hint.Goals as goal

pub returns-clause-fits : goal.returns-clause-fits
returns-clause-fits c =
    let s = c.args.seat.now in
    let f = c.requires.fits in
    let told = c.read_hint-hint.ensures.told in
    F.fits_hinted (work_of c.args.self.now) _ s (record { place = c.read_hint-hint.new.place; acting = s.acting; order = s.order; log = s.log }) c.args.c.0 c.args.which c.read_hint-hint.result f (c.read_hint-hint.ensures.table ∙ f.table) told.1 refl refl refl

pub returns-clause-hints : goal.returns-clause-hints
returns-clause-hints c =
    let s = c.args.seat.now in
    let f = c.requires.fits in
    let told = c.read_hint-hint.ensures.told in
    F.seat_hints (work_of c.args.self.now) _ s (record { place = c.read_hint-hint.new.place; acting = s.acting; order = s.order; log = s.log }) c.args.c.0 c.args.which c.read_hint-hint.result f (c.read_hint-hint.ensures.table ∙ f.table) told.1 refl refl
