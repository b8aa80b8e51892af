use Rattle.std.proofs.Common.{refl, sym, ap, ◌∙◌, subst}
use Rattle.sd_world.specs.Homes.{IsNumber, index_of}
use Rattle.sd_shared_rule.specs.Places.{holds, sizes}
use Rattle.sd_shared_table.specs.Seats.{desk, work_of}
use Rattle.sd_shared_table.proofs.PublishingLemmas as P
use Rattle.sd_shared_table.proofs.shared.Shared.publish_thread.Goals as goal

pub index-index-requires : goal.index-index-requires
index-index-requires c =
    let w = work_of c.args.self.now in
    let fits = c.requires.fits in
    record { there = subst (IsNumber (sizes w)) (sym c.home_at.ensures) (P.home_number w _ fits.0 c.args.seat.now fits.1 c.args.t.0 c.in-Ok.at c.in-Ok.ensures) }

pub name-requires-clause-table : goal.name-requires-clause-table
name-requires-clause-table c = c.requires.fits.1.table

pub name-requires-clause-desk : goal.name-requires-clause-desk
name-requires-clause-desk c = ap (λ m. m.0) c.requires.fits.1.view

pub name-requires-clause-inside : goal.name-requires-clause-inside
name-requires-clause-inside c =
    let fits = c.requires.fits in
    P.thread_there (work_of c.args.self.now) _ fits.0 c.args.seat.now fits.1 c.args.t.0 c.in-Ok.at c.in-Ok.ensures

pub name-requires-clause-here : goal.name-requires-clause-here
name-requires-clause-here c = λ h seen.
    let w = work_of c.args.self.now in
    let fits = c.requires.fits in
    let is = P.stands_still w _ fits.0 c.args.seat.now fits.1 c.args.t.0 c.in-Ok.at c.in-Ok.ensures h seen in
    let e = c.index-index.ensures.index ∙ ap (index_of (sizes w)) c.home_at.ensures in
    (is.0 ∙ sym e, ap (λ j. holds j (desk c.args.seat.now).held) e ∙ is.1)

pub returns-in-Err-clause-fits : goal.returns-in-Err-clause-fits
returns-in-Err-clause-fits c =
    let fits = c.requires.fits in
    P.lacks_moved (work_of c.args.self.now) _ fits.0 c.args.seat.now fits.1 c.args.t.0 fits.2 c.in-Err.ensures.1

pub returns-in-Err-clause-publishes : goal.returns-in-Err-clause-publishes
returns-in-Err-clause-publishes c =
    let fits = c.requires.fits in
    P.lacks_published (work_of c.args.self.now) _ fits.0 c.args.seat.now fits.1 c.args.t.0 fits.2 c.in-Err.ensures.1

pub returns-in-Ok-clause-fits : goal.returns-in-Ok-clause-fits
returns-in-Ok-clause-fits c =
    let fits = c.requires.fits in
    let s = c.args.seat.now in
    P.fits_named (work_of c.args.self.now) _ fits.0 s fits.1 c.args.t.0 (record { place = c.name.new.place; acting = s.acting; order = s.order; log = s.log }) fits.2 (c.name.ensures.table ∙ fits.1.table) c.name.ensures.told refl refl refl

pub returns-in-Ok-clause-publishes : goal.returns-in-Ok-clause-publishes
returns-in-Ok-clause-publishes c =
    let fits = c.requires.fits in
    let s = c.args.seat.now in
    P.named_published (work_of c.args.self.now) _ fits.0 s fits.1 c.args.t.0 (record { place = c.name.new.place; acting = s.acting; order = s.order; log = s.log }) fits.2 c.name.ensures.told refl refl
