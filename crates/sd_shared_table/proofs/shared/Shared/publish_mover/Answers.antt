use Rattle.std.proofs.Common.{Some, None, sym, ◌∙◌}
use Rattle.sd_shared_table.specs.Seats.{work_of}
use Rattle.sd_shared_table.proofs.PublishingLemmas as P
use Rattle.sd_shared_table.proofs.shared.Shared.publish_mover.Goals as goal

pub publish_thread-requires : goal.publish_thread-requires
publish_thread-requires c =
    let fits = c.requires.fits in
    record { fits = (fits.0, fits.1, P.moved_by (work_of c.args.self.now) c.args.event c.args.seat.now.acting fits.0 (Some c.in-Some.t) (sym c.in-Some.is ∙ c.mover.ensures) fits.2) }

pub returns-in-None-clause-fits : goal.returns-in-None-clause-fits
returns-in-None-clause-fits c =
    let fits = c.requires.fits in
    P.none_moved (work_of c.args.self.now) _ fits.0 c.args.seat.now fits.1 (P.moved_by (work_of c.args.self.now) c.args.event c.args.seat.now.acting fits.0 None (sym c.in-None.is ∙ c.mover.ensures) fits.2)

pub returns-in-None-clause-publishes : goal.returns-in-None-clause-publishes
returns-in-None-clause-publishes c =
    let fits = c.requires.fits in
    P.none_published (work_of c.args.self.now) _ fits.0 c.args.seat.now fits.1 (P.moved_by (work_of c.args.self.now) c.args.event c.args.seat.now.acting fits.0 None (sym c.in-None.is ∙ c.mover.ensures) fits.2)
