use Rattle.std.proofs.Common.{◌<◌, length, sym, ap, ◌∙◌, subst}
use Rattle.sd_types.specs.Limits.{most_entries}
use Rattle.sd_shared_table.specs.Seats.{HasMade, MayMake, work_of}
use Rattle.sd_shared_table.proofs.Entries as E
use Rattle.sd_shared_table.proofs.shared.Shared.commit.Goals as goal

pub draw-number-requires-clause-may : goal.draw-number-requires-clause-may
draw-number-requires-clause-may c = E.may_commit (work_of c.args.self.now) _ c.args.seat.now c.requires.fits c.args.event c.args.hints c.args.work.now c.requires.can

pub draw-number-requires-clause-room : goal.draw-number-requires-clause-room
draw-number-requires-clause-room c = subst (λ l. length l < most_entries) c.requires.fits.log c.requires.can.room

pub make-requires-clause-may : goal.make-requires-clause-may
make-requires-clause-may c =
    let told = c.draw-number.ensures.told in
    let s = c.args.seat.now in
    subst (λ v. MayMake v c.draw-number.result c.args.event c.args.hints s.acting) (sym c.requires.work)
    (E.may_make (work_of c.args.self.now) _ s c.requires.fits c.args.event c.args.hints c.args.work.now told.0 c.draw-number.result c.requires.can told.1 told.2)

pub publish-requires : goal.publish-requires
publish-requires c =
    let w = work_of c.args.self.now in
    let told = c.draw-number.ensures.told in
    let s = c.args.seat.now in
    let f = c.requires.fits in
    let s1 = c.make.new.self in
    let n = c.draw-number.result in
    let rest = c.make.ensures.rest in
    let table = ap (λ p. p.table_id) rest.0 ∙ (c.draw-number.ensures.table ∙ f.table) in
    let view = ap (λ p. p.me) rest.0 ∙ told.7 in
    let made = subst (λ v. HasMade v n c.args.event c.args.hints s.acting s1.acting) c.requires.work c.make.ensures.made in
    record {
      fits = (
        _,
        E.fits_made w _ s f c.args.event c.args.hints c.args.work.now told.0 n s1 c.requires.can told.1 told.2 told.6 table view made c.make.ensures.has c.make.ensures.cpu rest.1 c.make.ensures.log,
        E.are_moved w _ s f c.args.event c.args.hints c.args.work.now told.0 n s1 c.requires.can told.1 told.2 told.6 table view made c.make.ensures.has c.make.ensures.cpu rest.1 c.make.ensures.log,
      );
    }

pub returns-clause-fits : goal.returns-clause-fits
returns-clause-fits c = c.publish.ensures.fits

pub returns-clause-commits : goal.returns-clause-commits
returns-clause-commits c =
    let w = work_of c.args.self.now in
    let told = c.draw-number.ensures.told in
    let s = c.args.seat.now in
    let f = c.requires.fits in
    let s1 = c.make.new.self in
    let n = c.draw-number.result in
    let rest = c.make.ensures.rest in
    let table = ap (λ p. p.table_id) rest.0 ∙ (c.draw-number.ensures.table ∙ f.table) in
    let view = ap (λ p. p.me) rest.0 ∙ told.7 in
    let made = subst (λ v. HasMade v n c.args.event c.args.hints s.acting s1.acting) c.requires.work c.make.ensures.made in
    E.commits_made w _ s f c.args.event c.args.hints c.args.work.now told.0 n s1 c.requires.can told.1 told.2 told.6 table view made c.make.ensures.has c.make.ensures.cpu rest.1 c.make.ensures.log c.publish.new.seat c.publish.ensures.publishes
    c.publish.ensures.fits.table

pub returns-clause-shows : goal.returns-clause-shows
returns-clause-shows c = c.publish.ensures.shows
