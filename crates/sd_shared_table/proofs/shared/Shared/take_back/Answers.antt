use Rattle.std.proofs.Common.{arith}
use Rattle.sd_shared_table.specs.Seats.{id_of, work_of}
use Rattle.sd_shared_table.proofs.ClosingLemmas.{gathered_next, joins, nothing_carried}
use Rattle.sd_shared_table.proofs.shared.Shared.take_back.Goals as goal

pub join_seat-requires : goal.join_seat-requires
join_seat-requires c =
    let (done, is, seat) = c.requires.before in
    let w = work_of c.args.self.now in
    let t = id_of c.args.self.now in
    let g = c.args.gathered.now in
    let s = c.args.seat in
    let words = c.args.self.now.words in
    (is.table, seat.fits.table, nothing_carried w t done g s is seat, (omega (arith, words)), joins w t done g s is seat g.place.id s.place.id)

pub returns : goal.returns
returns c = λ done is.
    gathered_next (work_of c.args.self.now) (id_of c.args.self.now) done c.args.gathered.now (record { place = c.join_seat.new.seat; actors = c.push.new.self; logs = c.push-2.new.self }) c.args.seat c.requires.before.2.fits is
    c.join_seat.ensures.0 c.join_seat.ensures.2 c.in_ok-push.ensures.items c.in_ok-push-2.ensures.items
