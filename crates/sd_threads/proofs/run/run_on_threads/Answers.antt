use Rattle.std.proofs.Common.{List, sym, subst}
use Rattle.sd_types.specs.declared.works.Work.{Work}
use Rattle.sd_shared_table.specs.declared.seat.Seat.{Seat}
use Rattle.sd_shared_table.specs.Seats.{id_of}
use Rattle.sd_shared_table.specs.Whole.{AreSeats}
use Rattle.sd_threads.proofs.JobLemmas.{jobs_begin, seats_end}
use Rattle.sd_threads.proofs.run.run_on_threads.Goals as goal

pub run_to_rest-requires-clause-jobs : goal.run_to_rest-requires-clause-jobs
run_to_rest-requires-clause-jobs g c κs lives =
    jobs_begin (id_of c.in-Ok.shared) c.args.work.now c.in-Ok.seats.items c.in-Ok-jobs_of.jobs.items c.in-Ok-jobs_of.ensures c.in-Ok.ensures.seats

pub close-requires-clause-seats : goal.close-requires-clause-seats
close-requires-clause-seats g c =
    let t = id_of c.in-Ok.shared in
    let w = c.args.work.now in
    let seats = seats_end t w c.in_ok-jobs.jobs.items c.in_ok-jobs.ensures.jobs in
    subst (λ (v : Work). AreSeats t v c.in-Ok-seats_of.seats.items) (sym c.in-Ok.ensures.work)
    (subst (λ (xs : List Seat). AreSeats t w xs) (sym c.in-Ok-seats_of.ensures) seats)
