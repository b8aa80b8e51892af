use Rattle.sd_shared_table.specs.Seats.{id_of}
use Rattle.sd_threads.specs.Jobs.{AreJobs}
use Rattle.sd_threads.proofs.stints.run_to_rest.Given as goal

abbrev pub invariant-loop : goal.invariant-loop
invariant-loop g l = record {
  can : (goal.iterator-loop g).can_next l.iterator';
  ends : (goal.iterator-loop g).is_finite l.iterator';
  jobs : AreJobs (id_of l.shared) l.work l.jobs.items;
}
