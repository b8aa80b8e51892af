use Rattle.sd_shared_table.specs.Seats.{id_of}
use Rattle.sd_threads.proofs.StintLemmas.{Leads}
use Rattle.sd_threads.proofs.jobs.stint_of.Given as goal

abbrev pub invariant-loop : goal.invariant-loop
invariant-loop g l = record {
  can : (goal.iterator-loop g).can_next l.iterator';
  ends : (goal.iterator-loop g).is_finite l.iterator';
  led : Leads (id_of l.shared) l.work l.fn.job l.going l.entries;
}
