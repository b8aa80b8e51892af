-- The initial state has the threads, locks, processors, channels and sets of its workload.
use Rattle.std.proofs.Common.{◌+◌, length}
use Rattle.std.proofs.lemmas.List.{length-replicate, length-map}
use Rattle.std.proofs.lemmas.List.FromFn.{length-map-range_with_len}
use Rattle.sd_types.specs.declared.works.Work.{Work}
use Rattle.sd_machine.specs.Shapes.{FitsFully}
use Rattle.sd_state.specs.declared.states.LockState.TheVariants.{Free}
use Rattle.sd_state.specs.Opening.{first_cpu_state, first_count, open_list, opening}
use Rattle.sd_state.proofs.OpeningLemmas.{length-first_threads}

pub opening_fits : (w : Work) → FitsFully w (opening w)
unfolding opening
opening_fits w = record {
  threads = length-first_threads w 0 w.threads;
  locks = length-replicate (length w.locks) Free;
  cpus = length-map-range_with_len (first_cpu_state w) 0 w.cpus;
  chans = length-map w.chans first_count;
  sets = length-map-range_with_len (open_list w) 0 (length w.sets + 1);
}
