-- Each thread in one place: the laws of places, runners and keys together.
use Rattle.sd_state.specs.Invariants.{OneRuns}
use Rattle.sd_invariants.specs.Laws.{HoldsAfterEntries, HoldsWhenReached}
use Rattle.sd_invariants.proofs.Ready.{kept_reached, reached_ready}
use Rattle.sd_invariants.proofs.RunningLemmas.{one_kept, opening_one}
use Rattle.sd_invariants.proofs.KeyLemmas.{keys_differ_law, keys_within_law}
use Rattle.sd_invariants.proofs.All.{threads_law}
use Rattle.sd_laws.specs.Belonging.{EachInOnePlace}

pub one_runs : HoldsWhenReached (λ w s. OneRuns s)
one_runs = kept_reached (λ w s. OneRuns s) (record { start = opening_one; step = λ w s n c e ready cause one. one_kept w s n c e ready cause one })

pub one_place : HoldsAfterEntries EachInOnePlace
one_place w n s reached = record {
  places = record { threads = (reached_ready w n s reached).fits.threads; each = λ t inside. (threads_law w n s reached t).place };
  one_runs = one_runs w n s reached;
  keys_differ = keys_differ_law w n s reached;
  keys_within = keys_within_law w n s reached;
}
