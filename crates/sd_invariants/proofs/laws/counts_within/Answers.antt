use Rattle.sd_invariants.specs.Laws.{CountsWithin}
use Rattle.sd_invariants.proofs.CountLemmas.{opening_counts, after_counts}
use Rattle.sd_invariants.proofs.Ready.{kept_reached}
use Rattle.sd_invariants.proofs.laws.counts_within.Goals as goal

pub returns : goal.returns
returns c = kept_reached CountsWithin (record { start = opening_counts; step = λ w s n cpu e ready cause within. after_counts w s n cpu e cause within })
