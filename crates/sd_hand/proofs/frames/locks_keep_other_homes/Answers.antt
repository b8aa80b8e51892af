use Rattle.sd_machine.specs.Threads.{with_count, with_lock}
use Rattle.sd_homes.specs.Standing.{look_of}
use Rattle.sd_hand.proofs.FrameLemmas.{open_stays}
use Rattle.sd_hand.proofs.MoveLemmas.{of_state}
use Rattle.sd_hand.proofs.PartLemmas.{count_beside, lock_beside}
use Rattle.sd_hand.proofs.frames.locks_keep_other_homes.Goals as goal

pub returns-clause-lock : goal.returns-clause-lock
returns-clause-lock c n s l x h apart is = of_state n s (with_lock s l.0 x) (look_of s) h (lock_beside s l x h apart) is

pub returns-clause-count : goal.returns-clause-count
returns-clause-count c n s k tokens h apart is = of_state n s (with_count s k.0 tokens) (look_of s) h (count_beside s k tokens h apart) is

pub returns-clause-open_cpus : goal.returns-clause-open_cpus
returns-clause-open_cpus c n s p cpus h apart is = open_stays n s p cpus h apart is
