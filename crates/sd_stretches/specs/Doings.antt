-- What a thread does, in words.
-- Source: this project's own.
use Rattle.std.specs.Prelude.{ℕ, List, ◌++◌, codes, decimal}
use Rattle.sd_types.specs.declared.works.Work.{Work}
use Rattle.sd_state.specs.Texts.{chan_name, lock_name}
use Rattle.sd_stretches.specs.declared.sights.Doing.{Doing}
use Rattle.sd_stretches.specs.declared.sights.Doing.TheVariants.{Running, Spinning, Runnable, Waiting, Asleep, Napping, Ended}

unfoldable pub spinning_text : ℕ → List ℕ → List ℕ
spinning_text c lock = (codes "spins on processor " ++ decimal c) ++ (codes " for " ++ lock)

abbrev pub doing_text : Work → Doing → List ℕ
doing_text w (Running c) = codes "runs on processor " ++ decimal c.0
doing_text w (Spinning c l) = spinning_text c.0 (lock_name w l.0)
doing_text w Runnable = codes "runnable"
doing_text w (Waiting l) = codes "waits for " ++ lock_name w l.0
doing_text w (Asleep k) = codes "asleep on " ++ chan_name w k.0
doing_text w Napping = codes "naps"
doing_text w Ended = codes "has ended"
