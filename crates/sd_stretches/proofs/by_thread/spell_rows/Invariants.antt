use Rattle.std.proofs.Common.{take}
use Rattle.sd_stretches.specs.Parted.{AreRows}
use Rattle.sd_stretches.specs.SpinPieces.{spells_on}
use Rattle.sd_stretches.specs.declared.spin_pieces.Track.TheVariants.{Thread}
use Rattle.sd_stretches.proofs.by_thread.spell_rows.Given as goal

abbrev pub invariant-loop-x : goal.invariant-loop-x
invariant-loop-x l = AreRows (λ t. spells_on (Thread t) (take l.x-index l.happenings)) l.rows.items
