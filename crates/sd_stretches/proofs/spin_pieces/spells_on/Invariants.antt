use Rattle.std.proofs.Common.{◌≡◌, take}
use Rattle.std.specs.List.{flat_map}
use Rattle.sd_stretches.specs.SpinPieces.{spell_by}
use Rattle.sd_stretches.proofs.spin_pieces.spells_on.Given as goal

abbrev pub invariant-loop-x : goal.invariant-loop-x
invariant-loop-x l = l.found.items ≡ flat_map (λ x. spell_by l.track x x.event) (take l.x-index l.happenings)
