use Rattle.std.proofs.Common.{◌≡◌, take}
use Rattle.std.specs.List.{flat_map}
use Rattle.sd_answers.proofs.writing.joined.Given as goal

-- the parts so far
abbrev pub invariant-loop-part : goal.invariant-loop-part
invariant-loop-part l = l.line.items ≡ flat_map (λ p. p.now) (take l.part-index l.parts)
