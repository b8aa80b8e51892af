use Rattle.sd_longest.proofs.HeightLemmas.{IsHeightSoFar}
use Rattle.sd_longest.proofs.heights.height_along.Given as goal

abbrev pub invariant-loop-edge : goal.invariant-loop-edge
invariant-loop-edge l = IsHeightSoFar l.heights l.row l.edge-index l.height
