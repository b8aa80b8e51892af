use Rattle.std.proofs.Common.{◌≡◌, ◌<◌, ℕ, List, Some}
use Rattle.std.specs.Prelude.{slice_get, slice_index}
use Rattle.sd_longest.specs.declared.edges.Edge.{Edge}
use Rattle.sd_longest.specs.Edges.{rows_of}
use Rattle.sd_longest.specs.Heights.{IsHeight}
use Rattle.sd_longest.proofs.heights.is_stable.Given as goal

-- the states before it have theirs
abbrev pub invariant-loop-i : goal.invariant-loop-i
invariant-loop-i l = (i : ℕ) (row : List Edge) → i < l.i → slice_get (rows_of l.rows) i ≡ Some row → IsHeight l.heights row (slice_index l.heights i)
