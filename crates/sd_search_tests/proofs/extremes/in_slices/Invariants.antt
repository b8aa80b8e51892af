use Rattle.sd_search.specs.Graphs.{Gathers}
use Rattle.sd_search_tests.proofs.extremes.in_slices.Given as goal

abbrev pub invariant-loop-slice : goal.invariant-loop-slice
invariant-loop-slice l = Gathers l.work l.graph
