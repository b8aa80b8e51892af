use Rattle.std.proofs.Common.{◌≡◌, ◌++◌, length, drop}
use Rattle.sd_machine.specs.Runs.{round}
use Rattle.sd_state.specs.Opening.{opening}
use Rattle.sd_extremes.specs.WholeRuns.{LeadsTo}
use Rattle.sd_extremes.proofs.whole.whole_run.Given as goal

-- what was made, and what is left from here, are the whole
abbrev pub invariant-loop-c : goal.invariant-loop-c
invariant-loop-c l = record {
  leads : LeadsTo l.work l.entries.items l.state;
  entries : l.entries.items ++ round l.work l.state (length l.entries.items) (drop l.c-index l.path) ≡ round l.work (opening l.work) 0 l.path;
}
