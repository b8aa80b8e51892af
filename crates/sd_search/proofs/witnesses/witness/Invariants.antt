use Rattle.std.proofs.Common.{◌≡◌, ◌++◌, length, drop}
use Rattle.sd_machine.specs.Runs.{IsReached, round}
use Rattle.sd_state.specs.Opening.{opening}
use Rattle.sd_search.proofs.witnesses.witness.Given as goal

-- what was made, and what is left from here, are the whole
abbrev pub invariant-loop-c : goal.invariant-loop-c
invariant-loop-c l = record {
  reached : IsReached l.work (length l.entries.items) l.state;
  entries : l.entries.items ++ round l.work l.state (length l.entries.items) (drop l.c-index l.path) ≡ round l.work (opening l.work) 0 l.path;
}
