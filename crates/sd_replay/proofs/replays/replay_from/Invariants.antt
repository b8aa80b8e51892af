use Rattle.std.proofs.Common.{◌≡◌, take}
use Rattle.sd_machine.specs.Runs.{final, IsRunFrom}
use Rattle.sd_replay.proofs.replays.replay_from.Given as goal

abbrev pub invariant-loop-i : goal.invariant-loop-i
invariant-loop-i l = record {
  run : IsRunFrom l.work l.initial.s 0 (take l.i l.entries);
  state : l.s ≡ final l.work l.initial.s (take l.i l.entries);
}
