use Rattle.std.proofs.Common.{◌≡◌, false, ◌<◌}
use Rattle.sd_types.specs.declared.numbers.CpuId.{CpuId}
use Rattle.sd_replay.specs.Entering.{can_enter}
use Rattle.sd_audit.proofs.complete.first_to_enter.Given as goal

-- no smaller processor has an entry
abbrev pub invariant-loop-c : goal.invariant-loop-c
invariant-loop-c l = (d : CpuId) → d.0 < l.c → can_enter l.work l.s d ≡ false
