use Rattle.std.proofs.Common.{◌≡◌, ◌<◌, Option, None}
use Rattle.sd_types.specs.declared.numbers.CpuId.{CpuId}
use Rattle.sd_types.specs.declared.events.Hints.{Hints}
use Rattle.sd_machine.specs.Events.{next}
use Rattle.sd_search.proofs.judging.is_complete.Given as goal

abbrev pub invariant-loop-c : goal.invariant-loop-c
invariant-loop-c l = (d : CpuId) → d.0 < l.c → (hints : Option Hints) → next l.work l.state d hints ≡ None
