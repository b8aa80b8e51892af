use Rattle.std.proofs.Common.{◌≡◌, ◌++◌, take, map}
use Rattle.std.specs.List.{flat_map}
use Rattle.sd_machine.specs.Texts.{cycle_line}
use Rattle.sd_accounts.proofs.cycle_lines.put_cycle_lines.Given as goal

abbrev pub invariant-loop-threads : goal.invariant-loop-threads
invariant-loop-threads l = l.out.items ≡ l.initial.out.items ++ flat_map (cycle_line l.work l.s) (map (λ v. v.items) (take l.threads-index l.cycles))
