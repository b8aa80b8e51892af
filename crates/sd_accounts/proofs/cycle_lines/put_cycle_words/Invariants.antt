use Rattle.std.proofs.Common.{◌≡◌, ◌++◌, take}
use Rattle.std.specs.List.{flat_map}
use Rattle.sd_machine.specs.Texts.{cycle_word}
use Rattle.sd_accounts.proofs.cycle_lines.put_cycle_words.Given as goal

abbrev pub invariant-loop-t : goal.invariant-loop-t
invariant-loop-t l = l.out.items ≡ l.initial.out.items ++ flat_map (cycle_word l.work l.s) (take l.t-index l.threads)
