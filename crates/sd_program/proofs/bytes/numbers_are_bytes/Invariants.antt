use Rattle.std.proofs.Common.{◌≡◌, true, take}
use Rattle.std.specs.List.{list_all}
use Rattle.sd_types.specs.declared.events.Entry.{Entry}
use Rattle.sd_entries.specs.Fitting.{hints_in_range}
use Rattle.sd_program.proofs.bytes.numbers_are_bytes.Given as goal

abbrev pub invariant-loop-i : goal.invariant-loop-i
invariant-loop-i l = list_all (λ (e : Entry). hints_in_range e.hints) (take l.i l.entries.items) ≡ true
