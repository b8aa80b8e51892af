use Rattle.std.proofs.Common.{take, Ok}
use Rattle.std.specs.List.{flat_map}
use Rattle.sd_accounts.specs.Counters.{HasTaken}
use Rattle.sd_machine.specs.Texts.{entry_text}
use Rattle.sd_answers.specs.StreamChanges.{Puts}
use Rattle.sd_program.proofs.writing.put_entries.Given as goal

abbrev pub invariant-loop-i : goal.invariant-loop-i
invariant-loop-i g l =
    let contents = g.K.Sink.contents in
    let faults = g.K.Sink.fault_count in
    Puts (contents l.initial.out) (contents l.out) (faults l.initial.out) (faults l.out) (flat_map (entry_text l.work) (take l.i l.entries.items)) (Ok tt)
    × HasTaken l.work (take l.i l.entries.items) l.accounts
