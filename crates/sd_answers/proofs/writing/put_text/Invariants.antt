use Rattle.std.proofs.Common.{◌≡◌, ◌++◌, ◌-◌, List, ℕ, length, drop, Ok}
use Rattle.sd_answers.specs.StreamChanges.{Puts}
use Rattle.sd_answers.proofs.writing.put_text.Given as goal

-- the lines so far were written, and the rest of the text is left
abbrev pub invariant-loop-from : goal.invariant-loop-from
invariant-loop-from g l =
    let contents = g.K.Sink.contents in
    let faults = g.K.Sink.fault_count in
    record {
      done : List ℕ;
      puts : Puts (contents l.initial.out) (contents l.out) (faults l.initial.out) (faults l.out) done (Ok tt);
      whole : done ++ drop l.from l.text ≡ l.text;
    }

abbrev pub decreases-loop-from : goal.decreases-loop-from
decreases-loop-from g l = length l.text - l.from
