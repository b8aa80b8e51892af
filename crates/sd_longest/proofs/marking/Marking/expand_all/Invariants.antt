use Rattle.std.proofs.Common.{◌-◌, length}
use Rattle.sd_longest.specs.Edges.{rows_of}
use Rattle.sd_longest.specs.Marking.{IsMarking, Keeps}
use Rattle.sd_longest.proofs.marking.Marking.expand_all.Given as goal

abbrev pub invariant-states : goal.invariant-states
invariant-states l = record {
  marking : IsMarking (rows_of l.rows) l.tick l.self;
  kept : Keeps l.initial.self l.self;
}

abbrev pub decreases-states : goal.decreases-states
decreases-states l = length (rows_of l.rows) - l.self.done
