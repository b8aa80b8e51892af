use Rattle.sd_extremes.specs.WholeRuns.{BeginsWith, LeadsTo}
use Rattle.sd_extremes.proofs.whole.finish.Given as goal

abbrev pub invariant-loop-n : goal.invariant-loop-n
invariant-loop-n l = record {
  leads : LeadsTo l.work l.entries.items l.state;
  begins : BeginsWith l.entries.items l.initial.entries.items;
}
