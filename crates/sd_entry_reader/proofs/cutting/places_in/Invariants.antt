use Rattle.std.proofs.Common.{◌≡◌, ◌-◌, ◌++◌, length, drop}
use Rattle.sd_text.specs.Words.{words_of}
use Rattle.sd_entry_reader.specs.Cutting.{AreWithin, words_at}
use Rattle.sd_entry_reader.proofs.cutting.places_in.Given as goal

-- the words so far and those of what is left are all
abbrev pub invariant-loop-from : goal.invariant-loop-from
invariant-loop-from l = record {
  within : AreWithin l.line l.places.items;
  words : words_at l.line l.places.items ++ words_of (drop l.from l.line) ≡ words_of l.line;
}

abbrev pub decreases-loop-from : goal.decreases-loop-from
decreases-loop-from l = 11 - length l.places.items
