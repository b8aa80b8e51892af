use Rattle.std.proofs.Common.{◌≡◌, ◌-◌, ◌≤◌, ◌++◌, length, drop, map}
use Rattle.std.specs.List.{slice_split}
use Rattle.sd_entries.specs.Reading.{byte_in, is_comma}
use Rattle.sd_entry_reader.proofs.read.numbers_in.Given as goal

-- the numbers so far and those of what is left are all
abbrev pub invariant-loop-len : goal.invariant-loop-len
invariant-loop-len l = record {
  all : l.numbers.items ++ map byte_in (slice_split is_comma (drop l.from l.word)) ≡ map byte_in (slice_split is_comma l.word);
  inside : l.from ≤ length l.word;
}

abbrev pub decreases-loop-len : goal.decreases-loop-len
decreases-loop-len l = 64 - length l.numbers.items
