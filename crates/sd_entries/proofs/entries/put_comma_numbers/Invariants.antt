use Rattle.std.proofs.Common.{◌≡◌, ◌+◌, ◌*◌, ◌≤◌, ◌∷◌, ◌++◌, take}
use Rattle.std.specs.Fmt.{decimal}
use Rattle.std.specs.List.{flat_map}
use Rattle.sd_entries.proofs.entries.put_comma_numbers.Given as goal

-- the numbers so far
abbrev pub invariant-loop-number : goal.invariant-loop-number
invariant-loop-number l = record {
  text : take l.end l.line ≡ take l.from l.initial.line ++ flat_map (λ n. 44 ∷ decimal n) (take l.number-index l.numbers);
  within : l.end ≤ l.from + 4 * l.number-index;
}
