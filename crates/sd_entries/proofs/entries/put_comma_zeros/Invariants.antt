use Rattle.std.proofs.Common.{◌≡◌, ◌+◌, ◌*◌, ◌∷◌, ◌++◌, take, replicate}
use Rattle.std.specs.Fmt.{decimal}
use Rattle.std.specs.List.{flat_map}
use Rattle.sd_entries.proofs.entries.put_comma_zeros.Given as goal

-- the zeros so far
abbrev pub invariant-loop : goal.invariant-loop
invariant-loop l = record {
  text : take l.end l.line ≡ take l.from l.initial.line ++ flat_map (λ n. 44 ∷ decimal n) (replicate l.counter 0);
  end : l.end ≡ l.from + 2 * l.counter;
}
