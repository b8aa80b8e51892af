use Rattle.std.proofs.Common.{◌≡◌, drop}
use Rattle.std.specs.Prelude.{nat_eq}
use Rattle.sd_types.specs.Works.{is_distinct}
use Rattle.sd_declare.proofs.sets.are_distinct.Given as goal

-- none of those that were passed is repeated
abbrev pub invariant-loop-i : goal.invariant-loop-i
invariant-loop-i l = is_distinct (λ a b. nat_eq a b) (drop l.i l.cpus) ≡ is_distinct (λ a b. nat_eq a b) l.cpus
