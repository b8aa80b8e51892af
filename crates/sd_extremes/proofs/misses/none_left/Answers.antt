use Rattle.std.proofs.Common.{◌≡◌, ◌<◌, ◌≤◌, true, false, length, sym, ◌∙◌, arith}
use Rattle.std.specs.Prelude.{nat_le}
use Rattle.std.proofs.lemmas.Bool.Decides.{nat_tests}
use Rattle.sd_search.specs.Graphs.{packed, steps_of}
use Rattle.sd_extremes.proofs.MissLemmas.{never_missed}
use Rattle.sd_extremes.proofs.misses.none_left.Goals as goal

pub returns-then-is_closed-clause-missed : goal.returns-then-is_closed-clause-missed
returns-then-is_closed-clause-missed c =
    let g = c.args.graph.now in
    let test : nat_le (length (packed g)) g.done ≡ true = sym c.is_closed.ensures ∙ c.if-is_closed.true in
    let all : length (packed g) ≤ g.done = grind (arith, nat_tests, test) in
    never_missed c.args._work.now (packed g) c.args._thread (steps_of g) g.done c.requires.gathered all c.requires.none

pub returns-else-is_closed-clause-open : goal.returns-else-is_closed-clause-open
returns-else-is_closed-clause-open c =
    let g = c.args.graph.now in
    let test : nat_le (length (packed g)) g.done ≡ false = sym c.is_closed.ensures ∙ c.if-is_closed.false in
    let less : g.done < length (packed g) = grind (arith, nat_tests, test) in
    less
