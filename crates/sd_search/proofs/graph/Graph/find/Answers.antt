use Rattle.std.proofs.Common.{◌≡◌, ◌<◌, ◌≤◌, true, false, length, sym, ◌∙◌, arith}
use Rattle.std.specs.Prelude.{nat_le}
use Rattle.std.proofs.lemmas.Bool.Decides.{nat_tests}
use Rattle.sd_search.specs.Graphs.{packed, steps_of}
use Rattle.sd_search.proofs.FinalLemmas as F
use Rattle.sd_search.proofs.graph.Graph.find.Goals as goal

pub is_asked-requires-clause-inside : goal.is_asked-requires-clause-inside
is_asked-requires-clause-inside c = F.inside_there c.args.work.now (packed c.args.self.now) c.args.finals.now c.requires.finals c.loop-i.i-index c.loop-i-test.true

pub returns-then-branch-clause-answer : goal.returns-then-branch-clause-answer
returns-then-branch-clause-answer c =
    let e = F.ends_there c.args.work.now (packed c.args.self.now) c.args.finals.now c.requires.finals c.loop-i.i-index c.loop-i-test.true in
    (e.state, e.at, record { complete = e.complete; part = (c.in_ok-is_asked.ensures e.state e.at).0 c.if-branch.true })

pub returns-then-branch-clause-first : goal.returns-then-branch-clause-first
returns-then-branch-clause-first c = F.none_before c.args.work.now (packed c.args.self.now) c.args.finals.now c.requires.finals c.args.question c.loop-i.i-index c.loop-i-test.true c.loop-i.invariant

pub loop-i-preserved : goal.loop-i-preserved
loop-i-preserved c =
    F.none_more c.args.work.now (packed c.args.self.now) c.args.finals.now c.requires.finals c.args.question c.loop-i.i-index c.in_ok-is_asked.field-0 c.if-branch.false c.loop-i-test.true c.in_ok-is_asked.ensures c.loop-i.invariant

pub returns-then-is_closed-clause-answer : goal.returns-then-is_closed-clause-answer
returns-then-is_closed-clause-answer c =
    let g = c.args.self.now in
    let w = c.args.work.now in
    let test : nat_le (length (packed g)) g.done ≡ true = sym c.is_closed.ensures ∙ c.if-is_closed.true in
    let all : length (packed g) ≤ g.done = grind (arith, nat_tests, test) in
    F.never w (packed g) (steps_of g) g.done c.requires.gathered c.args.question all
    (F.none_meets w (packed g) c.args.finals.now c.requires.finals c.args.question c.loop-i.i-index c.loop-i-test.false c.loop-i.invariant)

pub returns-else-is_closed-clause-answer : goal.returns-else-is_closed-clause-answer
returns-else-is_closed-clause-answer c =
    F.none_meets c.args.work.now (packed c.args.self.now) c.args.finals.now c.requires.finals c.args.question c.loop-i.i-index c.loop-i-test.false c.loop-i.invariant

pub returns-else-is_closed-clause-open : goal.returns-else-is_closed-clause-open
returns-else-is_closed-clause-open c =
    let g = c.args.self.now in
    let test : nat_le (length (packed g)) g.done ≡ false = sym c.is_closed.ensures ∙ c.if-is_closed.false in
    let less : g.done < length (packed g) = grind (arith, nat_tests, test) in
    less
