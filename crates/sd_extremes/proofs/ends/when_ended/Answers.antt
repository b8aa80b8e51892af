use Rattle.std.proofs.Common.{length, Option, None, subst, arith}
use Rattle.sd_search.specs.Graphs.{packed, steps_of}
use Rattle.sd_search.proofs.FinalLemmas.{all_done}
use Rattle.sd_extremes.specs.declared.marks.Span.{Span}
use Rattle.sd_extremes.specs.Marks.{IsBelow, IsSpan, Spans}
use Rattle.sd_extremes.proofs.MarkLemmas.{all_between, never}
use Rattle.sd_extremes.proofs.ends.when_ended.Goals as goal

pub returns-in_ok-latest-in-Some-clause-when : goal.returns-in_ok-latest-in-Some-clause-when
returns-in_ok-latest-in-Some-clause-when c =
    let g = c.args.graph.now in
    let w = c.args.work.now in
    let bs = packed g in
    let t = c.args.thread in
    let s = c.in-Some.span in
    let all = all_done g c.is_closed.result c.is_closed.ensures c.if-not-is_closed.false in
    let span : IsSpan w bs t (IsBelow (length bs)) s = subst (λ (o : Option Span). Spans w bs t (IsBelow (length bs)) o) c.in-Some.is c.in_ok-span.ensures in
    let low = c.in_ok-earliest-in-Some.ensures.tick in
    let high = c.in_ok-latest-in-Some.ensures.tick in
    record {
      first = c.in_ok-earliest-in-Some.ensures.ending;
      last = c.in_ok-latest-in-Some.ensures.ending;
      between = λ es k run ends.
          let b = all_between w bs t (steps_of g) g.done c.requires.gathered s all span es k run ends in
          (let x = b.0 in omega (arith, x, low), let x = b.1 in omega (arith, x, high));
    }

pub returns-in-None-clause-when : goal.returns-in-None-clause-when
returns-in-None-clause-when c =
    let g = c.args.graph.now in
    let w = c.args.work.now in
    let bs = packed g in
    let t = c.args.thread in
    let all = all_done g c.is_closed.result c.is_closed.ensures c.if-not-is_closed.false in
    let none : Spans w bs t (IsBelow (length bs)) None = subst (λ (o : Option Span). Spans w bs t (IsBelow (length bs)) o) c.in-None.is c.in_ok-span.ensures in
    never w bs t (steps_of g) g.done c.requires.gathered all none
