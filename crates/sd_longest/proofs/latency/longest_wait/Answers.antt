use Rattle.std.proofs.Common.{length, List, Option, None, Some, sym, subst, arith}
use Rattle.std.specs.Prelude.{Vec}
use Rattle.std.specs.declared.alloc.Global.{Global}
use Rattle.sd_search.specs.Graphs.{packed, steps_of}
use Rattle.sd_search.proofs.FinalLemmas.{all_done}
use Rattle.sd_longest.specs.declared.edges.Edge.{Edge}
use Rattle.sd_longest.specs.declared.longest.Wait.{Wait}
use Rattle.sd_longest.specs.Edges.{IsLongest, rows_of}
use Rattle.sd_longest.specs.Tables.{AreRows}
use Rattle.sd_longest.proofs.RowLemmas.{lead_inside}
use Rattle.sd_longest.proofs.TraceLemmas.{walk_of}
use Rattle.sd_longest.proofs.latency.longest_wait.Goals as goal

pub longest_wait-requires : goal.longest_wait-requires
longest_wait-requires c =
    let g = c.args.graph.now in
    let w = c.args.work.now in
    let bs = packed g in
    let are = subst (λ (rs : List (Vec Edge Global)). AreRows w bs c.args.thread (length bs) (rows_of rs)) (sym c.deref.ensures.value) c.in_ok-rows.ensures in
    lead_inside w bs c.args.thread (steps_of g) g.done c.requires.gathered (rows_of c.deref.result.now) are

pub returns-in-Some-clause-longest : goal.returns-in-Some-clause-longest
returns-in-Some-clause-longest c =
    let g = c.args.graph.now in
    let w = c.args.work.now in
    let bs = packed g in
    let rows = rows_of c.deref.result.now in
    let all = all_done g c.is_closed.result c.is_closed.ensures c.if-not-is_closed.false in
    let are = subst (λ (rs : List (Vec Edge Global)). AreRows w bs c.args.thread (length bs) (rows_of rs)) (sym c.deref.ensures.value) c.in_ok-rows.ensures in
    let found : IsLongest rows (Some c.in-Some.wait) = subst (λ (o : Option Wait). IsLongest rows o) c.in-Some.is c.in_ok-wait.ensures in
    record {
      comes = c.in_ok-entries-in-Some.ensures;
      longest = λ fs n run wait.
          let h = walk_of w bs (steps_of g) g.done c.requires.gathered c.args.thread rows are all fs n run wait in
          let le = found.1 h.index h.opening h.between h.ending h.walk in
          let ticks = h.ticks in
          omega (arith, le, ticks);
    }

pub returns-clause-longest : goal.returns-clause-longest
returns-clause-longest c = λ fs n run wait.
    let g = c.args.graph.now in
    let w = c.args.work.now in
    let bs = packed g in
    let rows = rows_of c.deref.result.now in
    let all = all_done g c.is_closed.result c.is_closed.ensures c.if-not-is_closed.false in
    let are = subst (λ (rs : List (Vec Edge Global)). AreRows w bs c.args.thread (length bs) (rows_of rs)) (sym c.deref.ensures.value) c.in_ok-rows.ensures in
    let none : IsLongest rows None = subst (λ (o : Option Wait). IsLongest rows o) c.in-None.is c.in_ok-wait.ensures in
    let h = walk_of w bs (steps_of g) g.done c.requires.gathered c.args.thread rows are all fs n run wait in
    none h.index h.opening h.between h.ending h.walk
