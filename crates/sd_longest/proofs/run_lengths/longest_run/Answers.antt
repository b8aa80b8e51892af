use Rattle.std.proofs.Common.{◌≡◌, ◌≤◌, ℕ, Bool, true, List, Option, Some, None, length, sym, ap, ◌∙◌, subst, inr, arith}
use Rattle.std.specs.Prelude.{IfSome, Vec, nat_le, slice_index}
use Rattle.std.proofs.lemmas.Bool.Decides.{nat_tests}
use Rattle.std.specs.declared.alloc.Global.{Global}
use Rattle.sd_types.specs.declared.numbers.ThreadId.{ThreadId}
use Rattle.sd_types.specs.declared.works.Work.{Work}
use Rattle.sd_search.specs.declared.graph.Graph.{Graph}
use Rattle.sd_search.specs.Graphs.{packed, steps_of}
use Rattle.sd_search.proofs.TellLemmas.{inside_at}
use Rattle.sd_longest.specs.declared.edges.Edge.{Edge}
use Rattle.sd_longest.specs.Edges.{rows_of}
use Rattle.sd_longest.specs.Tables.{AreRows}
use Rattle.sd_longest.proofs.RowLemmas.{lead_inside}
use Rattle.sd_longest.specs.Heights.{AreHeights, AreUntold}
use Rattle.sd_longest.specs.LongestRuns.{HasMost, IsLongestFound, IsLongestRun}
use Rattle.sd_longest.proofs.RunLemmas.{longest_of, untold_of}
use Rattle.sd_longest.proofs.run_lengths.longest_run.Goals as goal

pub heights-requires : goal.heights-requires
heights-requires c =
    let g = c.args.graph.now in
    let w = c.args.work.now in
    let bs = packed g in
    let t : ThreadId = record { 0 = 0 } in
    let are = subst (λ (rs : List (Vec Edge Global)). AreRows w bs t (length bs) (rows_of rs)) (sym c.deref.ensures.value) c.in_ok-rows.ensures in
    lead_inside w bs t (steps_of g) g.done c.requires (rows_of c.deref.result.now) are

pub first-requires : goal.first-requires
first-requires c =
    let g = c.args.graph.now in
    let bs = packed g in
    let rows = rows_of c.deref.result.now in
    let t : ThreadId = record { 0 = 0 } in
    let are = subst (λ (rs : List (Vec Edge Global)). AreRows c.args.work.now bs t (length bs) (rows_of rs)) (sym c.deref.ensures.value) c.in_ok-rows.ensures in
    let heights = subst (λ (o : Option (Vec ℕ Global)). IfSome o (λ hs. AreHeights rows hs.items)) c.in-Some.is c.in_ok-heights.ensures.heights in
    let some = inside_at bs 0 c.requires.start c.requires.start_at in
    let many = are.many in
    let as_many = heights.many in
    let same = ap (λ (hs : List ℕ). length hs) c.deref-in-Some.ensures.value in
    omega (arith, some, many, as_many, same)

-- what was searched
closed : (w : Work) (g : Graph) (o : Option ℕ) (b : Bool) → b ≡ nat_le (length (packed g)) g.done → b ≡ true → IsLongestRun w (length (packed g)) o → IsLongestFound w g o
closed w g o b same is longest = let all = sym same ∙ is in inr (let within : length (packed g) ≤ g.done = grind (arith, nat_tests) in within, longest)

pub returns-in-Some : goal.returns-in-Some
returns-in-Some c =
    let g = c.args.graph.now in
    let w = c.args.work.now in
    let bs = packed g in
    let t : ThreadId = record { 0 = 0 } in
    let rows = rows_of c.deref.result.now in
    let are = subst (λ (rs : List (Vec Edge Global)). AreRows w bs t (length bs) (rows_of rs)) (sym c.deref.ensures.value) c.in_ok-rows.ensures in
    let heights = subst (λ (o : Option (Vec ℕ Global)). IfSome o (λ hs. AreHeights rows hs.items)) c.in-Some.is c.in_ok-heights.ensures.heights in
    let same = c.first.ensures ∙ ap (λ (hs : List ℕ). slice_index hs 0) c.deref-in-Some.ensures.value in
    closed w g (Some c.first.result) c.is_closed.result c.is_closed.ensures c.if-not-is_closed.false (subst (λ k. HasMost w k) (sym same) (longest_of w bs (steps_of g) g.done c.requires t rows are c.in-Some.heights.items heights))

pub returns : goal.returns
returns c =
    let g = c.args.graph.now in
    let w = c.args.work.now in
    let bs = packed g in
    let t : ThreadId = record { 0 = 0 } in
    let rows = rows_of c.deref.result.now in
    let are = subst (λ (rs : List (Vec Edge Global)). AreRows w bs t (length bs) (rows_of rs)) (sym c.deref.ensures.value) c.in_ok-rows.ensures in
    let untold = subst (λ (o : Option (Vec ℕ Global)). AreUntold rows o) c.in-None.is c.in_ok-heights.ensures.untold in
    closed w g None c.is_closed.result c.is_closed.ensures c.if-not-is_closed.false (untold_of w bs (steps_of g) g.done c.requires t rows are untold)
