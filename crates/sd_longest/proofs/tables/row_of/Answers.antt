use Rattle.std.proofs.Common.{◌≡◌, List, sym, subst, arith}
use Rattle.sd_longest.specs.declared.edges.Edge.{Edge}
use Rattle.sd_search.specs.Graphs.{packed}
use Rattle.sd_longest.specs.Tables.{HasTurns}
use Rattle.sd_longest.proofs.RowLemmas.{turned_more}
use Rattle.sd_longest.proofs.tables.row_of.Goals as goal

pub loop-c-preserved : goal.loop-c-preserved
loop-c-preserved c =
    let w = c.args.work.now in
    let bs = packed c.args.graph.now in
    turned_more w bs c.args.thread c.args.i c.in_ok-state.state c.in_ok-state.ensures (record { 0 = c.loop-c.c }) c.loop-c.row.items c.note.new.row.items c.in_ok-turn.turn c.in_ok-turn.ensures c.in_ok-note.ensures c.loop-c.invariant

pub returns : goal.returns
returns c =
    let w = c.args.work.now in
    let bs = packed c.args.graph.now in
    let t = c.args.thread in
    let i = c.args.i in
    let test = c.loop-c-test.false in
    let end = c.loop-c.auto.c-end in
    let all : c.loop-c.c ≡ w.cpus = omega (arith, test, end) in
    subst (λ (row : List Edge). HasTurns w bs t i w.cpus row) (sym c.shrink_to_fit.ensures.items) (subst (λ n. HasTurns w bs t i n c.loop-c.row.items) all c.loop-c.invariant)
