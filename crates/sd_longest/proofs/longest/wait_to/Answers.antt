use Rattle.std.proofs.Common.{[], ◌∷◌, ◌++◌, List, ap, refl, ◌∙◌}
use Rattle.sd_types.specs.declared.numbers.CpuId.{CpuId}
use Rattle.sd_longest.specs.Edges.{rows_of}
use Rattle.sd_longest.proofs.WalkLemmas as W
use Rattle.sd_longest.proofs.longest.wait_to.Goals as goal

pub loop-label-init : goal.loop-label-init
loop-label-init c =
    let end = c.args.end in
    let one = c.in_ok-push.ensures.items ∙ ap (λ (xs : List CpuId). xs ++ end.cpu ∷ []) c.new-cpus.ensures.items in
    record { index = end.state; tail = W.tail_first (rows_of c.args.rows.now) c.args.labels.now end c.label_at-label.result c.push.new.self.items c.requires.candidate c.label_at-label.ensures one }

pub label_at-label-requires-in-loop-label : goal.label_at-label-requires-in-loop-label
label_at-label-requires-in-loop-label c =
    let way = c.loop-label.invariant in
    W.before_there (rows_of c.args.rows.now) c.args.labels.now c.requires.labelling way.index c.loop-label.label way.tail.labelled c.loop-label-test.true

pub loop-label-smaller : goal.loop-label-smaller
loop-label-smaller c =
    let way = c.loop-label.invariant in
    W.fewer_steps (rows_of c.args.rows.now) c.args.labels.now c.requires.labelling way.index c.loop-label.label c.label_at-label-in-loop-label.result way.tail.labelled c.loop-label-test.true c.label_at-label-in-loop-label.ensures

pub loop-label-preserved : goal.loop-label-preserved
loop-label-preserved c =
    let way = c.loop-label.invariant in
    let l = c.loop-label.label in
    record {
      index = l.before;
      tail = W.tail_further (rows_of c.args.rows.now) c.args.labels.now c.requires.labelling way.index l c.label_at-label-in-loop-label.result c.loop-label.cpus.items c.push-in-loop-label.new.self.items c.args.end.ticks c.loop-label-test.true
          c.label_at-label-in-loop-label.ensures c.in_ok-push-2.ensures.items way.tail;
    }

pub returns-clause-found : goal.returns-clause-found
returns-clause-found c =
    let way = c.loop-label.invariant in
    W.whole (rows_of c.args.rows.now) c.args.labels.now c.requires.labelling way.index c.loop-label.label c.loop-label.cpus.items c.push-2.new.self.items (record { ticks = c.args.end.ticks; from = c.loop-label.label.before; cpus = c.reverse.new.self })
    c.loop-label-test.false c.in_ok-push-3.ensures.items c.reverse.ensures.items refl way.tail
