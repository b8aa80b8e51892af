use Rattle.std.proofs.Common.{◌≡◌, suc, ◌+◌, ◌<◌, [], ◌∷◌, length, refl, sym, ap, ◌∙◌, subst, arith, List}
use Rattle.std.proofs.lemmas.List.{length-append, length-reverse}
use Rattle.std.specs.Prelude.{reverse}
use Rattle.sd_types.specs.declared.numbers.CpuId.{CpuId}
use Rattle.sd_search.specs.Spelled.{IsSpelled}
use Rattle.sd_search.specs.Graphs.{IsDeep, packed, steps_of}
use Rattle.sd_search.proofs.PathLemmas as P
use Rattle.sd_search.proofs.graph.Graph.path.Goals as goal

pub loop-at-init : goal.loop-at-init
loop-at-init c = record {
  inside = c.requires.inside;
  way = λ x at.
      let g = c.args.self.now in
      let e = c.new-cpus.ensures.items in
      subst (λ (cs : List CpuId). P.IsWay c.args.work.now (packed g) c.args.i (reverse cs) x) (sym e) (P.no_way c.args.work.now (packed g) c.args.i x at);
  deep = λ m is.
      let none = ap length c.new-cpus.ensures.items in
      subst (λ k. IsDeep (steps_of c.args.self.now) c.args.i k) (let q : m ≡ length c.new-cpus.result.items + m = omega (arith, none) in q) is;
}

pub loop-at-smaller : goal.loop-at-smaller
loop-at-smaller c =
    let g = c.args.self.now in
    let is = P.step_read c.args.work.now (packed g) (steps_of g) g.done c.requires.gathered c.loop-at.at c.index-step.result.now c.loop-at.invariant.inside c.index-step.ensures in
    P.before_less c.args.work.now (packed g) (steps_of g) g.done c.requires.gathered c.loop-at.at c.index-step.result.now c.loop-at-test.true is

pub loop-at-preserved : goal.loop-at-preserved
loop-at-preserved c =
    let g = c.args.self.now in
    let w = c.args.work.now in
    let step = c.index-step.result.now in
    let is = P.step_read w (packed g) (steps_of g) g.done c.requires.gathered c.loop-at.at step c.loop-at.invariant.inside c.index-step.ensures in
    let less : step.before < c.loop-at.at = P.before_less w (packed g) (steps_of g) g.done c.requires.gathered c.loop-at.at step c.loop-at-test.true is in
    let inside = c.loop-at.invariant.inside in
    record {
      inside = omega (arith, less, inside);
      way = λ x at.
          P.way_down w (packed g) (steps_of g) g.done c.requires.gathered c.loop-at.at step c.loop-at.cpus.items c.push.new.self.items (reverse c.push.new.self.items) x c.loop-at-test.true is c.in_ok-push.ensures.items refl
          (c.loop-at.invariant.way x at);
      deep = λ m back.
          let one = ap length c.in_ok-push.ensures.items ∙ length-append c.loop-at.cpus.items (step.cpu ∷ []) in
          subst (λ k. IsDeep (steps_of g) c.args.i k) (let q : length c.loop-at.cpus.items + suc m ≡ length c.push.new.self.items + m = omega (arith, one) in q)
          (c.loop-at.invariant.deep (suc m) (step, c.loop-at-test.true, is, back));
    }

pub returns-clause-deep : goal.returns-clause-deep
returns-clause-deep c =
    let g = c.args.self.now in
    let end : c.loop-at.at ≡ 0 = let none = c.loop-at-test.false in omega (arith, none) in
    let many = ap length c.reverse.ensures.items ∙ length-reverse c.loop-at.cpus.items in
    subst (λ k. IsDeep (steps_of g) c.args.i k) (let q : length c.loop-at.cpus.items + 0 ≡ length c.reverse.new.self.items = omega (arith, many) in q) (c.loop-at.invariant.deep 0 end)

pub returns-clause-spelled : goal.returns-clause-spelled
returns-clause-spelled c = λ x at.
    let g = c.args.self.now in
    let w = c.args.work.now in
    subst (λ (cs : List CpuId). IsSpelled w cs x) (sym c.reverse.ensures.items)
    (P.spelled_at w (packed g) (steps_of g) g.done c.requires.gathered c.loop-at.at (reverse c.loop-at.cpus.items) x c.loop-at-test.false (c.loop-at.invariant.way x at))
