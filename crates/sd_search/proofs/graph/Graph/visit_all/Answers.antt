use Rattle.std.proofs.Common.{◌≡◌, ℕ, ◌+◌, ◌<◌, ◌≤◌, subst, arith, inl, inr, ◌⊎◌}
use Rattle.std.proofs.lemmas.Bool.{cases_lt}
use Rattle.std.proofs.lemmas.List.{length-map}
use Rattle.sd_types.specs.declared.numbers.CpuId.{CpuId}
use Rattle.sd_search.specs.Graphs.{IsTurned, packed}
use Rattle.sd_search.proofs.GrowLemmas.{grown_twice, turned_kept}
use Rattle.sd_search.proofs.TurnLemmas.{none_beyond}
use Rattle.sd_search.proofs.graph.Graph.visit_all.Goals as goal

pub loop-c-preserved : goal.loop-c-preserved
loop-c-preserved c = record {
  grown = grown_twice c.args.work.now c.args.self.now c.loop-c.self c.visit.new.self c.loop-c.invariant.grown c.in_ok-visit.ensures.grown;
  few = let room = c.if-len-most.false in let len = c.len.ensures.len in let one = c.in_ok-visit.ensures.few in let many = length-map c.loop-c.self.states.keys (λ v. v.items) in omega (arith, room, len, one, many);
  turned = λ d few. by d few (cases_lt d.0 c.loop-c.c);
}
  where
    by : (d : CpuId) → d.0 < c.loop-c.c + 1 → (d.0 < c.loop-c.c) ⊎ (c.loop-c.c ≤ d.0) → IsTurned c.args.work.now (packed c.visit.new.self) c.args.state.now d
    by d few (inl less) = turned_kept c.args.work.now (packed c.loop-c.self) (packed c.visit.new.self) c.in_ok-visit.ensures.grown.kept c.args.state.now d (c.loop-c.invariant.turned d less)
    by d few (inr more) =
        let same : c.loop-c.c ≡ d.0 = omega (arith, few, more) in
        subst (λ (n : ℕ). IsTurned c.args.work.now (packed c.visit.new.self) c.args.state.now (record { 0 = n })) same c.in_ok-visit.ensures.turned

pub returns-clause-turned : goal.returns-clause-turned
returns-clause-turned c = λ d. by d (cases_lt d.0 c.args.work.now.cpus)
  where
    by : (d : CpuId) → (d.0 < c.args.work.now.cpus) ⊎ (c.args.work.now.cpus ≤ d.0) → IsTurned c.args.work.now (packed c.loop-c.self) c.args.state.now d
    by d (inl less) = c.loop-c.invariant.turned d (let past = c.loop-c-test.false in omega (arith, past, less))
    by d (inr more) = none_beyond c.args.work.now (packed c.loop-c.self) c.args.state.now d more
