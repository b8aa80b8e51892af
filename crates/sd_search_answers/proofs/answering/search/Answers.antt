use Rattle.std.proofs.Common.{◌≡◌, ◌≤◌, ◌⊎◌, List, ℕ, suc, length, refl, sym, ap, ◌∙◌, inl, inr, arith}
use Rattle.sd_search.specs.Graphs.{packed}
use Rattle.sd_search_answers.proofs.WatchedLemmas.{noted_more, sliced, unfinished}
use Rattle.sd_search_answers.proofs.answering.search.Goals as goal

-- no more states than are allowed, or the first one alone, also behind a slice that found none
still_few : (most : ℕ) (before after : List (List ℕ)) → (length before ≤ most) ⊎ (length before ≡ 1) → (length after ≤ most) ⊎ (after ≡ before) → (length after ≤ most) ⊎ (length after ≡ 1)
still_few most before after so_far (inl few) = inl few
still_few most before after (inl few) (inr same) = inl (let many = ap length same in omega (arith, many, few))
still_few most before after (inr one) (inr same) = inr (ap length same ∙ one)

pub loop-init : goal.loop-init
loop-init g c = record {
  gathered = c.in_ok-graph.ensures.gathered;
  few = inr c.in_ok-graph.ensures.one;
  watched = (0, c.in_ok-graph.ensures.none, refl);
}

pub loop-preserved : goal.loop-preserved
loop-preserved g c =
    let so_far = c.loop.invariant.watched in
    let told = c.in_ok-report.ensures.told in
    let gathered = c.in_ok-explore_more.ensures.gathered in
    let ends = c.in_ok-explore_more.ensures.ends in
    let over = sym c.is_over.ensures ∙ c.if-is_over.false in
    let done = sliced _ _ _ _ _ so_far.1 ends over in
    record {
      gathered = gathered;
      few = still_few c.args.most (packed c.loop.graph) (packed c.explore_more.new.graph) c.loop.invariant.few c.in_ok-explore_more.ensures.few;
      watched = (
        suc so_far.0,
        done,
        noted_more g.W.Watch.noted c.args.work.now so_far.0 c.args.watch.now c.loop.watch c.report.new.watch c.explore_more.new.graph told.0 so_far.2 gathered done
            (unfinished _ _ _ _ _ so_far.1 ends over) told.1 told.2,
      );
    }
