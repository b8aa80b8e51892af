use Rattle.std.proofs.Common.{◌≡◌, ◌∷◌, ◌++◌, append_assoc, refl, ap, sym, ◌∙◌}
use Rattle.sd_stretches.proofs.RowLemmas.{found_all}
use Rattle.sd_layout.specs.Folds.{fold_if, folds_from}
use Rattle.sd_layout.proofs.folds.folds_from.Goals as goal

pub loop-b-preserved : goal.loop-b-preserved
unfolding folds_from
loop-b-preserved c =
    let a = c.loop-b.a in
    let b = c.in-Some.b.now in
    let more = c.in-Some.more.now in
    let now : c.loop-b.left.now ≡ b ∷ more = (rw c.in-Some.is at c.split_first.ensures.cases).0 in
    ap (λ xs. xs ++ folds_from b more) c.in_ok-push_fold.ensures
    ∙ append_assoc c.loop-b.found.items (fold_if a b) (folds_from b more)
    ∙ ap (λ xs. c.loop-b.found.items ++ xs) (ap (folds_from a) (sym now))
    ∙ c.loop-b.invariant

pub returns : goal.returns
unfolding folds_from
returns c = found_all (folds_from c.loop-b.a) c.loop-b.left.now c.loop-b.found.items _ refl c.in_default.ensures.cases c.loop-b.invariant
