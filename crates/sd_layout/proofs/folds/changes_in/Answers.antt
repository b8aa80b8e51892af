use Rattle.std.proofs.Common.{◌++◌, ap, ◌∙◌}
use Rattle.std.specs.List.{flat_map}
use Rattle.sd_layout.specs.Folds.{changed_in, changes_in, ranked_in, onset_in}
use Rattle.sd_layout.proofs.folds.changes_in.Goals as goal

pub returns : goal.returns
unfolding changes_in
returns c =
    let f = c.args.frame in
    let onsets = c.in_ok-push_onsets.ensures ∙ ap (λ xs. xs ++ flat_map (onset_in f) c.deref.result.now) c.new-changes.ensures.items ∙ ap (flat_map (onset_in f)) c.deref.ensures.value in
    let ranks = c.in_ok-push_ranks.ensures ∙ ap (λ xs. xs ++ flat_map (ranked_in f) c.deref-2.result.now) onsets
    ∙ ap (λ ys. flat_map (onset_in f) c.args.history.now.onsets.items ++ flat_map (ranked_in f) ys) c.deref-2.ensures.value in
    c.in_ok-push_happenings.ensures ∙ ap (λ xs. xs ++ flat_map (changed_in f) c.deref-3.result.now) ranks
    ∙ ap (λ ys. flat_map (onset_in f) c.args.history.now.onsets.items ++ flat_map (ranked_in f) c.args.history.now.ranks.items ++ flat_map (changed_in f) ys) c.deref-3.ensures.value
