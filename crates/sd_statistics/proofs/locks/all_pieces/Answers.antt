use Rattle.std.proofs.Common.{ℕ, List, ◌++◌, sym, ap, ◌∙◌}
use Rattle.sd_basics.proofs.Ranges.{flat_range_more}
use Rattle.sd_stretches.specs.declared.rows.Stretch.{Stretch}
use Rattle.sd_stretches.specs.declared.spin_pieces.Track.TheVariants as track
use Rattle.sd_stretches.specs.SpinPieces.{pieces}
use Rattle.sd_statistics.proofs.locks.all_pieces.Goals as goal

pub loop-t-preserved : goal.loop-t-preserved
loop-t-preserved c =
    let part : ℕ → List Stretch = λ t. pieces (track.Thread t) c.args.history.now c.args.work.now.limit in
    c.in_ok-push_pieces.ensures ∙ ap (λ all. all ++ part c.loop-t.t) c.loop-t.invariant ∙ sym (flat_range_more part c.loop-t.t)
