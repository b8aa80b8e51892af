use Rattle.sd_stretches.proofs.RangeLemmas.{range_pushed}
use Rattle.sd_trace.specs.Tracks.{hold_track}
use Rattle.sd_trace.proofs.tracks.put_hold_tracks.Goals as goal

pub loop-lane-preserved : goal.loop-lane-preserved
loop-lane-preserved c = range_pushed (hold_track c.args.work.now c.args.t) c.loop-lane.lane _ _ _ c.loop-lane.invariant c.in_ok-put_hold_track.ensures
