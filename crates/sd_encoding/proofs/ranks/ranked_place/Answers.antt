use Rattle.std.proofs.Common.{rules, to_z, of_z, w64}
use Rattle.sd_encoding.proofs.RankLemmas.{queued, real_time, waiting, asleep}
use Rattle.sd_encoding.proofs.ranks.ranked_place.Goals as goal

pub returns-in-Queued : goal.returns-in-Queued
returns-in-Queued c =
    queued c.args.state.now c.args.place c.in-Queued.cpu c.in-Queued.key (to_z w64 (of_z w64 c.in-Queued.key)) c.rank_of.result (to_z w64 (of_z w64 c.rank_of.result)) c.in-Queued.is (search rules) c.rank_of.ensures (search rules)

pub returns-in-RealTime : goal.returns-in-RealTime
returns-in-RealTime c =
    real_time c.args.state.now c.args.place c.in-RealTime.set c.in-RealTime.key (to_z w64 (of_z w64 c.in-RealTime.key)) c.rank_of-in-RealTime.result (to_z w64 (of_z w64 c.rank_of-in-RealTime.result)) c.in-RealTime.is (search rules) c.rank_of-in-RealTime.ensures (search rules)

pub returns-in-Waiting : goal.returns-in-Waiting
returns-in-Waiting c =
    waiting c.args.state.now c.args.place c.in-Waiting.lock c.in-Waiting.side c.in-Waiting.key (to_z w64 (of_z w64 c.in-Waiting.key)) c.rank_of-in-Waiting.result (to_z w64 (of_z w64 c.rank_of-in-Waiting.result)) c.in-Waiting.is (search rules) c.rank_of-in-Waiting.ensures (search rules)

pub returns-in-Asleep : goal.returns-in-Asleep
returns-in-Asleep c =
    asleep c.args.state.now c.args.place c.in-Asleep.chan c.in-Asleep.key (to_z w64 (of_z w64 c.in-Asleep.key)) c.rank_of-in-Asleep.result (to_z w64 (of_z w64 c.rank_of-in-Asleep.result)) c.in-Asleep.is (search rules) c.rank_of-in-Asleep.ensures (search rules)
