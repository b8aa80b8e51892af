use Rattle.std.proofs.Common.{rules, to_z, of_z, w64}
use Rattle.sd_encoding.proofs.RankLemmas.{walk, rouse}
use Rattle.sd_encoding.proofs.ranks.ranked_duty.Goals as goal

pub returns-in-Walk : goal.returns-in-Walk
returns-in-Walk c =
    walk c.args.state.now c.args.duty c.in-Walk.lock c.in-Walk.seek c.in-Walk.key (to_z w64 (of_z w64 c.in-Walk.key)) c.rank_of.result (to_z w64 (of_z w64 c.rank_of.result)) c.in-Walk.is (search rules) c.rank_of.ensures (search rules)

pub returns-in-Rouse : goal.returns-in-Rouse
returns-in-Rouse c =
    rouse c.args.state.now c.args.duty c.in-Rouse.chan c.in-Rouse.below (to_z w64 (of_z w64 c.in-Rouse.below)) c.rank_of-in-Rouse.result (to_z w64 (of_z w64 c.rank_of-in-Rouse.result)) c.in-Rouse.is (search rules) c.rank_of-in-Rouse.ensures (search rules)
