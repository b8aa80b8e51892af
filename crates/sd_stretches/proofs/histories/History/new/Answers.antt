use Rattle.std.proofs.Common.{◌∙◌}
use Rattle.sd_stretches.proofs.HistoryLemmas.{history_none}
use Rattle.sd_stretches.proofs.histories.History.new.Goals as goal

pub returns : goal.returns
returns c w start =
    let e = c.empty-history.ensures in
    let h = c.in_ok-see_all.ensures in
    history_none w c.args.s.now c.see_all.new.self start
    (rw (e.onsets, e.sights) at h.onsets) (rw (e.ranks, e.sights) at h.ranks) (rw (e.loads, e.sights) at h.loads)
    (rw h.hand_overs e.hand_overs) (rw h.wakeups e.wakeups) (rw h.happenings e.happenings) h.sights (h.entries ∙ e.entries)
