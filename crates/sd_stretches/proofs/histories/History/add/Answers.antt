use Rattle.std.proofs.Common.{◌≡◌, ◌++◌, List, refl, subst}
use Rattle.std.specs.Prelude.{option_to_list}
use Rattle.sd_stretches.specs.declared.sights.Sight.{Sight}
use Rattle.sd_stretches.specs.Glimpses.{hand_over_seen}
use Rattle.sd_stretches.proofs.GlimpseLemmas.{history_glimpsed}
use Rattle.sd_stretches.proofs.histories.History.add.Goals as goal

pub returns : goal.returns
returns c w es seen taken =
    let h = c.in_ok-see.ensures in
    let who = c.altered.ensures in
    let e = c.args.entry.now in
    let given = subst (λ (sights : List Sight). c.push_hand_over.new.out.items ≡ c.see.new.self.hand_overs.items ++ option_to_list (hand_over_seen sights c.args.glimpse.now e e.event))
    c.deref.ensures.value c.in_ok-push_hand_over.ensures in
    history_glimpsed w es e c.args.glimpse.now c.args.self.now _ seen taken
    (rw who at h.onsets) (rw who at h.ranks) (rw who at h.loads)
    (rw h.hand_overs at given) (rw h.wakeups at c.in_ok-push_wakeup.ensures) (rw h.happenings at c.in_ok-push_happening.ensures) (rw who at h.sights) refl
