use Rattle.std.proofs.Common.{◌≡◌, ℕ, List, ◌∷◌, ◌++◌, [], append_assoc, ap, sym, ◌∙◌}
use Rattle.sd_stretches.proofs.RowLemmas.{found_all}
use Rattle.sd_holds.specs.declared.banding.Band.{Band}
use Rattle.sd_holds.specs.declared.holdings.Hold.{Hold}
use Rattle.sd_holds.specs.Bands.{banded, lane_at, with_end}
use Rattle.sd_holds.proofs.ListLemmas.{banded_cons, banded_none}
use Rattle.sd_holds.proofs.banding.banded.Goals as goal

pub loop-x-preserved : goal.loop-x-preserved
loop-x-preserved c =
    let x : Hold = c.in-Some.x.now in
    let rest : List Hold = c.in-Some.rest.now in
    let ends : List ℕ = c.loop-x.ends.items in
    let more : List ℕ = c.use_lane.new.ends.items in
    let b : Band = record { hold = x; lane = c.lane_at-lane.result } in
    let lane : c.lane_at-lane.result ≡ lane_at x.from ends = c.lane_at-lane.ensures.value ∙ ap (lane_at x.from) c.deref.ensures.value in
    let now : c.loop-x.left.now ≡ x ∷ rest = (rw c.in-Some.is at c.split_first.ensures.cases).0 in
    let step : b ∷ banded more rest ≡ banded ends c.loop-x.left.now
    = ap (λ es. b ∷ banded es rest) c.in_ok-use_lane.ensures
    ∙ ap (λ n. record { hold = x; lane = n } ∷ banded (with_end ends n x.to) rest) lane
    ∙ sym (banded_cons ends x rest) ∙ ap (banded ends) (sym now) in
    ap (λ (bs : List Band). bs ++ banded more rest) c.in_ok-push.ensures.items
    ∙ append_assoc c.loop-x.found.items (b ∷ []) (banded more rest) ∙ ap (λ (bs : List Band). c.loop-x.found.items ++ bs) step ∙ c.loop-x.invariant

pub returns : goal.returns
returns c = found_all (banded c.loop-x.ends.items) c.loop-x.left.now c.loop-x.found.items _ (banded_none c.loop-x.ends.items) c.in_default.ensures.cases c.loop-x.invariant
