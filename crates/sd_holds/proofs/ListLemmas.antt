-- One entry or hold more.
use Rattle.std.proofs.Common.{◌≡◌, ℕ, ◌+◌, ◌-◌, ◌<◌, ◌≤◌, List, [], ◌∷◌, ◌++◌, length, drop, get_or, refl, ap, sym, ◌∙◌, arith}
use Rattle.std.specs.Prelude.{max}
use Rattle.std.proofs.Math.Seq.{drop-length}
use Rattle.std.proofs.lemmas.List.{at_drop_more}
use Rattle.sd_stretches.specs.declared.changes.Happening.{Happening}
use Rattle.sd_holds.specs.declared.holdings.Hold.{Hold}
use Rattle.sd_holds.specs.declared.banding.Band.{Band}
use Rattle.sd_holds.specs.Holds.{hold_if, holds, taken}
use Rattle.sd_holds.specs.Bands.{banded, lane_at, lanes_for, most_lanes, with_end}

pub holds_cons : (end : ℕ) (x : Happening) (xs : List Happening) → holds end (x ∷ xs) ≡ hold_if end x xs (taken x.event) ++ holds end xs
unfolding holds
holds_cons end x xs = refl

pub holds_none : (end : ℕ) → holds end [] ≡ []
unfolding holds
holds_none end = refl

pub banded_none : (ends : List ℕ) → banded ends [] ≡ []
unfolding banded
banded_none ends = refl

pub banded_cons : (ends : List ℕ) (x : Hold) (xs : List Hold)
    → banded ends (x ∷ xs) ≡ record { hold = x; lane = lane_at x.from ends } ∷ banded (with_end ends (lane_at x.from ends) x.to) xs
unfolding banded
banded_cons ends x xs = refl

-- Loops from the end of a list: one item more in front of what was looked at.

pub at_before : {X : Type 0} {Y : Type 0} (F : List X → Y) (xs : List X) (i : ℕ) (d : X) → 0 < i → i ≤ length xs
    → F (drop (i - 1) xs) ≡ F (get_or xs (i - 1) d ∷ drop i xs)
at_before F xs i d some within =
    let inside : i - 1 < length xs = omega (arith, some, within) in
    let back : i - 1 + 1 ≡ i = omega (arith, some) in
    at_drop_more F xs (i - 1) d inside ∙ ap (λ n. F (get_or xs (i - 1) d ∷ drop n xs)) back

pub lanes_none : (xs : List Band) → 0 ≡ most_lanes (drop (length xs) xs)
unfolding most_lanes
lanes_none xs = sym (ap most_lanes (drop-length xs))

pub lanes_more : (xs : List Band) (i : ℕ) (d : Band) → 0 < i → i ≤ length xs
    → most_lanes (drop (i - 1) xs) ≡ max (lanes_for (get_or xs (i - 1) d)) (most_lanes (drop i xs))
unfolding most_lanes
lanes_more xs i d some within = at_before most_lanes xs i d some within
