-- The lanes in which the holds of a thread are drawn: those that overlap stand below one another.
-- Source: this project's own.
use Rattle.std.specs.Prelude.{ℕ, ◌+◌, max, Bool, ◌&&◌, ◌==◌, nat_lt, List, [], ◌∷◌, ◌++◌, length, filter, slice_set, take_while, if◌then◌else◌}
use Rattle.sd_stretches.specs.declared.changes.Happening.{Happening}
use Rattle.sd_holds.specs.declared.holdings.Hold.{Hold}
use Rattle.sd_holds.specs.declared.banding.Band.{Band}
use Rattle.sd_holds.specs.Holds.{holds}

-- some of it lies in the ticks from `from` to `to`
abbrev pub lies_between : ℕ → ℕ → Hold → Bool
lies_between from to x = nat_lt x.from x.to && (nat_lt x.from to && nat_lt from x.to)

-- those of the holds that these entries begin, of a run that ended at tick `end`
unfoldable pub holds_between : ℕ → ℕ → ℕ → List Happening → List Hold
holds_between end from to xs = filter (lies_between from to) (holds end xs)

-- of thread t, and some of it lies in these ticks
abbrev pub lies_in : ℕ → ℕ → ℕ → Hold → Bool
lies_in t from to x = x.thread.0 == t && lies_between from to x

abbrev pub holds_in : ℕ → ℕ → ℕ → List Hold → List Hold
holds_in t from to xs = filter (lies_in t from to) xs

-- the first lane whose last hold has ended at this tick, where these are the ends of the last holds of the lanes
abbrev pub lane_at : ℕ → List ℕ → ℕ
lane_at tick ends = length (take_while (λ end. nat_lt tick end) ends)

-- a lane is used up to this tick
abbrev pub with_end : List ℕ → ℕ → ℕ → List ℕ
with_end ends lane end = if nat_lt lane (length ends) then slice_set ends lane end else ends ++ end ∷ []

-- each goes to the first lane that is free
unfoldable pub banded : List ℕ → List Hold → List Band
banded ends [] = []
banded ends (x ∷ xs) = record { hold = x; lane = lane_at x.from ends } ∷ banded (with_end ends (lane_at x.from ends) x.to) xs

-- those of thread t that lie in these ticks
unfoldable pub bands : ℕ → ℕ → ℕ → List Hold → List Band
bands t from to xs = banded [] (holds_in t from to xs)

-- so many lanes make room for a band; a thread holds eight locks at most
abbrev pub lanes_for : Band → ℕ
lanes_for b = if nat_lt b.lane 7 then b.lane + 1 else 8

-- and for all of these
unfoldable pub most_lanes : List Band → ℕ
most_lanes [] = 0
most_lanes (b ∷ bs) = max (lanes_for b) (most_lanes bs)
