-- Spinning: which ticks threads spend spinning for locks, and the stretches of a track cut at them.
-- Source: Solaris Internals (adaptive mutexes: a thread spins while the owner runs); the cut is this project's own.
use Rattle.std.specs.Prelude.{◌≡◌, ℕ, ◌+◌, ◌-◌, Bool, ◌&&◌, ◌==◌, nat_lt, max, min, List, [], ◌∷◌, ◌++◌, length, take, drop, take_while, flat_map, if◌then◌else◌}
use Rattle.sd_types.specs.declared.numbers.CpuId.{CpuId}
use Rattle.sd_types.specs.declared.numbers.ThreadId.{ThreadId}
use Rattle.sd_types.specs.declared.events.Event.{Event}
use Rattle.sd_types.specs.declared.events.Event.TheVariants.{Spin}
use Rattle.sd_stretches.specs.declared.sights.Doing.{Doing}
use Rattle.sd_stretches.specs.declared.sights.Doing.TheVariants.{Running, Spinning}
use Rattle.sd_stretches.specs.declared.changes.Happening.{Happening}
use Rattle.sd_stretches.specs.declared.histories.History.{History}
use Rattle.sd_stretches.specs.declared.rows.Stretch.{Stretch}
use Rattle.sd_stretches.specs.declared.spin_pieces.Spell.{Spell}
use Rattle.sd_stretches.specs.declared.spin_pieces.Track.{Track}
use Rattle.sd_stretches.specs.declared.spin_pieces.Track.TheVariants.{Cpu, Thread}
use Rattle.sd_stretches.specs.Rows.{slices, stretches}

-- an entry of this processor and thread is of the track
abbrev pub is_on : Track → CpuId → ThreadId → Bool
is_on (Cpu c) d t = d.0 == c
is_on (Thread u) d t = t.0 == u

-- the tick that the entry spends spinning
abbrev pub spell_by : Track → Happening → Event → List Spell
spell_by track x (Spin t l) =
    if is_on track x.cpu t then record { lock = l; first = x.entry; last = x.entry; from = x.tick - 1; to = x.tick } ∷ [] else []
spell_by track x _ = []

unfoldable pub spells_on : Track → List Happening → List Spell
spells_on track xs = flat_map (λ x. spell_by track x x.event) xs

-- the second follows the first in time, for the same lock
abbrev pub goes_on : Spell → Spell → Bool
goes_on x y = (x.lock.0 == y.lock.0) && (x.to == y.from)

abbrev pub extended : Spell → Spell → Spell
extended x y = record x { last = y.last; to = y.to }

-- those that follow one another as one
unfoldable pub spells_from : Spell → List Spell → List Spell
spells_from x [] = x ∷ []
spells_from x (y ∷ ys) = if goes_on x y then spells_from (extended x y) ys else x ∷ spells_from y ys

unfoldable pub spells_of : List Spell → List Spell
spells_of [] = []
spells_of (x ∷ xs) = spells_from x xs

-- how many belong to the stretch that entry `last` ends
abbrev pub spells_within : List Spell → ℕ → ℕ
spells_within xs last = length (take_while (λ s. nat_lt s.first last) xs)

-- what the thread does before a spell, where it takes a tick
abbrev pub before : Stretch → Spell → List Stretch
before x s = if nat_lt x.from s.from then record x { last = s.first - 1; to = s.from } ∷ [] else []

abbrev pub piece_start : Stretch → Spell → ℕ
piece_start x s = if nat_lt x.from s.from then s.first else x.first

-- the spell, as far as it is in the stretch
abbrev pub spun : CpuId → Stretch → Spell → Stretch
spun c x s =
    record x {
      first = piece_start x s;
      last = (if nat_lt s.to x.to then s.last else x.last);
      from = max x.from s.from;
      to = min s.to x.to;
      doing = Spinning c s.lock;
    }

-- what is left of the stretch behind it
abbrev pub rest_after : Stretch → Spell → Stretch
rest_after x s = record x { first = min (s.last + 1) 18446744073709551615; from = s.to }

-- A stretch of processor c, cut at spells: what lies between two entries at one tick belongs to the spell, so each piece takes
-- ticks.
unfoldable pub cut : CpuId → Stretch → List Spell → List Stretch
cut c x [] = x ∷ []
cut c x (s ∷ ss) = before x s ++ spun c x s ∷ (if nat_lt s.to x.to then cut c (rest_after x s) ss else [])

abbrev pub pieces_by : Doing → Stretch → List Spell → List Stretch
pieces_by (Running c) x spells = cut c x (spells_of spells)
pieces_by _ x spells = x ∷ []

abbrev pub pieces_of : Stretch → List Spell → List Stretch
pieces_of x spells = pieces_by x.doing x spells

-- all stretches, each cut at the spells in it
unfoldable pub cut_all : List Stretch → List Spell → List Stretch
cut_all [] spells = []
cut_all (x ∷ xs) spells =
    pieces_of x (take (spells_within spells x.last) spells) ++ cut_all xs (drop (spells_within spells x.last) spells)

abbrev pub track_stretches : Track → History → ℕ → List Stretch
track_stretches (Cpu c) h end = slices c h.onsets.items h.entries end
track_stretches (Thread t) h end = stretches t h.onsets.items h.entries end

-- the stretches of a thread, or the slices of a processor, cut at the ticks that are spent spinning
unfoldable pub pieces : Track → History → ℕ → List Stretch
pieces track h end = cut_all (track_stretches track h end) (spells_on track h.happenings.items)

-- from one tick to another, each begins where the one before it ends
abbrev pub Fills : ℕ → ℕ → List Stretch → Type 0
Fills from to [] = ⊥
Fills from to (p ∷ []) = (p.from ≡ from) × (p.to ≡ to)
Fills from to (p ∷ q ∷ ps) = (p.from ≡ from) × Fills p.to to (q ∷ ps)

abbrev pub PiecesFillStretches : Type 0
PiecesFillStretches = (x : Stretch) (spells : List Spell) → Fills x.from x.to (pieces_of x spells)
