-- Which ticks a picture leaves out where it would be too wide: they are folded, since nothing changes in them.
-- Source: this project's own.
use Rattle.std.specs.Prelude.{◌≡◌, ℕ, Bool, true, ◌+◌, ◌-◌, ◌*◌, ◌<◌, ◌&&◌, ◌||◌, ◌==◌, nat_le, nat_lt, min, List, [], ◌∷◌, ◌++◌, length, map, filter, if◌then◌else◌}
use Rattle.std.specs.List.{All, flat_map, list_any, range_with_len}
use Rattle.sd_types.specs.declared.events.Event.{Event}
use Rattle.sd_types.specs.declared.events.Event.TheVariants.{Tick, Spin, Idle}
use Rattle.sd_stretches.specs.declared.changes.Happening.{Happening}
use Rattle.sd_stretches.specs.declared.changes.Rank.{Rank}
use Rattle.sd_stretches.specs.declared.changes.Onset.{Onset}
use Rattle.sd_stretches.specs.declared.histories.History.{History}
use Rattle.sd_layout.specs.declared.folds.Column.{Column}
use Rattle.sd_layout.specs.declared.frames.Frame.{Frame}

-- ---- where something changes

abbrev pub change_if : Frame → ℕ → List ℕ
change_if f tick = if nat_le f.from tick && nat_le tick f.to then tick ∷ [] else []

abbrev pub onset_in : Frame → Onset → List ℕ
onset_in f x = change_if f x.tick

abbrev pub ranked_in : Frame → Rank → List ℕ
ranked_in f x = change_if f x.tick

-- a tick of a thread that runs, or of a processor with none, changes nothing; one that a thread spins begins and ends
abbrev pub changed_by : Frame → Happening → Event → List ℕ
changed_by f x (Tick t) = []
changed_by f x Idle = []
changed_by f x (Spin t l) = change_if f (x.tick - 1) ++ change_if f x.tick
changed_by f x _ = change_if f x.tick

abbrev pub changed_in : Frame → Happening → List ℕ
changed_in f x = changed_by f x x.event

-- at which of the ticks that were asked for what a thread does changes, or its priority, or anything else by an entry
unfoldable pub changes_in : Frame → History → List ℕ
changes_in f h =
    flat_map (onset_in f) h.onsets.items ++ flat_map (ranked_in f) h.ranks.items ++ flat_map (changed_in f) h.happenings.items

abbrev pub is_change : List ℕ → ℕ → Bool
is_change changes tick = list_any (λ c. c == tick) changes

-- the first tick that was asked for, those at which something changes, and the last
abbrev pub stop_at : Frame → List ℕ → ℕ → List ℕ
stop_at f changes tick = if tick == f.from || is_change changes tick then tick ∷ [] else []

unfoldable pub stops_of : Frame → List ℕ → List ℕ
stops_of f changes = flat_map (λ n. stop_at f changes (f.from + n)) (range_with_len 0 (f.to - f.from)) ++ f.to ∷ []

-- ---- columns

-- how many ticks a column has, and which
abbrev pub many : Column → ℕ
many x = x.to - x.from

abbrev pub ticks_of : Column → List ℕ
ticks_of x = range_with_len x.from (many x)

abbrev pub single : ℕ → Column
single tick = record { from = tick; to = tick + 1 }

abbrev pub one_by_one : ℕ → ℕ → List Column
one_by_one from n = map single (range_with_len from n)

-- what is folded where nothing changes from a to b: all but eight ticks on either side
abbrev pub fold_of : ℕ → ℕ → Column
fold_of a b = record { from = a + 8; to = b - 8 }

-- there is enough to fold
abbrev pub is_gap : ℕ → ℕ → Bool
is_gap a b = nat_lt 48 (b - a)

abbrev pub part : ℕ → ℕ → List Column
part a b = if is_gap a b then one_by_one a 8 ++ fold_of a b ∷ one_by_one (b - 8) 8 else one_by_one a (b - a)

unfoldable pub columns_from : ℕ → List ℕ → List Column
columns_from a [] = []
columns_from a (b ∷ bs) = part a b ++ columns_from b bs

abbrev pub columns_of : List ℕ → List Column
columns_of [] = []
columns_of (a ∷ bs) = columns_from a bs

abbrev pub fold_if : ℕ → ℕ → List Column
fold_if a b = if is_gap a b then fold_of a b ∷ [] else []

unfoldable pub folds_from : ℕ → List ℕ → List Column
folds_from a [] = []
folds_from a (b ∷ bs) = fold_if a b ++ folds_from b bs

unfoldable pub folds_of : List ℕ → List Column
folds_of [] = []
folds_of (a ∷ bs) = folds_from a bs

-- a picture of more ticks would be wider than 1,040 pixels, at one a tick
abbrev pub is_wide : Frame → Bool
is_wide f = nat_lt 760 (f.to - f.from)

-- a thousand folds at most
abbrev pub are_few : List Column → Bool
are_few xs = nat_le (length xs) 1000

abbrev pub few_of : List Column → List Column
few_of xs = if are_few xs then xs else []

-- the columns that are folded
unfoldable pub folds : Frame → History → List Column
folds f h = if is_wide f then few_of (folds_of (stops_of f (changes_in f h))) else []

abbrev pub columns_if : Frame → List ℕ → List Column
columns_if f stops = if are_few (folds_of stops) then columns_of stops else one_by_one f.from (f.to - f.from)

-- all columns: each is of one tick, or folded
unfoldable pub columns : Frame → History → List Column
columns f h = if is_wide f then columns_if f (stops_of f (changes_in f h)) else one_by_one f.from (f.to - f.from)

-- ---- where ticks lie

-- so many ticks as a length
abbrev pub long : ℕ → ℕ → ℕ → ℕ
long scale a b = (b - a) * scale

-- how far a tick lies behind another, with the folds that begin behind that: each is 40 pixels wide
unfoldable pub place_from : ℕ → ℕ → ℕ → List Column → ℕ
place_from scale start tick [] = long scale start tick
place_from scale start tick (x ∷ xs) =
    if nat_lt tick x.to then long scale start (min tick x.from) else long scale start x.from + 40 + place_from scale x.to tick xs

-- so many pixels a tick are not too many
abbrev pub fits_page : Frame → List Column → ℕ → Bool
fits_page f xs scale = nat_le (place_from scale f.from f.to xs) 760

-- the first of these scales that fits, and one pixel a tick where none does
unfoldable pub first_fit : Frame → List Column → List ℕ → ℕ
first_fit f xs [] = 1
first_fit f xs (s ∷ ss) = if fits_page f xs s then s else first_fit f xs ss

abbrev pub scales : List ℕ
scales = 100 ∷ 80 ∷ 60 ∷ 50 ∷ 40 ∷ 35 ∷ 30 ∷ 25 ∷ 20 ∷ 18 ∷ 15 ∷ 12 ∷ 10 ∷ 8 ∷ 7 ∷ 6 ∷ 5 ∷ 4 ∷ 3 ∷ 2 ∷ []

-- how many pixels a tick is long: the widest scale that fits
unfoldable pub scale_of : Frame → List Column → ℕ
scale_of f xs = first_fit f xs scales

-- ---- laws

abbrev pub is_fold : Column → Bool
is_fold x = nat_lt 1 (many x)

-- each tick that was asked for is in one column, in order; those of more than one tick are the folds; and nothing changes in a fold
pub record FoldsAreQuiet (f : Frame) (h : History) : Type 0 where
  pub whole : flat_map ticks_of (columns f h) ≡ range_with_len f.from (f.to - f.from)
  pub folded : filter is_fold (columns f h) ≡ folds f h
  pub quiet : All (λ x. (tick : ℕ) → is_change (changes_in f h) tick ≡ true → x.from < tick → tick < x.to → ⊥) (folds f h)

abbrev pub AllFoldsAreQuiet : Type 0
AllFoldsAreQuiet = (f : Frame) (h : History) → FoldsAreQuiet f h
