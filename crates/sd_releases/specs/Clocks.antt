-- The clocks, which give a unit for each release at its tick. Source: this project's own.
use Rattle.std.specs.Prelude.{ℕ, ◌+◌, ◌-◌, ◌*◌, ◌/◌, Bool, false, ◌&&◌, ◌==◌, List, [], ◌∷◌, ◌++◌, length, map, filter, fold, flat_map, nat_lt, cond, codes, decimal, take, drop, slice_get, Option, Some, None, unwrap_or}
use Rattle.std.specs.Int.{div_ceil}
use Rattle.std.specs.List.{list_any, range_with_len}
use Rattle.std.specs.Option.{option_map_or}
use Rattle.sd_types.specs.Limits.{most_operations}
use Rattle.sd_lines.specs.Words.{Word}
use Rattle.sd_tasks.specs.Above.{Above, Member, is_gated, partition}
use Rattle.sd_tasks.specs.Releases.{is_released}
use Rattle.sd_tasks.specs.Written.{Written, written}

-- ---- what a clock does

-- the thread is released by the clock of this processor
abbrev pub is_on : ℕ → Member → Bool
is_on c m = is_gated m && (m.home == c)

abbrev pub has_clock : Above → ℕ → Bool
has_clock a c = list_any (is_on c) a.threads

-- it is released by it at this tick
abbrev pub is_due : ℕ → ℕ → Member → Bool
is_due c t m = (m.home == c) && option_map_or (λ r. is_released r t) m.release false

-- its unit
abbrev pub unit_lines : ℕ → ℕ → ℕ → Member → List Written
unit_lines number c t m = cond (is_due c t m) (written (codes "semav " ++ m.name) number ∷ []) []

-- the units that are given at a tick, in the order of declaration
unfoldable pub units : Above → ℕ → ℕ → ℕ → List Written
units a number c t = flat_map (unit_lines number c t) a.threads

-- the operations so far, and the tick at which they end
pub record Clock : Type 0 where
  pub ops : List Written
  pub tick : ℕ

abbrev pub no_ops : Clock
no_ops = record { ops = []; tick = 0 }

-- none where there is nothing to wait for
abbrev pub nap_lines : ℕ → ℕ → List Written
nap_lines number ticks = cond (nat_lt 0 ticks) (written (codes "nap " ++ decimal ticks) number ∷ []) []

-- naps to a tick, and gives these units, if there are any
abbrev pub with_units : ℕ → Clock → ℕ → List Written → Clock
with_units number k t [] = k
with_units number k t (u ∷ us) = record { ops = k.ops ++ (nap_lines number (t - k.tick) ++ u ∷ us); tick = t }

abbrev pub ticks : Above → ℕ
ticks a = unwrap_or a.limit 0

-- what the clock of a processor does below a tick
unfoldable pub clock_below : Above → ℕ → ℕ → ℕ → Clock
clock_below a number c n = fold (λ k t. with_units number k t (units a number c t)) no_ops (range_with_len 0 n)

abbrev pub clock_ops : Above → ℕ → ℕ → List Written
clock_ops a number c = (clock_below a number c (ticks a)).ops

-- ---- hand-over: one script has 256 operations at most. The first has 255 of many and hands over; each other takes the clock over
-- and has 254, or as many as are left where these are 255 at most.

-- into how many scripts so many operations are cut
abbrev pub script_count : ℕ → ℕ
script_count n = div_ceil (n - most_operations) 254 + 1

-- where the operations of a script begin, counted from 0
abbrev pub script_from : ℕ → ℕ
script_from i = cond (i == 0) 0 (i * 254 + 1)

abbrev pub script_to : ℕ → ℕ → ℕ
script_to n i = cond (i + 1 == script_count n) n (script_from (i + 1))

-- `clock-C`, `clock-C-2` and so on
abbrev pub clock_name : ℕ → ℕ → Word
clock_name c i = codes "clock-" ++ (decimal c ++ cond (i == 0) [] (codes "-" ++ decimal (i + 1)))

abbrev pub taking_over : ℕ → ℕ → ℕ → List Written
taking_over number c i = cond (i == 0) [] (written (codes "semap " ++ clock_name c i) number ∷ [])

abbrev pub handing_over : ℕ → ℕ → ℕ → ℕ → List Written
handing_over number c n i = cond (i + 1 == script_count n) [] (written (codes "semav " ++ clock_name c (i + 1)) number ∷ [])

-- the operations of a script, of so many operations
abbrev pub script_ops : ℕ → List Written → ℕ → List Written
script_ops n ops i = take (script_to n i - script_from i) (drop (script_from i) ops)

-- a script of a clock with these operations, of which there are so many
unfoldable pub clock_script : ℕ → ℕ → ℕ → List Written → ℕ → List Written
clock_script number c n ops i =
    written (codes "script " ++ clock_name c i) number
    ∷ (taking_over number c i ++ (script_ops n ops i ++ (handing_over number c n i ++ written (codes "end") number ∷ [])))

-- all of them
unfoldable pub clock_scripts : ℕ → ℕ → List Written → List Written
clock_scripts number c ops = flat_map (clock_script number c (length ops) ops) (range_with_len 0 (script_count (length ops)))

-- the number of scripts of the clock of a processor, none where it has no clock
unfoldable pub clock_count : Above → ℕ → ℕ → ℕ
clock_count a number c = cond (has_clock a c) (script_count (length (clock_ops a number c))) 0
