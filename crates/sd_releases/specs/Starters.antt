-- The starters, which bind the clocks and the threads with `on`. Source: this project's own.
use Rattle.std.specs.Prelude.{ℕ, ◌+◌, ◌-◌, Bool, ◌&&◌, ◌||◌, ◌==◌, List, [], ◌∷◌, ◌++◌, flat_map, nat_lt, cond, codes, decimal, slice_get, Option, Some, None, is_some}
use Rattle.std.specs.List.{list_any, range_with_len}
use Rattle.sd_lines.specs.Words.{Word}
use Rattle.sd_tasks.specs.Above.{Above, Member, is_gated, partition}
use Rattle.sd_tasks.specs.Written.{Written, written}
use Rattle.sd_releases.specs.Clocks.{clock_count, clock_name}

-- a thread of a timed line
abbrev pub is_timed : Member → Bool
is_timed m = is_gated m || is_some m.cpu

-- the processor has a starter
abbrev pub has_starter : Above → ℕ → Bool
has_starter a c = nat_lt 1 a.cpus && list_any (λ m. is_timed m && (m.set == partition a c)) a.threads

abbrev pub starter_name : ℕ → Word
starter_name c = codes "start-" ++ decimal c

-- `pbind NAME CPU`
abbrev pub bind_line : ℕ → Word → ℕ → Written
bind_line number name cpu = written (codes "pbind " ++ (name ++ (codes " " ++ decimal cpu))) number

-- of a script of a clock
abbrev pub clock_bind : ℕ → ℕ → ℕ → List Written
clock_bind number c i = bind_line number (clock_name c i) c ∷ []

-- of the clock of a processor
abbrev pub clock_binds : Above → ℕ → ℕ → List Written
clock_binds a number c = flat_map (clock_bind number c) (range_with_len 0 (clock_count a number c))

-- of the clocks of a partition
abbrev pub partition_binds : Above → ℕ → ℕ → ℕ → List Written
partition_binds a number p c = cond (partition a c == p) (clock_binds a number c) []

abbrev pub bound_to : ℕ → Word → Option ℕ → List Written
bound_to number name None = []
bound_to number name (Some cpu) = bind_line number name cpu ∷ []

-- of a thread of a partition
abbrev pub thread_binds : ℕ → ℕ → Member → List Written
thread_binds number p m = cond (m.set == p) (bound_to number m.name m.cpu) []

-- the operations of each starter of a partition
unfoldable pub starter_ops : Above → ℕ → ℕ → List Written
starter_ops a number p =
    flat_map (partition_binds a number p) (range_with_len 0 a.cpus) ++ flat_map (thread_binds number p) a.threads

-- ` in SET`, nothing of the default partition
abbrev pub in_named : Option (Word × List ℕ) → Word
in_named None = []
in_named (Some s) = codes " in " ++ s.0

abbrev pub in_text : Above → ℕ → Word
in_text a c = cond (partition a c == 0) [] (in_named (slice_get a.sets (partition a c - 1)))

-- `thread NAME rt 59 inf priv`, with the set of a processor
abbrev pub high_thread : Above → ℕ → ℕ → Word → Written
high_thread a number c name = written (codes "thread " ++ (name ++ (codes " rt 59 inf priv" ++ in_text a c))) number

unfoldable pub starter_script : Above → ℕ → ℕ → List Written
starter_script a number c =
    written (codes "script " ++ starter_name c) number ∷ (starter_ops a number (partition a c) ++ written (codes "end") number ∷ [])
