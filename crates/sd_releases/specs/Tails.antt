-- What stands in the workload behind the lines of the set. Its lines come from the line after the last, but for the scripts of threads
-- to which the set gives none. Source: this project's own.
use Rattle.std.specs.Prelude.{ℕ, ◌+◌, ◌-◌, not, ◌&&◌, List, [], ◌∷◌, ◌++◌, flat_map, cond, codes}
use Rattle.std.specs.List.{range_with_len}
use Rattle.sd_tasks.specs.Above.{Above, Member, is_gated}
use Rattle.sd_tasks.specs.Blocks.{header, wait_line, end_line}
use Rattle.sd_tasks.specs.Written.{Written, written, again}
use Rattle.sd_releases.specs.Clocks.{clock_count, clock_name, clock_ops, clock_scripts, has_clock}
use Rattle.sd_releases.specs.Starters.{has_starter, high_thread, starter_name, starter_script}

-- for each processor, rising
abbrev pub each_cpu : Above → (ℕ → List Written) → List Written
each_cpu a lines = flat_map lines (range_with_len 0 a.cpus)

-- 1: the semaphores of the clocks that are handed over to, which are all but the first of a processor
abbrev pub handed_sema : ℕ → ℕ → ℕ → List Written
handed_sema number c i = written (codes "sema " ++ (clock_name c (i + 1) ++ codes " 0")) number ∷ []

abbrev pub handed_semas : Above → ℕ → ℕ → List Written
handed_semas a number c = flat_map (handed_sema number c) (range_with_len 0 (clock_count a number c - 1))

-- 2
abbrev pub starter_threads : Above → ℕ → ℕ → List Written
starter_threads a number c = cond (has_starter a c) (high_thread a number c (starter_name c) ∷ []) []

-- 3
abbrev pub clock_thread : Above → ℕ → ℕ → ℕ → List Written
clock_thread a number c i = high_thread a number c (clock_name c i) ∷ []

abbrev pub clock_threads : Above → ℕ → ℕ → List Written
clock_threads a number c = flat_map (clock_thread a number c) (range_with_len 0 (clock_count a number c))

-- 4: of a gated thread to which the set gives no script
abbrev pub waiting_script : Member → List Written
waiting_script m =
    cond (is_gated m && not m.is_given) (header m.name m.line ∷ (again m.rounds (wait_line m.name m.line ∷ []) ++ end_line m.line ∷ [])) []

-- 5
abbrev pub starter_scripts : Above → ℕ → ℕ → List Written
starter_scripts a number c = cond (has_starter a c) (starter_script a number c) []

abbrev pub scripts_of_clock : Above → ℕ → ℕ → List Written
scripts_of_clock a number c = cond (has_clock a c) (clock_scripts number c (clock_ops a number c)) []

-- the line after the last has this number
unfoldable pub tail : Above → ℕ → List Written
tail a number =
    each_cpu a (handed_semas a number) ++ each_cpu a (starter_threads a number) ++ each_cpu a (clock_threads a number)
    ++ flat_map waiting_script a.threads
    ++ each_cpu a (starter_scripts a number) ++ each_cpu a (scripts_of_clock a number)
