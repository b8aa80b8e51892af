-- The numbers of the scripts of each processor's clock.
use Rattle.std.specs.Prelude.{◌≡◌, ℕ, List, map}
use Rattle.std.specs.List.{range_with_len}
use Rattle.sd_tasks.specs.Above.{Above}
use Rattle.sd_releases.specs.Clocks.{clock_count}

abbrev pub AreCounts : Above → ℕ → List ℕ → Type 0
AreCounts a number counts = counts ≡ map (clock_count a number) (range_with_len 0 a.cpus)
