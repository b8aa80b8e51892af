-- At which ticks a task is released. Source: periodic tasks as in Liu and Layland, Scheduling Algorithms for Multiprogramming in
-- a Hard-Real-Time Environment (1973), with offsets; that the number of releases can be bounded is this project's own.
use Rattle.std.specs.Prelude.{ℕ, ◌-◌, ◌/◌, ◌%◌, Bool, ◌&&◌, ◌==◌, nat_le, nat_lt, count_by}
use Rattle.std.specs.List.{range_with_len}
use Rattle.sd_tasks.specs.declared.releases.Release.{Release}

-- it is released at this tick: a whole number of periods behind the first release, fewer than there are at most
abbrev pub is_released : Release → ℕ → Bool
is_released r t = nat_lt 0 r.period && nat_le r.first t && ((t - r.first) % r.period == 0) && nat_lt ((t - r.first) / r.period) r.most

-- how many times it is released below a tick
unfoldable pub release_count : Release → ℕ → ℕ
release_count r limit = count_by (is_released r) (range_with_len 0 limit)
