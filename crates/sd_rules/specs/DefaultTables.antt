-- The dispatch tables of a workload that gives none, level by level. Quanta are in milliseconds, since RES is 1000.
-- Source: this project's own, after the tables of ts_dptbl(4) and rt_dptbl(4).
use Rattle.std.specs.Prelude.{ℕ, ◌+◌, ◌-◌, ◌/◌, nat_lt, cond, List, map}
use Rattle.std.specs.List.{range_with_len}
use Rattle.sd_types.specs.declared.tables.TsRow.{TsRow}
use Rattle.sd_types.specs.declared.tables.FixedRow.{FixedRow}
use Rattle.sd_types.specs.Ticks.{ticks_of}

abbrev pub default_res : ℕ
default_res = 1000

-- The time-sharing class: 60 levels.

abbrev pub default_ts_quantum : ℕ → ℕ
default_ts_quantum level =
    cond (nat_lt level 10) 200 (cond (nat_lt level 20) 160 (cond (nat_lt level 30) 120 (cond (nat_lt level 40) 80 (cond (nat_lt level 59) 40 20))))

-- the seconds of waiting that are allowed
abbrev pub default_ts_maxwait : ℕ → ℕ
default_ts_maxwait level = cond (nat_lt level 59) 0 32000

-- the level after a sleep and after a long wait
abbrev pub default_ts_lifted : ℕ → ℕ
default_ts_lifted level = 50 + level / 10

unfoldable pub default_ts_row : ℕ → ℕ → TsRow
default_ts_row hz level = record {
  quantum = default_ts_quantum level;
  ticks = ticks_of (default_ts_quantum level) hz default_res;
  tqexp = level - 10;
  slpret = default_ts_lifted level;
  maxwait = default_ts_maxwait level;
  lwait = default_ts_lifted level;
}

-- the rows of the first n levels
unfoldable pub default_ts_levels : ℕ → ℕ → List TsRow
default_ts_levels hz n = map (default_ts_row hz) (range_with_len 0 n)

abbrev pub default_ts_rows : ℕ → List TsRow
default_ts_rows hz = default_ts_levels hz 60

-- The fixed-priority class: 61 levels.

abbrev pub default_fx_quantum : ℕ → ℕ
default_fx_quantum level =
    cond (nat_lt level 10) 200 (cond (nat_lt level 20) 160 (cond (nat_lt level 30) 120 (cond (nat_lt level 40) 80 (cond (nat_lt level 60) 40 20))))

-- The real-time class: 60 levels.

abbrev pub default_rt_quantum : ℕ → ℕ
default_rt_quantum level =
    cond (nat_lt level 10) 1000 (cond (nat_lt level 20) 800 (cond (nat_lt level 30) 600 (cond (nat_lt level 40) 400 (cond (nat_lt level 50) 200 100))))

-- the row of a quantum
abbrev pub default_fixed_row : ℕ → ℕ → FixedRow
default_fixed_row hz quantum = record { quantum = quantum; ticks = ticks_of quantum hz default_res }

unfoldable pub default_fx_levels : ℕ → ℕ → List FixedRow
default_fx_levels hz n = map (λ level. default_fixed_row hz (default_fx_quantum level)) (range_with_len 0 n)

abbrev pub default_fx_rows : ℕ → List FixedRow
default_fx_rows hz = default_fx_levels hz 61

unfoldable pub default_rt_levels : ℕ → ℕ → List FixedRow
default_rt_levels hz n = map (λ level. default_fixed_row hz (default_rt_quantum level)) (range_with_len 0 n)

abbrev pub default_rt_rows : ℕ → List FixedRow
default_rt_rows hz = default_rt_levels hz 60
