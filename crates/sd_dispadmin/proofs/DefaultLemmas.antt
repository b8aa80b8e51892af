-- The default tables are tables, and their ticks are those of their quanta.
use Rattle.std.proofs.Common.{◌≡◌, ℕ, ◌+◌, ◌<◌, ◌≤◌, Bool, true, nat_eq, zero, suc, length, map, refl, arith, eq-eqb}
use Rattle.std.specs.List.{list_all, range_with_len}
use Rattle.std.proofs.lemmas.Bool.Decides.{nat_tests}
use Rattle.sd_types.specs.declared.tables.TsRow.{TsRow}
use Rattle.sd_types.specs.declared.tables.FixedRow.{FixedRow}
use Rattle.sd_types.specs.declared.tables.TsTable.{TsTable}
use Rattle.sd_types.specs.declared.tables.FixedTable.{FixedTable}
use Rattle.sd_types.specs.Rows.{ts_row_fits, fixed_row_fits}
use Rattle.sd_types.specs.Ticks.{ticks_of, ts_ticks_fit, fixed_ticks_fit}
use Rattle.sd_rules.specs.DefaultTables.{default_ts_quantum, default_ts_row, default_ts_levels, default_ts_rows, default_fx_quantum, default_fx_levels, default_fx_rows, default_rt_quantum, default_rt_levels, default_rt_rows, default_fixed_row}
use Rattle.sd_dispadmin.proofs.TicksLemmas.{some_ticks}

-- a test holds of a list made by levels where it holds of each level
in_range : {X : Type 0} (p : X → Bool) (f : ℕ → X) (a n : ℕ) → ((k : ℕ) → a ≤ k → k < a + n → p (f k) ≡ true) → list_all p (map f (range_with_len a n)) ≡ true
in_range p f a zero h = refl
in_range p f a (suc n) h =
    rw (h a (omega arith) (omega arith)) (in_range p f (a + 1) n (λ k low high. h k (omega arith) (omega arith)))

ts_fits_at : (hz level : ℕ) → 1 ≤ hz → level < 60 → ts_row_fits (default_ts_row hz level) ≡ true
unfolding default_ts_row
ts_fits_at hz level h low =
    let some : 1 ≤ default_ts_quantum level = grind (arith, nat_tests) in
    let ticks : 1 ≤ ticks_of (default_ts_quantum level) hz 1000 = some_ticks (default_ts_quantum level) hz 1000 some h (omega arith) in
    grind (arith, nat_tests)

-- each number of a row lies in its range
pub ts_fits : (hz : ℕ) → 1 ≤ hz → list_all ts_row_fits (default_ts_rows hz) ≡ true
unfolding default_ts_levels
ts_fits hz h = in_range ts_row_fits (default_ts_row hz) 0 60 (λ k low high. ts_fits_at hz k h (omega arith))

pub ts_count : (hz : ℕ) → length (default_ts_rows hz) ≡ 60
unfolding default_ts_levels
ts_count hz = refl

ts_ticks_at : (hz level : ℕ) → nat_eq (default_ts_row hz level).ticks (ticks_of (default_ts_row hz level).quantum hz 1000) ≡ true
unfolding default_ts_row
ts_ticks_at hz level = eq-eqb _ _ refl

-- and its ticks are those of its quantum
pub ts_ticks : (hz : ℕ) (t : TsTable) → t.res ≡ 1000 → t.rows ≡ default_ts_rows hz → ts_ticks_fit hz t ≡ true
unfolding default_ts_levels
ts_ticks hz t res rows = rw (res, rows) (in_range (λ (r : TsRow). nat_eq r.ticks (ticks_of r.quantum hz 1000)) (default_ts_row hz) 0 60 (λ k low high. ts_ticks_at hz k))

fixed_fits : (hz quantum : ℕ) → 1 ≤ hz → 1 ≤ quantum → quantum ≤ 1000 → fixed_row_fits (default_fixed_row hz quantum) ≡ true
fixed_fits hz quantum h some most =
    let ticks : 1 ≤ ticks_of quantum hz 1000 = some_ticks quantum hz 1000 some h (omega arith) in
    grind (arith, nat_tests)

pub fx_fits : (hz : ℕ) → 1 ≤ hz → list_all fixed_row_fits (default_fx_rows hz) ≡ true
unfolding default_fx_levels
fx_fits hz h = in_range fixed_row_fits (λ level. default_fixed_row hz (default_fx_quantum level)) 0 61 (λ k low high.
    let some : 1 ≤ default_fx_quantum k = grind (arith, nat_tests) in
    let most : default_fx_quantum k ≤ 1000 = grind (arith, nat_tests) in
    fixed_fits hz (default_fx_quantum k) h some most)

pub fx_count : (hz : ℕ) → length (default_fx_rows hz) ≡ 61
unfolding default_fx_levels
fx_count hz = refl

pub fx_ticks : (hz : ℕ) (t : FixedTable) → t.res ≡ 1000 → t.rows ≡ default_fx_rows hz → fixed_ticks_fit hz t ≡ true
unfolding default_fx_levels
fx_ticks hz t res rows = rw (res, rows) (in_range (λ (r : FixedRow). nat_eq r.ticks (ticks_of r.quantum hz 1000)) (λ level. default_fixed_row hz (default_fx_quantum level)) 0 61 (λ k low high. eq-eqb _ _ refl))

pub rt_fits : (hz : ℕ) → 1 ≤ hz → list_all fixed_row_fits (default_rt_rows hz) ≡ true
unfolding default_rt_levels
rt_fits hz h = in_range fixed_row_fits (λ level. default_fixed_row hz (default_rt_quantum level)) 0 60 (λ k low high.
    let some : 1 ≤ default_rt_quantum k = grind (arith, nat_tests) in
    let most : default_rt_quantum k ≤ 1000 = grind (arith, nat_tests) in
    fixed_fits hz (default_rt_quantum k) h some most)

pub rt_count : (hz : ℕ) → length (default_rt_rows hz) ≡ 60
unfolding default_rt_levels
rt_count hz = refl

pub rt_ticks : (hz : ℕ) (t : FixedTable) → t.res ≡ 1000 → t.rows ≡ default_rt_rows hz → fixed_ticks_fit hz t ≡ true
unfolding default_rt_levels
rt_ticks hz t res rows = rw (res, rows) (in_range (λ (r : FixedRow). nat_eq r.ticks (ticks_of r.quantum hz 1000)) (λ level. default_fixed_row hz (default_rt_quantum level)) 0 60 (λ k low high. eq-eqb _ _ refl))
