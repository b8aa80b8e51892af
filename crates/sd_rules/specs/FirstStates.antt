-- The class state with which a thread begins in a class.
-- Source: Solaris Internals (entering a class). This project's own: a full quantum, and no seconds of waiting.
use Rattle.std.specs.Prelude.{ℕ, ℤ}
use Rattle.sd_types.specs.declared.classes.ClassParms.{ClassParms}
use Rattle.sd_types.specs.declared.classes.ClassParms.TheVariants as parms
use Rattle.sd_types.specs.declared.classes.ClassState.{ClassState}
use Rattle.sd_types.specs.declared.classes.ClassState.TheVariants as state
use Rattle.sd_types.specs.declared.tables.TsTable.{TsTable}
use Rattle.sd_types.specs.declared.tables.FixedTable.{FixedTable}
use Rattle.sd_types.specs.ClassNumbers.{TsNumbers}
use Rattle.sd_types.specs.TableRows.{ts_row_of}
use Rattle.sd_rules.specs.ClassRules.{full_quantum}

-- a time-sharing thread at this level, with the ticks of the level's row
abbrev pub first_ts : TsTable → ℤ → ℤ → ℕ → TsNumbers
first_ts table limit upri level = record { cpupri = level; limit = limit; upri = upri; left = (ts_row_of table level).ticks; wait = 0 }

-- a thread with these parameters; the level is that of a time-sharing thread
abbrev pub first_state : TsTable → FixedTable → FixedTable → ClassParms → ℕ → ClassState
first_state ts fx rt (parms.Ts limit upri) level = state.Ts (first_ts ts limit upri level)
first_state ts fx rt (parms.Fx limit pri quantum) level = state.Fx (record { limit = limit; pri = pri; quantum = quantum; left = full_quantum fx pri quantum })
first_state ts fx rt (parms.Sys pri) level = state.Sys (record { pri = pri })
first_state ts fx rt (parms.Rt pri quantum) level = state.Rt (record { pri = pri; quantum = quantum; left = full_quantum rt pri quantum })
