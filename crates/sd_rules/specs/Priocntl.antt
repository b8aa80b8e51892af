-- Who may give a thread new class parameters, and the class state that they make, as functions on numbers.
-- Source: priocntl(2). This project's own: the order of the refusals, EINVAL for the system class, the whole list of
-- EPERM, and the states after a change.
use Rattle.std.specs.Prelude.{ℕ, ℤ, pos, int_le, int_lt, Bool, true, false, not, ◌&&◌, ◌||◌, ◌==◌, cond, Option, Some, None, Result, Ok, Err}
use Rattle.sd_types.specs.declared.classes.Class.{Class}
use Rattle.sd_types.specs.declared.classes.Class.TheVariants as class
use Rattle.sd_types.specs.declared.classes.ClassParms.{ClassParms}
use Rattle.sd_types.specs.declared.classes.ClassParms.TheVariants as parms
use Rattle.sd_types.specs.declared.classes.ClassState.{ClassState}
use Rattle.sd_types.specs.declared.classes.ClassState.TheVariants as state
use Rattle.sd_types.specs.declared.events.Denied.{Denied}
use Rattle.sd_types.specs.declared.events.Denied.TheVariants.{ESRCH, EINVAL, EPERM}
use Rattle.sd_types.specs.declared.scripts.Request.{Request}
use Rattle.sd_types.specs.declared.tables.TsTable.{TsTable}
use Rattle.sd_types.specs.declared.tables.FixedTable.{FixedTable}
use Rattle.sd_types.specs.ClassNumbers.{TsNumbers}
use Rattle.sd_types.specs.Priorities.{at_least_zero}
use Rattle.sd_types.specs.Works.{upri_fits}
use Rattle.sd_rules.specs.FirstStates.{first_ts, first_state}

abbrev pub class_of_parms : ClassParms → Class
class_of_parms (parms.Ts limit upri) = class.Ts
class_of_parms (parms.Fx limit pri quantum) = class.Fx
class_of_parms (parms.Sys pri) = class.Sys
class_of_parms (parms.Rt pri quantum) = class.Rt

-- the limit of the user priority, 0 for the classes that have none
abbrev pub limit_of_parms : ClassParms → ℤ
limit_of_parms (parms.Ts limit upri) = limit
limit_of_parms (parms.Fx limit pri quantum) = pos limit
limit_of_parms (parms.Sys pri) = pos 0
limit_of_parms (parms.Rt pri quantum) = pos 0

abbrev pub is_sys : Class → Bool
is_sys class.Sys = true
is_sys _ = false

abbrev pub is_rt : Class → Bool
is_rt class.Rt = true
is_rt _ = false

abbrev pub same_class : Class → Class → Bool
same_class class.Ts class.Ts = true
same_class class.Fx class.Fx = true
same_class class.Sys class.Sys = true
same_class class.Rt class.Rt = true
same_class _ _ = false

abbrev pub from_zero_to : ℕ → ℤ → Bool
from_zero_to most z = int_le (pos 0) z && int_le z (pos most)

-- the limit and the priority, as asked, are in the ranges of the class
abbrev pub numbers_fit : Class → ℤ → ℤ → Bool
numbers_fit class.Ts limit pri = upri_fits limit && upri_fits pri
numbers_fit class.Fx limit pri = from_zero_to 60 limit && from_zero_to 60 pri
numbers_fit class.Sys limit pri = true
numbers_fit class.Rt limit pri = from_zero_to 59 pri

-- EINVAL: the system class on either side, or a number out of range
unfoldable pub is_invalid : ClassParms → Request → Bool
is_invalid target r = is_sys r.class || is_sys (class_of_parms target) || not (numbers_fit r.class r.limit r.pri)

-- the greatest limit that a caller without privilege may ask for: the target's, or 0 in another class
abbrev pub greatest_limit : ClassParms → Class → ℤ
greatest_limit target c = cond (same_class (class_of_parms target) c) (limit_of_parms target) (pos 0)

-- EPERM, for a caller without privilege: another user's thread, the real-time class on either side, or a limit raised
unfoldable pub is_forbidden : ℕ → ℕ → ClassParms → Request → Bool
is_forbidden uid owner target r =
    not (uid == owner) || is_rt r.class || is_rt (class_of_parms target) || int_lt (greatest_limit target r.class) r.limit

-- a user priority above the limit is lowered to it
abbrev pub lowered : ℤ → ℤ → ℤ
lowered limit pri = cond (int_le pri limit) pri limit

-- the parameters that a request asks for
unfoldable pub new_parms : Class → Request → ClassParms
new_parms class.Ts r = parms.Ts r.limit (lowered r.limit r.pri)
new_parms class.Fx r = parms.Fx (at_least_zero r.limit) (at_least_zero (lowered r.limit r.pri)) r.quantum
new_parms class.Sys r = parms.Sys (at_least_zero r.pri)
new_parms class.Rt r = parms.Rt (at_least_zero r.pri) r.quantum

-- what a caller is told (its user, and whether it is privileged) who asks for a thread (its user and parameters;
-- none where it has ended)
unfoldable pub judged : ℕ → Bool → Option (ℕ × ClassParms) → Request → Result ClassParms Denied
judged uid privileged None r = Err ESRCH
judged uid privileged (Some target) r =
    cond (is_invalid target.1 r) (Err EINVAL)
    (cond (not privileged && is_forbidden uid target.0 target.1 r) (Err EPERM) (Ok (new_parms r.class r)))

-- the level of a thread that comes to the time-sharing class from another
abbrev pub entry_level : ℕ
entry_level = 29

-- one that was in that class keeps its level, its ticks and its seconds of waiting
abbrev pub ts_after : TsTable → ℤ → ℤ → ClassState → TsNumbers
ts_after table limit upri (state.Ts s) = record s { limit = limit; upri = upri }
ts_after table limit upri _ = first_ts table limit upri entry_level

-- the class state of a thread that was given these parameters, from the one before: a fixed-priority or real-time
-- thread begins a full quantum, also where it stays in its class
unfoldable pub entered : TsTable → FixedTable → FixedTable → ClassParms → ClassState → ClassState
entered ts fx rt (parms.Ts limit upri) old = state.Ts (ts_after ts limit upri old)
entered ts fx rt p old = first_state ts fx rt p 0
