-- What becomes of the body of a thread: its class state, and its coming to a processor and leaving it.
-- Source: Solaris Internals (priority inheritance), ts_dptbl(4), priocntl(2); scripts are this project's own.
use Rattle.std.specs.Prelude.{ℕ, false, Option, Some}
use Rattle.sd_types.specs.declared.numbers.CpuId.{CpuId}
use Rattle.sd_types.specs.declared.numbers.LockId.{LockId}
use Rattle.sd_types.specs.declared.bodies.ThreadBody.{ThreadBody}
use Rattle.sd_types.specs.declared.classes.ClassParms.{ClassParms}
use Rattle.sd_types.specs.declared.classes.ClassParms.TheVariants as parms
use Rattle.sd_types.specs.declared.classes.ClassState.{ClassState}
use Rattle.sd_types.specs.declared.classes.ClassState.TheVariants.{Ts, Fx, Sys, Rt}
use Rattle.sd_types.specs.declared.works.Work.{Work}
use Rattle.sd_types.specs.Priorities.{eff_as}
use Rattle.sd_types.specs.Willed.{changed_number, with_willed}
use Rattle.sd_rules.specs.ClassRules.{class_tick, class_wake, class_second}

abbrev pub with_class : ThreadBody → ClassState → ThreadBody
with_class b class = record b { class = class }

-- the effective priority in another class state and with another inherited priority for a lock, or none
abbrev pub eff_as_with : ClassState → LockId → Option ℕ → ThreadBody → ℕ
eff_as_with class l number b = eff_as class (with_willed (changed_number l number b.willed.items) b)

-- the class states after a tick, a wakeup, a second on a dispatch queue, and at the back of a queue
abbrev pub ticked_class : Work → ClassState → ClassState
ticked_class w class = class_tick w.ts w.fx w.rt class

abbrev pub woken_class : Work → ClassState → ClassState
woken_class w class = class_wake w.ts w.fx w.rt class

abbrev pub aged_class : Work → ClassState → ClassState
aged_class w class = class_second w.ts class

-- the parameters of a class state, as priocntl(2) shows them
abbrev pub parms_of : ClassState → ClassParms
parms_of (Ts s) = parms.Ts s.limit s.upri
parms_of (Fx s) = parms.Fx s.limit s.pri s.quantum
parms_of (Sys s) = parms.Sys s.pri
parms_of (Rt s) = parms.Rt s.pri s.quantum

-- the thread has left a processor that has counted these ticks
abbrev pub departed : ℕ → ThreadBody → ThreadBody
departed count b = record b { back = false; left_at = Some count }

-- it runs on a processor
abbrev pub arrived : CpuId → ThreadBody → ThreadBody
arrived c b = record b { last = c }
