-- The causes of a line of a script, against what the lines above declare, and the operations that it gives.
-- Source: priocntl(2), psrset(1M); the ranges are this project's own.
use Rattle.std.specs.Prelude.{ℕ, pos, Bool, not, ◌&&◌, true, List, [], ◌∷◌, nat_lt, Option, Some, None, option_map}
use Rattle.sd_types.specs.declared.classes.Class.TheVariants as class
use Rattle.sd_types.specs.declared.classes.Quantum.TheVariants.{Def}
use Rattle.sd_types.specs.declared.scripts.Request.{Request}
use Rattle.sd_types.specs.declared.scripts.Op.{Op}
use Rattle.sd_types.specs.declared.scripts.Op.TheVariants as op
use Rattle.sd_types.specs.Partitions.{cpu_of_number}
use Rattle.sd_types.specs.Works.{is_mutex, is_rwlock, is_chan, is_sema, span_fits, short_fits}
use Rattle.sd_lines.specs.declared.operations.RequestLine.{RequestLine}
use Rattle.sd_lines.specs.declared.operations.RequestLine.TheVariants.{Ts, Fx, Sys, Rt}
use Rattle.sd_lines.specs.Words.{Word}
use Rattle.sd_lines.specs.Operations.{Operation, Run, Yield, Nap, Sleep, Wake, WakeAll, Enter, Read, Write, Exit, Prio, CvWait, SemaP, SemaV, Assign, Pbind}
use Rattle.sd_declare.specs.Causes.{Causes, no_causes}
use Rattle.sd_declare.specs.Declarations.{Declarations, cpu_count, is_lock_name, is_thread_name, is_set, lock_kind, chan_kind, lock_id, chan_id, thread_id, set_id}
use Rattle.sd_declare.specs.Statements.{is_quantum, quantum_of}

-- ---- ranges

abbrev pub is_request : RequestLine → Bool
is_request (Ts limit pri) = short_fits limit && short_fits pri
is_request (Fx limit pri quantum) = short_fits limit && short_fits pri && is_quantum quantum
is_request (Sys pri) = short_fits pri
is_request (Rt pri quantum) = short_fits pri && is_quantum quantum

abbrev pub is_cpu : Declarations → ℕ → Bool
is_cpu d c = nat_lt c (cpu_count d)

abbrev pub is_cpu_or_none : Declarations → Option ℕ → Bool
is_cpu_or_none d None = true
is_cpu_or_none d (Some c) = is_cpu d c

-- ---- causes

-- ticks of a run or a nap
abbrev pub span_causes : ℕ → Causes
span_causes n = record no_causes { range = not (span_fits n) }

-- what is named is not declared, or is of another kind
abbrev pub unless : Bool → Causes
unless known = record no_causes { unknown = not known }

abbrev pub is_chan_and_mutex : Declarations → Word → Word → Bool
is_chan_and_mutex d k l = is_chan (chan_kind d k) && is_mutex (lock_kind d l)

abbrev pub prio_causes : Declarations → Word → RequestLine → Causes
prio_causes d t r = record no_causes { unknown = not (is_thread_name d t); range = not (is_request r) }

abbrev pub assign_causes : Declarations → ℕ → Option Word → Causes
assign_causes d c set = record no_causes { unknown = not (is_set d set); range = not (is_cpu d c) }

abbrev pub pbind_causes : Declarations → Word → Option ℕ → Causes
pbind_causes d t c = record no_causes { unknown = not (is_thread_name d t); range = not (is_cpu_or_none d c) }

abbrev pub operation_causes : Declarations → Operation → Causes
operation_causes d (Run n) = span_causes n
operation_causes d Yield = no_causes
operation_causes d (Nap n) = span_causes n
operation_causes d (Sleep k) = unless (is_chan (chan_kind d k))
operation_causes d (Wake k) = unless (is_chan (chan_kind d k))
operation_causes d (WakeAll k) = unless (is_chan (chan_kind d k))
operation_causes d (Enter l) = unless (is_mutex (lock_kind d l))
operation_causes d (Read l) = unless (is_rwlock (lock_kind d l))
operation_causes d (Write l) = unless (is_rwlock (lock_kind d l))
operation_causes d (Exit l) = unless (is_lock_name d l)
operation_causes d (Prio t r) = prio_causes d t r
operation_causes d (CvWait k l) = unless (is_chan_and_mutex d k l)
operation_causes d (SemaP k) = unless (is_sema (chan_kind d k))
operation_causes d (SemaV k) = unless (is_sema (chan_kind d k))
operation_causes d (Assign c set) = assign_causes d c set
operation_causes d (Pbind t c) = pbind_causes d t c

-- ---- operations

-- the fields that a class does not use are 0 and `def`
abbrev pub request_of : RequestLine → Request
request_of (Ts limit pri) = record { class = class.Ts; limit = limit; pri = pri; quantum = Def }
request_of (Fx limit pri quantum) = record { class = class.Fx; limit = limit; pri = pri; quantum = quantum_of quantum }
request_of (Sys pri) = record { class = class.Sys; limit = pos 0; pri = pri; quantum = Def }
request_of (Rt pri quantum) = record { class = class.Rt; limit = pos 0; pri = pri; quantum = quantum_of quantum }

-- the operation of a line, or the first of two
abbrev pub op_of : Declarations → Operation → Op
op_of d (Run n) = op.Run n
op_of d Yield = op.Yield
op_of d (Nap n) = op.Nap n
op_of d (Sleep k) = op.Sleep (chan_id d k)
op_of d (Wake k) = op.Wake (chan_id d k)
op_of d (WakeAll k) = op.WakeAll (chan_id d k)
op_of d (Enter l) = op.Enter (lock_id d l)
op_of d (Read l) = op.Read (lock_id d l)
op_of d (Write l) = op.Write (lock_id d l)
op_of d (Exit l) = op.Exit (lock_id d l)
op_of d (Prio t r) = op.Prio (thread_id d t) (request_of r)
op_of d (CvWait k l) = op.CvWait (chan_id d k) (lock_id d l)
op_of d (SemaP k) = op.SemaP (chan_id d k)
op_of d (SemaV k) = op.SemaV (chan_id d k)
op_of d (Assign c set) = op.Assign (cpu_of_number c) (set_id d set)
op_of d (Pbind t c) = op.Pbind (thread_id d t) (option_map cpu_of_number c)

-- `cvwait` is two operations: the wait, and the entry of its mutex
abbrev pub ops_of_op : Op → List Op
ops_of_op (op.CvWait k l) = op.CvWait k l ∷ op.Enter l ∷ []
ops_of_op o = o ∷ []
