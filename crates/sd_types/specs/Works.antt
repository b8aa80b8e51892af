-- When a workload is valid. Source: priocntl(2), psrset(1M); the limits are this project's own.
use Rattle.std.specs.Prelude.{ℕ, Bool, true, false, not, ◌&&◌, List, [], ◌∷◌, length, map, flat_map, nat_le, nat_lt, ◌==◌, Option, Some, None, slice_get, ℤ, pos, negsuc, int_le}
use Rattle.std.specs.List.{list_all, list_any}
use Rattle.sd_types.specs.declared.numbers.CpuId.{CpuId}
use Rattle.sd_types.specs.declared.names.Name.{Name}
use Rattle.sd_types.specs.declared.classes.Class.{Class}
use Rattle.sd_types.specs.declared.classes.Class.TheVariants as class
use Rattle.sd_types.specs.declared.classes.Quantum.{Quantum}
use Rattle.sd_types.specs.declared.classes.Quantum.TheVariants.{Def, Inf, Ticks}
use Rattle.sd_types.specs.declared.classes.ClassParms.{ClassParms}
use Rattle.sd_types.specs.declared.classes.ClassParms.TheVariants as parms
use Rattle.sd_types.specs.declared.scripts.Request.{Request}
use Rattle.sd_types.specs.declared.scripts.Op.{Op}
use Rattle.sd_types.specs.declared.scripts.Op.TheVariants.{Run, Nap, Sleep, Wake, WakeAll, Enter, Read, Write, Exit, Prio, CvWait, SemaP, SemaV, Assign, Pbind}
use Rattle.sd_types.specs.declared.works.LockKind.{LockKind}
use Rattle.sd_types.specs.declared.works.LockKind.TheVariants.{Mutex, Rwlock}
use Rattle.sd_types.specs.declared.works.ChanKind.{ChanKind}
use Rattle.sd_types.specs.declared.works.ChanKind.TheVariants.{Chan, Sema}
use Rattle.sd_types.specs.declared.works.ThreadDecl.{ThreadDecl}
use Rattle.sd_types.specs.Limits.{greatest_span, most_quantum_ticks}

abbrev pub same_bytes : List ℕ → List ℕ → Bool
same_bytes [] [] = true
same_bytes [] (y ∷ ys) = false
same_bytes (x ∷ xs) [] = false
same_bytes (x ∷ xs) (y ∷ ys) = (x == y) && same_bytes xs ys

abbrev pub same_cpu : CpuId → CpuId → Bool
same_cpu c d = c.0 == d.0

-- no two of the list are the same
abbrev pub is_distinct : {X : Type 0} → (X → X → Bool) → List X → Bool
is_distinct same [] = true
is_distinct same (x ∷ xs) = not (list_any (same x) xs) && is_distinct same xs

-- a set names at least one processor, and each is one of the workload's
abbrev pub set_fits : ℕ → Name × List CpuId → Bool
set_fits cpus s = nat_lt 0 (length s.1) && list_all (λ c. nat_lt c.0 cpus) s.1

-- the processors that sets name
abbrev pub set_cpus : List (Name × List CpuId) → List CpuId
set_cpus sets = flat_map (λ s. s.1) sets

-- the first count of a semaphore has 16 bits
abbrev pub has_small_count : ChanKind → Bool
has_small_count Chan = true
has_small_count (Sema count) = nat_le count 65535

-- what a workload declares, as far as scripts name it
pub record Declared : Type 0 where
  pub cpus : ℕ
  pub sets : ℕ
  pub locks : List LockKind
  pub chans : List ChanKind
  pub threads : ℕ

abbrev pub declared_of : ℕ → List (Name × List CpuId) → List (Name × LockKind) → List (Name × ChanKind) → List ThreadDecl → Declared
declared_of cpus sets locks chans threads =
    record { cpus = cpus; sets = length sets; locks = map (λ l. l.1) locks; chans = map (λ k. k.1) chans; threads = length threads }

abbrev pub is_mutex : Option LockKind → Bool
is_mutex (Some Mutex) = true
is_mutex (Some Rwlock) = false
is_mutex None = false

abbrev pub is_rwlock : Option LockKind → Bool
is_rwlock (Some Mutex) = false
is_rwlock (Some Rwlock) = true
is_rwlock None = false

abbrev pub is_chan : Option ChanKind → Bool
is_chan (Some Chan) = true
is_chan (Some (Sema count)) = false
is_chan None = false

abbrev pub is_sema : Option ChanKind → Bool
is_sema (Some Chan) = false
is_sema (Some (Sema count)) = true
is_sema None = false

-- ticks of a run or a nap
abbrev pub span_fits : ℕ → Bool
span_fits n = nat_le 1 n && nat_le n greatest_span

abbrev pub quantum_fits : Quantum → Bool
quantum_fits Def = true
quantum_fits Inf = true
quantum_fits (Ticks n) = nat_le 1 n && nat_le n most_quantum_ticks

abbrev pub is_def : Quantum → Bool
is_def Def = true
is_def Inf = false
is_def (Ticks n) = false

-- a number that a request of priocntl can carry
abbrev pub short_fits : ℤ → Bool
short_fits z = int_le (negsuc 32767) z && int_le z (pos 32767)

-- the fields that a class does not use are 0 and def
abbrev pub unused_fit : Class → ℤ → Quantum → Bool
unused_fit class.Ts limit quantum = is_def quantum
unused_fit class.Fx limit quantum = true
unused_fit class.Sys limit quantum = int_le (pos 0) limit && int_le limit (pos 0) && is_def quantum
unused_fit class.Rt limit quantum = int_le (pos 0) limit && int_le limit (pos 0)

abbrev pub request_fits : Request → Bool
request_fits r = short_fits r.limit && short_fits r.pri && quantum_fits r.quantum && unused_fit r.class r.limit r.quantum

abbrev pub bound_fits : ℕ → Option CpuId → Bool
bound_fits cpus None = true
bound_fits cpus (Some c) = nat_lt c.0 cpus

-- the numbers of an operation are in their ranges, and name what is declared
abbrev pub op_names : Declared → Op → Bool
op_names d (Run n) = span_fits n
op_names d (Nap n) = span_fits n
op_names d (Sleep k) = is_chan (slice_get d.chans k.0)
op_names d (Wake k) = is_chan (slice_get d.chans k.0)
op_names d (WakeAll k) = is_chan (slice_get d.chans k.0)
op_names d (Enter l) = is_mutex (slice_get d.locks l.0)
op_names d (Read l) = is_rwlock (slice_get d.locks l.0)
op_names d (Write l) = is_rwlock (slice_get d.locks l.0)
op_names d (Exit l) = nat_lt l.0 (length d.locks)
op_names d (Prio t r) = nat_lt t.0 d.threads && request_fits r
op_names d (CvWait k l) = is_chan (slice_get d.chans k.0) && is_mutex (slice_get d.locks l.0)
op_names d (SemaP k) = is_sema (slice_get d.chans k.0)
op_names d (SemaV k) = is_sema (slice_get d.chans k.0)
op_names d (Assign c s) = nat_lt c.0 d.cpus && nat_le s.0 d.sets
op_names d (Pbind t c) = nat_lt t.0 d.threads && bound_fits d.cpus c
op_names d _ = true

-- from -60 to 60
abbrev pub upri_fits : ℤ → Bool
upri_fits z = int_le (negsuc 59) z && int_le z (pos 60)

-- the class of a declared thread and its first ts_cpupri
abbrev pub class_fits : ClassParms → ℕ → Bool
class_fits (parms.Ts limit upri) cpupri = upri_fits limit && upri_fits upri && int_le upri limit && nat_le cpupri 59
class_fits (parms.Fx limit pri quantum) cpupri = nat_le limit 60 && nat_le pri limit && quantum_fits quantum && (cpupri == 0)
class_fits (parms.Sys pri) cpupri = nat_le 60 pri && nat_le pri 99 && (cpupri == 0)
class_fits (parms.Rt pri quantum) cpupri = nat_le pri 59 && quantum_fits quantum && (cpupri == 0)

abbrev pub thread_fits : Declared → ThreadDecl → Bool
thread_fits d t = class_fits t.class t.cpupri && nat_le t.set.0 d.sets && list_all (op_names d) t.script.ops
