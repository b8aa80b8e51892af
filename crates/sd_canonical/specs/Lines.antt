-- The words of each line of a workload's canonical spelling.
-- Source: priocntl(2), psrset(1M); the forms are this project's own.
use Rattle.std.specs.Prelude.{ℕ, Bool, true, false, List, [], ◌∷◌, ◌++◌, map, codes, decimal, Option, Some, None, ◌==◌, if◌then◌else◌}
use Rattle.std.specs.Fmt.{signed_decimal}
use Rattle.sd_types.specs.declared.numbers.CpuId.{CpuId}
use Rattle.sd_types.specs.declared.numbers.SetId.{SetId}
use Rattle.sd_types.specs.declared.names.Name.{Name}
use Rattle.sd_types.specs.declared.classes.Class.{Class}
use Rattle.sd_types.specs.declared.classes.Class.TheVariants as class
use Rattle.sd_types.specs.declared.classes.ClassParms.{ClassParms}
use Rattle.sd_types.specs.declared.classes.ClassParms.TheVariants as parms
use Rattle.sd_types.specs.declared.classes.Quantum.{Quantum}
use Rattle.sd_types.specs.declared.classes.Quantum.TheVariants.{Def, Inf, Ticks}
use Rattle.sd_types.specs.declared.scripts.Request.{Request}
use Rattle.sd_types.specs.declared.scripts.Op.{Op}
use Rattle.sd_types.specs.declared.scripts.Op.TheVariants.{Run, Yield, Nap, Sleep, Wake, WakeAll, Enter, Read, Write, Exit, Prio, CvWait, SemaP, SemaV, Assign, Pbind}
use Rattle.sd_types.specs.declared.works.LockKind.{LockKind}
use Rattle.sd_types.specs.declared.works.LockKind.TheVariants.{Mutex, Rwlock}
use Rattle.sd_types.specs.declared.works.ChanKind.{ChanKind}
use Rattle.sd_types.specs.declared.works.ChanKind.TheVariants.{Chan, Sema}
use Rattle.sd_types.specs.declared.works.ThreadDecl.{ThreadDecl}
use Rattle.sd_types.specs.declared.works.Work.{Work}
use Rattle.sd_script.specs.Faults.{is_wait}
use Rattle.sd_lines.specs.Words.{Word, Line}
use Rattle.sd_state.specs.Texts.{thread_name, lock_name, chan_name}
use Rattle.sd_machine.specs.Texts.{set_name}

-- ---- settings, sets, locks and channels

abbrev pub setting_line : Word → ℕ → Line
setting_line word n = word ∷ decimal n ∷ []

-- the processors in the order in which they were written
abbrev pub cpu_words : List CpuId → Line
cpu_words cpus = map (λ c. decimal c.0) cpus

abbrev pub set_line : Name × List CpuId → Line
set_line s = codes "set" ∷ s.0.text.items ∷ cpu_words s.1

abbrev pub lock_word : LockKind → Word
lock_word Mutex = codes "mutex"
lock_word Rwlock = codes "rwlock"

abbrev pub lock_line : Name × LockKind → Line
lock_line l = lock_word l.1 ∷ l.0.text.items ∷ []

abbrev pub chan_words : Word → ChanKind → Line
chan_words name Chan = codes "chan" ∷ name ∷ []
chan_words name (Sema count) = codes "sema" ∷ name ∷ decimal count ∷ []

abbrev pub chan_line : Name × ChanKind → Line
chan_line k = chan_words k.0.text.items k.1

-- ---- threads

abbrev pub quantum_word : Quantum → Word
quantum_word Def = codes "def"
quantum_word Inf = codes "inf"
quantum_word (Ticks n) = decimal n

-- the class of a thread, and its first ts_cpupri
abbrev pub class_words : ClassParms → ℕ → Line
class_words (parms.Ts limit upri) cpupri = codes "ts" ∷ decimal cpupri ∷ signed_decimal limit ∷ signed_decimal upri ∷ []
class_words (parms.Fx limit pri quantum) cpupri = codes "fx" ∷ decimal limit ∷ decimal pri ∷ quantum_word quantum ∷ []
class_words (parms.Sys pri) cpupri = codes "sys" ∷ decimal pri ∷ []
class_words (parms.Rt pri quantum) cpupri = codes "rt" ∷ decimal pri ∷ quantum_word quantum ∷ []

abbrev pub priv_words : Bool → Line
priv_words true = codes "priv" ∷ []
priv_words false = []

-- nothing of the default partition
abbrev pub in_words : Work → SetId → Line
in_words w p = if p.0 == 0 then [] else codes "in" ∷ set_name w p.0 ∷ []

-- `uid` is always written
unfoldable pub option_words : Work → ThreadDecl → Line
option_words w t = codes "uid" ∷ decimal t.uid ∷ (priv_words t.privileged ++ in_words w t.set)

abbrev pub thread_line : Work → ThreadDecl → Line
thread_line w t = codes "thread" ∷ t.name.text.items ∷ (class_words t.class t.cpupri ++ option_words w t)

-- ---- scripts

abbrev pub asked_words : Class → Request → Line
asked_words class.Ts r = codes "ts" ∷ signed_decimal r.limit ∷ signed_decimal r.pri ∷ []
asked_words class.Fx r = codes "fx" ∷ signed_decimal r.limit ∷ signed_decimal r.pri ∷ quantum_word r.quantum ∷ []
asked_words class.Sys r = codes "sys" ∷ signed_decimal r.pri ∷ []
asked_words class.Rt r = codes "rt" ∷ signed_decimal r.pri ∷ quantum_word r.quantum ∷ []

-- of a request of priocntl
abbrev pub request_words : Request → Line
request_words r = asked_words r.class r

abbrev pub bound_word : Option CpuId → Word
bound_word None = codes "-"
bound_word (Some c) = decimal c.0

-- an operation; a wait on a condition variable names the mutex that is entered behind it
abbrev pub operation_line : Work → Op → Line
operation_line w (Run n) = codes "run" ∷ decimal n ∷ []
operation_line w Yield = codes "yield" ∷ []
operation_line w (Nap n) = codes "nap" ∷ decimal n ∷ []
operation_line w (Sleep k) = codes "sleep" ∷ chan_name w k.0 ∷ []
operation_line w (Wake k) = codes "wake" ∷ chan_name w k.0 ∷ []
operation_line w (WakeAll k) = codes "wakeall" ∷ chan_name w k.0 ∷ []
operation_line w (Enter l) = codes "enter" ∷ lock_name w l.0 ∷ []
operation_line w (Read l) = codes "read" ∷ lock_name w l.0 ∷ []
operation_line w (Write l) = codes "write" ∷ lock_name w l.0 ∷ []
operation_line w (Exit l) = codes "exit" ∷ lock_name w l.0 ∷ []
operation_line w (Prio t r) = codes "priocntl" ∷ thread_name w t.0 ∷ request_words r
operation_line w (CvWait k l) = codes "cvwait" ∷ chan_name w k.0 ∷ lock_name w l.0 ∷ []
operation_line w (SemaP k) = codes "semap" ∷ chan_name w k.0 ∷ []
operation_line w (SemaV k) = codes "semav" ∷ chan_name w k.0 ∷ []
operation_line w (Assign c s) = codes "assign" ∷ decimal c.0 ∷ set_name w s.0 ∷ []
operation_line w (Pbind t c) = codes "pbind" ∷ thread_name w t.0 ∷ bound_word c ∷ []

-- The lines of operations. The entry of the mutex behind a wait on a condition variable is part of the wait's line, and
-- has none of its own: `entry` says that the first operation is such an entry.
abbrev pub operation_lines : Work → Bool → List Op → List Line
operation_lines w entry [] = []
operation_lines w true (op ∷ ops) = operation_lines w false ops
operation_lines w false (op ∷ ops) = operation_line w op ∷ operation_lines w (is_wait op) ops

-- the script of a thread of this name; a thread with the empty one has none
abbrev pub script_lines : Work → Word → List Op → List Line
script_lines w name [] = []
script_lines w name (op ∷ ops) = (codes "script" ∷ name ∷ []) ∷ (operation_lines w false (op ∷ ops) ++ (codes "end" ∷ []) ∷ [])
