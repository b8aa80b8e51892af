-- The causes of a line outside blocks, against what the lines above declare, and what it declares.
-- Source: priocntl(2), psrset(1M); the ranges and limits are this project's own.
use Rattle.std.specs.Prelude.{ℕ, ◌+◌, Bool, true, not, ◌&&◌, ◌||◌, ◌==◌, List, [], ◌∷◌, ◌++◌, length, map, min, nat_le, nat_lt, Some, is_some}
use Rattle.std.specs.Int.{int_min}
use Rattle.std.specs.List.{list_any}
use Rattle.sd_types.specs.declared.classes.ClassParms.{ClassParms}
use Rattle.sd_types.specs.declared.classes.ClassParms.TheVariants as parms
use Rattle.sd_types.specs.declared.classes.Quantum.{Quantum}
use Rattle.sd_types.specs.declared.classes.Quantum.TheVariants as quantum
use Rattle.sd_types.specs.declared.works.LockKind.{LockKind}
use Rattle.sd_types.specs.declared.works.ChanKind.{ChanKind}
use Rattle.sd_types.specs.declared.works.ChanKind.TheVariants as chan
use Rattle.sd_types.specs.Partitions.{cpu_of_number}
use Rattle.sd_types.specs.Works.{is_distinct, upri_fits}
use Rattle.sd_types.specs.Limits.{greatest_limit, most_objects, most_processors, most_quantum_ticks, most_sets, most_threads}
use Rattle.sd_lines.specs.declared.statements.TableClass.{TableClass}
use Rattle.sd_lines.specs.declared.statements.TableClass.TheVariants as table
use Rattle.sd_lines.specs.declared.threads.ThreadClass.{ThreadClass}
use Rattle.sd_lines.specs.declared.threads.ThreadClass.TheVariants.{Ts, Fx, Sys, Rt}
use Rattle.sd_lines.specs.declared.words.QuantumWord.{QuantumWord}
use Rattle.sd_lines.specs.declared.words.QuantumWord.TheVariants.{Def, Inf, Ticks}
use Rattle.sd_lines.specs.Words.{Word}
use Rattle.sd_lines.specs.Threads.{Thread as ThreadLine}
use Rattle.sd_lines.specs.Statements.{Statement, Cpus, Hz, Limit, Set, Table, Lock, Chan, Sema, Declare, Script}
use Rattle.sd_declare.specs.Causes.{Causes, no_causes}
use Rattle.sd_declare.specs.Declarations.{Thread, Declarations, cpu_count, is_lock_name, is_chan_name, is_set_name, is_thread_name, is_set, set_id, named_count, thread_number}

-- ---- ranges

-- a quantum in ticks
abbrev pub is_quantum : QuantumWord → Bool
is_quantum Def = true
is_quantum Inf = true
is_quantum (Ticks n) = nat_le 1 n && nat_le n most_quantum_ticks

-- the numbers of a class
abbrev pub is_class : ThreadClass → Bool
is_class (Ts cpupri limit upri) = nat_le cpupri 59 && upri_fits limit && upri_fits upri
is_class (Fx limit pri quantum) = nat_le limit 60 && nat_le pri 60 && is_quantum quantum
is_class (Sys pri) = nat_le 60 pri && nat_le pri 99
is_class (Rt pri quantum) = nat_le pri 59 && is_quantum quantum

-- ---- sets

-- the number is that of no processor
abbrev pub is_beyond : Declarations → ℕ → Bool
is_beyond d c = nat_le (cpu_count d) c

-- a set names the processor
abbrev pub is_named : Declarations → ℕ → Bool
is_named d c = list_any (λ s. list_any (λ e. e.0 == c) s.1) d.sets

-- none is left to the default partition, another set names one of them, or one stands twice among them
unfoldable pub is_taken : Declarations → List ℕ → Bool
is_taken d cpus =
    nat_le (cpu_count d) (named_count d + length cpus) || list_any (is_named d) cpus || not (is_distinct (λ a b. a == b) cpus)

-- ---- causes

-- The causes of each statement, each judged by itself; but whether a set takes processors that it may not take is
-- judged where all its numbers are those of processors.
abbrev pub cpus_causes : Declarations → ℕ → Causes
cpus_causes d n = record no_causes { syntax = nat_lt 0 (length d.sets); twice = is_some d.cpus; range = not (nat_le 1 n && nat_le n most_processors) }

abbrev pub hz_causes : Declarations → ℕ → Causes
hz_causes d n = record no_causes { twice = is_some d.hz; range = not ((n == 100) || (n == 1000)) }

abbrev pub limit_causes : Declarations → ℕ → Causes
limit_causes d n = record no_causes { twice = is_some d.limit; range = not (nat_le 1 n && nat_le n greatest_limit) }

abbrev pub set_causes : Declarations → Word → List ℕ → Causes
set_causes d name cpus = record no_causes {
  syntax = length cpus == 0;
  twice = is_set_name d name;
  range = list_any (is_beyond d) cpus;
  sets = not (list_any (is_beyond d) cpus) && is_taken d cpus;
  limits = nat_le most_sets (length d.sets);
}

abbrev pub is_table_given : Declarations → TableClass → Bool
is_table_given d table.Ts = is_some d.ts
is_table_given d table.Fx = is_some d.fx
is_table_given d table.Rt = is_some d.rt

abbrev pub table_causes : Declarations → TableClass → Causes
table_causes d class = record no_causes { twice = is_table_given d class }

abbrev pub lock_causes : Declarations → Word → Causes
lock_causes d name = record no_causes { twice = is_lock_name d name; limits = nat_le most_objects (length d.locks) }

abbrev pub chan_causes : Declarations → Word → Causes
chan_causes d name = record no_causes { twice = is_chan_name d name; limits = nat_le most_objects (length d.chans) }

-- a semaphore counts as a channel
abbrev pub sema_causes : Declarations → Word → ℕ → Causes
sema_causes d name count = record (chan_causes d name) { range = not (nat_le count 65535) }

abbrev pub thread_causes : Declarations → ThreadLine → Causes
thread_causes d t = record no_causes {
  unknown = not (is_set d t.set);
  twice = is_thread_name d t.name;
  range = not (is_class t.class && nat_le t.uid 65535);
  limits = nat_le most_threads (length d.threads);
}

abbrev pub script_causes : Declarations → Word → Causes
script_causes d name = record no_causes {
  unknown = not (is_thread_name d name);
  twice = list_any (λ t. t.0 == thread_number d name) d.scripted;
}

abbrev pub statement_causes : Declarations → Statement → Causes
statement_causes d (Cpus n) = cpus_causes d n
statement_causes d (Hz n) = hz_causes d n
statement_causes d (Limit n) = limit_causes d n
statement_causes d (Set name cpus) = set_causes d name cpus
statement_causes d (Table class) = table_causes d class
statement_causes d (Lock kind name) = lock_causes d name
statement_causes d (Chan name) = chan_causes d name
statement_causes d (Sema name count) = sema_causes d name count
statement_causes d (Declare t) = thread_causes d t
statement_causes d (Script name) = script_causes d name

-- ---- what is declared

abbrev pub quantum_of : QuantumWord → Quantum
quantum_of Def = quantum.Def
quantum_of Inf = quantum.Inf
quantum_of (Ticks n) = quantum.Ticks n

-- a user priority above the limit is lowered to it
abbrev pub parms_of : ThreadClass → ClassParms
parms_of (Ts cpupri limit upri) = parms.Ts limit (int_min upri limit)
parms_of (Fx limit pri q) = parms.Fx limit (min pri limit) (quantum_of q)
parms_of (Sys pri) = parms.Sys pri
parms_of (Rt pri q) = parms.Rt pri (quantum_of q)

-- the first ts_cpupri, 0 for the other classes
abbrev pub cpupri_of : ThreadClass → ℕ
cpupri_of (Ts cpupri limit upri) = cpupri
cpupri_of (Fx limit pri q) = 0
cpupri_of (Sys pri) = 0
cpupri_of (Rt pri q) = 0

abbrev pub thread_of : Declarations → ThreadLine → Thread
thread_of d t = record {
  name = t.name;
  class = parms_of t.class;
  cpupri = cpupri_of t.class;
  uid = t.uid;
  privileged = t.privileged;
  set = set_id d t.set;
  ops = [];
}

abbrev pub with_set : Declarations → Word → List ℕ → Declarations
with_set d name cpus = record d { sets = d.sets ++ (name, map cpu_of_number cpus) ∷ [] }

abbrev pub with_lock : Declarations → LockKind → Word → Declarations
with_lock d kind name = record d { locks = d.locks ++ (name, kind) ∷ [] }

abbrev pub with_chan : Declarations → ChanKind → Word → Declarations
with_chan d kind name = record d { chans = d.chans ++ (name, kind) ∷ [] }

abbrev pub with_thread : Declarations → ThreadLine → Declarations
with_thread d t = record d { threads = d.threads ++ thread_of d t ∷ [] }

-- a table and a script are declared where their blocks are closed
abbrev pub with_statement : Declarations → Statement → Declarations
with_statement d (Cpus n) = record d { cpus = Some n }
with_statement d (Hz n) = record d { hz = Some n }
with_statement d (Limit n) = record d { limit = Some n }
with_statement d (Set name cpus) = with_set d name cpus
with_statement d (Table class) = d
with_statement d (Lock kind name) = with_lock d kind name
with_statement d (Chan name) = with_chan d chan.Chan name
with_statement d (Sema name count) = with_chan d (chan.Sema count) name
with_statement d (Declare t) = with_thread d t
with_statement d (Script name) = d
