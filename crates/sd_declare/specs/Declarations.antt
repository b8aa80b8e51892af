-- What the lines of a workload text declare, as plain data. Source: priocntl(2), psrset(1M); the forms are this
-- project's own.
use Rattle.std.specs.Prelude.{ℕ, ◌+◌, Bool, List, [], length, map, sum_by, slice_get, nat_lt, Option, Some, None, unwrap_or}
use Rattle.std.specs.List.{position_or_len}
use Rattle.sd_types.specs.declared.numbers.CpuId.{CpuId}
use Rattle.sd_types.specs.declared.numbers.SetId.{SetId}
use Rattle.sd_types.specs.declared.numbers.LockId.{LockId}
use Rattle.sd_types.specs.declared.numbers.ChanId.{ChanId}
use Rattle.sd_types.specs.declared.numbers.ThreadId.{ThreadId}
use Rattle.sd_types.specs.declared.classes.ClassParms.{ClassParms}
use Rattle.sd_types.specs.declared.scripts.Op.{Op}
use Rattle.sd_types.specs.declared.works.LockKind.{LockKind}
use Rattle.sd_types.specs.declared.works.ChanKind.{ChanKind}
use Rattle.sd_types.specs.Works.{same_bytes}
use Rattle.sd_lines.specs.Words.{Word, Line}

-- a thread with its script, which is empty before one is given
pub record Thread : Type 0 where
  pub name : Word
  pub class : ClassParms
  pub cpupri : ℕ
  pub uid : ℕ
  pub privileged : Bool
  pub set : SetId
  pub ops : List Op

pub record Declarations : Type 0 where
  pub cpus : Option ℕ
  pub hz : Option ℕ
  pub limit : Option ℕ
  pub sets : List (Word × List CpuId)
  -- the lines of the tables
  pub ts : Option (List Line)
  pub fx : Option (List Line)
  pub rt : Option (List Line)
  pub locks : List (Word × LockKind)
  pub chans : List (Word × ChanKind)
  pub threads : List Thread
  -- the threads that have been given a script
  pub scripted : List ThreadId

-- the number of processors, 1 where no line gives it
abbrev pub cpu_count : Declarations → ℕ
cpu_count d = unwrap_or d.cpus 1

-- ---- numbers of names: that of the first with the name, or the next number where none has it

abbrev pub place : {X : Type 0} → Word → List (Word × X) → ℕ
place name xs = position_or_len (λ x. same_bytes x.0 name) xs

unfoldable pub lock_number : Declarations → Word → ℕ
lock_number d name = place name d.locks

unfoldable pub chan_number : Declarations → Word → ℕ
chan_number d name = place name d.chans

unfoldable pub set_place : Declarations → Word → ℕ
set_place d name = place name d.sets

unfoldable pub thread_number : Declarations → Word → ℕ
thread_number d name = position_or_len (λ t. same_bytes t.name name) d.threads

abbrev pub is_lock_name : Declarations → Word → Bool
is_lock_name d name = nat_lt (lock_number d name) (length d.locks)

abbrev pub is_chan_name : Declarations → Word → Bool
is_chan_name d name = nat_lt (chan_number d name) (length d.chans)

abbrev pub is_set_name : Declarations → Word → Bool
is_set_name d name = nat_lt (set_place d name) (length d.sets)

abbrev pub is_thread_name : Declarations → Word → Bool
is_thread_name d name = nat_lt (thread_number d name) (length d.threads)

-- the number of a set: 0 is the default partition, and 1 the first that is declared
abbrev pub set_number : Declarations → Option Word → ℕ
set_number d None = 0
set_number d (Some name) = set_place d name + 1

abbrev pub is_set : Declarations → Option Word → Bool
is_set d set = nat_lt (set_number d set) (length d.sets + 1)

-- ---- kinds, of which there is none past the last

abbrev pub lock_kind : Declarations → Word → Option LockKind
lock_kind d name = slice_get (map (λ l. l.1) d.locks) (lock_number d name)

abbrev pub chan_kind : Declarations → Word → Option ChanKind
chan_kind d name = slice_get (map (λ k. k.1) d.chans) (chan_number d name)

-- ---- numbers as they stand in operations

abbrev pub lock_id : Declarations → Word → LockId
lock_id d name = record { 0 = lock_number d name }

abbrev pub chan_id : Declarations → Word → ChanId
chan_id d name = record { 0 = chan_number d name }

abbrev pub thread_id : Declarations → Word → ThreadId
thread_id d name = record { 0 = thread_number d name }

abbrev pub set_id : Declarations → Option Word → SetId
set_id d set = record { 0 = set_number d set }

-- the number of processors that sets name
abbrev pub named_count : Declarations → ℕ
named_count d = sum_by (λ s. length s.1) d.sets

-- what stands above the first line
abbrev pub nothing : Declarations
nothing = record { cpus = None; hz = None; limit = None; sets = []; ts = None; fx = None; rt = None; locks = []; chans = []; threads = []; scripted = [] }
