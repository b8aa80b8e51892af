-- What the lines above a line of a task set say, as far as the rules of task sets ask for it.
-- Source: psrset(1M); the forms are this project's own.
use Rattle.std.specs.Prelude.{ℕ, ◌+◌, Bool, false, ◌&&◌, ◌||◌, ◌==◌, List, [], length, take, nat_le, codes, slice_get, slice_index_or, Option, Some, None, is_some, position}
use Rattle.std.specs.List.{list_any, position_or_len, range_with_len}
use Rattle.std.specs.Option.{option_map_or}
use Rattle.sd_types.specs.Works.{same_bytes}
use Rattle.sd_lines.specs.Words.{Word}
use Rattle.sd_tasks.specs.declared.releases.Release.{Release}

-- a thread that is declared
pub record Member : Type 0 where
  pub name : Word
  -- the line that declares it
  pub line : ℕ
  -- its set: 0 is the default partition, and 1 the first that is declared
  pub set : ℕ
  -- the processor whose clock releases it
  pub home : ℕ
  -- of a task, and of a thread with `start`
  pub release : Option Release
  -- how many times its script is written: once for each release of a task
  pub rounds : ℕ
  -- the processor to which it is bound
  pub cpu : Option ℕ
  -- of a task: within how many ticks of its release a job is to be complete
  pub deadline : Option ℕ
  pub is_task : Bool
  -- whether a script or a job is given
  pub is_given : Bool

pub record Above : Type 0 where
  pub cpus : ℕ
  pub limit : Option ℕ
  pub sets : List (Word × List ℕ)
  -- the names of channels and semaphores
  pub chans : List Word
  pub threads : List Member
  -- there is a timed line
  pub is_timed : Bool
  -- there is a thread or a request at level 59
  pub has_high : Bool
  -- there is a name that is kept for clocks and starters
  pub has_kept : Bool

abbrev pub nothing : Above
nothing = record { cpus = 1; limit = None; sets = []; chans = []; threads = []; is_timed = false; has_high = false; has_kept = false }

-- ---- names

abbrev pub is_digit : ℕ → Bool
is_digit byte = nat_le 48 byte && nat_le byte 57

-- `clock-` or `start-` and a digit
abbrev pub is_kept_name : Word → Bool
is_kept_name name = (same_bytes (take 6 name) (codes "clock-") || same_bytes (take 6 name) (codes "start-")) && is_digit (slice_index_or name 6 0)

abbrev pub is_chan_name : Above → Word → Bool
is_chan_name a name = list_any (λ k. same_bytes k name) a.chans

abbrev pub is_gated : Member → Bool
is_gated m = is_some m.release

-- the semaphore of this name is that of a task or of a thread with `start`
abbrev pub is_gate : Above → Word → Bool
is_gate a name = list_any (λ m. is_gated m && same_bytes m.name name) a.threads

-- the number of the first thread with the name, or of the threads where none has it
unfoldable pub thread_place : Above → Word → ℕ
thread_place a name = position_or_len (λ m. same_bytes m.name name) a.threads

abbrev pub thread_named : Above → Word → Option Member
thread_named a name = slice_get a.threads (thread_place a name)

-- ---- partitions

abbrev pub names_cpu : ℕ → Word × List ℕ → Bool
names_cpu c s = list_any (λ d. d == c) s.1

-- the set that names a processor, or the default partition
unfoldable pub partition : Above → ℕ → ℕ
partition a c = option_map_or (λ i. i + 1) (position (names_cpu c) a.sets) 0

-- the place of the first set with the name, or the number of sets where none has it
unfoldable pub set_place : Above → Word → ℕ
set_place a name = position_or_len (λ s. same_bytes s.0 name) a.sets

abbrev pub set_number : Above → Option Word → ℕ
set_number a None = 0
set_number a (Some name) = set_place a name + 1

-- the least processor of a set, or the number of processors where it has none
unfoldable pub least_cpu : Above → ℕ → ℕ
least_cpu a p = position_or_len (λ c. partition a c == p) (range_with_len 0 a.cpus)
