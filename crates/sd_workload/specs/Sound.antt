-- What holds of the declarations of every text of which no line is at fault, so that they make a workload.
-- Source: this project's own.
use Rattle.std.specs.Prelude.{◌≡◌, ℕ, ◌<◌, ◌≤◌, Bool, true, ◌&&◌, ◌||◌, ◌==◌, List, length, map, flat_map, nat_le, nat_lt, Option, IfSome}
use Rattle.std.specs.List.{list_all}
use Rattle.sd_types.specs.declared.numbers.CpuId.{CpuId}
use Rattle.sd_types.specs.Works.{Declared, same_bytes, same_cpu, is_distinct, class_fits, op_names, has_small_count}
use Rattle.sd_types.specs.Limits.{greatest_limit, most_processors}
use Rattle.sd_dispadmin.specs.TableText.{Format, AreClean, has_rows, ts_format, fx_format, rt_format}
use Rattle.sd_lines.specs.Words.{Word, Line}
use Rattle.sd_declare.specs.Declarations.{Thread, Declarations, cpu_count}
use Rattle.sd_workload.specs.Accepted.{hz_of}
use Rattle.sd_workload.specs.Texts.{Block, Outside, InTable, InScript, format_of}

-- what is declared, as far as scripts name it
abbrev pub named : Declarations → Declared
named d = record { cpus = cpu_count d; sets = length d.sets; locks = map (λ l. l.1) d.locks; chans = map (λ k. k.1) d.chans; threads = length d.threads }

-- the processors that sets name
abbrev pub named_cpus : List (Word × List CpuId) → List CpuId
named_cpus sets = flat_map (λ s. s.1) sets

abbrev pub set_is_sound : ℕ → Word × List CpuId → Bool
set_is_sound cpus s = nat_lt 0 (length s.1) && list_all (λ c. nat_lt c.0 cpus) s.1

abbrev pub thread_is_sound : Declared → Thread → Bool
thread_is_sound d t = class_fits t.class t.cpupri && nat_le t.set.0 d.sets && list_all (op_names d) t.ops

-- the lines are those of a table
pub record IsTableLines (format : Format) (lines : List Line) : Type 0 where
  pub clean : AreClean format.columns lines (length lines)
  pub rows : has_rows format lines ≡ true

-- the settings, with their defaults
pub record AreSettings (cpus hz : ℕ) (limit : Option ℕ) : Type 0 where
  pub cpus_some : 1 ≤ cpus
  pub cpus_most : cpus ≤ most_processors
  pub known_hz : ((hz == 100) || (hz == 1000)) ≡ true
  pub limit_some : IfSome limit (λ n. 1 ≤ n)
  pub limit_most : IfSome limit (λ n. n ≤ greatest_limit)

-- so many processors in these sets
pub record AreSets (cpus : ℕ) (sets : List (Word × List CpuId)) : Type 0 where
  pub fit : list_all (set_is_sound cpus) sets ≡ true
  pub differ : is_distinct same_cpu (named_cpus sets) ≡ true
  pub left : length (named_cpus sets) < cpus

-- no two have one name
abbrev pub AreNamed : {X : Type 0} → List (Word × X) → Type 0
AreNamed xs = is_distinct same_bytes (map (λ x. x.0) xs) ≡ true

pub record AreThreads (d : Declared) (threads : List Thread) : Type 0 where
  pub names : is_distinct same_bytes (map (λ t. t.name) threads) ≡ true
  pub fit : list_all (thread_is_sound d) threads ≡ true

pub record AreTables (ts fx rt : Option (List Line)) : Type 0 where
  pub ts_lines : IfSome ts (IsTableLines ts_format)
  pub fx_lines : IfSome fx (IsTableLines fx_format)
  pub rt_lines : IfSome rt (IsTableLines rt_format)

pub record AreSoundDeclarations (d : Declarations) : Type 0 where
  pub settings : AreSettings (cpu_count d) (hz_of d) d.limit
  pub sets : AreSets (cpu_count d) d.sets
  pub set_names : AreNamed d.sets
  pub lock_names : AreNamed d.locks
  pub chan_names : AreNamed d.chans
  pub counts : list_all (λ k. has_small_count k.1) d.chans ≡ true
  pub threads : AreThreads (named d) d.threads
  pub tables : AreTables d.ts d.fx d.rt

-- and of the block that is open
abbrev pub IsSoundBlock : Declarations → Block → Type 0
IsSoundBlock d Outside = Unit {0}
IsSoundBlock d (InTable class above) = AreClean (format_of class).columns above (length above)
IsSoundBlock d (InScript t ops) = list_all (op_names (named d)) ops ≡ true
