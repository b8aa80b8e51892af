-- Which text is accepted as which workload, and the first cause of a text that is refused.
-- Source: this project's own.
use Rattle.std.specs.Prelude.{◌≡◌, ℕ, List, map, Option, Some, None, unwrap_or}
use Rattle.sd_types.specs.declared.tables.TsTable.{TsTable}
use Rattle.sd_types.specs.declared.tables.FixedTable.{FixedTable}
use Rattle.sd_types.specs.declared.works.Work.{Work}
use Rattle.sd_rules.specs.DefaultTables.{default_ts_rows, default_fx_rows, default_rt_rows}
use Rattle.sd_dispadmin.specs.TableText.{Format, word_lines, fx_format, rt_format, SpellsTs, SpellsFixed}
use Rattle.sd_lines.specs.Words.{Line}
use Rattle.sd_declare.specs.declared.causes.WorkCause.{WorkCause}
use Rattle.sd_declare.specs.Declarations.{Declarations, cpu_count}
use Rattle.sd_declare.specs.Kept.{set_kept, lock_kept, chan_kept, thread_kept}
use Rattle.sd_workload.specs.Texts.{Accepts, Refuses, verdict_of}

-- the ticks of a second, 100 where no line gives them
abbrev pub hz_of : Declarations → ℕ
hz_of d = unwrap_or d.hz 100

-- ---- the tables: those that their lines spell at the ticks of a second of the whole text, or the default ones

pub record SpellsTsLines (lines : List Line) (hz : ℕ) (t : TsTable) : Type 0 where
  pub text : List ℕ
  pub text_lines : word_lines text ≡ lines
  pub spells : SpellsTs text hz t

pub record IsDefaultTs (hz : ℕ) (t : TsTable) : Type 0 where
  pub res : t.res ≡ 1000
  pub rows : t.rows ≡ default_ts_rows hz

abbrev pub IsTs : Option (List Line) → ℕ → TsTable → Type 0
IsTs None hz t = IsDefaultTs hz t
IsTs (Some lines) hz t = SpellsTsLines lines hz t

pub record SpellsFixedLines (format : Format) (lines : List Line) (hz : ℕ) (t : FixedTable) : Type 0 where
  pub text : List ℕ
  pub text_lines : word_lines text ≡ lines
  pub spells : SpellsFixed format text hz t

pub record IsDefaultFx (hz : ℕ) (t : FixedTable) : Type 0 where
  pub res : t.res ≡ 1000
  pub rows : t.rows ≡ default_fx_rows hz

abbrev pub IsFx : Option (List Line) → ℕ → FixedTable → Type 0
IsFx None hz t = IsDefaultFx hz t
IsFx (Some lines) hz t = SpellsFixedLines fx_format lines hz t

pub record IsDefaultRt (hz : ℕ) (t : FixedTable) : Type 0 where
  pub res : t.res ≡ 1000
  pub rows : t.rows ≡ default_rt_rows hz

abbrev pub IsRt : Option (List Line) → ℕ → FixedTable → Type 0
IsRt None hz t = IsDefaultRt hz t
IsRt (Some lines) hz t = SpellsFixedLines rt_format lines hz t

-- ---- works

-- the workload has what is declared, and the defaults of what is not
pub record IsWork (d : Declarations) (w : Work) : Type 0 where
  pub cpus : w.cpus ≡ cpu_count d
  pub hz : w.hz ≡ hz_of d
  pub limit : d.limit ≡ Some w.limit
  pub sets : map set_kept w.sets ≡ d.sets
  pub locks : map lock_kept w.locks ≡ d.locks
  pub chans : map chan_kept w.chans ≡ d.chans
  pub threads : map thread_kept w.threads ≡ d.threads
  pub ts : IsTs d.ts w.hz w.ts
  pub fx : IsFx d.fx w.hz w.fx
  pub rt : IsRt d.rt w.hz w.rt

-- the text is accepted as the workload
pub record Accepted (text : List ℕ) (w : Work) : Type 0 where
  pub declares : Declarations
  pub accepted : verdict_of text ≡ Accepts declares
  pub work : IsWork declares w

-- the text is refused: the line, from 1, and its cause
abbrev pub FirstCause : List ℕ → ℕ → WorkCause → Type 0
FirstCause text line cause = verdict_of text ≡ Refuses line cause

-- two works with the same parts
pub record HaveSameParts (w v : Work) : Type 0 where
  pub cpus : w.cpus ≡ v.cpus
  pub hz : w.hz ≡ v.hz
  pub limit : w.limit ≡ v.limit
  pub sets : map set_kept w.sets ≡ map set_kept v.sets
  pub locks : map lock_kept w.locks ≡ map lock_kept v.locks
  pub chans : map chan_kept w.chans ≡ map chan_kept v.chans
  pub threads : map thread_kept w.threads ≡ map thread_kept v.threads
  pub ts : (w.ts.res ≡ v.ts.res) × (w.ts.rows ≡ v.ts.rows)
  pub fx : (w.fx.res ≡ v.fx.res) × (w.fx.rows ≡ v.fx.rows)
  pub rt : (w.rt.res ≡ v.rt.res) × (w.rt.rows ≡ v.rt.rows)
