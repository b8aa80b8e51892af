-- The language of task sets: a text spells the workload that it is, or else the one to which it expands as a set. So a workload is
-- read as a program reads it that knows no sets.
-- Source: this project's own.
use Rattle.std.specs.Prelude.{◌≡◌, ◌⊎◌, ℕ, List}
use Rattle.sd_types.specs.declared.works.Work.{Work}
use Rattle.sd_declare.specs.declared.causes.WorkCause.{WorkCause}
use Rattle.sd_workload.specs.Accepted.{Accepted}
use Rattle.sd_tasks.specs.Written.{Written, text_of}
use Rattle.sd_releases.specs.Verdicts.{Expands, RefusesSet, set_verdict}
use Rattle.sd_answers.specs.Languages.{Language}

-- the text is that of a workload
abbrev pub IsPlain : List ℕ → Type 0
IsPlain text = (w : Work) × Accepted text w

-- the text is none, and as a set it expands to this one
pub record ExpandsTo (text base : List ℕ) : Type 0 where
  pub not_plain : IsPlain text → ⊥
  pub lines : List Written
  pub expands : set_verdict text ≡ Expands lines
  pub base_is : base ≡ text_of lines

-- for which text of a workload a text stands
abbrev pub StandsFor : List ℕ → List ℕ → Type 0
StandsFor text base = (IsPlain text × (base ≡ text)) ⊎ ExpandsTo text base

pub record SpellsSet (text : List ℕ) (w : Work) : Type 0 where
  pub base : List ℕ
  pub stands : StandsFor text base
  pub accepted : Accepted base w

-- the text is that of no workload, and this is the first line at fault of the set, with the least of its causes
pub record RefusesSetAt (text : List ℕ) (line : ℕ) (cause : WorkCause) : Type 0 where
  pub not_plain : IsPlain text → ⊥
  pub first : set_verdict text ≡ RefusesSet line cause

abbrev pub sets : Language
sets = record { Spells = SpellsSet; RefusesAt = RefusesSetAt }
