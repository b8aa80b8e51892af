-- The language in which the text of a workload is written: which workload a text spells, and at which line a text is refused.
-- Source: this project's own.
use Rattle.std.specs.Prelude.{◌≡◌, ℕ, List}
use Rattle.sd_types.specs.declared.works.Work.{Work}
use Rattle.sd_declare.specs.declared.causes.WorkCause.{WorkCause}
use Rattle.sd_workload.specs.Accepted.{Accepted, FirstCause}

pub record Language : Type 1 where
  pub Spells : List ℕ → Work → Type 0
  -- this is the first line at fault, from 1, and the least of its causes
  pub RefusesAt : List ℕ → ℕ → WorkCause → Type 0

-- a text spells one workload at most, and none where it is refused
pub record IsSound (L : Language) : Type 0 where
  pub one : (text : List ℕ) (w v : Work) → L.Spells text w → L.Spells text v → w ≡ v
  pub not_both : (text : List ℕ) (w : Work) (line : ℕ) (cause : WorkCause) → L.Spells text w → L.RefusesAt text line cause → ⊥

-- the language of workloads
abbrev pub workloads : Language
workloads = record { Spells = Accepted; RefusesAt = FirstCause }
