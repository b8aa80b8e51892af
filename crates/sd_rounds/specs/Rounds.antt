-- Runs while they are made.
-- Source: this project's own.
use Rattle.std.specs.Prelude.{◌≡◌, ◌≢◌, ℕ, ◌<◌, ◌≤◌, List, [], length}
use Rattle.sd_types.specs.declared.numbers.CpuId.{CpuId}
use Rattle.sd_types.specs.declared.events.Entry.{Entry}
use Rattle.sd_types.specs.declared.works.Work.{Work}
use Rattle.sd_types.specs.Limits.{most_entries}
use Rattle.sd_machine.specs.Runs.{rounds, round_after, IsRun}

-- so many rounds, none of which was empty
pub record HasRounds (w : Work) (orders : ℕ → List CpuId) (count : ℕ) (es : List Entry) : Type 0 where
  pub entries : es ≡ rounds w orders count
  pub goes_on : (k : ℕ) → k < count → round_after w (orders k) (rounds w orders k) ≢ []

-- the run that goes in rounds has 2^40 entries or more
pub record IsLongSerial (w : Work) (orders : ℕ → List CpuId) : Type 0 where
  pub count : ℕ
  pub so_far : HasRounds w orders count (rounds w orders count)
  pub long : most_entries ≤ length (rounds w orders count)

-- a run of the workload has 2^40 entries or more
pub record IsLongRun (w : Work) : Type 0 where
  pub entries : List Entry
  pub run : IsRun w entries
  pub long : most_entries ≤ length entries
