-- What the calls of the two programs gave.
-- Source: this project's own.
use Rattle.std.specs.Prelude.{◌≢◌, ℕ, List, ◌⊎◌}
use Rattle.sd_examples.specs.declared.calls.Outcome.{Outcome}
use Rattle.sd_examples.specs.declared.calls.Outcome.TheVariants.{Wrote, Refused}
use Rattle.sd_examples.specs.Calls.{Runs, Views}

-- the text is the journal of the run of this workload: status 6 says that threads block each other at its end
unfoldable pub IsPrintedRun : List ℕ → List ℕ → Type 0
IsPrintedRun workload text = Runs workload text 0 ⊎ Runs workload text 6

-- `dispsim run` returned this status, which says that there is no journal
unfoldable pub EndsWithoutRun : List ℕ → ℕ → Type 0
EndsWithoutRun workload status = ((text : List ℕ) × Runs workload text status) × (status ≢ 0) × (status ≢ 6)

-- `dispview`, with this argument, drew this of the certificate
unfoldable pub Draws : List ℕ → List ℕ → List ℕ → Type 0
Draws word certificate text = Views word certificate text 0

-- it returned this status, which says that it did not draw
unfoldable pub Refuses : List ℕ → List ℕ → ℕ → Type 0
Refuses word certificate status = ((text : List ℕ) × Views word certificate text status) × (status ≢ 0)

abbrev pub IsRun : List ℕ → Outcome → Type 0
IsRun workload (Wrote out) = IsPrintedRun workload out.held
IsRun workload (Refused status) = EndsWithoutRun workload status

abbrev pub IsDrawing : List ℕ → List ℕ → Outcome → Type 0
IsDrawing word certificate (Wrote out) = Draws word certificate out.held
IsDrawing word certificate (Refused status) = Refuses word certificate status
