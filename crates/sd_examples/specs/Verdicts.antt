-- What is said of an example.
-- Source: this project's own.
use Rattle.std.specs.Prelude.{◌≡◌, ◌≢◌, ℕ, List, codes, Option, Some, None, IfSome}
use Rattle.sd_examples.specs.declared.verdicts.Verdict.{Verdict}
use Rattle.sd_examples.specs.declared.verdicts.Verdict.TheVariants.{Same, NotRun, NotDrawn, OtherPicture, NotTraced, NotJson, OtherTrace}
use Rattle.sd_examples.specs.Calls.{certificate_of}
use Rattle.sd_examples.specs.Outcomes.{Draws, EndsWithoutRun, IsPrintedRun, Refuses}
use Rattle.sd_examples.specs.Traces.{Counts}

-- what is said of the trace of a certificate, and of the one stored if there is one
abbrev pub SaysOfTrace : List ℕ → Option (List ℕ) → Verdict → Type 0
SaysOfTrace certificate stored (Same n) =
    (text : List ℕ) × Draws (codes "trace") certificate text × Counts text (Some n) × IfSome stored (λ s. text ≡ s)
SaysOfTrace certificate stored (NotTraced status) = Refuses (codes "trace") certificate status
SaysOfTrace certificate stored NotJson = (text : List ℕ) × Draws (codes "trace") certificate text × Counts text None
SaysOfTrace certificate stored OtherTrace =
    (text : List ℕ) × (s : List ℕ) × Draws (codes "trace") certificate text × (stored ≡ Some s) × (text ≢ s)
SaysOfTrace certificate stored _ = ⊥

-- of its picture, and then of its trace
abbrev pub SaysOfCertificate : List ℕ → List ℕ → Option (List ℕ) → Verdict → Type 0
SaysOfCertificate certificate picture trace (NotDrawn status) = Refuses (codes "timeline") certificate status
SaysOfCertificate certificate picture trace OtherPicture = (text : List ℕ) × Draws (codes "timeline") certificate text × (text ≢ picture)
SaysOfCertificate certificate picture trace v = Draws (codes "timeline") certificate picture × SaysOfTrace certificate trace v

-- of a workload and the journal of its run
abbrev pub SaysOfRun : List ℕ → List ℕ → Option (List ℕ) → Verdict → Type 0
SaysOfRun workload picture trace (NotRun status) = EndsWithoutRun workload status
SaysOfRun workload picture trace v =
    (journal : List ℕ) × IsPrintedRun workload journal × SaysOfCertificate (certificate_of workload journal) picture trace v

-- What is said of a workload, its stored journal if there is one, its stored picture and its stored trace: the certificate is the
-- workload with the stored journal, or with the journal of its run.
abbrev pub Says : List ℕ → Option (List ℕ) → List ℕ → Option (List ℕ) → Verdict → Type 0
Says workload None picture trace v = SaysOfRun workload picture trace v
Says workload (Some journal) picture trace v = SaysOfCertificate (certificate_of workload journal) picture trace v
