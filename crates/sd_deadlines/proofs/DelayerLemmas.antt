-- Who delays a job, one delay after another.
use Rattle.std.proofs.Common.{◌≡◌, List, [], ◌∷◌, length, sym, ap, ◌∙◌, arith}
use Rattle.sd_types.specs.declared.numbers.ThreadId.{ThreadId}
use Rattle.sd_statistics.specs.declared.jobs.Job.{Job}
use Rattle.sd_deadlines.specs.declared.job_lines.Delay.{Delay}
use Rattle.sd_deadlines.specs.JobLines.{delayers_from, with_delay}

pub delayers_more : (job : Job) (seen next all : List ThreadId) (d : Delay) (left rest : List Delay) → left ≡ d ∷ rest → delayers_from job seen left ≡ all
    → next ≡ with_delay job seen d → delayers_from job next rest ≡ all
delayers_more job seen next all d left rest now so_far is = ap (λ xs. delayers_from job xs rest) is ∙ ap (delayers_from job seen) (sym now) ∙ so_far

pub delayers_all : (job : Job) (seen all : List ThreadId) (left : List Delay) → length left ≡ 0 → delayers_from job seen left ≡ all → seen ≡ all
delayers_all job seen all [] none so_far = so_far
delayers_all job seen all (d ∷ ds) none so_far = absurd (omega (arith, none))
