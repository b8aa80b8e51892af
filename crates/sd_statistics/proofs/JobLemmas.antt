-- The jobs of a task, one entry after another.
use Rattle.std.proofs.Common.{◌≡◌, ℕ, ◌+◌, ◌<◌, Bool, true, false, List, [], ◌∷◌, ◌++◌, Option, length, take, get_or, append_assoc, refl, sym, ap, ◌∙◌, arith}
use Rattle.std.specs.Prelude.{count_by, if◌then◌else◌}
use Rattle.std.proofs.lemmas.List.Sums.{count_by_more_no, count_by_more_yes}
use Rattle.sd_stretches.specs.declared.changes.Happening.{Happening}
use Rattle.sd_statistics.specs.declared.jobs.Job.{Job}
use Rattle.sd_statistics.specs.declared.jobs.OpenJob.{OpenJob}
use Rattle.sd_statistics.specs.declared.jobs.Release.{Release}
use Rattle.sd_statistics.specs.Jobs.{job_after, job_if, job_left, jobs_from, is_taking, taken_after, unit}

count_cases : {X : Type 0} (p : X → Bool) (xs : List X) (i : ℕ) (d : X) (b : Bool) → i < length xs → p (get_or xs i d) ≡ b
    → count_by p (take (i + 1) xs) ≡ (if b then count_by p (take i xs) + 1 else count_by p (take i xs))
count_cases p xs i d true inside is = count_by_more_yes p xs i d inside is
count_cases p xs i d false inside is = count_by_more_no p xs i d inside is

-- one unit more may be taken
pub taken_more : (xs : List Happening) (i taken more : ℕ) (d : Happening) → i < length xs → taken ≡ count_by (λ x. is_taking x.event) (take i xs)
    → more ≡ taken_after taken (get_or xs i d).event → more ≡ count_by (λ x. is_taking x.event) (take (i + 1) xs)
taken_more xs i taken more d inside so_far is =
    is ∙ ap (λ n. taken_after n (get_or xs i d).event) so_far ∙ sym (count_cases (λ (x : Happening). is_taking x.event) xs i d (is_taking (get_or xs i d).event) inside refl)

-- one entry more is looked at
pub job_more : (is_over : Bool) (t count : ℕ) (units : List Release) (taken more_taken : ℕ) (current next : Option OpenJob) (x : Happening) (left rest : List Happening) (found more all : List Job)
    → left ≡ x ∷ rest → found ++ jobs_from is_over t count units taken current left ≡ all → more ≡ found ++ job_if t current x → more_taken ≡ taken_after taken x.event
    → next ≡ job_after t (unit count units taken) current x x.event → more ++ jobs_from is_over t count units more_taken next rest ≡ all
unfolding jobs_from
job_more is_over t count units taken more_taken current next x left rest found more all now so_far made counted is =
    ap (λ (xs : List Job). xs ++ jobs_from is_over t count units more_taken next rest) made
    ∙ append_assoc found (job_if t current x) (jobs_from is_over t count units more_taken next rest)
    ∙ ap (λ n. found ++ (job_if t current x ++ jobs_from is_over t count units n next rest)) counted
    ∙ ap (λ o. found ++ (job_if t current x ++ jobs_from is_over t count units (taken_after taken x.event) o rest)) is
    ∙ ap (λ xs. found ++ jobs_from is_over t count units taken current xs) (sym now) ∙ so_far

-- all entries were looked at, and the job that is left is told
pub jobs_end : (is_over : Bool) (t count : ℕ) (units : List Release) (taken : ℕ) (current : Option OpenJob) (left : List Happening) (found more all : List Job)
    → length left ≡ 0 → found ++ jobs_from is_over t count units taken current left ≡ all → more ≡ found ++ job_left is_over current → more ≡ all
unfolding jobs_from
jobs_end is_over t count units taken current [] found more all none so_far told = told ∙ so_far
jobs_end is_over t count units taken current (x ∷ xs) found more all none so_far told = absurd (omega (arith, none))
