-- What stands behind an answer.
-- Source: this project's own.
use Rattle.std.specs.Prelude.{◌≡◌, ℕ, ◌≤◌, Bool, true, false, List, [], length, Option, nat_le, ◌⊎◌, ⊤}
use Rattle.sd_types.specs.declared.numbers.ThreadId.{ThreadId}
use Rattle.sd_types.specs.declared.works.Work.{Work}
use Rattle.sd_types.specs.Limits.{most_entries}
use Rattle.sd_search.specs.declared.findings.Finding.{Finding}
use Rattle.sd_search.specs.declared.findings.Finding.TheVariants as finding
use Rattle.sd_search.specs.declared.graph.Graph.{Graph}
use Rattle.sd_search.specs.declared.questions.Question.{Question}
use Rattle.sd_search.specs.Finals.{AreFinals}
use Rattle.sd_search.specs.Findings.{IsFair, IsFinding, IsShortest}
use Rattle.sd_search.specs.Graphs.{AreApart, Gathers, HasEveryRun, packed}
use Rattle.sd_longest.specs.declared.latency.Longest.{Longest}
use Rattle.sd_longest.specs.declared.latency.Longest.TheVariants as longest
use Rattle.sd_longest.specs.LongestRuns.{IsLongestFound}
use Rattle.sd_longest.specs.Waits.{IsLongest, IsOpenLongest}
use Rattle.sd_search_answers.specs.declared.forms.Aim.{Aim}
use Rattle.sd_search_answers.specs.declared.forms.Aim.TheVariants.{Find, Count, Ends, Waits}
use Rattle.sd_search_answers.specs.declared.timings.Timing.{Timing}
use Rattle.sd_search_answers.specs.declared.timings.Timing.TheVariants as timing
use Rattle.sd_search_answers.specs.declared.verdicts.Told.{Told}
use Rattle.sd_search_answers.specs.declared.verdicts.Verdict.{Verdict}
use Rattle.sd_search_answers.specs.declared.verdicts.Verdict.TheVariants.{Done, Found, Never, More, NoThread}
use Rattle.sd_search_answers.specs.Texts.{count_text, finding_text, longest_text, timing_text}
use Rattle.sd_search_answers.specs.Timings.{AreShort, HasNoThread, IsThread, IsTiming}

-- a search of the workload: what it gathered, all of it or `most` states, and never more than these but for the first one
pub record IsSearch (w : Work) (most : ℕ) (g : Graph) : Type 0 where
  pub gathered : Gathers w g
  pub apart : AreApart (packed g)
  pub all : length (packed g) ≤ g.done → HasEveryRun w (packed g)
  pub ends : (length (packed g) ≤ g.done) ⊎ (most ≤ length (packed g))
  pub few : (length (packed g) ≤ most) ⊎ (length (packed g) ≡ 1)

abbrev pub verdict_of : Finding → Verdict
verdict_of (finding.Found es) = Found
verdict_of finding.Never = Never
verdict_of finding.More = More

-- a run that is shown has no more than 2^40 entries
abbrev pub IsShort : Finding → Type 0
IsShort (finding.Found es) = length es.items ≤ most_entries
IsShort finding.Never = ⊤
IsShort finding.More = ⊤

-- what is said is the text of an answer which is so, after a search
pub record IsAnswered (w : Work) (q : Question) (most : ℕ) (told : Told) : Type 0 where
  pub graph : Graph
  pub search : IsSearch w most graph
  pub finding : Finding
  pub is : IsFinding w q finding
  pub fair : IsFair w q graph finding
  pub shortest : IsShortest w q finding
  pub short : IsShort finding
  pub verdict : told.verdict ≡ verdict_of finding
  pub written : told.text.items ≡ finding_text w q finding (length (packed graph))

-- the verdict of a count
abbrev pub count_verdict : Bool → Verdict
count_verdict true = Done
count_verdict false = More

-- what is said is how many states a search gathered, whether these are all, in how many of them runs end, and how many entries a run has at
-- most, where these are all
pub record IsCounted (w : Work) (most : ℕ) (told : Told) : Type 0 where
  pub graph : Graph
  pub search : IsSearch w most graph
  pub finals : List ℕ
  pub are : AreFinals w (packed graph) (length (packed graph)) finals
  pub entries : Option ℕ
  pub longest : IsLongestFound w graph entries
  pub verdict : told.verdict ≡ count_verdict (nat_le (length (packed graph)) graph.done)
  pub written : told.text.items ≡ count_text (nat_le (length (packed graph)) graph.done) (length (packed graph)) (length finals) entries

-- the verdict on when a thread ends
abbrev pub timing_verdict : Timing → Verdict
timing_verdict (timing.Between earliest latest in_every) = Found
timing_verdict timing.Never = Never
timing_verdict timing.More = More

-- what is said is the text of when the thread ends, after a search
pub record IsTimed (w : Work) (t : ThreadId) (most : ℕ) (told : Told) : Type 0 where
  pub graph : Graph
  pub search : IsSearch w most graph
  pub timing : Timing
  pub is : IsTiming w t graph timing
  pub short : AreShort timing
  pub verdict : told.verdict ≡ timing_verdict timing
  pub written : told.text.items ≡ timing_text w t timing (length (packed graph))

-- no thread has the name, and nothing is written
pub record IsUnnamed (w : Work) (name : List ℕ) (told : Told) : Type 0 where
  pub none : HasNoThread w name
  pub verdict : told.verdict ≡ NoThread
  pub empty : told.text.items ≡ []

-- the verdict on how long a thread waits
abbrev pub longest_verdict : Longest → Verdict
longest_verdict (longest.Wait ticks es) = Found
longest_verdict longest.Never = Never
longest_verdict longest.More = More

abbrev pub IsShortWait : Longest → Type 0
IsShortWait (longest.Wait ticks es) = length es.items ≤ most_entries
IsShortWait _ = ⊤

-- what is said is the text of the longest time from a wakeup of the thread to its running, after a search
pub record IsWaited (w : Work) (t : ThreadId) (most : ℕ) (told : Told) : Type 0 where
  pub graph : Graph
  pub search : IsSearch w most graph
  pub longest : Longest
  pub is : IsLongest w t longest
  pub left : IsOpenLongest graph longest
  pub short : IsShortWait longest
  pub verdict : told.verdict ≡ longest_verdict longest
  pub written : told.text.items ≡ longest_text w longest (length (packed graph))

-- what is said of the thread of a name, or that there is none
abbrev pub IsByName : Work → List ℕ → (ThreadId → Type 0) → Told → Type 0
IsByName w name IsSaid told = ((t : ThreadId) × IsThread w name t × IsSaid t) ⊎ IsUnnamed w name told

abbrev pub IsTimedByName : Work → List ℕ → ℕ → Told → Type 0
IsTimedByName w name most told = IsByName w name (λ t. IsTimed w t most told) told

abbrev pub IsWaitedByName : Work → List ℕ → ℕ → Told → Type 0
IsWaitedByName w name most told = IsByName w name (λ t. IsWaited w t most told) told

-- what is said to what is asked for
abbrev pub IsTold : Work → Aim → ℕ → Told → Type 0
IsTold w (Find q) most told = IsAnswered w q most told
IsTold w Count most told = IsCounted w most told
IsTold w (Ends name) most told = IsTimedByName w name.items most told
IsTold w (Waits name) most told = IsWaitedByName w name.items most told
