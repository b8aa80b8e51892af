-- What is written of an answer: a line with the answer, what is left where a run is stuck, a line with the number of states, and the
-- journal of a run that shows it. Of when a thread ends there are two runs, each behind a line with its tick; of how long it waits there is
-- one, and a line with the ticks.
-- Source: this project's own.
use Rattle.std.specs.Prelude.{ℕ, Bool, true, false, List, [], ◌++◌, codes, decimal, Option, Some, None}
use Rattle.sd_types.specs.declared.numbers.ThreadId.{ThreadId}
use Rattle.sd_types.specs.declared.events.Entry.{Entry}
use Rattle.sd_types.specs.declared.works.Work.{Work}
use Rattle.sd_state.specs.Opening.{opening}
use Rattle.sd_state.specs.declared.states.State.{State}
use Rattle.sd_state.specs.Texts.{thread_name}
use Rattle.sd_machine.specs.Runs.{final}
use Rattle.sd_machine.specs.Texts.{journal}
use Rattle.sd_search.specs.declared.findings.Finding.{Finding}
use Rattle.sd_search.specs.declared.findings.Finding.TheVariants.{Found, Never, More}
use Rattle.sd_search.specs.declared.questions.Question.{Question}
use Rattle.sd_search.specs.declared.questions.Question.TheVariants.{Blocked, Stuck}
use Rattle.sd_extremes.specs.declared.ends.Ending.{Ending}
use Rattle.sd_longest.specs.declared.latency.Longest.{Longest}
use Rattle.sd_longest.specs.declared.latency.Longest.TheVariants as longest
use Rattle.sd_search_answers.specs.declared.timings.Timing.{Timing}
use Rattle.sd_search_answers.specs.declared.timings.Timing.TheVariants as timing
use Rattle.sd_search_answers.specs.Lefts.{lefts_text}

abbrev pub states_line : ℕ → List ℕ
states_line n = codes "states " ++ (decimal n ++ codes "\n")

-- of a run that is stuck, a line for each thread that has operations left
abbrev pub left_text : Work → Question → State → List ℕ
left_text w Blocked s = []
left_text w Stuck s = lefts_text w s

-- what stands in front of the journal
abbrev pub found_head : Work → Question → List Entry → ℕ → List ℕ
found_head w q es n = codes "found\n" ++ (left_text w q (final w (opening w) es) ++ states_line n)

abbrev pub found_text : Work → Question → List Entry → ℕ → List ℕ
found_text w q es n = found_head w q es n ++ journal w es

abbrev pub never_text : ℕ → List ℕ
never_text n = codes "never\n" ++ states_line n

abbrev pub more_text : ℕ → List ℕ
more_text n = codes "not all searched\n" ++ states_line n

abbrev pub finding_text : Work → Question → Finding → ℕ → List ℕ
finding_text w q (Found es) n = found_text w q es.items n
finding_text w q Never n = never_text n
finding_text w q More n = more_text n

-- whether all states were searched, how many there are, and how many of them runs end in
abbrev pub all_line : Bool → List ℕ
all_line true = codes "all searched\n"
all_line false = codes "not all searched\n"

-- how many entries a run has at most, where that is known
abbrev pub entries_line : Option ℕ → List ℕ
entries_line None = []
entries_line (Some k) = codes "entries at most " ++ (decimal k ++ codes "\n")

abbrev pub count_text : Bool → ℕ → ℕ → Option ℕ → List ℕ
count_text all n finals most = all_line all ++ (states_line n ++ (codes "final " ++ (decimal finals ++ (codes "\n" ++ entries_line most))))

-- ---- when a thread ends

-- whether it ends in every run
abbrev pub every_words : Bool → List ℕ
every_words true = codes " ends in every run\n"
every_words false = codes " is left in some run\n"

abbrev pub thread_line : Work → ThreadId → Bool → List ℕ
thread_line w t in_every = codes "thread " ++ (thread_name w t.0 ++ every_words in_every)

-- the tick at which it ends in a run, behind a word
abbrev pub tick_line : List ℕ → ℕ → List ℕ
tick_line word tick = word ++ (decimal tick ++ codes "\n")

-- what stands in front of the first journal, and between the two
abbrev pub earliest_head : Work → ThreadId → Bool → Ending → ℕ → List ℕ
earliest_head w t in_every earliest n =
    codes "found\n" ++ (thread_line w t in_every ++ (states_line n ++ tick_line (codes "earliest ") earliest.tick))

abbrev pub latest_head : Ending → List ℕ
latest_head latest = tick_line (codes "latest ") latest.tick

abbrev pub between_text : Work → ThreadId → Bool → Ending → Ending → ℕ → List ℕ
between_text w t in_every earliest latest n =
    earliest_head w t in_every earliest n ++ (journal w earliest.entries.items ++ (latest_head latest ++ journal w latest.entries.items))

abbrev pub timing_text : Work → ThreadId → Timing → ℕ → List ℕ
timing_text w t (timing.Between earliest latest in_every) n = between_text w t in_every earliest latest n
timing_text w t timing.Never n = never_text n
timing_text w t timing.More n = more_text n

-- ---- how long a thread waits

-- what stands in front of the journal
abbrev pub wait_head : ℕ → ℕ → List ℕ
wait_head ticks n = codes "found\n" ++ (tick_line (codes "longest ") ticks ++ states_line n)

abbrev pub wait_text : Work → ℕ → List Entry → ℕ → List ℕ
wait_text w ticks es n = wait_head ticks n ++ journal w es

abbrev pub longest_text : Work → Longest → ℕ → List ℕ
longest_text w (longest.Wait ticks es) n = wait_text w ticks es.items n
longest_text w longest.Never n = never_text n
longest_text w longest.More n = more_text n
