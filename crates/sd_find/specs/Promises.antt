-- What `dispfind` promises of a call, for each of its exit statuses. What is said of bytes is said of streams that tell
-- them (`before` and `after` are Some); the counts of faults are always told.
-- Source: this project's own.
use Rattle.std.specs.Prelude.{◌≡◌, ℕ, ◌<◌, ◌≤◌, Bool, true, false, List, length, Option, Some, None, ◌↔◌, ◌⊎◌}
use Rattle.std.specs.Io.KnownBytes.{Appends}
use Rattle.sd_types.specs.declared.numbers.ThreadId.{ThreadId}
use Rattle.sd_types.specs.declared.events.Entry.{Entry}
use Rattle.sd_types.specs.declared.works.Work.{Work}
use Rattle.sd_state.specs.declared.states.State.{State}
use Rattle.sd_search.specs.declared.graph.Graph.{Graph}
use Rattle.sd_search.specs.declared.questions.Question.{Question}
use Rattle.sd_search.specs.Finals.{AreFinals}
use Rattle.sd_search.specs.Graphs.{HasEveryRun, IsAt, packed}
use Rattle.sd_search.specs.Questions.{HasNoWitness, IsWitness, Meets}
use Rattle.sd_extremes.specs.declared.ends.Ending.{Ending}
use Rattle.sd_extremes.specs.Ends.{AreExtremes}
use Rattle.sd_extremes.specs.WholeRuns.{IsFreshRun}
use Rattle.sd_longest.specs.Waits.{IsLongestOf, IsWait}
use Rattle.sd_longest.specs.LongestRuns.{IsLongestRun}
use Rattle.sd_types.specs.Limits.{most_workload_bytes}
use Rattle.sd_answers.specs.Inputs.{IsWorkload}
use Rattle.sd_answers.specs.Starts.{WritesHelp}
use Rattle.sd_answers.specs.StreamChanges.{StreamChange, HasFault, HasNoFault, IsUntouched, TellsLine}
use Rattle.sd_program.specs.Headline.{Refuses}
use Rattle.sd_set_inputs.specs.Sets.{SpellsSet, sets}
use Rattle.sd_search_answers.specs.declared.forms.Aim.{Aim}
use Rattle.sd_search_answers.specs.declared.forms.Aim.TheVariants.{Find, Count, Ends, Waits}
use Rattle.sd_search_answers.specs.declared.forms.Request.TheVariants.{Help, Search}
use Rattle.sd_search_answers.specs.declared.verdicts.Verdict.TheVariants.{NoThread}
use Rattle.sd_search_answers.specs.Answered.{IsSearch}
use Rattle.sd_search_answers.specs.Forms.{name_in, request_of}
use Rattle.sd_search_answers.specs.Texts.{between_text, count_text, found_text, more_text, never_text, wait_text}
use Rattle.sd_search_answers.specs.Timings.{HasNoThread, IsInEvery, IsThread, NeverEnds}
use Rattle.sd_find.specs.Seeking.{IsSought, help_text, verdict_line}
use Rattle.sd_find.specs.Shown.{IsCertified, IsShown}

-- Status 9 where a run is asked for: a run of the input's workload ends as was asked for, and none that does has fewer entries; what was
-- written says so, with its journal behind the number of states.
pub record FindsRun (q : Question) (most : ℕ) (input out : StreamChange) : Type 0 where
  pub work : Work
  pub workload : IsWorkload sets input work
  pub entries : List Entry
  pub shown : IsShown work q entries
  pub shortest : (es : List Entry) → IsWitness work q es → length entries ≤ length es
  pub graph : Graph
  pub search : IsSearch work most graph
  pub written : Appends out.before out.after (found_text work q entries (length (packed graph)))
  pub no_fault : HasNoFault out

-- Status 10: no run of the input's workload ends so in which each processor reads the numbers of the state, in whatever order its
-- processors act; what was written says so.
pub record ExcludesRuns (q : Question) (most : ℕ) (input out : StreamChange) : Type 0 where
  pub work : Work
  pub workload : IsWorkload sets input work
  pub none : HasNoWitness work q
  pub graph : Graph
  pub search : IsSearch work most graph
  pub written : Appends out.before out.after (never_text (length (packed graph)))
  pub no_fault : HasNoFault out

-- not all states were searched, and as many were found as were allowed
pub record IsCutOff (most : ℕ) (g : Graph) : Type 0 where
  pub left : g.done < length (packed g)
  pub many : most ≤ length (packed g)

-- Status 11 where a run is asked for: the search was cut off, and no run ends as was asked for in a state that it found; what was written
-- says no more than how many it found.
pub record LeavesOpen (q : Question) (most : ℕ) (input out : StreamChange) : Type 0 where
  pub work : Work
  pub workload : IsWorkload sets input work
  pub graph : Graph
  pub search : IsSearch work most graph
  pub cut_off : IsCutOff most graph
  pub none : (i : ℕ) (x : State) → IsAt (packed graph) i x → Meets work q x → ⊥
  pub written : Appends out.before out.after (more_text (length (packed graph)))
  pub no_fault : HasNoFault out

-- Status 0 where states are counted: each run in which each processor reads the numbers of the state ends in one of these states; so many
-- there are, no two the same up to the order of keys, and in so many of them runs are complete. It is told how many entries a run has at
-- most: one has as many, and none has more. Only where runs have 2^32 - 1 entries or more, or as many as there are states, none is told.
pub record CountsStates (most : ℕ) (input out : StreamChange) : Type 0 where
  pub work : Work
  pub workload : IsWorkload sets input work
  pub graph : Graph
  pub search : IsSearch work most graph
  pub every : HasEveryRun work (packed graph)
  pub finals : List ℕ
  pub are : AreFinals work (packed graph) (length (packed graph)) finals
  pub entries : Option ℕ
  pub longest : IsLongestRun work (length (packed graph)) entries
  pub written : Appends out.before out.after (count_text true (length (packed graph)) (length finals) entries)
  pub no_fault : HasNoFault out

-- Status 11 where states are counted: the search was cut off; what was written says so, with how many it found and in how many of these
-- runs are complete.
pub record HasMany (most : ℕ) (input out : StreamChange) : Type 0 where
  pub work : Work
  pub workload : IsWorkload sets input work
  pub graph : Graph
  pub search : IsSearch work most graph
  pub cut_off : IsCutOff most graph
  pub finals : List ℕ
  pub are : AreFinals work (packed graph) (length (packed graph)) finals
  pub written : Appends out.before out.after (count_text false (length (packed graph)) (length finals) None)
  pub no_fault : HasNoFault out

-- Status 9 where it is asked when a thread ends: in each run in which each processor reads the numbers of the state it ends at one of the
-- ticks from the first to the second, if at all; what was written says so, with the journal of a run of each, both of which the audit finds
-- legal, and whether at the end of every complete run the thread has ended.
pub record TimesThread (name : List ℕ) (most : ℕ) (input out : StreamChange) : Type 0 where
  pub work : Work
  pub workload : IsWorkload sets input work
  pub thread : ThreadId
  pub named : IsThread work name thread
  pub earliest : Ending
  pub latest : Ending
  pub extremes : AreExtremes work thread earliest latest
  pub earliest_certified : IsCertified work earliest.entries.items
  pub latest_certified : IsCertified work latest.entries.items
  pub in_every : Bool
  pub every : IsInEvery work thread in_every
  pub graph : Graph
  pub search : IsSearch work most graph
  pub written : Appends out.before out.after (between_text work thread in_every earliest latest (length (packed graph)))
  pub no_fault : HasNoFault out

-- Status 10 there: the thread ends in no run in which each processor reads the numbers of the state.
pub record ExcludesEnds (name : List ℕ) (most : ℕ) (input out : StreamChange) : Type 0 where
  pub work : Work
  pub workload : IsWorkload sets input work
  pub thread : ThreadId
  pub named : IsThread work name thread
  pub none : NeverEnds work thread
  pub graph : Graph
  pub search : IsSearch work most graph
  pub written : Appends out.before out.after (never_text (length (packed graph)))
  pub no_fault : HasNoFault out

-- Status 9 where it is asked how long a thread waits: in no run in which each processor reads the numbers of the state does it wait longer from
-- a wakeup to its running; what was written says so, with the journal of a run in which such a wait comes, which the audit finds legal.
pub record MeasuresWait (name : List ℕ) (most : ℕ) (input out : StreamChange) : Type 0 where
  pub work : Work
  pub workload : IsWorkload sets input work
  pub thread : ThreadId
  pub named : IsThread work name thread
  pub ticks : ℕ
  pub entries : List Entry
  pub longest : IsLongestOf work thread ticks entries
  pub certified : IsCertified work entries
  pub graph : Graph
  pub search : IsSearch work most graph
  pub written : Appends out.before out.after (wait_text work ticks entries (length (packed graph)))
  pub no_fault : HasNoFault out

-- Status 10 there: in no such run does the thread run after a wakeup.
pub record ExcludesWaits (name : List ℕ) (most : ℕ) (input out : StreamChange) : Type 0 where
  pub work : Work
  pub workload : IsWorkload sets input work
  pub thread : ThreadId
  pub named : IsThread work name thread
  pub none : (es : List Entry) (k : ℕ) → IsFreshRun work es → IsWait work thread es k → ⊥
  pub graph : Graph
  pub search : IsSearch work most graph
  pub written : Appends out.before out.after (never_text (length (packed graph)))
  pub no_fault : HasNoFault out

-- Status 11 where one of these two is asked: the search was cut off, and nothing is said but how many states it found.
pub record LeavesUntimed (name : List ℕ) (most : ℕ) (input out : StreamChange) : Type 0 where
  pub work : Work
  pub workload : IsWorkload sets input work
  pub thread : ThreadId
  pub named : IsThread work name thread
  pub graph : Graph
  pub search : IsSearch work most graph
  pub cut_off : IsCutOff most graph
  pub written : Appends out.before out.after (more_text (length (packed graph)))
  pub no_fault : HasNoFault out

-- a workload without a thread of this name is refused with 2 and a line that says so, and nothing is written, unless memory
-- runs out
abbrev pub RefusesName : List ℕ → StreamChange → StreamChange → StreamChange → ℕ → Type 0
RefusesName name input out err status =
    (HasFault input → ⊥) → (bytes : List ℕ) (w : Work) → input.before ≡ Some bytes → length bytes ≤ most_workload_bytes → SpellsSet bytes w → HasNoThread w name
    → ((status ≡ 2) × IsUntouched out × TellsLine err (verdict_line NoThread)) ⊎ (status ≡ 5)

-- the workload that an input spells is searched, unless memory runs out
abbrev pub CompletesSearch : (Work → ℕ → Type 0) → StreamChange → StreamChange → ℕ → Type 0
CompletesSearch Says input out status =
    (HasFault input → ⊥) → (HasFault out → ⊥)
    → (bytes : List ℕ) (w : Work) → input.before ≡ Some bytes → length bytes ≤ most_workload_bytes → SpellsSet bytes w → Says w status ⊎ (status ≡ 5)

abbrev pub FindSays : ℕ → Type 0
FindSays status = (status ≡ 9) ⊎ ((status ≡ 10) ⊎ (status ≡ 11))

abbrev pub CountSays : ℕ → Type 0
CountSays status = (status ≡ 0) ⊎ (status ≡ 11)

-- where a thread has this name
abbrev pub ThreadSays : List ℕ → Work → ℕ → Type 0
ThreadSays name w status = (t : ThreadId) → IsThread w name t → FindSays status

-- All that is promised of a call, from what it did to its streams: how it ended has its cause, its status and its line. Where a run is
-- asked for, status 9 says that there is one, whose journal was written, and 10 that there is none. Where states are counted, status 0
-- says that they are all. Where it is asked when a thread ends, 9 says when, with the journals of two runs, and 10 that it never does; where
-- it is asked how long it waits, 9 says how long at most, with the journal of a run, and 10 that it never runs after a wakeup. In each, 11
-- says that not all was searched. The other sides: the workload that an input spells, itself or as a task set, is searched, faults and out
-- of memory aside; an input that is too large or spells none is refused with 2, and so is one that has no thread of the name. Where the forms are asked for they are
-- written, and nothing is read. And status 1 comes exactly where the arguments are of none of the forms.
pub record SearchesAsPromised (arguments : List (List ℕ)) (input out err : StreamChange) (status : ℕ) : Type 0 where
  pub answered : IsSought arguments input out err status
  pub finds : (q : Question) (most : ℕ) → request_of arguments ≡ Some (Search (Find q) most) → status ≡ 9 → FindsRun q most input out
  pub excludes : (q : Question) (most : ℕ) → request_of arguments ≡ Some (Search (Find q) most) → status ≡ 10 → ExcludesRuns q most input out
  pub leaves_open : (q : Question) (most : ℕ) → request_of arguments ≡ Some (Search (Find q) most) → status ≡ 11 → LeavesOpen q most input out
  pub counts : (most : ℕ) → request_of arguments ≡ Some (Search Count most) → status ≡ 0 → CountsStates most input out
  pub has_many : (most : ℕ) → request_of arguments ≡ Some (Search Count most) → status ≡ 11 → HasMany most input out
  pub times : (name : List ℕ) (most : ℕ) → request_of arguments ≡ Some (Search (Ends (record { items = name })) most) → status ≡ 9 → TimesThread name most input out
  pub excludes_ends : (name : List ℕ) (most : ℕ) → request_of arguments ≡ Some (Search (Ends (record { items = name })) most) → status ≡ 10 → ExcludesEnds name most input out
  pub measures : (name : List ℕ) (most : ℕ) → request_of arguments ≡ Some (Search (Waits (record { items = name })) most) → status ≡ 9 → MeasuresWait name most input out
  pub excludes_waits : (name : List ℕ) (most : ℕ) → request_of arguments ≡ Some (Search (Waits (record { items = name })) most) → status ≡ 10 → ExcludesWaits name most input out
  pub leaves_untimed : (aim : Aim) (name : List ℕ) (most : ℕ) → request_of arguments ≡ Some (Search aim most) → name_in aim ≡ Some name → status ≡ 11 → LeavesUntimed name most input out
  pub completes : (q : Question) (most : ℕ) → request_of arguments ≡ Some (Search (Find q) most) → CompletesSearch (λ w. FindSays) input out status
  pub completes_count : (most : ℕ) → request_of arguments ≡ Some (Search Count most) → CompletesSearch (λ w. CountSays) input out status
  pub completes_thread : (aim : Aim) (name : List ℕ) (most : ℕ) → request_of arguments ≡ Some (Search aim most) → name_in aim ≡ Some name → CompletesSearch (ThreadSays name) input out status
  pub refuses : (aim : Aim) (most : ℕ) → request_of arguments ≡ Some (Search aim most) → Refuses sets input status
  pub refuses_name : (aim : Aim) (name : List ℕ) (most : ℕ) → request_of arguments ≡ Some (Search aim most) → name_in aim ≡ Some name → RefusesName name input out err status
  pub helps : request_of arguments ≡ Some Help → WritesHelp help_text input out status
  pub usage : (status ≡ 1) ↔ (request_of arguments ≡ None)
