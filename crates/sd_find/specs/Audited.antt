-- That the run which a search found is found legal: two calls, one of `dispfind` that finds a run, when a thread ends, or how long it waits, and one of
-- `dispsim` that audits a journal which it printed, behind the workload for which the text stands that was searched: the text itself, or that to
-- which it expands as a task set. Source: this project's own.
use Rattle.std.specs.Prelude.{◌≡◌, ℕ, ◌≤◌, Bool, List, [], ◌++◌, length, Some, ◌⊎◌}
use Rattle.sd_types.specs.declared.numbers.ThreadId.{ThreadId}
use Rattle.sd_types.specs.declared.events.Entry.{Entry}
use Rattle.sd_types.specs.declared.works.Work.{Work}
use Rattle.sd_machine.specs.Texts.{journal}
use Rattle.sd_search.specs.declared.questions.Question.{Question}
use Rattle.sd_extremes.specs.declared.ends.Ending.{Ending}
use Rattle.sd_types.specs.Limits.{most_certificate_bytes}
use Rattle.sd_answers.specs.StreamChanges.{StreamChange, HasFault}
use Rattle.sd_program.specs.declared.forms.Command.TheVariants.{Audit}
use Rattle.sd_program.specs.Audited.{HasWholeLines, certificate_of}
use Rattle.sd_program.specs.Forms.{command_of}
use Rattle.sd_program.specs.Headline as program
use Rattle.sd_set_inputs.specs.Sets.{StandsFor}
use Rattle.sd_search_answers.specs.declared.forms.Aim.TheVariants.{Find, Ends, Waits}
use Rattle.sd_search_answers.specs.declared.forms.Request.TheVariants.{Search}
use Rattle.sd_search_answers.specs.Forms.{request_of}
use Rattle.sd_search_answers.specs.Texts.{between_text, found_head, wait_text}
use Rattle.sd_find.specs.Promises.{SearchesAsPromised}

-- each audit of the text, whose last line has its newline, the line `journal` and this journal has status 0, out of memory and faults aside
abbrev pub IsFoundLegal : List ℕ → List ℕ → Type 0
IsFoundLegal text journal =
    (asked : List (List ℕ)) (read told failed : StreamChange) (status : ℕ)
    → program.KeepsPromises asked read told failed status → command_of asked ≡ Some Audit
    → (HasFault read → ⊥) → (HasFault told → ⊥) → read.before ≡ Some (certificate_of text journal)
    → (status ≡ 0) ⊎ (status ≡ 5)

-- what was printed ends with such a journal, behind the lines up to that of the number of states, where all of it has no more bytes than an
-- audit takes
pub record EndsWithJournal (q : Question) (text printed : List ℕ) : Type 0 where
  pub work : Work
  pub entries : List Entry
  pub states : ℕ
  pub journal : List ℕ
  pub printed_is : printed ≡ found_head work q entries states ++ journal
  pub legal : length (certificate_of text journal) ≤ most_certificate_bytes → IsFoundLegal text journal

abbrev pub WitnessesAreAudited : Type 0
WitnessesAreAudited =
    (q : Question) (most : ℕ) (arguments : List (List ℕ)) (input out err : StreamChange) (status : ℕ) (text printed : List ℕ)
    → SearchesAsPromised arguments input out err status → request_of arguments ≡ Some (Search (Find q) most) → status ≡ 9
    → input.before ≡ Some text → out.before ≡ Some [] → out.after ≡ Some printed → (base : List ℕ) → StandsFor text base → HasWholeLines base
    → EndsWithJournal q base printed

-- what was printed has two journals, each behind the line with its tick, of which each is found legal where all of it has no more bytes than
-- an audit takes
pub record HasJournals (name text printed : List ℕ) : Type 0 where
  pub work : Work
  pub thread : ThreadId
  pub in_every : Bool
  pub earliest : Ending
  pub latest : Ending
  pub states : ℕ
  pub printed_is : printed ≡ between_text work thread in_every earliest latest states
  pub earliest_legal : length (certificate_of text (journal work earliest.entries.items)) ≤ most_certificate_bytes → IsFoundLegal text (journal work earliest.entries.items)
  pub latest_legal : length (certificate_of text (journal work latest.entries.items)) ≤ most_certificate_bytes → IsFoundLegal text (journal work latest.entries.items)

abbrev pub EndingsAreAudited : Type 0
EndingsAreAudited =
    (name : List ℕ) (most : ℕ) (arguments : List (List ℕ)) (input out err : StreamChange) (status : ℕ) (text printed : List ℕ)
    → SearchesAsPromised arguments input out err status → request_of arguments ≡ Some (Search (Ends (record { items = name })) most) → status ≡ 9
    → input.before ≡ Some text → out.before ≡ Some [] → out.after ≡ Some printed → (base : List ℕ) → StandsFor text base → HasWholeLines base
    → HasJournals name base printed

-- what was printed ends with the journal of a run, found legal where all of it has no more bytes than an audit takes
pub record HasWait (text printed : List ℕ) : Type 0 where
  pub work : Work
  pub ticks : ℕ
  pub entries : List Entry
  pub states : ℕ
  pub printed_is : printed ≡ wait_text work ticks entries states
  pub legal : length (certificate_of text (journal work entries)) ≤ most_certificate_bytes → IsFoundLegal text (journal work entries)

abbrev pub WaitsAreAudited : Type 0
WaitsAreAudited =
    (name : List ℕ) (most : ℕ) (arguments : List (List ℕ)) (input out err : StreamChange) (status : ℕ) (text printed : List ℕ)
    → SearchesAsPromised arguments input out err status → request_of arguments ≡ Some (Search (Waits (record { items = name })) most) → status ≡ 9
    → input.before ≡ Some text → out.before ≡ Some [] → out.after ≡ Some printed → (base : List ℕ) → StandsFor text base → HasWholeLines base
    → HasWait base printed
