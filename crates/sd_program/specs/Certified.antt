-- That what a run makes can be read again.
-- Source: this project's own.
use Rattle.std.specs.Prelude.{◌≡◌, ℕ, ◌<◌, ◌^◌, List, length, IsTrue}
use Rattle.std.specs.List.{All}
use Rattle.sd_types.specs.declared.events.Entry.{Entry}
use Rattle.sd_types.specs.declared.works.Work.{Work}
use Rattle.sd_types.specs.Limits.{most_entries}
use Rattle.sd_state.specs.declared.states.State.{State}
use Rattle.sd_state.specs.Opening.{opening}
use Rattle.sd_machine.specs.Runs.{final, IsComplete, IsReached, IsRun, IsSerial, IsStep}
use Rattle.sd_machine.specs.Texts.{journal}
use Rattle.sd_rounds.specs.declared.orders.RoundOrder.{RoundOrder}
use Rattle.sd_rounds.specs.Orders.{orders_of}
use Rattle.sd_entries.specs.Fitting.{hints_in_range, IsSpelled}
use Rattle.sd_audit.specs.Audits.{IsJournal}

abbrev pub EntriesAreSpelled : Type 0
EntriesAreSpelled =
    (w : Work) (n : ℕ) (s : State) (e : Entry) → IsReached w n s → IsStep w s e → e.number < 2 ^ 64 → IsTrue (hints_in_range e.hints) → IsSpelled w e

-- the numbers that were read for an entry have 8 bits, and are at most 64
abbrev pub HasBytes : Entry → Type 0
HasBytes e = IsTrue (hints_in_range e.hints)

abbrev pub RunJournalsAreJournals : Type 0
RunJournalsAreJournals =
    (w : Work) (es : List Entry) → IsRun w es → IsComplete w (final w (opening w) es) → All HasBytes es → length es < most_entries → IsJournal w (journal w es) (final w (opening w) es) (length es)

abbrev pub SerialJournalsAreJournals : Type 0
SerialJournalsAreJournals =
    (w : Work) (turns : RoundOrder) (es : List Entry) → IsSerial w (orders_of w turns) es → length es < most_entries → IsJournal w (journal w es) (final w (opening w) es) (length es)

-- a journal has the entries of one run alone: of entries that have lines of their own, no others have the same journal
abbrev pub JournalsTellEntries : Type 0
JournalsTellEntries = (w : Work) (es fs : List Entry) → All (IsSpelled w) es → All (IsSpelled w) fs → journal w es ≡ journal w fs → es ≡ fs
