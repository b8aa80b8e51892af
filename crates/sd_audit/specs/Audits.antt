-- What the audit of a journal says: that the text is the journal of a complete run, or which line, entry or processor is
-- the first at fault.
-- Source: this project's own.
use Rattle.std.specs.Prelude.{◌≡◌, ◌≢◌, ℕ, ◌+◌, ◌-◌, ◌<◌, List, [], ◌∷◌, ◌++◌, length, map, take, codes, Option, None, IsSome, if◌then◌else◌, ⊤}
use Rattle.std.specs.List.{All, onto_first}
use Rattle.sd_types.specs.Works.{same_bytes}
use Rattle.sd_types.specs.declared.numbers.CpuId.{CpuId}
use Rattle.sd_types.specs.declared.events.Hints.{Hints}
use Rattle.sd_types.specs.declared.events.Entry.{Entry}
use Rattle.sd_types.specs.declared.works.Work.{Work}
use Rattle.sd_state.specs.declared.states.State.{State}
use Rattle.sd_state.specs.Opening.{opening}
use Rattle.sd_state.specs.Texts.{accounts_text}
use Rattle.sd_text.specs.Lines.{lines_of, is_newline}
use Rattle.sd_machine.specs.Events.{next}
use Rattle.sd_machine.specs.Runs.{final, IsRun, IsStep, IsComplete}
use Rattle.sd_machine.specs.Texts.{entry_text, entries_text, cycles_text, journal}
use Rattle.sd_entries.specs.Fitting.{IsSpelled}
use Rattle.sd_audit.specs.declared.audits.AuditFault.{AuditFault}
use Rattle.sd_audit.specs.declared.audits.AuditFault.TheVariants.{NotAnEntry, Illegal, Incomplete, Tail, Memory}

-- the line of an entry, without its newline
abbrev pub entry_line : Work → Entry → List ℕ
entry_line w e = take (length (entry_text w e) - 1) (entry_text w e)

-- no entry has this line
abbrev pub NoEntry : Work → List ℕ → Type 0
NoEntry w line = (e : Entry) → IsSpelled w e → entry_text w e ≡ line ++ 10 ∷ [] → ⊥

-- The first lines of a text are those of the entries of a run, each of which has a line of its own; `rest` are the lines
-- behind them.
pub record TellsRun (w : Work) (text : List ℕ) (es : List Entry) (rest : List (List ℕ)) : Type 0 where
  pub run : IsRun w es
  pub spelled : All (IsSpelled w) es
  pub lines : lines_of text ≡ map (entry_line w) es ++ rest

-- no entry stands next, and not the line `accounts`: another line, or none
abbrev pub NoEntryNext : Work → List (List ℕ) → Type 0
NoEntryNext w [] = ⊤
NoEntryNext w (line ∷ rest) = (line ≢ codes "accounts") × NoEntry w line

-- the line of this number is the first before `accounts` at fault, and it is no entry's; where no line is `accounts` and
-- none is at fault, it is the line after the last
pub record IsNotAnEntry (w : Work) (text : List ℕ) (number : ℕ) : Type 0 where
  pub entries : List Entry
  pub rest : List (List ℕ)
  pub told : TellsRun w text entries rest
  pub counted : number ≡ length entries + 1
  pub none : NoEntryNext w rest

-- the line in this place, from 0, is the first at fault: it is that of an entry that is no step there, or whose number is
-- not its place
pub record IsIllegal (w : Work) (text : List ℕ) (number : ℕ) : Type 0 where
  pub entries : List Entry
  pub entry : Entry
  pub rest : List (List ℕ)
  pub told : TellsRun w text entries (entry_line w entry ∷ rest)
  pub spelled : IsSpelled w entry
  pub counted : number ≡ length entries
  pub illegal : ¬ (IsRun w (entries ++ entry ∷ []))

-- all lines before `accounts` tell a run that is not complete: this is the least processor that has an entry, for some
-- numbers that it may read
pub record IsIncomplete (w : Work) (text : List ℕ) (c : CpuId) : Type 0 where
  pub entries : List Entry
  pub rest : List (List ℕ)
  pub told : TellsRun w text entries (codes "accounts" ∷ rest)
  pub hints : Option Hints
  pub has : IsSome (next w (final w (opening w) entries) c hints)
  pub least : (d : CpuId) → d.0 < c.0 → (h : Option Hints) → next w (final w (opening w) entries) d h ≡ None

-- the lines of a text with their newlines; the last may lack its own
unfoldable pub whole_lines : List ℕ → List (List ℕ)
whole_lines [] = []
whole_lines (byte ∷ bytes) = if is_newline byte then (byte ∷ []) ∷ whole_lines bytes else onto_first byte (whole_lines bytes)

-- how many lines two texts have in common before the first in which they differ, or which one of them lacks
unfoldable pub common_lines : List (List ℕ) → List (List ℕ) → ℕ
common_lines [] ys = 0
common_lines (x ∷ xs) [] = 0
common_lines (x ∷ xs) (y ∷ ys) = if same_bytes x y then 1 + common_lines xs ys else 0

-- what a journal has behind its entries
abbrev pub tail_text : Work → List Entry → State → List ℕ
tail_text w es s = accounts_text w es s ++ cycles_text w s

-- all lines before `accounts` tell a complete run, and what stands from there on is not what its journal has: the line of this
-- number is the first that differs, is missing, is too much or lacks its newline
pub record IsOtherTail (w : Work) (text : List ℕ) (number : ℕ) : Type 0 where
  pub entries : List Entry
  pub rest : List (List ℕ)
  pub tail : List ℕ
  pub told : TellsRun w text entries (codes "accounts" ∷ rest)
  pub complete : IsComplete w (final w (opening w) entries)
  pub parts : text ≡ entries_text w entries ++ tail
  pub differs : tail ≢ tail_text w entries (final w (opening w) entries)
  pub counted : number ≡ length entries + common_lines (whole_lines tail) (whole_lines (tail_text w entries (final w (opening w) entries))) + 1

-- the first lines are those of a run of so many entries: what was read when memory ran out
pub record IsRunSoFar (w : Work) (text : List ℕ) (number : ℕ) : Type 0 where
  pub entries : List Entry
  pub rest : List (List ℕ)
  pub told : TellsRun w text entries rest
  pub counted : number ≡ length entries

-- memory ran out
abbrev pub IsMemory : AuditFault → Type 0
IsMemory (NotAnEntry number) = ⊥
IsMemory (Illegal number) = ⊥
IsMemory (Incomplete c) = ⊥
IsMemory (Tail number) = ⊥
IsMemory (Memory number) = ⊤

abbrev pub IsFault : Work → List ℕ → AuditFault → Type 0
IsFault w text (NotAnEntry number) = IsNotAnEntry w text number
IsFault w text (Illegal number) = IsIllegal w text number
IsFault w text (Incomplete c) = IsIncomplete w text c
IsFault w text (Tail number) = IsOtherTail w text number
IsFault w text (Memory number) = IsRunSoFar w text number

-- the text is the journal of a complete run of so many entries, each of which has a line of its own, and the state is the
-- one after them
pub record IsJournal (w : Work) (text : List ℕ) (s : State) (n : ℕ) : Type 0 where
  pub entries : List Entry
  pub run : IsRun w entries
  pub spelled : All (IsSpelled w) entries
  pub complete : IsComplete w (final w (opening w) entries)
  pub whole : text ≡ journal w entries
  pub many : length entries ≡ n
  pub ends : s ≡ final w (opening w) entries

-- the text is the journal of these entries, which are a run, and each of which has a line of its own
pub record IsJournalOf (w : Work) (text : List ℕ) (es : List Entry) : Type 0 where
  pub run : IsRun w es
  pub spelled : All (IsSpelled w) es
  pub whole : text ≡ journal w es

-- What one line says, behind so many entries.

-- the line is that of this entry, which makes a step there
pub record IsTaken (w : Work) (s : State) (number : ℕ) (line : List ℕ) (e : Entry) : Type 0 where
  pub spelled : IsSpelled w e
  pub text : entry_text w e ≡ line ++ 10 ∷ []
  pub counted : e.number ≡ number
  pub step : IsStep w s e

-- the line is that of an entry that makes no step there
pub record IsRefused (w : Work) (s : State) (number : ℕ) (line : List ℕ) : Type 0 where
  pub entry : Entry
  pub spelled : IsSpelled w entry
  pub text : entry_text w entry ≡ line ++ 10 ∷ []
  pub illegal : entry.number ≡ number → IsStep w s entry → ⊥

abbrev pub IsLineFault : Work → State → ℕ → List ℕ → AuditFault → Type 0
IsLineFault w s number line (NotAnEntry at) = (at ≡ number + 1) × NoEntry w line
IsLineFault w s number line (Illegal at) = (at ≡ number) × IsRefused w s number line
IsLineFault w s number line (Incomplete c) = ⊥
IsLineFault w s number line (Tail at) = ⊥
IsLineFault w s number line (Memory at) = at ≡ number
