-- Places in a text, as the reader goes from line to line.
use Rattle.std.specs.Prelude.{◌≡◌, ℕ, ◌≤◌, List, drop, Option, Some}
use Rattle.sd_dispadmin.specs.TableText.{word_lines}
use Rattle.sd_lines.specs.Words.{Line}
use Rattle.sd_declare.specs.declared.causes.WorkCause.{WorkCause}
use Rattle.sd_declare.specs.declared.causes.Refusal.{Refusal}
use Rattle.sd_declare.specs.declared.causes.Refusal.TheVariants.{Cause}
use Rattle.sd_declare.specs.declared.causes.Refusal.TheVariants as refused
use Rattle.sd_declare.specs.Declarations.{Declarations}
use Rattle.sd_workload.specs.declared.fault.WorkFault.{WorkFault}
use Rattle.sd_workload.specs.declared.fault.WorkFault.TheVariants.{At, Memory}
use Rattle.sd_workload.specs.declared.line_starts.LineStart.{LineStart}
use Rattle.sd_workload.specs.Texts.{Block, Verdict, Accepts, Refuses, judged}

-- the lines from a place on
abbrev pub lines_from : List ℕ → LineStart → List Line
lines_from text at = word_lines (drop at.from text)

-- what the rest of the text from a place on comes to
abbrev pub judged_from : List ℕ → LineStart → Declarations → Block → Verdict
judged_from text at d block = judged at.number d block (lines_from text at)

-- no line above this one is at fault
abbrev pub NoneAbove : ℕ → Verdict → Type 0
NoneAbove line (Accepts d) = Unit {0}
NoneAbove line (Refuses number cause) = line ≤ number

-- the fault is the refusal, or memory ran out at a line above which none is at fault
abbrev pub IsFault : Verdict → WorkFault → Type 0
IsFault verdict (At line cause) = verdict ≡ Refuses line cause
IsFault verdict (Memory line) = NoneAbove line verdict

-- the fault is the cause, on its line, or memory ran out there
abbrev pub IsFaultAt : ℕ → Option WorkCause → WorkFault → Type 0
IsFaultAt number found (At line cause) = (line ≡ number) × (found ≡ Some cause)
IsFaultAt number found (Memory line) = line ≡ number

-- the fault that a refusal is, on its line
abbrev pub fault_of : ℕ → Refusal → WorkFault
fault_of number (Cause cause) = At number cause
fault_of number refused.Memory = Memory number
