-- What stands behind an answer of the program for an accepted workload.
-- Source: this project's own.
use Rattle.std.specs.Prelude.{◌≢◌, List, [], ◌⊎◌}
use Rattle.std.specs.Io.KnownBytes.{Appends}
use Rattle.sd_types.specs.declared.events.Entry.{Entry}
use Rattle.sd_types.specs.declared.works.Work.{Work}
use Rattle.sd_machine.specs.LockGraph.{cycles_of}
use Rattle.sd_rounds.specs.Orders.{orders_of}
use Rattle.sd_rounds.specs.Rounds.{IsLongSerial}
use Rattle.sd_rounds.specs.Rounds.{IsLongRun}
use Rattle.sd_answers.specs.declared.answers.Answer.{Answer}
use Rattle.sd_answers.specs.declared.answers.Answer.TheVariants.{Done, WriteFault, OutOfMemory, Blocked, TooLong}
use Rattle.sd_answers.specs.StreamChanges.{StreamChange, HasFault, HasNoFault, IsUntouched, AppendsPart}
use Rattle.sd_program.specs.declared.forms.Form.{Form}
use Rattle.sd_program.specs.declared.forms.Mode.{Mode}
use Rattle.sd_program.specs.declared.forms.Mode.TheVariants.{Rounds, Threads}
use Rattle.sd_program.specs.Forms.{mode_of, text_of}
use Rattle.sd_machine.specs.Runs.{final_state}
use Rattle.sd_program.specs.TheRun.{IsCycleFree, IsTheRun}

-- a prefix of the text of the run was written
abbrev pub WritesPart : Work → Form → StreamChange → Type 0
WritesPart w form out = (es : List Entry) × IsTheRun w (mode_of form) es × AppendsPart out.before out.after (text_of form w es)

-- the text of the run was written whole, and this holds of its entries
abbrev pub Writes : Work → Form → StreamChange → (List Entry → Type 0) → Type 0
Writes w form out P =
    (es : List Entry) × IsTheRun w (mode_of form) es × Appends out.before out.after (text_of form w es) × HasNoFault out × P es

-- threads block each other at its end
abbrev pub HasCycle : Work → List Entry → Type 0
HasCycle w es = cycles_of (final_state w es) ≢ []

-- a run of the workload has 2^40 entries or more, and where it goes in rounds it is the one
abbrev pub IsLong : Work → Mode → Type 0
IsLong w (Rounds turns) = IsLongSerial w (orders_of w turns)
IsLong w Threads = IsLongRun w

-- the answer for an accepted workload, and what it left of the output
abbrev pub Ran : Work → Form → StreamChange → Answer → Type 0
Ran w form out Done = Writes w form out (IsCycleFree w)
Ran w form out Blocked = Writes w form out (HasCycle w)
Ran w form out WriteFault = HasFault out × WritesPart w form out
Ran w form out OutOfMemory = HasNoFault out × (IsUntouched out ⊎ WritesPart w form out)
Ran w form out TooLong = IsLong w (mode_of form) × IsUntouched out
Ran w form out _ = ⊥
