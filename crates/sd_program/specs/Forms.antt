-- The forms of the arguments, and the text that each writes.
-- Source: this project's own.
use Rattle.std.specs.Prelude.{ℕ, ◌&&◌, nat_le, List, [], ◌∷◌, codes, cond, Option, Some, None, option_and_then}
use Rattle.sd_types.specs.declared.events.Entry.{Entry}
use Rattle.sd_types.specs.declared.works.Work.{Work}
use Rattle.sd_types.specs.Works.{same_bytes}
use Rattle.sd_text.specs.Numbers.{number_of}
use Rattle.sd_rounds.specs.declared.orders.RoundOrder.TheVariants.{Rising, Drawn}
use Rattle.sd_machine.specs.Texts.{journal, summary}
use Rattle.sd_program.specs.declared.forms.Mode.{Mode}
use Rattle.sd_program.specs.declared.forms.Mode.TheVariants.{Rounds, Threads}
use Rattle.sd_program.specs.declared.forms.Form.{Form}
use Rattle.sd_program.specs.declared.forms.Form.TheVariants.{Journal, Summary}
use Rattle.sd_program.specs.declared.forms.Command.{Command}
use Rattle.sd_program.specs.declared.forms.Command.TheVariants.{Run, Tables, Generate, Audit}

abbrev pub run_rising : Option Command
run_rising = Some (Run (Journal (Rounds Rising)))

abbrev pub run_on_threads : Option Command
run_on_threads = Some (Run (Journal Threads))

-- `run`, `sum`, `tables` or `audit`
abbrev pub verb_command : List ℕ → Option Command
verb_command verb =
    cond (same_bytes verb (codes "run")) run_rising
    (cond (same_bytes verb (codes "sum")) (Some (Run Summary))
    (cond (same_bytes verb (codes "tables")) (Some Tables) (cond (same_bytes verb (codes "audit")) (Some Audit) None)))

-- a number of one to ten digits below 2^32
abbrev pub generate_command : ℕ → Option Command
generate_command n = cond (nat_le n 4294967295) (Some (Generate n)) None

abbrev pub drawn_command : ℕ → Option Command
drawn_command n = cond (nat_le n 4294967295) (Some (Run (Journal (Rounds (Drawn n))))) None

-- `run --threads` or `gen N`
abbrev pub pair_command : List ℕ → List ℕ → Option Command
pair_command verb second =
    cond (same_bytes verb (codes "run") && same_bytes second (codes "--threads")) run_on_threads
    (cond (same_bytes verb (codes "gen")) (option_and_then generate_command (number_of second)) None)

-- `run --seed N`
abbrev pub seed_command : List ℕ → List ℕ → List ℕ → Option Command
seed_command verb second seed =
    cond (same_bytes verb (codes "run") && same_bytes second (codes "--seed")) (option_and_then drawn_command (number_of seed)) None

-- what the arguments ask for, None where they are of none of the forms
unfoldable pub command_of : List (List ℕ) → Option Command
command_of (verb ∷ []) = verb_command verb
command_of (verb ∷ second ∷ []) = pair_command verb second
command_of (verb ∷ second ∷ seed ∷ []) = seed_command verb second seed
command_of _ = None

-- how the processors act
abbrev pub mode_of : Form → Mode
mode_of (Journal mode) = mode
mode_of Summary = Rounds Rising

-- what is written of a run
abbrev pub text_of : Form → Work → List Entry → List ℕ
text_of (Journal mode) w es = journal w es
text_of Summary w es = summary w es
