-- What a program does with the arguments that it was started with.
-- Source: this project's own.
use Rattle.std.specs.Prelude.{◌≡◌, ℕ, ◌⊎◌, List, map, string_bytes, Result, Ok, Err}
use Rattle.std.specs.IoError.{error_kind}
use Rattle.std.specs.Io.KnownBytes.{Appends}
use Rattle.std.specs.declared.io.Error.{Error}
use Rattle.std.specs.declared.string.String.{String}
use Rattle.std.specs.declared.vec.Vec.{Vec}
use Rattle.std.specs.declared.alloc.Global.{Global}
use Rattle.sd_answers.specs.declared.answers.Answer.{Answer}
use Rattle.sd_answers.specs.Answers.{status_of, arguments_answer}
use Rattle.sd_answers.specs.StreamChanges.{StreamChange, HasFault, IsUntouched, TellsLine}

-- nothing was read and nothing was written but this line
pub record IsRefusedWith (answer : Answer) (line : List ℕ) (input out err : StreamChange) (status : ℕ) : Type 0 where
  pub exit : status ≡ status_of answer
  pub input_kept : IsUntouched input
  pub out_kept : IsUntouched out
  pub told : TellsLine err line

-- Arguments that were read are carried out, as this says of them. Where they were not read, the answer says why, by its line.
abbrev pub StartsBy : (List (List ℕ) → StreamChange → StreamChange → StreamChange → ℕ → Type 0) → (Answer → List ℕ)
    → Result (Vec (String Global) Global) Error → StreamChange → StreamChange → StreamChange → ℕ → Type 0
StartsBy Keeps line_for (Ok arguments) input out err status = Keeps (map string_bytes arguments.items) input out err status
StartsBy Keeps line_for (Err error) input out err status =
    IsRefusedWith (arguments_answer (error_kind error)) (line_for (arguments_answer (error_kind error))) input out err status

-- the program's forms were written, unless a write failed, and nothing was read
abbrev pub WritesHelp : List ℕ → StreamChange → StreamChange → ℕ → Type 0
WritesHelp help input out status = IsUntouched input × (((status ≡ 0) × Appends out.before out.after help) ⊎ ((status ≡ 4) × HasFault out))
