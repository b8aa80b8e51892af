-- What the program does with the arguments that it was started with.
-- Source: this project's own.
use Rattle.std.specs.Prelude.{ℕ, Result}
use Rattle.std.specs.declared.io.Error.{Error}
use Rattle.std.specs.declared.string.String.{String}
use Rattle.std.specs.declared.vec.Vec.{Vec}
use Rattle.std.specs.declared.alloc.Global.{Global}
use Rattle.sd_answers.specs.Answers.{line_of}
use Rattle.sd_answers.specs.Starts.{StartsBy}
use Rattle.sd_answers.specs.StreamChanges.{StreamChange}
use Rattle.sd_program.specs.Headline.{KeepsPromises}

-- arguments that were read are carried out
abbrev pub DispsimStarts : Result (Vec (String Global) Global) Error → StreamChange → StreamChange → StreamChange → ℕ → Type 0
DispsimStarts = StartsBy KeepsPromises line_of
