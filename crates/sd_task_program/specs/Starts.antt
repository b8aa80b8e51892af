-- What `disptask` does with the arguments that it was started with.
-- Source: this project's own.
use Rattle.std.specs.Prelude.{ℕ, Result}
use Rattle.std.specs.declared.io.Error.{Error}
use Rattle.std.specs.declared.string.String.{String}
use Rattle.std.specs.declared.vec.Vec.{Vec}
use Rattle.std.specs.declared.alloc.Global.{Global}
use Rattle.sd_answers.specs.Answers.{line_with}
use Rattle.sd_answers.specs.Starts.{StartsBy}
use Rattle.sd_answers.specs.StreamChanges.{StreamChange}
use Rattle.sd_task_program.specs.Promises.{ExpandsAsPromised, usage_line}

-- arguments that were read are carried out
abbrev pub DisptaskStarts : Result (Vec (String Global) Global) Error → StreamChange → StreamChange → StreamChange → ℕ → Type 0
DisptaskStarts = StartsBy ExpandsAsPromised (line_with usage_line)
