-- What `dispview` does with the arguments that it was started with.
-- Source: this project's own.
use Rattle.std.specs.Prelude.{ℕ, Result}
use Rattle.std.specs.declared.io.Error.{Error}
use Rattle.std.specs.declared.string.String.{String}
use Rattle.std.specs.declared.vec.Vec.{Vec}
use Rattle.std.specs.declared.alloc.Global.{Global}
use Rattle.sd_answers.specs.Starts.{StartsBy}
use Rattle.sd_answers.specs.StreamChanges.{StreamChange}
use Rattle.sd_viewer.specs.Promises.{ShowsAsPromised}
use Rattle.sd_viewer.specs.Viewing.{answer_line}

-- arguments that were read are carried out
abbrev pub DispviewStarts : Result (Vec (String Global) Global) Error → StreamChange → StreamChange → StreamChange → ℕ → Type 0
DispviewStarts = StartsBy ShowsAsPromised answer_line
