-- What `dispfind` does with the arguments that it was started with.
-- Source: this project's own.
use Rattle.std.specs.Prelude.{ℕ, Result}
use Rattle.std.specs.declared.io.Error.{Error}
use Rattle.std.specs.declared.string.String.{String}
use Rattle.std.specs.declared.vec.Vec.{Vec}
use Rattle.std.specs.declared.alloc.Global.{Global}
use Rattle.sd_answers.specs.Starts.{StartsBy}
use Rattle.sd_answers.specs.StreamChanges.{StreamChange}
use Rattle.sd_find.specs.Asked.{asked}
use Rattle.sd_find.specs.Promises.{SearchesAsPromised}
use Rattle.sd_find.specs.Seeking.{answer_line}

-- arguments that were read are carried out, but for a last `--quiet`
abbrev pub DispfindStarts : Result (Vec (String Global) Global) Error → StreamChange → StreamChange → StreamChange → ℕ → Type 0
DispfindStarts = StartsBy (λ arguments. SearchesAsPromised (asked arguments)) answer_line
