-- Why a line of a workload text is refused. Of several causes of a line the one with the least number counts: syntax 1,
-- unknown 2, twice 3, range 4, table 5, script 6, sets 7, limits 8. Source: this project's own.
use Rattle.std.specs.Prelude.{Bool, false, ℕ, cond, Option, Some, None}
use Rattle.sd_declare.specs.declared.causes.WorkCause.{WorkCause}
use Rattle.sd_declare.specs.declared.causes.WorkCause.TheVariants.{Syntax, Unknown, Twice, Range, Table, Script, Sets, Limits}

-- which of the causes hold of a line that has a form, but those of its table or script
pub record Causes : Type 0 where
  pub syntax : Bool
  pub unknown : Bool
  pub twice : Bool
  pub range : Bool
  pub sets : Bool
  pub limits : Bool

abbrev pub no_causes : Causes
no_causes = record { syntax = false; unknown = false; twice = false; range = false; sets = false; limits = false }

-- the one with the least number
abbrev pub least : Causes → Option WorkCause
least c =
    cond c.syntax (Some Syntax)
    (cond c.unknown (Some Unknown)
    (cond c.twice (Some Twice)
    (cond c.range (Some Range)
    (cond c.sets (Some Sets)
    (cond c.limits (Some Limits) None)))))

abbrev pub number_of_cause : WorkCause → ℕ
number_of_cause Syntax = 1
number_of_cause Unknown = 2
number_of_cause Twice = 3
number_of_cause Range = 4
number_of_cause (Table fault) = 5
number_of_cause (Script fault) = 6
number_of_cause Sets = 7
number_of_cause Limits = 8
