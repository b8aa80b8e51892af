-- A line without causes: what each test says.
use Rattle.std.proofs.Common.{◌≡◌, Bool, true, false, cond, Some, None, refl, sym}
use Rattle.std.proofs.lemmas.Option.{none-some}
use Rattle.sd_declare.specs.declared.causes.WorkCause.TheVariants.{Syntax, Unknown, Twice, Range, Sets, Limits}
use Rattle.sd_declare.specs.Causes.{Causes, least}

by-tests : (a b c d e f : Bool) → cond a (Some Syntax) (cond b (Some Unknown) (cond c (Some Twice) (cond d (Some Range) (cond e (Some Sets) (cond f (Some Limits) None))))) ≡ None
    → (a ≡ false) × (b ≡ false) × (c ≡ false) × (d ≡ false) × (e ≡ false) × (f ≡ false)
by-tests true b c d e f h = absurd (none-some Syntax (sym h))
by-tests false true c d e f h = absurd (none-some Unknown (sym h))
by-tests false false true d e f h = absurd (none-some Twice (sym h))
by-tests false false false true e f h = absurd (none-some Range (sym h))
by-tests false false false false true f h = absurd (none-some Sets (sym h))
by-tests false false false false false true h = absurd (none-some Limits (sym h))
by-tests false false false false false false h = (refl, refl, refl, refl, refl, refl)

pub record IsClear (c : Causes) : Type 0 where
  pub syntax : c.syntax ≡ false
  pub unknown : c.unknown ≡ false
  pub twice : c.twice ≡ false
  pub range : c.range ≡ false
  pub sets : c.sets ≡ false
  pub limits : c.limits ≡ false

pub clear : (c : Causes) → least c ≡ None → IsClear c
clear c h =
    let p = by-tests c.syntax c.unknown c.twice c.range c.sets c.limits h in
    record { syntax = p.0; unknown = p.1; twice = p.2; range = p.3; sets = p.4; limits = p.5 }
