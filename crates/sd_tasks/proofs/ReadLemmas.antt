-- A reading, one line further.
use Rattle.std.proofs.Common.{◌≡◌, ℕ, ◌+◌, List, [], ◌∷◌, Option, Some, None, refl, ap}
use Rattle.sd_lines.specs.Words.{Line}
use Rattle.sd_declare.specs.declared.causes.WorkCause.{WorkCause}
use Rattle.sd_tasks.specs.Blocks.{Seen}
use Rattle.sd_tasks.specs.Readings.{Reading, read, unless_refused}
use Rattle.sd_tasks.specs.Steps.{cause_at_end, cause_of, seen_after}

pub read-on : (number : ℕ) (s : Seen) (line : Line) (lines : List Line) → cause_of s number line ≡ None
    → read number s (line ∷ lines) ≡ read (number + 1) (seen_after s number line) lines
unfolding read
read-on number s line lines h =
    ap (λ (c : Option WorkCause). unless_refused (seen_after s number line) number c (read (number + 1) (seen_after s number line) lines)) h

pub read-stopped : (number : ℕ) (s : Seen) (line : Line) (lines : List Line) (cause : WorkCause) → cause_of s number line ≡ Some cause
    → read number s (line ∷ lines) ≡ record { seen = seen_after s number line; number = number; cause = Some cause }
unfolding read
read-stopped number s line lines cause h =
    ap (λ (c : Option WorkCause). unless_refused (seen_after s number line) number c (read (number + 1) (seen_after s number line) lines)) h

pub read-ended : (number : ℕ) (s : Seen) → read number s [] ≡ record { seen = s; number = number; cause = cause_at_end s }
unfolding read
read-ended number s = refl
