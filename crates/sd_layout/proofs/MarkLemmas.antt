-- One change more is marked.
use Rattle.std.proofs.Common.{ℕ, ◌+◌, ◌<◌, Bool, List, length, get_or, take, sym, ◌∙◌}
use Rattle.std.specs.Prelude.{◌==◌, ◌||◌}
use Rattle.std.proofs.lemmas.List.Folds.{list_any_more}
use Rattle.sd_layout.specs.Folds.{is_change}
use Rattle.sd_layout.specs.Marks.{AreMarks}

pub marks_more : (from : ℕ) (changes : List ℕ) (i d : ℕ) (marks : List Bool) → i < length changes
    → AreMarks (λ n. is_change (take i changes) (from + n) || (get_or changes i d == from + n)) marks
    → AreMarks (λ n. is_change (take (i + 1) changes) (from + n)) marks
marks_more from changes i d marks inside are n b is = are n b is ∙ sym (list_any_more (λ c. c == from + n) changes i d inside)
