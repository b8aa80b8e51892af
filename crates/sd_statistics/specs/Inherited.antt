-- How long a thread has a priority that it inherits, and the greatest of these.
-- Source: Solaris Internals (priority inheritance).
use Rattle.std.specs.Prelude.{ℕ, ◌-◌, max, List, [], ◌∷◌, if◌then◌else◌}
use Rattle.sd_stretches.specs.declared.rows.Level.{Level}

abbrev pub inherited_ticks : Level → ℕ
inherited_ticks x = if x.inherited then x.to - x.from else 0

abbrev pub inherited_priority : Level → ℕ
inherited_priority x = if x.inherited then x.priority else 0

-- 0 where none is inherited
unfoldable pub greatest_inherited : List Level → ℕ
greatest_inherited [] = 0
greatest_inherited (x ∷ xs) = max (inherited_priority x) (greatest_inherited xs)
