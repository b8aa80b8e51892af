-- When the last thing happens in a run.
-- Source: this project's own.
use Rattle.std.specs.Prelude.{ℕ, max, List, [], ◌∷◌}
use Rattle.sd_types.specs.declared.events.Event.{Event}
use Rattle.sd_types.specs.declared.events.Event.TheVariants.{Idle}
use Rattle.sd_stretches.specs.declared.changes.Happening.{Happening}

-- the tick of an entry by which something happens, which is not so of one by which a processor has nothing to run
abbrev pub act_tick : Happening → Event → ℕ
act_tick x Idle = 0
act_tick x _ = x.tick

-- the greatest of them
unfoldable pub last_act : List Happening → ℕ
last_act [] = 0
last_act (x ∷ xs) = max (act_tick x x.event) (last_act xs)
