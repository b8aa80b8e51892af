-- What a turn says, whose attempts were repeated while somebody was in the way.
-- Source: this project's own.
use Rattle.std.specs.Prelude.{ℕ, ◌<◌, ◌≤◌, true, false, Result, Ok, Err}
use Rattle.sd_types.specs.declared.events.Stop.{Stop}
use Rattle.sd_world.specs.Worlds.{IsBehind, Meaning}
use Rattle.sd_cpu.specs.Attempts.{Idles, MakesOne, MayNotTick, Refuses}
use Rattle.sd_cpu.specs.declared.attempts.Turned.{Turned}
use Rattle.sd_cpu.specs.declared.attempts.Turned.TheVariants.{Acted, Ticked, Behind, Finished}

-- in the last attempt another processor was found that has counted less
pub record IsBehindAtLast (m m' : Meaning) (c n : ℕ) : Type 0 where
  pub before : Meaning
  pub idles : Idles m before
  pub behind : IsBehind before m' c n

-- Acted and Ticked made exactly the one entry of that number. Behind and Finished made none, since the processor would tick: it has
-- counted more than another, whose count was the last that was read, or as many as the limit.
abbrev pub TakesTurn : Meaning → Meaning → Turned → Type 0
TakesTurn m m' (Acted n) = MakesOne m m' n false
TakesTurn m m' (Ticked n) = MakesOne m m' n true
TakesTurn m m' (Behind c n) = MayNotTick m m' × (m.acting.actor.count < m.work.limit) × (n < m.acting.actor.count) × IsBehindAtLast m m' c.0 n
TakesTurn m m' Finished = MayNotTick m m' × (m.work.limit ≤ m.acting.actor.count)

abbrev pub TurnAnswers : Meaning → Meaning → Result Turned Stop → Type 0
TurnAnswers m m' (Ok t) = TakesTurn m m' t
TurnAnswers m m' (Err s) = Refuses m m' s
