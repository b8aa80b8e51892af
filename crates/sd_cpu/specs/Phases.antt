-- What a phase says.
-- Source: this project's own.
use Rattle.std.specs.Prelude.{◌≡◌, ℕ, zero, suc, ◌+◌, ◌-◌, ◌^◌, false, min, Result, Ok, Err}
use Rattle.sd_types.specs.declared.events.Stop.{Stop}
use Rattle.sd_world.specs.Worlds.{Meaning}
use Rattle.sd_cpu.specs.Attempts.{MakesOne, Refuses}
use Rattle.sd_cpu.specs.declared.attempts.Turned.{Turned}
use Rattle.sd_cpu.specs.declared.attempts.Turned.TheVariants.{Acted, Ticked, Behind, Finished}
use Rattle.sd_cpu.specs.Turns.{TakesTurn}
use Rattle.sd_cpu.specs.declared.phases.Phased.{Phased}

-- so many entries were made, one after another, none of which ticks
abbrev pub ActsOften : ℕ → Meaning → Meaning → Type 0
ActsOften zero m m' = m' ≡ m
ActsOften (suc k) m m' = (between : Meaning) × (n : ℕ) × ActsOften k m between × MakesOne between m' n false

-- a number after so many turns: it rises by 1 with each, and stays at the greatest u64
abbrev pub raised : ℕ → ℕ → ℕ
raised n zero = n
raised n (suc k) = min (raised n k + 1) (2 ^ 64 - 1)

-- after so many entries a turn ticked, or made none; it tells how many were made
abbrev pub Ends : Meaning → Meaning → ℕ → ℕ → Turned → Type 0
Ends m m' k entries (Acted n) = ⊥
Ends m m' k entries (Ticked n) = TakesTurn m m' (Ticked n) × (entries ≡ raised 0 (suc k))
Ends m m' k entries (Behind c n) = TakesTurn m m' (Behind c n) × (entries ≡ raised 0 k)
Ends m m' k entries Finished = TakesTurn m m' Finished × (entries ≡ raised 0 k)

-- or was refused
abbrev pub Stops : Meaning → Meaning → ℕ → Result Phased Stop → Type 0
Stops m m' k (Ok p) = Ends m m' k p.entries p.end
Stops m m' k (Err s) = Refuses m m' s

-- the number of the next turn has risen with each turn: those that made these entries, and the last one
pub record PhaseAnswers (m m' : Meaning) (number number' : ℕ) (r : Result Phased Stop) : Type 0 where
  pub count : ℕ
  pub last : Meaning
  pub acts : ActsOften count m last
  pub stops : Stops last m' count r
  pub turns : number' ≡ raised number (suc count)
