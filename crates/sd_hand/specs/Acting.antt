-- A hand with the processor that acts, as a store of a state.
-- Source: this project's own.
use Rattle.std.specs.Prelude.{◌≡◌, ℕ, ◌<◌, ◌≤◌, Bool, ◌==◌, length, is_some}
use Rattle.sd_state.specs.declared.states.State.{State}
use Rattle.sd_state.specs.States.{cpu_of}
use Rattle.sd_store.specs.declared.parts.Part.{Part}
use Rattle.sd_store.specs.declared.parts.Part.TheVariants.{Home, Thread, Actor}
use Rattle.sd_hand.specs.declared.acting.Acting.{Acting}
use Rattle.sd_hand.specs.Hands.{AreApart, has_thread, held}
use Rattle.sd_hand.specs.Shown.{ShowsState}
use Rattle.sd_types.specs.Limits.{most_objects}

-- it has the part
abbrev pub has_part : Acting → Part → Bool
has_part x (Home k) = is_some (held k x.hand.slots)
has_part x (Thread t) = has_thread t.0 x.hand.slots
has_part x (Actor d) = d.0 == x.actor.cpu.0

abbrev pub the_part : Part → Part
the_part p = p

-- it may stand for the state after n entries: its homes stand for their parts, and its processor has that count and duty
pub record IsShown (x : Acting) (n : ℕ) (s : State) : Type 0 where
  pub homes : ShowsState n s x.hand.slots
  pub apart : AreApart x.hand.slots
  pub inside : x.actor.cpu.0 < length s.cpus
  pub count : x.actor.count ≡ (cpu_of s x.actor.cpu.0).count
  pub duty : x.actor.duty ≡ (cpu_of s x.actor.cpu.0).duty
  pub locks : length s.locks ≤ most_objects
  pub chans : length s.counts ≤ most_objects
