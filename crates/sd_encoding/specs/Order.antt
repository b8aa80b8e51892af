-- States in which keys have the same order. A key says only which of two came first: of all keys of a state, those of
-- threads and those of duties, nothing is ever asked but which is the smaller one.
-- Source: this project's own.
use Rattle.std.specs.Prelude.{◌≡◌, ℕ, ◌≤◌, Bool, true, false, map, ℤ, pos, negsuc, int_lt, Option, Some, None, IfSome, ⊤}
use Rattle.sd_types.specs.declared.events.Duty.{Duty}
use Rattle.sd_types.specs.declared.events.Duty.TheVariants.{Walk, Rouse}
use Rattle.sd_state.specs.declared.states.Place.{Place}
use Rattle.sd_state.specs.declared.states.Place.TheVariants.{Queued, RealTime, Waiting, Asleep}
use Rattle.sd_state.specs.declared.states.CpuState.{CpuState}
use Rattle.sd_state.specs.declared.states.ThreadState.{ThreadState}
use Rattle.sd_state.specs.declared.states.State.{State}
use Rattle.sd_state.specs.States.{thread_of, cpu_of}
use Rattle.sd_machine.specs.Changes.{back_key}

-- A state without its keys: each is 0.

abbrev pub bare_place : Place → Place
bare_place (Queued c key) = Queued c (pos 0)
bare_place (RealTime p key) = RealTime p (pos 0)
bare_place (Waiting l side key) = Waiting l side (pos 0)
bare_place (Asleep k key) = Asleep k (pos 0)
bare_place place = place

abbrev pub bare_duty : Duty → Duty
bare_duty (Walk l seek key) = Walk l seek (pos 0)
bare_duty (Rouse k below) = Rouse k (pos 0)
bare_duty duty = duty

abbrev pub bare_thread : ThreadState → ThreadState
bare_thread x = record x { place = bare_place x.place }

abbrev pub bare_cpu : CpuState → CpuState
bare_cpu x = record x { duty = bare_duty x.duty }

abbrev pub bare : State → State
bare s = record s { threads = map bare_thread s.threads; cpus = map bare_cpu s.cpus }

-- Keys: a thread has one that stands on a queue, on a turnstile or on a sleep queue, and a processor that walks along a
-- chain or wakes sleepers.

pub data Holder : Type 0 where
  OfThread : ℕ → Holder
  OfCpu : ℕ → Holder

abbrev pub key_at : Place → Option ℤ
key_at (Queued c key) = Some key
key_at (RealTime p key) = Some key
key_at (Waiting l side key) = Some key
key_at (Asleep k key) = Some key
key_at place = None

abbrev pub key_in : Duty → Option ℤ
key_in (Walk l seek key) = Some key
key_in (Rouse k below) = Some below
key_in duty = None

-- a number that is out of range has no key
abbrev pub key_held : State → Holder → Option ℤ
key_held s (OfThread t) = key_at (thread_of s t).place
key_held s (OfCpu c) = key_in (cpu_of s c).duty

-- both are there, and the first is the smaller one
abbrev pub is_below : Option ℤ → Option ℤ → Bool
is_below (Some key) (Some other) = int_lt key other
is_below _ _ = false

-- the same but for their keys, and of any two keys of one the same is the smaller one as in the other
pub record IsSameOrder (x s : State) : Type 0 where
  pub bare : bare x ≡ bare s
  pub order : (a b : Holder) → is_below (key_held x a) (key_held x b) ≡ is_below (key_held s a) (key_held s b)

-- the key is one that an entry before entry n may have given: each from entry n on gives a thread a greater one at the
-- back of a queue, and a smaller one at the front
pub record IsKeyBefore (n : ℕ) (key : ℤ) : Type 0 where
  pub back : (m : ℕ) → n ≤ m → int_lt key (back_key m) ≡ true
  pub front : (m : ℕ) → n ≤ m → int_lt (negsuc m) key ≡ true

-- a thread goes to a sleep queue with a key that is not below 0
abbrev pub IsSleeperKey : Place → Type 0
IsSleeperKey (Asleep k key) = int_lt key (pos 0) ≡ false
IsSleeperKey place = ⊤

-- the keys of the state are of entries before entry n
pub record KeysFit (n : ℕ) (s : State) : Type 0 where
  pub before : (a : Holder) → IfSome (key_held s a) (IsKeyBefore n)
  pub sleepers : (t : ℕ) → IsSleeperKey (thread_of s t).place
