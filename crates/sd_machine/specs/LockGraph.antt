-- The lock graph of a state: who waits on which lock with which key, who owns it, and where walks stand.
-- Source: Solaris Internals (turnstiles, priority inheritance).
use Rattle.std.specs.Prelude.{ℕ, List, length, Option, Some, None}
use Rattle.sd_types.specs.declared.events.Duty.{Duty}
use Rattle.sd_types.specs.declared.events.Duty.TheVariants.{Walk}
use Rattle.sd_types.specs.Priorities.{base_of, eff}
use Rattle.sd_types.specs.Willed.{Numbers, number_for}
use Rattle.sd_machine.specs.Graphs as G
use Rattle.sd_machine.specs.Cycles.{cycles}
use Rattle.sd_state.specs.declared.states.Place.{Place}
use Rattle.sd_state.specs.declared.states.Place.TheVariants.{Waiting}
use Rattle.sd_state.specs.declared.states.LockState.{LockState}
use Rattle.sd_state.specs.declared.states.LockState.TheVariants.{Owned}
use Rattle.sd_state.specs.declared.states.State.{State}
use Rattle.sd_state.specs.States.{thread_of, cpu_of}
use Rattle.sd_machine.specs.Threads.{lock_of}

abbrev pub wait_of : Place → Option G.Wait
wait_of (Waiting l side k) = Some (record { lock = l.0; key = k })
wait_of _ = None

abbrev pub owner_of : LockState → Option ℕ
owner_of (Owned t) = Some t.0
owner_of _ = None

abbrev pub walk_of : Duty → Option G.Walk
walk_of (Walk l seek k) = Some (record { lock = l.0; seek = seek.0; key = k })
walk_of _ = None

-- the number of a list for lock l
abbrev pub number_at : Numbers → ℕ → Option ℕ
number_at ws l = number_for (record { 0 = l }) ws

abbrev pub graph : State → G.Graph
graph s = record {
  waits = λ t. wait_of (thread_of s t).place;
  base = λ t. base_of (thread_of s t).body.class;
  eff = λ t. eff (thread_of s t).body;
  willed = λ t l. number_at (thread_of s t).body.willed.items l;
  looped = λ t. (thread_of s t).body.looped;
  owner = λ l. owner_of (lock_of s l);
  walks = λ c. walk_of (cpu_of s c).duty;
}

-- the blocking cycles of a state, each from its least thread on, in order of these
unfoldable pub cycles_of : State → List (List ℕ)
cycles_of s = cycles (graph s) (length s.threads)
