-- Walks by lists and records are those by places.
use Rattle.std.proofs.Common.{◌≡◌, Option, Some, refl}
use Rattle.std.specs.Prelude.{ℤ}
use Rattle.sd_types.specs.declared.bodies.ThreadBody.{ThreadBody}
use Rattle.sd_types.specs.declared.events.Duty.{Duty}
use Rattle.sd_types.specs.declared.events.Duty.TheVariants.{Walk}
use Rattle.sd_types.specs.declared.numbers.CpuId.{CpuId}
use Rattle.sd_types.specs.declared.numbers.LockId.{LockId}
use Rattle.sd_types.specs.declared.numbers.ThreadId.{ThreadId}
use Rattle.sd_state.specs.declared.states.Place.{Place}
use Rattle.sd_state.specs.declared.states.Place.TheVariants.{Running}
use Rattle.sd_state.specs.declared.states.State.{State}
use Rattle.sd_state.specs.declared.states.ThreadState.{ThreadState}
use Rattle.sd_machine.specs.Prioritising.{walk_from}
use Rattle.sd_machine.specs.Walking.{next_walk}
use Rattle.sd_homes.specs.declared.home.Home.{Home}
use Rattle.sd_homes.specs.declared.list_id.ListId.{ListId}
use Rattle.sd_homes.specs.declared.list_id.ListId.TheVariants.{Waits}
use Rattle.sd_homes.specs.Families.{taken_from}
use Rattle.sd_homes.specs.Standing.{list_at, record_of}
use Rattle.sd_hand.specs.Walking.{given, next_walk_at, waiting_from, walk_at}

begun_at : (s : State) (c : CpuId) (t : ThreadId) (last : CpuId) (b : ThreadBody) (place : Place)
    → given s c (walk_at t (list_at last place) (Some (record_of t.0 (record { body = b; place = place })))) ≡ walk_from s c t place
begun_at s c t last b (Running d) = refl
begun_at s c t last b place = refl

pub begun_by : (s : State) (c : CpuId) (t : ThreadId) (x : ThreadState) → given s c (walk_at t (list_at x.body.last x.place) (Some (record_of t.0 x))) ≡ walk_from s c t x.place
begun_by s c t x = begun_at s c t x.body.last x.body x.place

walk_next : (l : LockId) (seek : ThreadId) (key : ℤ) (o : ThreadId) (last : CpuId) (b : ThreadBody) (place : Place)
    → next_walk_at (Walk l seek key) o (list_at last place) (Some (record_of o.0 (record { body = b; place = place }))) ≡ next_walk (Walk l seek key) o b.looped place
walk_next l seek key o last b (Running d) = refl
walk_next l seek key o last b place = refl

pub next_by : (d : Duty) (o : ThreadId) (x : ThreadState) → next_walk_at d o (list_at x.body.last x.place) (Some (record_of o.0 x)) ≡ next_walk d o x.body.looped x.place
next_by (Walk l seek key) o x = walk_next l seek key o x.body.last x.body x.place
next_by d o x = refl

-- a walk goes on only from an owner that waits
pub next_waiting : (d : Duty) (o : ThreadId) (at : ListId) (home : Option Home) → next_walk_at d o at (waiting_from o.0 at home) ≡ next_walk_at d o at (taken_from o.0 at home)
next_waiting (Walk l seek key) o (Waits m side) home = refl
next_waiting (Walk l seek key) o at home = refl
next_waiting d o at home = refl
