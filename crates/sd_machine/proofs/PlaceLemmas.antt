-- What keeps the place of a thread, and that a thread which is put on a queue waits for no lock.
use Rattle.std.proofs.Common.{◌≡◌, ℕ, Bool, true, false, refl, arith}
use Rattle.std.proofs.lemmas.Grind.{common_steps}
use Rattle.sd_types.specs.declared.classes.ClassState.{ClassState}
use Rattle.sd_types.specs.declared.events.Put.{Put}
use Rattle.sd_types.specs.declared.events.Put.TheVariants.{Cpu, RealTime as OnRealTime}
use Rattle.sd_types.specs.declared.works.Work.{Work}
use Rattle.sd_state.specs.declared.states.Place.{Place}
use Rattle.sd_state.specs.declared.states.Place.TheVariants.{Waiting}
use Rattle.sd_state.specs.declared.states.State.{State}
use Rattle.sd_state.specs.declared.states.ThreadState.{ThreadState}
use Rattle.sd_state.specs.States.{thread_of, with_thread}
use Rattle.sd_machine.specs.Changes.{place_put, set_class}

-- a change of one thread that keeps its place
pub kept_place : (s : State) (u t : ℕ) (x : ThreadState) → x.place ≡ (thread_of s u).place → (thread_of (with_thread s u x) t).place ≡ (thread_of s t).place
kept_place s u t x same = grind (arith, common_steps)

pub class_place : (s : State) (u t : ℕ) (class : ClassState) → (thread_of (set_class s u class) t).place ≡ (thread_of s t).place
unfolding set_class
class_place s u t class = kept_place s u t (record (thread_of s u) { body = record (thread_of s u).body { class = class } }) refl

-- a thread that waits for a lock
abbrev pub is_waiter : Place → Bool
is_waiter (Waiting l side k) = true
is_waiter _ = false

pub put_no_waiter : (w : Work) (n t : ℕ) (at : Put) → is_waiter (place_put w n t at) ≡ false
put_no_waiter w n t (Cpu x) = refl
put_no_waiter w n t (OnRealTime x) = refl
