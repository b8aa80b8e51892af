-- What is seen of a thread in a state.
-- Source: Solaris Internals (thread states, global priorities, priority inheritance).
use Rattle.std.specs.Prelude.{ℕ, Bool, true, false, ◌&&◌, ◌==◌, nat_lt, List, map, count_by}
use Rattle.sd_types.specs.declared.bodies.ThreadBody.{ThreadBody}
use Rattle.sd_types.specs.declared.classes.Class.{Class}
use Rattle.sd_types.specs.declared.classes.Class.TheVariants as class
use Rattle.sd_types.specs.declared.classes.ClassState.{ClassState}
use Rattle.sd_types.specs.declared.classes.ClassState.TheVariants.{Ts, Fx, Sys, Rt}
use Rattle.sd_types.specs.Priorities.{base_of, eff}
use Rattle.sd_state.specs.declared.states.Place.{Place}
use Rattle.sd_state.specs.declared.states.Place.TheVariants as place
use Rattle.sd_state.specs.declared.states.ThreadState.{ThreadState}
use Rattle.sd_state.specs.declared.states.State.{State}
use Rattle.sd_stretches.specs.declared.sights.Doing.{Doing}
use Rattle.sd_stretches.specs.declared.sights.Doing.TheVariants.{Running, Spinning, Runnable, Waiting, Asleep, Napping, Ended}
use Rattle.sd_stretches.specs.declared.sights.Sight.{Sight}

-- what a thread does at a place; which queue it stands on, on which side it waits and until when it naps is left out
abbrev pub doing_of : Place → Doing
doing_of (place.Running c) = Running c
doing_of (place.Queued c k) = Runnable
doing_of (place.RealTime p k) = Runnable
doing_of (place.Waiting l side k) = Waiting l
doing_of (place.Asleep k key) = Asleep k
doing_of (place.Napping c due) = Napping
doing_of place.Ended = Ended

-- it runs on processor c
abbrev pub runs_on : ℕ → Doing → Bool
runs_on c (Running d) = d.0 == c
runs_on c _ = false

-- it runs on some processor
abbrev pub does_run : Doing → Bool
does_run (Running c) = true
does_run _ = false

abbrev pub same_doing : Doing → Doing → Bool
same_doing (Running c) (Running d) = c.0 == d.0
same_doing (Spinning c l) (Spinning d m) = (c.0 == d.0) && (l.0 == m.0)
same_doing Runnable Runnable = true
same_doing (Waiting l) (Waiting m) = l.0 == m.0
same_doing (Asleep k) (Asleep j) = k.0 == j.0
same_doing Napping Napping = true
same_doing Ended Ended = true
same_doing _ _ = false

abbrev pub class_of : ClassState → Class
class_of (Ts s) = class.Ts
class_of (Fx s) = class.Fx
class_of (Sys s) = class.Sys
class_of (Rt s) = class.Rt

-- its priority is inherited where it is above the base priority
abbrev pub sight_by : ThreadBody → Doing → Sight
sight_by b doing = record {
  doing = doing;
  class = class_of b.class;
  priority = eff b;
  inherited = nat_lt (base_of b.class) (eff b);
}

abbrev pub sight_of : ThreadState → Sight
sight_of x = sight_by x.body (doing_of x.place)

-- of each thread, in order of number
unfoldable pub sights_of : State → List Sight
sights_of s = map sight_of s.threads

abbrev pub same_truth : Bool → Bool → Bool
same_truth true b = b
same_truth false true = false
same_truth false false = true

-- the same effective priority, inherited or not
abbrev pub same_rank : Sight → Sight → Bool
same_rank x y = (x.priority == y.priority) && same_truth x.inherited y.inherited

abbrev pub stands_on_queue : Doing → Bool
stands_on_queue Runnable = true
stands_on_queue _ = false

abbrev pub is_runnable : Sight → Bool
is_runnable x = stands_on_queue x.doing

-- how many threads stand on dispatch queues
abbrev pub runnable : List Sight → ℕ
runnable xs = count_by is_runnable xs
