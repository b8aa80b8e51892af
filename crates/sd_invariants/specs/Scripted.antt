-- Where threads stand in their scripts.
-- Source: this project's own (scripts).
use Rattle.std.specs.Prelude.{◌≡◌, ℕ, ◌<◌, ◌≤◌, length, take, Some, ℤ}
use Rattle.sd_types.specs.declared.numbers.LockId.{LockId}
use Rattle.sd_types.specs.declared.numbers.Side.{Side}
use Rattle.sd_types.specs.declared.scripts.Op.{Op}
use Rattle.sd_types.specs.declared.works.Work.{Work}
use Rattle.sd_types.specs.Scripts.{held_by}
use Rattle.sd_state.specs.declared.states.Place.TheVariants.{Waiting}
use Rattle.sd_state.specs.declared.states.State.{State}
use Rattle.sd_state.specs.States.{thread_of}
use Rattle.sd_state.specs.Operations.{script_of, op_of}
use Rattle.sd_frames.specs.Causes.{wants}

-- A thread stands at an operation of its script or behind the last; it holds exactly the locks that the finished part took
-- and did not give up; and where it waits for a lock, its operation wants that lock at that side.
pub record IsScripted (w : Work) (s : State) (t : ℕ) : Type 0 where
  pub op : (thread_of s t).body.op ≤ length (script_of w t)
  pub held : (thread_of s t).body.held.items ≡ held_by (take (thread_of s t).body.op (script_of w t))
  pub waits : (l : LockId) (side : Side) (k : ℤ) → (thread_of s t).place ≡ Waiting l side k
      → (o : Op) × (op_of w t (thread_of s t).body ≡ Some o) × (wants o ≡ Some (l, side))

abbrev pub Scripted : Work → State → Type 0
Scripted w s = (t : ℕ) → t < length s.threads → IsScripted w s t
