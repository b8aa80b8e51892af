-- The state as a store.
-- Source: this project's own.
use Rattle.std.specs.Prelude.{◌≡◌, ℕ, ◌<◌, ◌≤◌, length, IfSome, IsTrue, ⊤}
use Rattle.sd_types.specs.declared.bodies.ThreadBody.{ThreadBody}
use Rattle.sd_types.specs.declared.works.Work.{Work}
use Rattle.sd_types.specs.Scripts.{is_held}
use Rattle.sd_types.specs.Willed.{InheritsSoundly}
use Rattle.sd_types.specs.Limits.{most_held}
use Rattle.sd_state.specs.Operations.{script_of}
use Rattle.sd_store.specs.declared.flat.look.Never.{Never}
use Rattle.sd_store.specs.declared.parts.Part.{Part}
use Rattle.sd_store.specs.Parts.{actor_part}
use Rattle.sd_store.specs.declared.changes.BodyChange.{BodyChange}
use Rattle.sd_store.specs.declared.changes.BodyChange.TheVariants.{Tick, FinishOp, Hold, Inherit}
use Rattle.sd_state.specs.declared.states.State.{State}

-- it stands for itself alone, where the numbers of the threads fit their type
pub record IsState (x s : State) : Type 0 where
  pub same : x ≡ s
  pub small : length x.threads ≤ 65536

-- what a change asks of a body
abbrev pub CanChangeBody : Work → ℕ → BodyChange → ThreadBody → Type 0
CanChangeBody w t Tick b = b.op < length (script_of w t)
CanChangeBody w t FinishOp b = b.op < length (script_of w t)
CanChangeBody w t (Hold l) b = length b.held.items < most_held
CanChangeBody w t (Inherit l number) b = InheritsSoundly b × IsTrue (is_held l b.held.items) × IfSome number (λ n. n < 160)
CanChangeBody w t _ b = ⊤

-- what is lacking, which never is
abbrev pub no_part : Never → Part
no_part q = actor_part (record { 0 = 0 })
