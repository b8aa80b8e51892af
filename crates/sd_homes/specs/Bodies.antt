-- What a change asks of the body of a thread.
-- Source: this project's own.
use Rattle.std.specs.Prelude.{◌≡◌, ℕ, ◌<◌, false, length, IfSome, IsTrue, ⊤}
use Rattle.sd_types.specs.declared.bodies.ThreadBody.{ThreadBody}
use Rattle.sd_types.specs.declared.works.Work.{Work}
use Rattle.sd_types.specs.Scripts.{is_held}
use Rattle.sd_types.specs.Limits.{most_held}
use Rattle.sd_state.specs.Operations.{script_of}
use Rattle.sd_store.specs.declared.changes.BodyChange.{BodyChange}
use Rattle.sd_store.specs.declared.changes.BodyChange.TheVariants.{Tick, FinishOp, Class, SendBack, Hold, LetGo, Inherit, Looped}

abbrev pub CanChangeThread : Work → ℕ → BodyChange → ThreadBody → Type 0
CanChangeThread w t Tick b = b.op < length (script_of w t)
CanChangeThread w t FinishOp b = b.op < length (script_of w t)
CanChangeThread w t (Class class) b = ⊤
CanChangeThread w t SendBack b = ⊤
CanChangeThread w t (Hold l) b = (length b.held.items < most_held) × (is_held l b.held.items ≡ false)
CanChangeThread w t (LetGo l) b = ⊤
CanChangeThread w t (Inherit l number) b = IsTrue (is_held l b.held.items) × IfSome number (λ n. n < 160)
CanChangeThread w t (Looped looped) b = ⊤
