-- The changes of the body of a thread that stays where it is, and what each asks of the body.
-- Source: this project's own; the changes are those of `sd_machine`.
use Rattle.std.specs.Prelude.{ℕ, true, ⊤}
use Rattle.sd_types.specs.declared.numbers.ThreadId.{ThreadId}
use Rattle.sd_types.specs.declared.bodies.ThreadBody.{ThreadBody}
use Rattle.sd_types.specs.declared.works.Work.{Work}
use Rattle.sd_types.specs.Willed.{changed_number, with_willed, with_lock as with_held, released as without_held}
use Rattle.sd_state.specs.declared.states.State.{State}
use Rattle.sd_state.specs.Operations.{script_of, op_over, ran}
use Rattle.sd_machine.specs.Bodies.{ticked_class, with_class}
use Rattle.sd_machine.specs.Needs.{CanFinish, CanHold, CanInherit}
use Rattle.sd_store.specs.declared.changes.BodyChange.{BodyChange}
use Rattle.sd_store.specs.declared.changes.BodyChange.TheVariants.{Tick, FinishOp, Class, SendBack, Hold, LetGo, Inherit, Looped}

abbrev pub changed : Work → ℕ → BodyChange → ThreadBody → ThreadBody
changed w t Tick b = with_class (ran (script_of w t) b) (ticked_class w b.class)
changed w t FinishOp b = op_over (script_of w t) b
changed w t (Class class) b = with_class b class
changed w t SendBack b = record b { back = true }
changed w t (Hold l) b = with_held l b
changed w t (LetGo l) b = without_held l b
changed w t (Inherit l number) b = with_willed (changed_number l number b.willed.items) b
changed w t (Looped looped) b = record b { looped = looped }

abbrev pub CanChange : Work → ThreadId → BodyChange → State → Type 0
CanChange w t Tick s = CanFinish w s t
CanChange w t FinishOp s = CanFinish w s t
CanChange w t (Hold l) s = CanHold s t l
CanChange w t (Inherit l number) s = CanInherit s t l number
CanChange w t _ s = ⊤
