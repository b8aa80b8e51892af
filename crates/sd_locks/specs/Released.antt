-- To whom a lock goes that is given up, as a duty without a key; and the parts that the release of a lock and the handing
-- over touch.
-- Source: this project's own.
use Rattle.std.specs.Prelude.{◌≡◌, ℕ, List, [], ◌∷◌, Result, IfOk}
use Rattle.sd_types.specs.declared.numbers.CpuId.{CpuId}
use Rattle.sd_types.specs.declared.numbers.LockId.{LockId}
use Rattle.sd_types.specs.declared.numbers.ThreadId.{ThreadId}
use Rattle.sd_types.specs.declared.events.Duty.{Duty}
use Rattle.sd_types.specs.declared.events.Put.{Put}
use Rattle.sd_types.specs.declared.works.Work.{Work}
use Rattle.sd_state.specs.declared.states.State.{State}
use Rattle.sd_store.specs.declared.parts.Part.{Part}
use Rattle.sd_store.specs.declared.spots.Chore.{Chore}
use Rattle.sd_store.specs.Keyless.{duty_of}
use Rattle.sd_store.specs.Parts.{actor_part, chain_part, put_parts, ready_parts, thread_part}

-- the answer is the duty that each state gives, which has no key
abbrev pub Hands : {L : Type 0} → (ℕ → State → Type 0) → Result Chore L → (State → Duty) → Type 0
Hands shows r f = IfOk r (λ chore. (n : ℕ) (s : State) → shows n s → duty_of chore ≡ f s)

-- the duty of the processor, the lock with its waiters, and the thread that gives it up
abbrev pub released_parts : CpuId → ThreadId → LockId → List Part
released_parts c t l = actor_part c ∷ chain_part l ∷ thread_part t ∷ []

-- the same, and what is ready on the processor
abbrev pub exited_parts : State → CpuId → ThreadId → LockId → List Part
exited_parts s c t l = actor_part c ∷ chain_part l ∷ thread_part t ∷ ready_parts s c

-- the lock with its waiters, and what a waiter touches that is made runnable
abbrev pub received_parts : Work → LockId → ThreadId → Put → List Part
received_parts w l u at = chain_part l ∷ put_parts w u at

-- the duty of the processor, the lock with its waiters, and what a waiter touches that is made runnable
abbrev pub handed_parts : Work → CpuId → LockId → ThreadId → Put → List Part
handed_parts w c l u at = actor_part c ∷ chain_part l ∷ put_parts w u at
