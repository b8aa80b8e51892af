-- What a look-up tells and what a change does, in every state that a store shows.
-- Source: this project's own.
use Rattle.std.specs.Prelude.{◌≡◌, ℕ, ◌+◌, Bool, true, false, List, Option, Result, IfOk, IfErr, IfSome, option_map}
use Rattle.sd_types.specs.declared.numbers.ThreadId.{ThreadId}
use Rattle.sd_state.specs.declared.states.State.{State}
use Rattle.sd_store.specs.declared.parts.Part.{Part}
use Rattle.sd_store.specs.Parts.{IsAmong, number, thread_part}

-- the answer is that of each state
abbrev pub Tells : {A L : Type 0} → (ℕ → State → Type 0) → Result A L → (State → A) → Type 0
Tells shows r f = IfOk r (λ a. (n : ℕ) (s : State) → shows n s → a ≡ f s)

-- the same of each state that meets a condition
abbrev pub TellsIf : {A L : Type 0} → (ℕ → State → Type 0) → Result A L → (State → Type 0) → (State → A) → Type 0
TellsIf shows r can f = IfOk r (λ a. (n : ℕ) (s : State) → shows n s → can s → a ≡ f s)

-- the answer names the thread that each state has there, and the store has that thread
abbrev pub Names : {L : Type 0} → (ℕ → State → Type 0) → Result (Option ThreadId) L → (State → Option ℕ) → Type 0
Names shows r f = IfOk r (λ t. (n : ℕ) (s : State) → shows n s → option_map number t ≡ f s)

abbrev pub Finds : {L : Type 0} → (Part → Bool) → Result (Option ThreadId) L → Type 0
Finds has r = IfOk r (λ t. IfSome t (λ u. has (thread_part u) ≡ true))

-- where the change was made, each state that meets a condition has become another
abbrev pub Does : {A L : Type 0} → (ℕ → State → Type 0) → (ℕ → State → Type 0) → Result A L → (State → Type 0) → (State → State) → Type 0
Does shows shows' r can f = IfOk r (λ _. (n : ℕ) (s : State) → shows n s → can s → shows' n (f s))

-- the same of a change by entry n, which may give a thread the key of this entry
abbrev pub DoesBy : {A L : Type 0} → ℕ → (ℕ → State → Type 0) → (ℕ → State → Type 0) → Result A L → (State → Type 0) → (State → State) → Type 0
DoesBy n shows shows' r can f = IfOk r (λ _. (s : State) → shows n s → can s → shows' (n + 1) (f s))

-- a part is lacking that the store has not and each state needs
abbrev pub Lacks : {A L : Type 0} → (L → Part) → (ℕ → State → Type 0) → (Part → Bool) → Result A L → (State → List Part) → Type 0
Lacks part shows has r parts = IfErr r (λ q. ((n : ℕ) (s : State) → shows n s → IsAmong (part q) (parts s)) × (has (part q) ≡ false))

-- the same in each state that meets a condition
abbrev pub LacksIf : {A L : Type 0} → (L → Part) → (ℕ → State → Type 0) → (Part → Bool) → Result A L → (State → Type 0) → (State → List Part) → Type 0
LacksIf part shows has r can parts = IfErr r (λ q. ((n : ℕ) (s : State) → shows n s → can s → IsAmong (part q) (parts s)) × (has (part q) ≡ false))

-- the same in each state after n entries that meets a condition, of a change by entry n
abbrev pub LacksBy : {A L : Type 0} → ℕ → (L → Part) → (ℕ → State → Type 0) → (Part → Bool) → Result A L → (State → Type 0) → (State → List Part) → Type 0
LacksBy n part shows has r can parts = IfErr r (λ q. ((s : State) → shows n s → can s → IsAmong (part q) (parts s)) × (has (part q) ≡ false))

-- where a part is lacking, what was shown before still is
abbrev pub Keeps : {A L : Type 0} → (ℕ → State → Type 0) → (ℕ → State → Type 0) → Result A L → Type 0
Keeps shows shows' r = IfErr r (λ q. (n : ℕ) (s : State) → shows n s → shows' n s)
