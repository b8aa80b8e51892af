-- A change that is made by two calls.
use Rattle.std.proofs.Common.{ℕ, Ok, Err}
use Rattle.std.specs.Prelude.{Result, ⊤}
use Rattle.sd_state.specs.declared.states.State.{State}
use Rattle.sd_store.specs.Words.{DoesBy}

-- the second call is by entry n, after a first one that gives no key
pub does_after : {A L : Type 0} (n : ℕ) (shows between shows' : ℕ → State → Type 0) (r : Result A L) (first second : State → State)
    → ((s : State) → shows n s → between n (first s)) → DoesBy n between shows' r (λ s. ⊤) second → DoesBy n shows shows' r (λ s. ⊤) (λ s. second (first s))
does_after n shows between shows' (Ok a) first second made does = λ s h k. does (first s) (made s h) tt
does_after n shows between shows' (Err q) first second made does = tt
