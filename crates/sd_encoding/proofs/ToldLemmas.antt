-- What the one state tells is told of each that is shown.
use Rattle.std.proofs.Common.{◌≡◌, ℕ, ◌+◌, Result, Ok, Err, Option, option_map, refl, sym, ◌∙◌, subst}
use Rattle.std.specs.Prelude.{IfOk}
use Rattle.sd_types.specs.declared.numbers.ThreadId.{ThreadId}
use Rattle.sd_state.specs.declared.states.State.{State}
use Rattle.sd_store.specs.Parts.{number}
use Rattle.sd_store.specs.Flat.{IsState}
use Rattle.sd_store.specs.Words.{Does, DoesBy, Names, Tells}
use Rattle.sd_encoding.specs.declared.ordered.Ordered.{Ordered}
use Rattle.sd_encoding.specs.Shown.{IsShown}
use Rattle.sd_encoding.proofs.SourceLemmas.{AreAlike}

itself : (x : Ordered) (n : ℕ) (s : State) → IsShown x n s → IsState x.state x.state
itself x n s sh = record { same = refl; small = sh.small }

alike_of : (x : Ordered) (n : ℕ) (s : State) → IsShown x n s → AreAlike n n x.state s
alike_of x n s sh = record { same = sh.same; own = sh.own; keys = sh.keys }

pub told : {A L : Type 0} (x : Ordered) (r : Result A L) (P : State → A → Type 0) → IfOk r (λ a. (n : ℕ) (s : State) → IsState x.state s → P s a)
    → ((n : ℕ) (s : State) → IsShown x n s → (a : A) → P x.state a → P s a) → IfOk r (λ a. (n : ℕ) (s : State) → IsShown x n s → P s a)
told x (Ok a) P h same = λ n s sh. same n s sh a (h n x.state (itself x n s sh))
told x (Err q) P h same = tt

pub tells : {A L : Type 0} (x : Ordered) (r : Result A L) (f : State → A) → Tells (λ n s. IsState x.state s) r f
    → ((n : ℕ) (s : State) → AreAlike n n x.state s → f x.state ≡ f s) → Tells (IsShown x) r f
tells x r f h same = told x r (λ s a. a ≡ f s) h (λ n s sh a e. e ∙ same n s (alike_of x n s sh))

pub names : {L : Type 0} (x : Ordered) (r : Result (Option ThreadId) L) (f : State → Option ℕ) → Names (λ n s. IsState x.state s) r f
    → ((n : ℕ) (s : State) → AreAlike n n x.state s → f x.state ≡ f s) → Names (IsShown x) r f
names x r f h same = told x r (λ s t. option_map number t ≡ f s) h (λ n s sh a e. e ∙ same n s (alike_of x n s sh))

-- where the states stay alike, a change is made in each that is shown
shown_after : (x : Ordered) (n : ℕ) (z s : State) → IsState x.state z → AreAlike n n z s → IsShown x n s
shown_after x n z s is h =
    let a : AreAlike n n x.state s = subst (λ y. AreAlike n n y s) (sym is.same) h in
    record { same = a.same; own = a.own; keys = a.keys; small = is.small }

pub does : {A L : Type 0} (x x' : Ordered) (r : Result A L) (can : State → Type 0) (f : State → State)
    → Does (λ n s. IsState x.state s) (λ n s. IsState x'.state s) r can f
    → ((n : ℕ) (s : State) → AreAlike n n x.state s → can s → can x.state) → ((n : ℕ) (s : State) → AreAlike n n x.state s → can s → AreAlike n n (f x.state) (f s))
    → Does (IsShown x) (IsShown x') r can f
does x x' (Ok a) can f h back step = λ n s sh c.
    let alike = alike_of x n s sh in
    shown_after x' n (f x.state) (f s) (h n x.state (itself x n s sh) (back n s alike c)) (step n s alike c)
does x x' (Err q) can f h back step = tt

pub does_by : {A L : Type 0} (n : ℕ) (x x' : Ordered) (r : Result A L) (can : State → Type 0) (f : State → State)
    → DoesBy n (λ m s. IsState x.state s) (λ m s. IsState x'.state s) r can f
    → ((s : State) → AreAlike n n x.state s → can s → can x.state) → ((s : State) → AreAlike n n x.state s → can s → AreAlike (n + 1) (n + 1) (f x.state) (f s))
    → DoesBy n (IsShown x) (IsShown x') r can f
does_by n x x' (Ok a) can f h back step = λ s sh c.
    let alike = alike_of x n s sh in
    shown_after x' (n + 1) (f x.state) (f s) (h x.state (itself x n s sh) (back s alike c)) (step s alike c)
does_by n x x' (Err q) can f h back step = tt
