-- What is said of a stored text.
-- Source: this project's own.
use Rattle.std.specs.Prelude.{◌≡◌, ◌≢◌, ℕ, List}
use Rattle.sd_examples.specs.declared.answers.Compared.{Compared}
use Rattle.sd_examples.specs.declared.answers.Compared.TheVariants.{Same, Other}

-- a call that returned this status wrote what is stored, or something else
abbrev pub SaysOfCall : List ℕ → ℕ → List ℕ → Compared → Type 0
SaysOfCall text status stored (Same told) = (told ≡ status) × (text ≡ stored)
SaysOfCall text status stored (Other told) = (told ≡ status) × (text ≢ stored)

-- the call wrote what is stored and returned this status, or it wrote something else
abbrev pub SaysOf : (List ℕ → ℕ → Type 0) → List ℕ → Compared → Type 0
SaysOf Call stored (Same status) = Call stored status
SaysOf Call stored (Other status) = (text : List ℕ) × Call text status × (text ≢ stored)
