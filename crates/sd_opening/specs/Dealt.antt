-- How many threads before one are assigned round-robin in each of the sets 0 to 8.
-- Source: this project's own.
use Rattle.std.specs.Prelude.{◌≡◌, ℕ, ◌<◌, List, get_or}
use Rattle.sd_types.specs.declared.works.Work.{Work}
use Rattle.sd_state.specs.Opening.{dealt_before}

abbrev pub AreDealt : Work → ℕ → List ℕ → Type 0
AreDealt w t ns = (p : ℕ) → p < 9 → get_or ns p 0 ≡ dealt_before w p t
