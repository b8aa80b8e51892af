-- The items of a history apart by thread.
-- Source: this project's own.
use Rattle.std.specs.Prelude.{◌≡◌, ℕ, ◌==◌, List, [], ◌∷◌, ◌++◌, Some, slice_get, if◌then◌else◌, Vec}
use Rattle.std.specs.declared.alloc.Global.{Global}
use Rattle.sd_stretches.specs.declared.changes.Onset.{Onset}
use Rattle.sd_stretches.specs.declared.changes.Rank.{Rank}
use Rattle.sd_stretches.specs.declared.changes.Wakeup.{Wakeup}
use Rattle.sd_stretches.specs.declared.histories.History.{History}
use Rattle.sd_stretches.specs.declared.spin_pieces.Spell.{Spell}
use Rattle.sd_stretches.specs.declared.spin_pieces.Track.TheVariants.{Thread}
use Rattle.sd_stretches.specs.Rows.{own_onsets, own_ranks, own_wakeups}
use Rattle.sd_stretches.specs.SpinPieces.{spells_on}

-- the row of each number has these items
abbrev pub AreRows : {A : Type 0} → (ℕ → List A) → List (Vec A Global) → Type 0
AreRows {A} f rows = (t : ℕ) (row : Vec A Global) → slice_get rows t ≡ Some row → row.items ≡ f t

-- x goes to the end of row t
abbrev pub Puts : {A : Type 0} → ℕ → A → List (Vec A Global) → List (Vec A Global) → Type 0
Puts {A} t x old new = (f : ℕ → List A) → AreRows f old → AreRows (λ u. if t == u then f u ++ x ∷ [] else f u) new

-- the onsets, the ranks, the ticks that are spent spinning and the wakeups, of each thread
pub record ArePartsOf (h : History) (onsets : List (Vec Onset Global)) (ranks : List (Vec Rank Global)) (spells : List (Vec Spell Global)) (wakeups : List (Vec Wakeup Global)) : Type 0 where
  pub onsets_are : AreRows (λ t. own_onsets t h.onsets.items) onsets
  pub ranks_are : AreRows (λ t. own_ranks t h.ranks.items) ranks
  pub spells_are : AreRows (λ t. spells_on (Thread t) h.happenings.items) spells
  pub wakeups_are : AreRows (λ t. own_wakeups t h.wakeups.items) wakeups
