-- The holds of a part of a run: one entry more.
use Rattle.std.proofs.Common.{◌≡◌, ℕ, ◌≤◌, false, List, [], ◌∷◌, ◌++◌, Option, Some, None, refl, ap, ◌∙◌, arith}
use Rattle.std.specs.Prelude.{filter}
use Rattle.std.proofs.lemmas.Bool.Decides.{nat_tests}
use Rattle.std.proofs.lemmas.List.Elements.{filter-append}
use Rattle.sd_types.specs.declared.numbers.LockId.{LockId}
use Rattle.sd_types.specs.declared.numbers.ThreadId.{ThreadId}
use Rattle.sd_stretches.specs.declared.changes.Happening.{Happening}
use Rattle.sd_holds.specs.declared.holdings.Hold.{Hold}
use Rattle.sd_holds.specs.Bands.{holds_between, lies_between}
use Rattle.sd_holds.specs.Holds.{end_of, hold_if, hold_to, holds, taken}
use Rattle.sd_holds.proofs.ListLemmas.{holds_cons, holds_none}

pub between_none : (end from to : ℕ) → holds_between end from to [] ≡ []
unfolding holds_between
between_none end from to = ap (filter (lies_between from to)) (holds_none end)

pub between_cons : (end from to : ℕ) (x : Happening) (xs : List Happening)
    → holds_between end from to (x ∷ xs) ≡ filter (lies_between from to) (hold_if end x xs (taken x.event)) ++ holds_between end from to xs
unfolding holds_between
between_cons end from to x xs =
    ap (filter (lies_between from to)) (holds_cons end x xs) ∙ filter-append (lies_between from to) (hold_if end x xs (taken x.event)) (holds end xs)

-- a hold that begins behind the ticks
late : (from to : ℕ) (x : Hold) → to ≤ x.from → lies_between from to x ≡ false
late from to x h = grind (arith, nat_tests)

none_late : (from to : ℕ) (x : Hold) → lies_between from to x ≡ false → filter (lies_between from to) (x ∷ []) ≡ []
none_late from to x h = rw h refl

late_hold : (end from to : ℕ) (t : ThreadId) (l : LockId) (x : Happening) (given : Option Happening) → to ≤ x.tick
    → filter (lies_between from to) (hold_to t l end x given ∷ []) ≡ []
late_hold end from to t l x None h = none_late from to (hold_to t l end x None) (late from to (hold_to t l end x None) h)
late_hold end from to t l x (Some y) h = none_late from to (hold_to t l end x (Some y)) (late from to (hold_to t l end x (Some y)) h)

pub late_if : (end from to : ℕ) (x : Happening) (rest : List Happening) (h : Option (ThreadId × LockId)) → to ≤ x.tick
    → filter (lies_between from to) (hold_if end x rest h) ≡ []
late_if end from to x rest None behind = refl
late_if end from to x rest (Some h) behind = late_hold end from to h.0 h.1 x (end_of h.0 h.1 rest) behind
