-- A loop from the end of the entries: one entry more.
use Rattle.std.proofs.Common.{◌≡◌, ℕ, ◌-◌, ◌<◌, ◌≤◌, List, length, drop, get_or, ap, sym}
use Rattle.std.specs.Prelude.{max}
use Rattle.std.proofs.Math.Seq.{drop-length}
use Rattle.sd_stretches.specs.declared.changes.Happening.{Happening}
use Rattle.sd_holds.proofs.ListLemmas.{at_before}
use Rattle.sd_layout.specs.Frames.{act_tick, last_act}

pub acts_none : (xs : List Happening) → 0 ≡ last_act (drop (length xs) xs)
unfolding last_act
acts_none xs = sym (ap last_act (drop-length xs))

pub acts_more : (xs : List Happening) (i : ℕ) (d : Happening) → 0 < i → i ≤ length xs
    → last_act (drop (i - 1) xs) ≡ max (act_tick (get_or xs (i - 1) d) (get_or xs (i - 1) d).event) (last_act (drop i xs))
unfolding last_act
acts_more xs i d some within = at_before last_act xs i d some within
