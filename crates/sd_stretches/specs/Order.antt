-- In which order the stretches of all threads stand.
-- Source: this project's own.
use Rattle.std.specs.Prelude.{◌≡◌, ℕ, List, length}
use Rattle.std.specs.List.Sorted.{IsNonDecreasingBy}
use Rattle.sd_types.specs.declared.events.Entry.{Entry}
use Rattle.sd_types.specs.declared.works.Work.{Work}
use Rattle.sd_stretches.specs.declared.changes.Onset.{Onset}
use Rattle.sd_stretches.specs.Histories.{over, onsets_in}
use Rattle.sd_stretches.specs.Rows.{all_stretches, own_stretches, stretches}

-- among all stretches those of each thread are its own, and all stand in the order of the entries that began them
pub record StretchesStandInOrder : Type 0 where
  pub own : (xs : List Onset) (t entries end : ℕ) → own_stretches t (all_stretches xs entries end) ≡ stretches t xs entries end
  pub ordered : (w : Work) (es : List Entry) (end : ℕ) → IsNonDecreasingBy (λ x. x.first) (all_stretches (over onsets_in w es) (length es) end)
