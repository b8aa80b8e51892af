-- What the stretches of a thread say of the states of a run: they follow one another from the first state to the last, the
-- thread does in each state of a stretch what the stretch says, and neighbours differ, so none can be longer.
-- Source: this project's own.
use Rattle.std.specs.Prelude.{◌≡◌, ◌≢◌, ◌↔◌, ◌⊎◌, ℕ, ◌+◌, ◌<◌, ◌≤◌, List, [], ◌∷◌, length}
use Rattle.sd_types.specs.declared.numbers.CpuId.{CpuId}
use Rattle.sd_types.specs.declared.events.Entry.{Entry}
use Rattle.sd_types.specs.declared.works.Work.{Work}
use Rattle.sd_state.specs.declared.states.Place.TheVariants as place
use Rattle.sd_state.specs.States.{thread_of}
use Rattle.sd_machine.specs.Runs.{state_at}
use Rattle.sd_stretches.specs.declared.sights.Doing.{Doing}
use Rattle.sd_stretches.specs.declared.rows.Stretch.{Stretch}
use Rattle.sd_stretches.specs.Sights.{doing_of}
use Rattle.sd_stretches.specs.Histories.{over, onsets_in}
use Rattle.sd_stretches.specs.Rows.{own_stretches, slices, stretches}

-- what thread t does in the state that k entries made
abbrev pub doing_at : Work → List Entry → ℕ → ℕ → Doing
doing_at w es t k = doing_of (thread_of (state_at w es k) t).place

-- from state k to state n: what is done in state j is f j
abbrev pub AreExact : (ℕ → Doing) → ℕ → ℕ → List Stretch → Type 0
AreExact f n k [] = ⊥
AreExact f n k (x ∷ []) = (x.first ≡ k) × (x.last ≡ n) × (k ≤ n) × ((j : ℕ) → k ≤ j → j ≤ n → f j ≡ x.doing)
AreExact f n k (x ∷ y ∷ ys) =
    (x.first ≡ k) × (k ≤ x.last) × ((j : ℕ) → k ≤ j → j ≤ x.last → f j ≡ x.doing) × (x.doing ≢ y.doing) × AreExact f n (x.last + 1) (y ∷ ys)

abbrev pub StretchesAreExact : Type 0
StretchesAreExact =
    (w : Work) (es : List Entry) (t end : ℕ) → t < length w.threads
    → AreExact (doing_at w es t) (length es) 0 (stretches t (over onsets_in w es) (length es) end)

-- one of the stretches covers state j
abbrev pub Covers : List Stretch → ℕ → Type 0
Covers [] j = ⊥
Covers (x ∷ xs) j = ((x.first ≤ j) × (j ≤ x.last)) ⊎ Covers xs j

-- in each state of the run the slices of processor c that are thread t's cover it exactly where t runs on c
abbrev pub SlicesAreExact : Type 0
SlicesAreExact =
    (w : Work) (es : List Entry) (t end j : ℕ) (c : CpuId) → t < length w.threads → j ≤ length es
    → Covers (own_stretches t (slices c.0 (over onsets_in w es) (length es) end)) j ↔ ((thread_of (state_at w es j) t).place ≡ place.Running c)
