-- What the holds of a run say of its states.
-- Source: this project's own.
use Rattle.std.specs.Prelude.{◌≡◌, ◌↔◌, ◌⊎◌, ℕ, true, ◌<◌, ◌≤◌, ⊤, List, [], ◌∷◌, length, Option, Some, None}
use Rattle.sd_types.specs.declared.numbers.LockId.{LockId}
use Rattle.sd_types.specs.declared.numbers.ThreadId.{ThreadId}
use Rattle.sd_types.specs.declared.events.Entry.{Entry}
use Rattle.sd_types.specs.declared.works.Work.{Work}
use Rattle.sd_types.specs.Scripts.{is_held}
use Rattle.sd_state.specs.States.{thread_of}
use Rattle.sd_machine.specs.Runs.{IsRun, state_at}
use Rattle.sd_stretches.specs.Histories.{over, happenings_in}
use Rattle.sd_holds.specs.declared.holdings.Hold.{Hold}
use Rattle.sd_holds.specs.Holds.{holds}

-- up to the state that the entry before this one made; where there is none, up to the end of the run
abbrev pub UpTo : ℕ → Option ℕ → Type 0
UpTo j None = ⊤
UpTo j (Some given) = j ≤ given

-- thread t holds lock l in the state that j entries made, by this hold
abbrev pub IsHeldBy : ThreadId → LockId → ℕ → Hold → Type 0
IsHeldBy t l j x = (x.thread ≡ t) × (x.lock ≡ l) × (x.taken < j) × UpTo j x.given

-- by one of these
abbrev pub AnyHolds : ThreadId → LockId → ℕ → List Hold → Type 0
AnyHolds t l j [] = ⊥
AnyHolds t l j (x ∷ xs) = IsHeldBy t l j x ⊎ AnyHolds t l j xs

-- in each state of a run one of the holds is thread t's of lock l exactly where t is a holder of l
abbrev pub HoldsAreExact : Type 0
HoldsAreExact =
    (w : Work) (es : List Entry) (t : ThreadId) (l : LockId) (end j : ℕ) → IsRun w es → j ≤ length es
    → AnyHolds t l j (holds end (over happenings_in w es)) ↔ (is_held l (thread_of (state_at w es j) t.0).body.held.items ≡ true)
