-- Where the threads of a dispatch queue stand, and which ones nap, by their numbers.
-- Source: this project's own.
use Rattle.std.specs.Prelude.{◌≡◌, ◌≢◌, ℕ, ◌*◌, ◌<◌, ◌≤◌, Bool, true, if◌then◌else◌, is_some, List, [], ◌∷◌, Option, None, Some, MatchOption, get_or, length, ⊤}
use Rattle.sd_boxq.specs.Order.{find_id}
use Rattle.sd_dispq.specs.Bitmap.{bit_of}
use Rattle.sd_record.specs.Records.{ThreadRecord}
use Rattle.sd_machine.specs.Threads.{is_ts}
use Rattle.sd_homes.specs.declared.ready_index.Found.{Found}
use Rattle.sd_homes.specs.declared.ready_index.Found.TheVariants.{At, Nowhere, Unknown}
use Rattle.sd_homes.specs.declared.ready_index.ReadyIndex.{ReadyIndex}
use Rattle.sd_homes.specs.Standing.{id_of, rank_of}

-- the priority that is noted under a number
abbrev pub priority_at : List (Option ℕ) → ℕ → Option ℕ
priority_at ps i = get_or ps i None

-- a bit that is set where this is so
abbrev pub bit_if : Bool → ℕ
bit_if b = if b then 1 else 0

-- the bit of a thread, which is set where it ages
abbrev pub age_bit : ThreadRecord → ℕ
age_bit r = bit_if (is_ts r.body.class)

-- each thread is noted under its number, with its priority in ps and its bit in ws, and no two have one number
abbrev pub AreNoted : List (Option ℕ) → List ℕ → List ThreadRecord → Type 0
AreNoted ps ws [] = Unit {0}
AreNoted ps ws (r ∷ rs) = (priority_at ps (id_of r) ≡ Some (rank_of r)) × (bit_of ws (id_of r) ≡ age_bit r) × (find_id id_of (id_of r) rs ≡ None) × AreNoted ps ws rs

-- each bit that is set stands under the number of one of these threads
abbrev pub AreNumbersOf : List ℕ → List ThreadRecord → Type 0
AreNumbersOf ws rs = (i : ℕ) → bit_of ws i ≡ 1 → is_some (find_id id_of i rs) ≡ true

-- what is noted is of these threads
pub record IsIndexOf (ps : List (Option ℕ)) (ws : List ℕ) (rs : List ThreadRecord) : Type 0 where
  pub fit : length ps ≤ 64 * length ws
  pub noted : AreNoted ps ws rs
  pub stand : (i p : ℕ) → priority_at ps i ≡ Some p → is_some (find_id id_of i rs) ≡ true
  pub age : AreNumbersOf ws rs

-- the same of an index, as long as it is exact
abbrev pub Indexes : ReadyIndex → List ThreadRecord → Type 0
Indexes k rs = k.is_exact ≡ true → IsIndexOf k.priorities.items k.ageing rs

-- what an index tells of the first thread with a number
abbrev pub Tells : Found → Option ThreadRecord → Type 0
Tells (At p) o = MatchOption o ⊥ (λ r. rank_of r ≡ p)
Tells Nowhere o = o ≡ None
Tells Unknown o = ⊤

-- the notes qs and vs are the notes ps and ws but for the number i
pub record IsSameBut (i : ℕ) (ps qs : List (Option ℕ)) (ws vs : List ℕ) : Type 0 where
  pub places : (j : ℕ) → j ≢ i → priority_at qs j ≡ priority_at ps j
  pub bits : (j : ℕ) → j ≢ i → bit_of vs j ≡ bit_of ws j
