-- The least number that ages, as far as a search has come.
use Rattle.std.proofs.Common.{◌≡◌, ℕ, ◌<◌, ◌≤◌, Bool, true, false, if◌then◌else◌, List, [], ◌∷◌, Option, Some, None, refl, ap, ◌∙◌, arith}
use Rattle.std.proofs.lemmas.Bool.Decides.{nat_tests}
use Rattle.sd_record.specs.Records.{ThreadRecord}
use Rattle.sd_homes.specs.Standing.{id_of, ages, earlier, least_to_age}

from_number : (u : ℕ) (r : ThreadRecord) → ages u r ≡ true → u ≤ id_of r
from_number u r e = grind (arith, nat_tests)

pub from_step : (b : Bool) (u i : ℕ) (o : Option ℕ) → (b ≡ true → u ≤ i) → earlier u o ≡ u → earlier u (if b then Some (earlier i o) else o) ≡ u
from_step false u i o from e = e
from_step true u i None from e = let h = from refl in omega arith
from_step true u i (Some k) from e = let h = from refl in omega arith

-- none is less than the number from which they are sought
pub from_least : (u : ℕ) (rs : List ThreadRecord) → earlier u (least_to_age u rs) ≡ u
from_least u [] = refl
from_least u (r ∷ rs) = from_step (ages u r) u (id_of r) (least_to_age u rs) (from_number u r) (from_least u rs)

least_or_more : (b : Bool) (m i : ℕ) (o : Option ℕ) → m ≤ i → earlier m (if b then Some (earlier i o) else o) ≡ earlier m o
least_or_more false m i o h = refl
least_or_more true m i None h = omega arith
least_or_more true m i (Some k) h = omega arith

-- a number that is not less changes nothing
pub least_stays : (u m : ℕ) (r : ThreadRecord) (rs : List ThreadRecord) → m ≤ id_of r → earlier m (least_to_age u (r ∷ rs)) ≡ earlier m (least_to_age u rs)
least_stays u m r rs h = least_or_more (ages u r) m (id_of r) (least_to_age u rs) h

lesser_comes : (m i : ℕ) (o : Option ℕ) → i < m → earlier m (Some (earlier i o)) ≡ earlier i o
lesser_comes m i None h = omega arith
lesser_comes m i (Some k) h = omega arith

-- a lesser number takes the place of the least so far
pub least_comes : (u m : ℕ) (r : ThreadRecord) (rs : List ThreadRecord) → ages u r ≡ true → id_of r < m → earlier m (least_to_age u (r ∷ rs)) ≡ earlier (id_of r) (least_to_age u rs)
least_comes u m r rs e h = ap (λ b. earlier m (if b then Some (earlier (id_of r) (least_to_age u rs)) else least_to_age u rs)) e ∙ lesser_comes m (id_of r) (least_to_age u rs) h

-- the number from which they are sought is the least
pub least_ends : (u m : ℕ) (r : ThreadRecord) (rs : List ThreadRecord) → ages u r ≡ true → id_of r ≡ u → id_of r < m → earlier m (least_to_age u (r ∷ rs)) ≡ u
least_ends u m r rs e same h = least_comes u m r rs e h ∙ ap (λ n. earlier n (least_to_age u rs)) same ∙ from_least u rs
