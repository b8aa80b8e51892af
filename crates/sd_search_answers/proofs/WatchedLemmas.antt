-- What whoever watches is told, one call after another.
use Rattle.std.proofs.Common.{◌≡◌, ℕ, zero, suc, ◌+◌, ◌*◌, ◌-◌, ◌<◌, ◌≤◌, Bool, true, false, ◌||◌, length, refl, inl, inr, ◌⊎◌, arith}
use Rattle.std.specs.Prelude.{nat_le}
use Rattle.std.proofs.lemmas.Bool.Decides.{nat_tests}
use Rattle.sd_types.specs.declared.works.Work.{Work}
use Rattle.sd_search.specs.declared.graph.Graph.{Graph}
use Rattle.sd_search.specs.Graphs.{Gathers, IsDeep, packed, steps_of}
use Rattle.sd_search_answers.specs.Watched.{AreNoted, IsWatched, slice}

-- where nothing was told
pub unwatched : {W : Type 0} (Noted : W → W → ℕ → ℕ → Type 0) (w : Work) (x : W) → IsWatched Noted w x x
unwatched Noted w x = record { calls = zero; noted = refl }

pub watched : {W : Type 0} (Noted : W → W → ℕ → ℕ → Type 0) (w : Work) (n : ℕ) (before after : W) → AreNoted Noted w n before after → IsWatched Noted w before after
watched Noted w n before after noted = record { calls = n; noted = noted }

-- by one call more
pub noted_more : {W : Type 0} (Noted : W → W → ℕ → ℕ → Type 0) (w : Work) (n : ℕ) (before between after : W) (g : Graph) (depth : ℕ) → AreNoted Noted w n before between
    → Gathers w g → g.done ≡ suc n * slice → g.done < length (packed g) → IsDeep (steps_of g) (length (packed g) - 1) depth → Noted between after (length (packed g)) depth → AreNoted Noted w (suc n) before after
noted_more Noted w n before between after g depth so_far gathered done unfinished deep call = (
  between,
  so_far,
  record {
    states = length (packed g);
    depth = depth;
    report = record { graph = g; gathered = gathered; expanded = done; unfinished = unfinished; found = refl; deep = deep };
    call = call;
  },
)

-- ---- a slice that does not end the search

first_false : (a b : Bool) → (a || b) ≡ false → (a ≡ false) × (b ≡ false)
first_false true b is = cc
first_false false b is = (refl, is)

module _ (done many most so_far n : ℕ) (is : so_far ≡ n * slice) (ends : (done ≡ so_far + slice) ⊎ ((many ≤ done) ⊎ (most ≤ many))) (over : (nat_le many done || nat_le most many) ≡ false) where
  pub unfinished : done < many
  unfinished = let no = (first_false (nat_le many done) (nat_le most many) over).0 in grind (arith, nat_tests, no)

  pub sliced : done ≡ suc n * slice
  sliced = by ends
    where
      by : (done ≡ so_far + slice) ⊎ ((many ≤ done) ⊎ (most ≤ many)) → done ≡ suc n * slice
      by (inl more) = omega (arith, is, more)
      by (inr (inl all)) = let less = unfinished in omega (arith, all, less)
      by (inr (inr enough)) =
          let no = (first_false (nat_le many done) (nat_le most many) over).1 in
          let less : many < most = grind (arith, nat_tests, no) in
          omega (arith, enough, less)
