-- A search that left states found as many as it was allowed.
use Rattle.std.proofs.Common.{ℕ, ◌<◌, ◌≤◌, length, inl, inr, ◌⊎◌, arith}
use Rattle.sd_types.specs.declared.works.Work.{Work}
use Rattle.sd_search.specs.declared.graph.Graph.{Graph}
use Rattle.sd_search.specs.Graphs.{packed}
use Rattle.sd_search_answers.specs.Answered.{IsSearch}
use Rattle.sd_find.specs.Promises.{IsCutOff}

pub cut_off : (w : Work) (most : ℕ) (g : Graph) → IsSearch w most g → g.done < length (packed g) → IsCutOff most g
cut_off w most g search less = record { left = less; many = by search.ends }
  where
    by : (length (packed g) ≤ g.done) ⊎ (most ≤ length (packed g)) → most ≤ length (packed g)
    by (inl all) = absurd (omega (arith, less, all))
    by (inr many) = many
