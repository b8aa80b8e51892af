-- The initial state has the threads and processors of its workload.
use Rattle.std.proofs.Common.{◌≡◌, ℕ, suc, ◌+◌, List, [], ◌∷◌, length, refl, ap}
use Rattle.std.proofs.lemmas.List.FromFn.{length-map-range_with_len}
use Rattle.sd_types.specs.declared.works.ThreadDecl.{ThreadDecl}
use Rattle.sd_types.specs.declared.works.Work.{Work}
use Rattle.sd_state.specs.Opening.{first_threads}

pub length-first_threads : (w : Work) (t : ℕ) (ds : List ThreadDecl) → length (first_threads w t ds) ≡ length ds
length-first_threads w t [] = refl
length-first_threads w t (d ∷ ds) = ap suc (length-first_threads w (t + 1) ds)
