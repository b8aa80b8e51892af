-- What is said by the states of a search is said of that search.
use Rattle.std.proofs.Common.{ℕ, Result, Ok, Err, IfOk}

pub said : {T E : Type 0} (IsSearched : ℕ → Type 0) (IsSaid : ℕ → T → Type 0) (told : Result T E) (most : ℕ) → IfOk told (λ t. (m : ℕ) → IsSearched m → IsSaid m t)
    → IsSearched most → IfOk told (IsSaid most)
said IsSearched IsSaid (Ok t) most is done = is most done
said IsSearched IsSaid (Err e) most is done = tt
