use Rattle.std.proofs.Common.{◌≡◌, ℕ, suc, zero, [], replicate, length, refl, sym, ap, ◌∙◌, subst}
use Rattle.sd_dispq.specs.Levels.{all_of, IsLevelled}
use Rattle.sd_dispq.specs.Ranks.{greatest_rank}
use Rattle.sd_dispq.proofs.queue.DispQueue.new.Goals as goal

levelled : {X : Type 0} (rank : X → ℕ) (n : ℕ) → IsLevelled rank (replicate n [])
levelled rank zero = tt
levelled rank (suc n) = (tt, levelled rank n)

empty : {X : Type 0} (n : ℕ) → all_of {X = X} (replicate n []) ≡ []
empty zero = refl
empty (suc n) = empty n

pub invariant_of-result : goal.invariant_of-result
invariant_of-result g c =
    let e = c.in_ok-new.ensures in
    (ap length e, subst (IsLevelled g.T.Ranked.rank) (sym e) (levelled g.T.Ranked.rank 160), sym (ap (λ ls. greatest_rank g.T.Ranked.rank (all_of ls)) e ∙ ap (greatest_rank g.T.Ranked.rank) (empty 160)))
