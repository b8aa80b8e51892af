use Rattle.sd_invariants.proofs.laws.one_next.Goals as goal

pub returns : goal.returns
returns c = λ w s d e number cpu hints step other. (cc, cc)
