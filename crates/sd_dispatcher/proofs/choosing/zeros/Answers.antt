use Rattle.std.proofs.Common.{List, ℕ, length, take, ap, ◌∙◌}
use Rattle.std.proofs.lemmas.List.{take-replicate}
use Rattle.sd_dispatcher.proofs.choosing.zeros.Goals as goal

pub returns : goal.returns
returns c =
    ap (λ (xs : List ℕ). take (length c.args.cpus.now) xs) c.requires.zeros
    ∙ take-replicate {X = ℕ} (length c.args.cpus.now) 64 0 c.requires.fits
