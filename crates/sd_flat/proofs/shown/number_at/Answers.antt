use Rattle.std.proofs.Common.{List, ℕ, ◌<◌, length, get_or, ap, ◌∙◌, arith}
use Rattle.sd_flat.proofs.PassLemmas.{length-pass, pass_shows}
use Rattle.sd_flat.proofs.shown.number_at.Goals as goal

pub returns-then-index-numbers : goal.returns-then-index-numbers
returns-then-index-numbers c =
    let long = ap (λ (xs : List ℕ). length xs) c.requires.numbers in
    let all = length-pass c.args.which c.args.s.now.threads in
    let inside : c.args.d.0 < 64 = omega arith in
    ap (λ (xs : List ℕ). get_or xs c.args.d.0 0) c.requires.numbers ∙ pass_shows c.args.s.now c.args.which c.args.d inside
