use Rattle.std.proofs.Common.{◌++◌, List, ℕ, take, sym, ap, ◌∙◌, arith}
use Rattle.sd_entries.proofs.TextLemmas.{last_alone, last_behind}
use Rattle.sd_entries.proofs.line.put_small.Goals as goal

pub returns-then-n-lt10-clause-text : goal.returns-then-n-lt10-clause-text
returns-then-n-lt10-clause-text c =
    c.put_last_digit.ensures.text ∙ ap (λ (ds : List ℕ). take c.args.from c.args.line.now ++ ds) (sym (last_alone c.args.n c.if-n-lt10.true))

pub returns-clause-text : goal.returns-clause-text
returns-clause-text c =
    let lo = c.if-n-lt100.false in
    let hi = c.ranges.n.fits in
    c.put_last_digit-2.ensures.text
    ∙ last_behind (take c.args.from c.args.line.now) _ c.args.n (omega (arith, lo)) (omega (arith, hi)) c.put_pair-tens.ensures.text
