use Rattle.std.proofs.Common.{◌≡◌, ◌+◌, ◌≤◌, length, sym, ap, ◌∙◌, arith, rules}
use Rattle.std.specs.Fmt.{decimal}
use Rattle.std.proofs.lemmas.Fmt.{length-decimal-le}
use Rattle.sd_entries.proofs.CountingLemmas.{counts_up, digits_before}
use Rattle.sd_entries.proofs.counting.put_entry_number.Goals as goal

pub returns-then-line-lt57-clause-begin : goal.returns-then-line-lt57-clause-begin
returns-then-line-lt57-clause-begin c =
    let above = c.if-n-gt0.true in
    let one = c.if-n-before.true in
    let e : c.args.before + 1 ≡ c.args.n = omega (arith, above, one) in
    let long : 20 ≤ length c.args.line.now = search rules in
    let fits = c.ranges.n.fits in
    let up = counts_up c.args.before c.args.from c.args.line.now c.raise_last_digit.new.line (omega (arith, e, fits)) c.requires.begin c.requires.stand long c.if-line-lt57.true c.raise_last_digit.ensures in
    ap (λ k. c.args.from + length (decimal k)) (sym e) ∙ up.begin

pub returns-then-line-lt57-clause-stand : goal.returns-then-line-lt57-clause-stand
returns-then-line-lt57-clause-stand c =
    let above = c.if-n-gt0.true in
    let one = c.if-n-before.true in
    let e : c.args.before + 1 ≡ c.args.n = omega (arith, above, one) in
    let long : 20 ≤ length c.args.line.now = search rules in
    let fits = c.ranges.n.fits in
    let up = counts_up c.args.before c.args.from c.args.line.now c.raise_last_digit.new.line (omega (arith, e, fits)) c.requires.begin c.requires.stand long c.if-line-lt57.true c.raise_last_digit.ensures in
    up.stand ∙ ap (λ k. decimal k) e

pub write_digits-requires : goal.write_digits-requires
write_digits-requires c = search (rules, length-decimal-le 20)

pub returns-clause-stand : goal.returns-clause-stand
returns-clause-stand c =
    digits_before c.write_digits.new.buf (decimal c.args.n) _ c.write_digits.result 20 c.write_digits.ensures.start c.write_digits.ensures.written
