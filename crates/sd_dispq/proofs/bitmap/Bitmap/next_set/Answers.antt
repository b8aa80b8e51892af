use Rattle.std.proofs.Common.{◌<◌, ◌^◌, length, subst, arith}
use Rattle.sd_dispq.proofs.Bits.{IsFrom, next_set}
use Rattle.sd_dispq.proofs.bitmap.Bitmap.next_set.Goals as goal

pub returns-then-word-ne0-clause-next : goal.returns-then-word-ne0-clause-next
returns-then-word-ne0-clause-next c =
    let fits : c.word_from-word.result < 2 ^ 64 = omega arith in
    let from : IsFrom c.args.self.now c.args.from c.loop-number.number c.word_from-word.result = record { kept = c.word_from-word.ensures.kept; cleared = c.word_from-word.ensures.cleared } in
    let end = c.len-number-end.ensures in
    let below = c.loop-number-test.true in
    let within : c.loop-number.number < length c.args.self.now = subst (λ v. c.loop-number.number < length v) c.self.view_is (omega arith) in
    next_set c.args.self.now c.args.from c.loop-number.number c.word_from-word.result within from c.loop-number.invariant c.if-word-ne0.true fits
