use Rattle.std.proofs.Common.{◌<◌, ◌%◌, ◌∙◌, length, subst, sym, arith}
use Rattle.sd_dispq.proofs.Bits.{masked_kept, masked_cleared, read_bit}
use Rattle.sd_dispq.proofs.bitmap.Bitmap.word_from.Goals as goal

pub returns-then-number-from-clause-kept : goal.returns-then-number-from-clause-kept
returns-then-number-from-clause-kept c i h m =
    let e = c.if-number-from.true in
    let w = c.index-word.result.now in
    masked_kept w (c.args.from % 64) i (omega arith) (omega arith) h
    ∙ read_bit c.self.inside.words.items c.args.self.now c.args.number w i c.self.view_is (subst (λ v. c.args.number < length v) (sym c.self.view_is) c.requires.within) c.index-word.ensures h

pub returns-then-number-from-clause-cleared : goal.returns-then-number-from-clause-cleared
returns-then-number-from-clause-cleared c i h m =
    let e = c.if-number-from.true in
    masked_cleared c.index-word.result.now (c.args.from % 64) i (omega arith) (omega arith)

pub returns-else-number-from-clause-kept : goal.returns-else-number-from-clause-kept
returns-else-number-from-clause-kept c i h m =
    read_bit c.self.inside.words.items c.args.self.now c.args.number c.index-word.result.now i c.self.view_is (subst (λ v. c.args.number < length v) (sym c.self.view_is) c.requires.within) c.index-word.ensures h
