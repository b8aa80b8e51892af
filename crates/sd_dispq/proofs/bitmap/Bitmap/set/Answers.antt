use Rattle.sd_dispq.proofs.Bits.{bit_set}
use Rattle.std.proofs.Common.{arith}
use Rattle.sd_dispq.proofs.bitmap.Bitmap.set.Goals as goal

pub returns-then-number-len-clause-bits : goal.returns-then-number-len-clause-bits
returns-then-number-len-clause-bits c = λ _.
    let l = c.len.ensures in
    let n = c.if-number-len.true in
    bit_set c.self.inside.words.items c.args.self.now c.args.index c.index_mut.result.now c.self.view_is (omega arith) c.index_mut.ensures.value
