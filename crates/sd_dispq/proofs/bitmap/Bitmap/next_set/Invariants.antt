use Rattle.sd_dispq.proofs.Bits.{AreZero}
use Rattle.sd_dispq.proofs.bitmap.Bitmap.next_set.Given as goal

abbrev pub invariant-loop-number : goal.invariant-loop-number
invariant-loop-number l = AreZero l.self l.from l.number
