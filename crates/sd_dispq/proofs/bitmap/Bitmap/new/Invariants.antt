use Rattle.std.proofs.Common.{◌≡◌, replicate}
use Rattle.sd_dispq.proofs.bitmap.Bitmap.new.Given as goal

abbrev pub invariant-loop : goal.invariant-loop
invariant-loop l = (l.words.items ≡ replicate l.counter 0) × (l.words.cap ≡ l.initial.words.cap)
