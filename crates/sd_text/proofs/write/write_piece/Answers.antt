use Rattle.std.proofs.Common.{◌∙◌, arith, length-drop, length-take}
use Rattle.sd_text.proofs.PieceLemmas.{rest-one_line}
use Rattle.sd_text.proofs.StreamLemmas.{Appends-more}
use Rattle.sd_text.proofs.write.write_piece.Goals as goal

pub loop-at-preserved : goal.loop-at-preserved
loop-at-preserved g c = record {
  within = omega (arith, simp (length-take, length-drop) at c.in-Ok-write.ensures.bound);
  appended = Appends-more _ _ _ c.args.piece.now c.loop-at.at c.in-Ok-write.count c.loop-at.invariant.appended c.in-Ok-write.ensures.bytes;
  no_fault = c.in-Ok-write.ensures.no_fault ∙ c.loop-at.invariant.no_fault;
}

pub write-requires-in-loop-at : goal.write-requires-in-loop-at
write-requires-in-loop-at g c = rest-one_line c.args.piece.now c.loop-at.at c.requires c.loop-at-test.true
