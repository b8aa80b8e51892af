use Rattle.std.proofs.Common.{length}
use Rattle.sd_encoding.proofs.ItemLemmas.{written_more, fits_more}
use Rattle.sd_encoding.proofs.items.write_items.Goals as goal

pub loop-item-preserved : goal.loop-item-preserved
loop-item-preserved g c = record {
  written = written_more g.T.Packed.numbers_of c.args.into.now c.loop-item.into c.write.new.into (length c.args.items.now) c.args.items.now c.loop-item.item-index c.item-item.result c.loop-item-test.true c.item-item.is c.loop-item.invariant.written c.in_ok-write.ensures.written;
  fits = fits_more g.T.Packed.fits c.args.items.now c.loop-item.item-index c.item-item.result c.loop-item-test.true c.item-item.is c.loop-item.invariant.fits c.in_ok-write.ensures.fits;
}
