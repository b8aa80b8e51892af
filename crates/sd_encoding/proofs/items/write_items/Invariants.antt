use Rattle.std.proofs.Common.{◌≡◌, ◌++◌, ◌∷◌, length, take}
use Rattle.std.specs.List.{All, flat_map}
use Rattle.sd_encoding.proofs.items.write_items.Given as goal

abbrev pub invariant-loop-item : goal.invariant-loop-item
invariant-loop-item g l = record {
  written : l.into ≡ l.fn.into ++ length l.items ∷ flat_map g.T.Packed.numbers_of (take l.item-index l.items);
  fits : All g.T.Packed.fits (take l.item-index l.items);
}
