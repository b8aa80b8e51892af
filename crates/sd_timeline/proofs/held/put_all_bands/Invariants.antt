use Rattle.std.proofs.Common.{◌≡◌, ◌++◌, take}
use Rattle.std.specs.List.{flat_map}
use Rattle.sd_timeline.specs.Held.{band_text}
use Rattle.sd_timeline.proofs.held.put_all_bands.Given as goal

abbrev pub invariant-loop-band : goal.invariant-loop-band
invariant-loop-band l = l.out.items ≡ l.initial.out.items ++ flat_map (band_text l.work l.layout l.row) (take l.band-index l.own)
