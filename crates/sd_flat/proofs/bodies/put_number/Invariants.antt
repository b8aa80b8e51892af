use Rattle.std.proofs.Common.{◌≡◌, ◌++◌, take, drop}
use Rattle.sd_types.specs.Willed.{with_number, number_for}
use Rattle.sd_flat.proofs.bodies.put_number.Given as goal

abbrev pub invariant-loop-index : goal.invariant-loop-index
invariant-loop-index l =
    (with_number l.l l.n l.willed.items ≡ take l.index l.willed.items ++ with_number l.l l.n (drop l.index l.willed.items))
    × (number_for l.l l.willed.items ≡ number_for l.l (drop l.index l.willed.items)) × (l.willed.items ≡ l.initial.willed.items)
