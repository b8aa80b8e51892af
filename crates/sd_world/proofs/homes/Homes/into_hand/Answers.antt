use Rattle.std.proofs.Common.{◌≤◌, length, arith}
use Rattle.sd_world.proofs.NumberLemmas.{placed_apart}
use Rattle.sd_world.proofs.homes.Homes.into_hand.Goals as goal

pub of-requires : goal.of-requires
of-requires c =
    let placed = c.self.invariant in
    let many = placed.many in
    record {
      slots = record {
        apart = placed_apart (record { cpus = c.self.inside.cpus; sets = c.self.inside.sets }) c.self.inside.slots.items placed;
        four = (let z : 4 ≤ length c.self.inside.slots.items = omega (arith, many) in z);
      };
    }
