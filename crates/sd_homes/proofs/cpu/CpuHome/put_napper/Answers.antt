use Rattle.std.proofs.Common.{◌≡◌, ◌+◌, length, ap, sym, ◌∙◌, subst, arith}
use Rattle.sd_boxq.specs.Order.{precedes_keyed}
use Rattle.sd_homes.specs.ReadyIndexes.{AreNumbersOf}
use Rattle.sd_homes.specs.Standing.{id_of, key_in}
use Rattle.sd_homes.proofs.Lengths.{length_inserted}
use Rattle.sd_homes.proofs.NapLemmas.{nap_put}
use Rattle.sd_homes.proofs.cpu.CpuHome.put_napper.Goals as goal

pub invariant_of-self : goal.invariant_of-self
invariant_of-self c =
    let x = c.into_parts-node.result.0 in
    let rs = c.self.inside.nappers in
    let count : length c.insert_keyed.new.self ≡ length rs + 1 = ap length c.insert_keyed.ensures ∙ length_inserted (precedes_keyed key_in id_of x) x rs in
    let rack = c.self.invariant.0 in
    let put = c.put.ensures in
    let own : c.id.result.0 ≡ id_of x = ap (λ t. t.0) c.id.ensures ∙ ap id_of (sym c.into_parts-node.ensures.node) in
    let bits = c.set.ensures in (
      omega arith,
      subst (AreNumbersOf c.set.new.self) (sym c.insert_keyed.ensures) (nap_put x c.id.result.0 c.self.inside.naps c.set.new.self rs own bits.bits bits.beyond c.self.invariant.1),
    )
