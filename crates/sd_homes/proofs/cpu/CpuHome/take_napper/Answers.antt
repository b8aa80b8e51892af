use Rattle.std.proofs.Common.{◌≡◌, ◌==◌, length, ap, sym, ◌∙◌, subst, arith}
use Rattle.sd_boxq.specs.Order.{drop_id, find_id}
use Rattle.sd_homes.specs.Homes.{how_many}
use Rattle.sd_homes.specs.ReadyIndexes.{AreNumbersOf}
use Rattle.sd_homes.specs.Standing.{id_of}
use Rattle.sd_homes.proofs.Lengths.{length_dropped}
use Rattle.sd_homes.proofs.NapLemmas.{nap_taken}
use Rattle.sd_homes.proofs.cpu.CpuHome.take_napper.Goals as goal

pub invariant_of-self : goal.invariant_of-self
invariant_of-self c =
    let t = c.args.t.0 in
    let rs = c.self.inside.nappers in
    let same = c.from.ensures in
    let rest : c.take_first.new.self ≡ drop_id id_of t rs = c.take_first.ensures.rest ∙ ap (λ u. drop_id id_of u rs) same in
    let count = ap length rest in
    let dropped = length_dropped (λ r. id_of r == t) rs in
    let none = ap how_many (c.in-None.ensures.taken ∙ ap (λ u. find_id id_of u rs) same) in
    let rack = c.self.invariant.0 in
    (omega arith, subst (AreNumbersOf c.clear.new.self) (sym rest) (nap_taken t c.self.inside.naps c.clear.new.self rs c.clear.ensures.bits c.self.invariant.1))

pub invariant_of-self-in-Some : goal.invariant_of-self-in-Some
invariant_of-self-in-Some c =
    let t = c.args.t.0 in
    let rs = c.self.inside.nappers in
    let same = c.from.ensures in
    let rest : c.take_first.new.self ≡ drop_id id_of t rs = c.take_first.ensures.rest ∙ ap (λ u. drop_id id_of u rs) same in
    let count = ap length rest in
    let dropped = length_dropped (λ r. id_of r == t) rs in
    let some = ap how_many (c.in-Some.ensures.taken ∙ ap (λ u. find_id id_of u rs) same) in
    let rack = c.self.invariant.0 in
    let less = c.equipped.ensures.rack in
    (omega arith, subst (AreNumbersOf c.clear.new.self) (sym rest) (nap_taken t c.self.inside.naps c.clear.new.self rs c.clear.ensures.bits c.self.invariant.1))
