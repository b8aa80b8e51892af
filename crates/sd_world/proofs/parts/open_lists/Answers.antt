use Rattle.std.proofs.Common.{◌≡◌, ◌<◌, length, sym, subst, arith}
use Rattle.sd_machine.specs.Threads.{no_cpus}
use Rattle.sd_world.proofs.ListLemmas.{all_made, one_more}
use Rattle.sd_world.proofs.parts.open_lists.Goals as goal

pub loop-p-init : goal.loop-p-init
loop-p-init c s told many = c.new-lists.ensures.items

pub open_of-requires : goal.open_of-requires
open_of-requires c = let (s, told, many) = c.requires in (s, told, subst (λ n. c.loop-p.p < n) (sym many) c.loop-p-test.true)

pub loop-p-preserved : goal.loop-p-preserved
loop-p-preserved c s told many =
    let inside : c.loop-p.p < length s.open_cpus = subst (λ n. c.loop-p.p < n) (sym many) c.loop-p-test.true in
    one_more s.open_cpus c.loop-p.lists.items c.push.new.self.items c.loop-p.p c.open_of.result no_cpus inside (c.loop-p.invariant s told many) (λ i. record { items = c.open_of.ensures s told i }) c.in_ok-push.ensures.items

pub returns : goal.returns
returns c s told many =
    let high = c.loop-p-test.false in
    let end = c.loop-p.auto.p-end in
    let last : c.loop-p.p ≡ length s.open_cpus = omega (arith, many) in
    all_made s.open_cpus c.loop-p.lists.items c.loop-p.p last (c.loop-p.invariant s told many)
