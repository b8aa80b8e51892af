use Rattle.std.proofs.Common.{◌≡◌, ◌<◌, length, sym, subst, arith}
use Rattle.sd_world.proofs.ListLemmas.{all_made, one_more}
use Rattle.sd_world.proofs.parts.counts_of.Goals as goal

pub loop-k-init : goal.loop-k-init
loop-k-init c s told many = c.new-counts.ensures.items

pub tokens_of-requires : goal.tokens_of-requires
tokens_of-requires c = c.requires

pub loop-k-preserved : goal.loop-k-preserved
loop-k-preserved c s told many =
    let inside : c.loop-k.k < length s.counts = subst (λ n. c.loop-k.k < n) (sym many) c.loop-k-test.true in
    one_more s.counts c.loop-k.counts.items c.push.new.self.items c.loop-k.k c.tokens_of.result 0 inside (c.loop-k.invariant s told many) (c.tokens_of.ensures s told) c.in_ok-push.ensures.items

pub returns : goal.returns
returns c s told many =
    let high = c.loop-k-test.false in
    let end = c.loop-k.auto.k-end in
    let last : c.loop-k.k ≡ length s.counts = omega (arith, many) in
    all_made s.counts c.loop-k.counts.items c.loop-k.k last (c.loop-k.invariant s told many)
