use Rattle.std.proofs.Common.{◌≡◌, ℕ, ◌++◌, ◌∙◌, replicate, sym, ap, append-nil, arith}
use Rattle.sd_shared_table.proofs.WordLemmas.{zeros_next}
use Rattle.sd_shared_table.proofs.words.push_zeros.Goals as goal

pub loop-init : goal.loop-init
loop-init c = sym (append-nil c.args.words.now.items)

pub loop-preserved : goal.loop-preserved
loop-preserved c = zeros_next c.args.words.now.items c.loop.words.items c.push.new.self.items c.loop.counter 0 c.loop.invariant c.in_ok-push.ensures.items

pub returns : goal.returns
returns c =
    let high = c.loop-test.false in
    let end = c.loop.auto.counter-end in
    c.loop.invariant ∙ ap (λ n. c.args.words.now.items ++ replicate {A = ℕ} n 0) (let e : c.loop.counter ≡ c.args.more = omega (arith, high, end) in e)
