use Rattle.std.proofs.Common.{◌≡◌, ℕ, ◌+◌, ◌-◌, ◌<◌, List, [], ◌∷◌, ◌++◌, length, Some, option_map, sym, ap, ◌∙◌, arith}
use Rattle.sd_machine.specs.Cycles.{lap}
use Rattle.sd_machine.specs.LockGraph.{graph}
use Rattle.sd_accounts.proofs.LapSteps.{lap_ends, lap_back, lap_less, lap_on, lap_out}
use Rattle.sd_accounts.proofs.laps.lap.Goals as goal

pub returns-in_default : goal.returns-in_default
returns-in_default c =
    lap_ends (graph c.args.s.now) c.args.first c.loop-i.threads.items (length c.args.s.now.threads - c.loop-i._i) c.loop-i.t
    (lap (graph c.args.s.now) c.args.first (length c.args.s.now.threads) c.args.first) c.loop-i.invariant
    (omega (arith, ap length c.items-i-end.ensures, c.loop-i-test.true)) (sym c.in_default.ensures)

pub returns-then-u-first : goal.returns-then-u-first
returns-then-u-first c =
    ap Some c.in_ok-push.ensures.items
    ∙ lap_back (graph c.args.s.now) c.args.first c.loop-i.threads.items (length c.args.s.now.threads - c.loop-i._i) c.loop-i.t
    (lap (graph c.args.s.now) c.args.first (length c.args.s.now.threads) c.args.first) c.loop-i.invariant
    c.in-Some.u (omega (arith, ap length c.items-i-end.ensures, c.loop-i-test.true)) (sym c.in-Some.ensures) c.if-u-first.true

pub returns-then-u-first-2 : goal.returns-then-u-first-2
returns-then-u-first-2 c =
    lap_less (graph c.args.s.now) c.args.first c.loop-i.threads.items (length c.args.s.now.threads - c.loop-i._i) c.loop-i.t
    (lap (graph c.args.s.now) c.args.first (length c.args.s.now.threads) c.args.first) c.loop-i.invariant
    c.in-Some.u (omega (arith, ap length c.items-i-end.ensures, c.loop-i-test.true)) (sym c.in-Some.ensures) c.if-u-first-2.true

pub loop-i-preserved : goal.loop-i-preserved
loop-i-preserved c =
    let g = graph c.args.s.now in
    let n = length c.args.s.now.threads in
    let fewer : n - c.loop-i._i - 1 ≡ n - (c.loop-i._i + 1) = omega arith in
    let greater : c.args.first < c.in-Some.u = omega (arith, c.if-u-first.false, c.if-u-first-2.false) in
    ap (λ (ts : List ℕ). option_map (λ rest. ts ++ rest) (lap g c.args.first (n - (c.loop-i._i + 1)) c.in-Some.u)) c.in_ok-push.ensures.items
    ∙ ap (λ (k : ℕ). option_map (λ rest. (c.loop-i.threads.items ++ c.loop-i.t ∷ []) ++ rest) (lap g c.args.first k c.in-Some.u)) (sym fewer)
    ∙ lap_on g c.args.first c.loop-i.threads.items (n - c.loop-i._i) c.loop-i.t (lap g c.args.first n c.args.first) c.loop-i.invariant
    c.in-Some.u (omega (arith, ap length c.items-i-end.ensures, c.loop-i-test.true)) (sym c.in-Some.ensures) greater

pub returns : goal.returns
returns c =
    lap_out (graph c.args.s.now) c.args.first c.loop-i.threads.items (length c.args.s.now.threads - c.loop-i._i) c.loop-i.t
    (lap (graph c.args.s.now) c.args.first (length c.args.s.now.threads) c.args.first) c.loop-i.invariant
    (omega (arith, ap length c.items-i-end.ensures, c.loop-i-test.false))
