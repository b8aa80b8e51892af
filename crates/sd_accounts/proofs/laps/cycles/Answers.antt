use Rattle.std.proofs.Common.{ℕ, List, ◌++◌, length, map, option_map, sym, ap, ◌∙◌}
use Rattle.sd_machine.specs.Cycles.{cycles_below, none_or_one}
use Rattle.sd_machine.specs.LockGraph.{graph}
use Rattle.sd_accounts.proofs.LapSteps.{cycles_more, cycles_none}
use Rattle.sd_accounts.proofs.laps.cycles.Goals as goal

pub loop-first-init : goal.loop-first-init
loop-first-init c = ap (map (λ v. v.items)) c.new-found.ensures.items ∙ sym (cycles_none (graph c.args.s.now) (length c.args.s.now.threads))

pub loop-first-preserved : goal.loop-first-preserved
loop-first-preserved c =
    let g = graph c.args.s.now in
    let n = length c.args.s.now.threads in
    let cycle = option_map (λ v. v.items) c.in_ok-lap.field-0 in
    c.in_ok-add_found.ensures
    ∙ ap (λ (xs : List (List ℕ)). xs ++ none_or_one cycle) c.loop-first.invariant
    ∙ ap (λ o. cycles_below g n c.loop-first.first ++ none_or_one o) c.in_ok-lap.ensures
    ∙ sym (cycles_more g n c.loop-first.first)
