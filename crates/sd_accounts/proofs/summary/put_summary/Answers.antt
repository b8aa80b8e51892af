use Rattle.std.proofs.Common.{ℕ, List, ◌++◌, ap, ◌∙◌}
use Rattle.std.specs.Prelude.{codes}
use Rattle.std.specs.List.{count_by}
use Rattle.std.proofs.lemmas.Result.{on_ok_weaker}
use Rattle.sd_machine.specs.Threads.{has_ended}
use Rattle.sd_machine.specs.Texts.{count_line}
use Rattle.sd_accounts.specs.Counters.{counted_summary}
use Rattle.sd_accounts.proofs.TextLemmas.{ten_lines}
use Rattle.sd_accounts.proofs.summary.put_summary.Goals as goal

pub returns : goal.returns
unfolding counted_summary
returns c =
    let x = c.args.x in
    let entries = count_line (codes "entries") x.entries in
    let ticks = count_line (codes "ticks") x.ticks in
    let idle = count_line (codes "idle") x.idle in
    let dispatches = count_line (codes "dispatches") x.dispatches in
    let steals = count_line (codes "steals") x.steals in
    let preempts = count_line (codes "preempts") x.preempts in
    let wakes = count_line (codes "wakes") x.wakes in
    let blocks = count_line (codes "blocks") x.blocks in
    let wills = count_line (codes "wills") x.wills in
    let ended = count_line (codes "ended") (count_by (λ t. has_ended t.place) c.args.s.now.threads) in
    on_ok_weaker c.put_count_line.result
    (λ appended.
    appended
    ∙ ap (λ (n : ℕ). c.put_other_counts.new.out.items ++ count_line (codes "ended") n) c.ended.ensures
    ∙ ap (λ (text : List ℕ). text ++ ended) c.in_ok-put_other_counts.ensures
    ∙ ap (λ (text : List ℕ). (text ++ (preempts ++ (wakes ++ (blocks ++ wills)))) ++ ended) c.in_ok-put_first_counts.ensures
    ∙ ten_lines c.args.out.now.items entries ticks idle dispatches steals preempts wakes blocks wills ended)
    c.put_count_line.ensures
