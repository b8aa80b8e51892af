use Rattle.std.proofs.Common.{get_or, take, sym, ap, ◌∙◌, arith}
use Rattle.std.proofs.lemmas.List.{take_all, take_more}
use Rattle.sd_rounds.specs.Searched.{all_show_zero}
use Rattle.sd_rounds.proofs.SearchedLemmas.{zero_more}
use Rattle.sd_rounds.proofs.sight.have_none_to_steal.Goals as goal

pub loop-d-preserved : goal.loop-d-preserved
loop-d-preserved c n s sh =
    let cpus = c.args.cpus.now in
    let i = c.loop-d.d-index in
    ap (all_show_zero s) (take_more cpus i (record { 0 = 0 }) c.loop-d-test.true)
    ∙ zero_more s (take i cpus) (get_or cpus i (record { 0 = 0 })) (c.loop-d.invariant n s sh) (c.has_none_to_steal.ensures c.if-not-has_none_to_steal.false n s sh)

pub returns : goal.returns
returns c =
    let past = c.loop-d-test.false in
    λ e n s sh. ap (all_show_zero s) (sym (take_all c.loop-d.d-index c.args.cpus.now (omega (arith, past)))) ∙ c.loop-d.invariant n s sh
