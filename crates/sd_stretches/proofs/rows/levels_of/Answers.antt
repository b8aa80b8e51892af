use Rattle.std.proofs.Common.{◌≡◌, [], ◌∷◌, refl, ap, sym, ◌∙◌}
use Rattle.sd_stretches.specs.Rows.{level_to, levels_of, next_of}
use Rattle.sd_stretches.proofs.RowLemmas.{found_all, found_more}
use Rattle.sd_stretches.proofs.rows.levels_of.Goals as goal

pub loop-x-init : goal.loop-x-init
loop-x-init c = rw c.in_ok-found.ensures.items refl

pub loop-x-preserved : goal.loop-x-preserved
unfolding levels_of
loop-x-preserved c =
    let now : c.loop-x.left.now ≡ c.in-Some.x.now ∷ c.in-Some.rest.now = (rw c.in-Some.is at c.split_first.ensures.cases).0 in
    let made : c.level_to.result ≡ level_to c.args.end c.in-Some.x.now (next_of c.in-Some.rest.now) = c.level_to.ensures ∙ ap (level_to c.args.end c.in-Some.x.now) c.first_rank.ensures in
    found_more (levels_of c.args.end) c.loop-x.left.now c.in-Some.rest.now c.in-Some.x.now (c.level_to.result ∷ []) c.loop-x.found.items _ _
    (ap (λ y. y ∷ levels_of c.args.end c.in-Some.rest.now) (sym made)) now c.loop-x.invariant c.in_ok-push.ensures.items

pub returns : goal.returns
unfolding levels_of
returns c = found_all (levels_of c.args.end) c.loop-x.left.now c.loop-x.found.items _ refl c.in_default.ensures.cases c.loop-x.invariant
