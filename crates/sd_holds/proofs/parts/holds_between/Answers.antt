use Rattle.std.proofs.Common.{◌≡◌, ◌∷◌, refl}
use Rattle.sd_holds.specs.Bands.{holds_between}
use Rattle.sd_stretches.proofs.RowLemmas.{found_all, found_more}
use Rattle.sd_holds.proofs.PartLemmas.{between_cons, between_none}
use Rattle.sd_holds.proofs.parts.holds_between.Goals as goal

pub loop-x-init : goal.loop-x-init
loop-x-init c = rw c.new-found.ensures.items refl

pub loop-x-preserved : goal.loop-x-preserved
loop-x-preserved c =
    let now : c.loop-x.left.now ≡ c.in-Some.x.now ∷ c.in-Some.rest.now = (rw c.in-Some.is at c.split_first.ensures.cases).0 in
    found_more (λ xs. holds_between c.args.end c.args.from c.args.to xs) c.loop-x.left.now c.in-Some.rest.now c.in-Some.x.now _ c.loop-x.found.items _ _
    (between_cons c.args.end c.args.from c.args.to c.in-Some.x.now c.in-Some.rest.now) now c.loop-x.invariant c.in_ok-push_begun.ensures

pub returns : goal.returns
returns c =
    found_all (λ xs. holds_between c.args.end c.args.from c.args.to xs) c.loop-x.left.now c.loop-x.found.items _ (between_none c.args.end c.args.from c.args.to)
    c.in_default.ensures.cases c.loop-x.invariant
