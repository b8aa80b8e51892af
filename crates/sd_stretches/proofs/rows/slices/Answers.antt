use Rattle.std.proofs.Common.{◌≡◌, ◌∷◌, refl}
use Rattle.sd_stretches.specs.Rows.{all_stretches, slices}
use Rattle.sd_stretches.proofs.RowLemmas.{found_all, found_more}
use Rattle.sd_stretches.proofs.SliceLemmas.{slices_cons}
use Rattle.sd_stretches.proofs.rows.slices.Goals as goal

pub loop-x-init : goal.loop-x-init
loop-x-init c = rw c.new-found.ensures.items refl

pub loop-x-preserved : goal.loop-x-preserved
loop-x-preserved c =
    let now : c.loop-x.left.now ≡ c.in-Some.x.now ∷ c.in-Some.rest.now = (rw c.in-Some.is at c.split_first.ensures.cases).0 in
    found_more (λ xs. slices c.args.c xs c.args.entries c.args.end) c.loop-x.left.now c.in-Some.rest.now c.in-Some.x.now _ c.loop-x.found.items _ _
    (slices_cons c.args.c c.args.entries c.args.end c.in-Some.x.now c.in-Some.rest.now) now c.loop-x.invariant c.in_ok-push_slice.ensures

pub returns : goal.returns
unfolding slices all_stretches
returns c = found_all (λ xs. slices c.args.c xs c.args.entries c.args.end) c.loop-x.left.now c.loop-x.found.items _ refl c.in_default.ensures.cases c.loop-x.invariant
