use Rattle.std.proofs.Common.{◌≡◌, ◌∷◌, ◌++◌, append_assoc, refl, ap, sym, ◌∙◌}
use Rattle.sd_stretches.proofs.RowLemmas.{found_all}
use Rattle.sd_trace.specs.Slices.{state_slice, state_slices}
use Rattle.sd_trace.proofs.slices.put_states.Goals as goal

pub loop-x-preserved : goal.loop-x-preserved
unfolding state_slices
loop-x-preserved c =
    let w = c.args.work.now in
    let track = c.args.track in
    let from = c.loop-x.from in
    let to = c.later-to.result in
    let rest = c.in-Some.rest.now in
    let now : c.loop-x.left.now ≡ c.in-Some.x.now ∷ rest = (rw c.in-Some.is at c.split_first.ensures.cases).0 in
    let more : state_slice w track from to c.in-Some.x.now ++ state_slices w track to rest ≡ state_slices w track from c.loop-x.left.now
    = ap (λ n. state_slice w track from n c.in-Some.x.now ++ state_slices w track n rest) c.later-to.ensures ∙ ap (state_slices w track from) (sym now) in
    ap (λ text. text ++ state_slices w track to rest) c.in_ok-put_state.ensures
    ∙ append_assoc c.loop-x.out.items (state_slice w track from to c.in-Some.x.now) (state_slices w track to rest)
    ∙ ap (λ text. c.loop-x.out.items ++ text) more
    ∙ c.loop-x.invariant

pub returns : goal.returns
unfolding state_slices
returns c = found_all (state_slices c.args.work.now c.args.track c.loop-x.from) c.loop-x.left.now c.loop-x.out.items _ refl c.in_default.ensures.cases c.loop-x.invariant
