use Rattle.std.proofs.Common.{◌≡◌, ◌∷◌, ◌++◌, Some, append_assoc, refl, ap, sym, ◌∙◌}
use Rattle.sd_stretches.proofs.RowLemmas.{found_all}
use Rattle.sd_timeline.specs.Arrows.{hand_text, hand_texts}
use Rattle.sd_timeline.proofs.arrows.put_hand_overs.Goals as goal

pub loop-x-preserved : goal.loop-x-preserved
unfolding hand_texts
loop-x-preserved c =
    let w = c.args.work.now in
    let f = c.args.layout.now in
    let x = c.in-Some.x.now in
    let rest = c.in-Some.rest.now in
    let n = c.nth_at-nth.result in
    let now : c.loop-x.left.now ≡ x ∷ rest = (rw c.in-Some.is at c.split_first.ensures.cases).0 in
    let more : hand_text w f n x x.waiter ++ hand_texts w f (Some x.tick) n rest ≡ hand_texts w f c.loop-x.earlier c.loop-x.nth c.loop-x.left.now
    = ap (λ m. hand_text w f m x x.waiter ++ hand_texts w f (Some x.tick) m rest) c.nth_at-nth.ensures ∙ ap (hand_texts w f c.loop-x.earlier c.loop-x.nth) (sym now) in
    ap (λ text. text ++ hand_texts w f (Some x.tick) n rest) c.in_ok-put_hand_over.ensures
    ∙ append_assoc c.loop-x.out.items (hand_text w f n x x.waiter) (hand_texts w f (Some x.tick) n rest)
    ∙ ap (λ text. c.loop-x.out.items ++ text) more
    ∙ c.loop-x.invariant

pub returns : goal.returns
unfolding hand_texts
returns c = found_all (hand_texts c.args.work.now c.args.layout.now c.loop-x.earlier c.loop-x.nth) c.loop-x.left.now c.loop-x.out.items _ refl c.in_default.ensures.cases c.loop-x.invariant
