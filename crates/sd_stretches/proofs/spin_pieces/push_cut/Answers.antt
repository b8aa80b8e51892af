use Rattle.std.proofs.Common.{◌≡◌, [], ◌∷◌, ◌++◌, true, false, sym, ap, ◌∙◌, arith}
use Rattle.std.specs.Prelude.{nat_lt}
use Rattle.std.proofs.lemmas.Bool.Decides.{nat_tests}
use Rattle.std.proofs.lemmas.List.{append-nil}
use Rattle.sd_stretches.specs.declared.rows.Stretch.{Stretch}
use Rattle.sd_stretches.specs.SpinPieces.{before, cut, rest_after, spun}
use Rattle.sd_stretches.proofs.SpinLemmas.{cut_last, cut_more, pushed_two}
use Rattle.sd_stretches.proofs.spin_pieces.push_cut.Goals as goal

pub loop-s-preserved : goal.loop-s-preserved
loop-s-preserved c =
    let x = c.loop-s.rest in
    let s = c.in-Some.s.now in
    let more = c.in-Some.more.now in
    let left : c.loop-s.left.now ≡ s ∷ more = (rw c.in-Some.is at c.split_first.ensures.cases).0 in
    let goes : nat_lt s.to x.to ≡ true = grind (arith, nat_tests, c.if-rest-s.false) in
    let one = ap (λ (y : Stretch). y ∷ []) c.spun.ensures in
    ap (λ (y : Stretch). c.push.new.self.items ++ cut c.args.c y more) c.rest_after-rest.ensures
    ∙ pushed_two c.loop-s.out.items c.push_before.new.out.items c.push.new.self.items (before x s) (spun c.args.c x s ∷ []) (cut c.args.c (rest_after x s) more)
    (cut c.args.c x c.loop-s.left.now) _ c.in_ok-push_before.ensures (c.in_ok-push.ensures.items ∙ ap (λ ys. c.push_before.new.out.items ++ ys) one)
    (ap (cut c.args.c x) left ∙ cut_more c.args.c x s more goes) c.loop-s.invariant

pub returns-then-rest-s : goal.returns-then-rest-s
returns-then-rest-s c =
    let x = c.loop-s.rest in
    let s = c.in-Some.s.now in
    let more = c.in-Some.more.now in
    let left : c.loop-s.left.now ≡ s ∷ more = (rw c.in-Some.is at c.split_first.ensures.cases).0 in
    let ends : nat_lt s.to x.to ≡ false = grind (arith, nat_tests, c.if-rest-s.true) in
    let one = ap (λ (y : Stretch). y ∷ []) c.spun.ensures in
    sym (append-nil c.push.new.self.items)
    ∙ pushed_two c.loop-s.out.items c.push_before.new.out.items c.push.new.self.items (before x s) (spun c.args.c x s ∷ []) []
    (cut c.args.c x c.loop-s.left.now) _ c.in_ok-push_before.ensures (c.in_ok-push.ensures.items ∙ ap (λ ys. c.push_before.new.out.items ++ ys) one)
    (ap (cut c.args.c x) left ∙ cut_last c.args.c x s more ends ∙ sym (append-nil (before x s ++ spun c.args.c x s ∷ []))) c.loop-s.invariant
