use Rattle.std.proofs.Common.{true, inr, sym, ap, ◌∙◌, subst}
use Rattle.sd_basics.proofs.Results.{done}
use Rattle.sd_machine.specs.Changes.{set_looped, set_number}
use Rattle.sd_store.specs.Walks.{walk_gone_on}
use Rattle.sd_dispatcher.proofs.RunningLemmas.{missed}
use Rattle.sd_locks.proofs.Looped.{gone_can, walked_back, walked_on}
use Rattle.sd_locks.proofs.walking.walked.Goals as goal

pub returns-then-not-back-clause-value : goal.returns-then-not-back-clause-value
returns-then-not-back-clause-value g c =
    done c.inherit_anew.result _ _
    (λ made. λ n s shows can.
    let gone = walk_gone_on s c.args.c c.args.o in
    let same = can.2 in
    subst (λ r. g.S.Look.shows c.inherit_anew.new.x n r)
    (ap (λ m. set_number gone c.args.o.0 c.args.l m) same ∙ walked_on s c.args.c c.args.l c.args.o (sym (c.in_ok-back.ensures.value n s shows) ∙ c.if-not-back.true))
    (made n gone (c.in_ok-walk_on.ensures.value n s shows tt) (gone_can s c.args.c c.args.l c.args.o c.args.had c.args.greatest can)))
    c.inherit_anew.ensures.value

pub returns-clause-value : goal.returns-clause-value
returns-clause-value g c =
    done c.set_looped.result _ _
    (λ made. λ n s shows can.
    let gone = walk_gone_on s c.args.c c.args.o in
    let same = can.2 in
    subst (λ r. g.S.Look.shows c.set_looped.new.x n r)
    (ap (λ m. set_looped (set_number gone c.args.o.0 c.args.l m) c.args.o.0 true) same
    ∙ walked_back s c.args.c c.args.l c.args.o (sym (c.in_ok-back.ensures.value n s shows) ∙ c.if-not-back.false))
    (made n _ (c.in_ok-inherit_anew.ensures.value n gone (c.in_ok-walk_on.ensures.value n s shows tt) (gone_can s c.args.c c.args.l c.args.o c.args.had c.args.greatest can)) tt))
    c.set_looped.ensures.value

pub returns-clause-lack : goal.returns-clause-lack
returns-clause-lack g c =
    missed c.set_looped.result g.S.Look.part (g.S.Look.has c.args.x.now) (g.S.Look.has c.inherit_anew-2.new.x) _ _ (c.in_ok-inherit_anew.ensures.has ∙ c.in_ok-walk_on.ensures.has)
    (λ q. λ lack. λ n s shows can.
    let gone = walk_gone_on s c.args.c c.args.o in
    inr (inr (lack n _ (c.in_ok-inherit_anew.ensures.value n gone (c.in_ok-walk_on.ensures.value n s shows tt) (gone_can s c.args.c c.args.l c.args.o c.args.had c.args.greatest can)))))
    c.set_looped.ensures.lack
