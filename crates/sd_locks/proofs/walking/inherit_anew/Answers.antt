use Rattle.std.proofs.Common.{sym, ◌∙◌, subst}
use Rattle.sd_locks.proofs.Same.{set_same}
use Rattle.sd_locks.proofs.walking.inherit_anew.Goals as goal

pub returns-then-same_number-clause-value : goal.returns-then-same_number-clause-value
returns-then-same_number-clause-value g c n s shows can =
    let same = sym (c.same_number.ensures c.if-same_number.true) ∙ can.1 in
    subst (λ r. g.S.Look.shows c.args.x.now n r) (sym (set_same s c.args.o c.args.l c.args.number same)) shows
