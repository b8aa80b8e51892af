use Rattle.std.proofs.Common.{◌<ℤ◌, rules, arith, SFits, w64, ◌∙◌, subst}
use Rattle.std.proofs.lemmas.Int.{ints}
use Rattle.sd_record.specs.declared.record.Kept.{Kept}
use Rattle.sd_record.specs.Records.{ThreadRecord}
use Rattle.sd_homes.proofs.NewestLemmas.{newest_goes_back}
use Rattle.sd_homes.proofs.ready.put_among.Goals as goal

pub returns-then-newest-deref : goal.returns-then-newest-deref
returns-then-newest-deref c =
    let seen = c.if-newest-deref.true in
    let own : SFits w64 c.args.newest = search rules in
    let fits : SFits w64 c.deref.result.now.key = search rules in
    let less : c.args.newest <ℤ c.deref.result.now.key = grind (arith, ints) in
    c.put_back.ensures
    ∙ newest_goes_back c.args.newest c.args.node c.args.queue.now (subst (λ (r : ThreadRecord). c.args.newest <ℤ r.key) (c.behind-node.view_is ∙ c.item.ensures) (subst (λ (k : Kept). c.args.newest <ℤ k.key) c.deref.ensures less)) c.requires.keys
