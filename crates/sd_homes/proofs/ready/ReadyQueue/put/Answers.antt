use Rattle.std.proofs.Common.{◌≤ℤ◌, rules, arith, ap, sym, subst, SFits, w64, ◌∙◌}
use Rattle.std.proofs.lemmas.Int.{ints, to_z-of_z}
use Rattle.sd_record.specs.declared.record.Kept.{Kept}
use Rattle.sd_record.specs.Records.{ThreadRecord}
use Rattle.sd_boxq.specs.Order.{insert_ranked}
use Rattle.sd_homes.specs.Standing.{key_in, rank_of}
use Rattle.sd_homes.specs.ReadyIndexes.{Indexes}
use Rattle.sd_homes.proofs.NewestLemmas.{at_most_put}
use Rattle.sd_homes.proofs.ready.ReadyQueue.put.Goals as goal

pub invariant_of-self : goal.invariant_of-self
invariant_of-self c =
    let top = c.later-self-inside.result in
    let first = c.later-self-inside.ensures.0 in
    let second = c.later-self-inside.ensures.1 in
    let own : SFits w64 c.self.inside.newest = search rules in
    let its : SFits w64 c.deref.result.now.key = search rules in
    let fits : SFits w64 top = search rules in
    let more : c.self.inside.newest ≤ℤ top = omega (arith, ints) in
    let here : c.deref.result.now.key ≤ℤ top = omega (arith, ints) in
    let same = sym (to_z-of_z w64 top fits) in (
      at_most_put c.self.inside.newest _ c.args.node c.self.inside.queue _ (subst (λ z. c.self.inside.newest ≤ℤ z) same more)
          (subst (λ z. c.args.node.key ≤ℤ z) same (subst (λ (r : ThreadRecord). r.key ≤ℤ top) (c.behind-node.view_is ∙ c.item.ensures) (subst (λ (k : Kept). k.key ≤ℤ top) c.deref.ensures here))) c.self.invariant.0 c.put_among.ensures,
      subst (Indexes c.note.new.self) (ap (λ x. insert_ranked rank_of key_in x c.self.inside.queue) c.item-2.ensures ∙ sym c.put_among.ensures) (c.note.ensures c.self.inside.queue c.self.invariant.1),
    )
