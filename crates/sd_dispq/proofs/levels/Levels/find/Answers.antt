use Rattle.std.proofs.Common.{sym, ap, ◌∙◌}
use Rattle.sd_boxq.specs.Order.{find_id}
use Rattle.sd_dispq.proofs.LevelLemmas.{to_end}
use Rattle.sd_dispq.proofs.QueueLemmas.{found_here, found_past}
use Rattle.sd_dispq.proofs.levels.Levels.find.Goals as goal

pub returns-in-Some-find : goal.returns-in-Some-find
returns-in-Some-find g c =
    let id = g.T.Ranked.id in
    let found = sym (ap (find_id id c.args.id) c.level.ensures) ∙ sym c.in-Some-find.ensures in
    sym (found_here id c.args.id c.args.self.now c.loop-index.from c.in-Some.index c.in-Some-find.item.now c.in-Some.ensures.next found) ∙ c.loop-index.invariant

pub loop-index-preserved : goal.loop-index-preserved
loop-index-preserved g c =
    let id = g.T.Ranked.id in
    let none = sym (ap (find_id id c.args.id) c.level.ensures) ∙ sym c.in_default-find.ensures in
    found_past id c.args.id c.args.self.now c.loop-index.from c.in-Some.index c.in-Some.ensures.next none ∙ c.loop-index.invariant

pub returns : goal.returns
returns g c =
    let id = g.T.Ranked.id in
    sym (sym c.loop-index.invariant ∙ ap (find_id id c.args.id) (to_end c.args.self.now c.loop-index.from c.in_default.ensures.next))
