use Rattle.std.proofs.Common.{◌≡◌, ◌+◌, ◌<◌, List, [], ◌∷◌, ◌++◌, length, take, ap, sym, subst, ◌∙◌, arith}
use Rattle.std.proofs.lemmas.List.{take_more, length-take-le}
use Rattle.sd_types.specs.declared.events.Entry.{Entry}
use Rattle.sd_accounts.specs.Counters.{HasTaken}
use Rattle.sd_search_answers.proofs.journals.counted.Goals as goal

pub loop-entry-preserved : goal.loop-entry-preserved
loop-entry-preserved c =
    let l = c.loop-entry in
    let es = c.args.entries.now in
    let inside = c.loop-entry-test.true in
    let so_far : length (take l.entry-index es) ≡ l.entry-index = length-take-le l.entry-index es (omega (arith, inside)) in
    let few : length (take l.entry-index es) < 281474976710656 = (let h = c.requires in omega (arith, so_far, inside, h)) in
    let one : take (l.entry-index + 1) es ≡ take l.entry-index es ++ c.entry-item.result ∷ [] =
    take_more es l.entry-index c.entry-item.result inside ∙ ap (λ (x : Entry). take l.entry-index es ++ x ∷ []) (sym c.entry-item.is) in
    subst (λ (xs : List Entry). HasTaken c.args.work.now xs c.add.new.self) (sym one) (c.add.ensures c.args.work.now (take l.entry-index es) few l.invariant)
