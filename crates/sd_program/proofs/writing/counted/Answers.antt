use Rattle.std.proofs.Common.{◌≡◌, ◌+◌, ◌<◌, List, [], ◌∷◌, ◌++◌, length, take, ap, refl, sym, subst, ◌∙◌, arith}
use Rattle.std.proofs.lemmas.List.{take_more, length-take-le}
use Rattle.std.proofs.lemmas.Option.{get_or_from_slice_get}
use Rattle.sd_types.specs.declared.events.Entry.{Entry}
use Rattle.sd_log.specs.Parts.{whole}
use Rattle.sd_accounts.specs.Counters.{HasTaken}
use Rattle.sd_program.proofs.writing.counted.Goals as goal

pub loop-i-preserved : goal.loop-i-preserved
loop-i-preserved c =
    let l = c.loop-i in
    let es = c.args.entries.now.items in
    let x = whole c.parts-parts.result in
    let inside = subst (λ n. l.i < n) c.len-i-end.ensures c.loop-i-test.true in
    let so_far : length (take l.i es) ≡ l.i = length-take-le l.i es (omega (arith, inside)) in
    let few : length (take l.i es) < 281474976710656 = (let h = c.requires in omega (arith, so_far, inside, h)) in
    let one : take (l.i + 1) es ≡ take l.i es ++ x ∷ [] =
    take_more es l.i x inside ∙ ap (λ (y : Entry). take l.i es ++ y ∷ []) (get_or_from_slice_get es l.i x x c.parts-parts.ensures.whole) in
    subst (λ (xs : List Entry). HasTaken c.args.work.now xs c.add_event.new.self) (sym one) (c.add_event.ensures c.args.work.now (take l.i es) x refl refl few l.invariant)
