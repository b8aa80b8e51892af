use Rattle.std.proofs.Common.{◌≡◌, ◌+◌, ◌<◌, ◌≤◌, List, [], ◌∷◌, ◌++◌, length, take, ap, refl, sym, subst, ◌∙◌, arith}
use Rattle.std.proofs.lemmas.List.{take_all, take_more, length-take-le}
use Rattle.std.proofs.lemmas.Option.{get_or_from_slice_get}
use Rattle.sd_types.specs.declared.events.Entry.{Entry}
use Rattle.sd_log.specs.Parts.{whole}
use Rattle.sd_accounts.specs.Counters.{HasTaken}
use Rattle.sd_machine.specs.Texts.{entry_text, entries_text}
use Rattle.sd_answers.proofs.PutLemmas.{Puts-nil, Puts-item, Puts-item_err, Puts-all, Puts-exit}
use Rattle.sd_program.proofs.writing.put_entries.Goals as goal

pub loop-i-init : goal.loop-i-init
loop-i-init g c = (Puts-nil _ _, c.requires.none)

pub loop-i-preserved : goal.loop-i-preserved
loop-i-preserved g c =
    let l = c.loop-i in
    let w = c.args.work.now in
    let es = c.args.entries.now.items in
    let x = whole c.parts-parts.result in
    let is = sym (get_or_from_slice_get es l.i x x c.parts-parts.ensures.whole) in
    let inside = subst (λ n. l.i < n) c.len-i-end.ensures c.loop-i-test.true in
    let so_far : length (take l.i es) ≡ l.i = length-take-le l.i es (omega (arith, inside)) in
    let few : length (take l.i es) < 281474976710656 = (let h = c.requires.few in omega (arith, so_far, inside, h)) in
    let one : take (l.i + 1) es ≡ take l.i es ++ x ∷ [] = take_more es l.i x inside ∙ ap (λ (y : Entry). take l.i es ++ y ∷ []) (sym is) in (
      Puts-item (entry_text w) _ _ _ _ _ _ es l.i x is inside l.invariant.0 c.in_ok-put_entry.ensures,
      subst (λ (xs : List Entry). HasTaken w xs c.add_event.new.self) (sym one) (c.add_event.ensures w (take l.i es) x refl refl few l.invariant.1),
    )

pub returns-in_err-put_entry-clause-puts : goal.returns-in_err-put_entry-clause-puts
unfolding entries_text
returns-in_err-put_entry-clause-puts g c =
    let es = c.args.entries.now.items in
    let i = c.loop-i.i in
    let x = whole c.parts-parts.result in
    let is = sym (get_or_from_slice_get es i x x c.parts-parts.ensures.whole) in
    let inside = subst (λ n. i < n) c.len-i-end.ensures c.loop-i-test.true in
    Puts-exit _ _ _ _ _ _ _ c.from_residual.ensures.1
    (Puts-item_err (entry_text c.args.work.now) _ _ _ _ _ _ es i x is _ inside c.loop-i.invariant.0 c.in_err-put_entry.ensures)

pub returns-clause-puts : goal.returns-clause-puts
unfolding entries_text
returns-clause-puts g c =
    Puts-all (entry_text c.args.work.now) _ _ _ _ c.args.entries.now.items c.loop-i.i (subst (λ n. n ≤ c.loop-i.i) c.len-i-end.ensures c.loop-i-test.false) c.loop-i.invariant.0

pub returns-clause-counted : goal.returns-clause-counted
returns-clause-counted g c =
    let es = c.args.entries.now.items in
    let all = take_all c.loop-i.i es (subst (λ n. n ≤ c.loop-i.i) c.len-i-end.ensures c.loop-i-test.false) in
    subst (λ (xs : List Entry). HasTaken c.args.work.now xs c.loop-i.accounts) all c.loop-i.invariant.1
