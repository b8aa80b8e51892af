use Rattle.std.proofs.Common.{◌≡◌, ◌∷◌, ◌++◌, [], length, refl, sym, ap, ◌∙◌, append_assoc, append-nil, arith}
use Rattle.std.specs.Prelude.{vec_len}
use Rattle.std.specs.Vec.Iter.{into_iter_items}
use Rattle.sd_types.specs.declared.events.Entry.{Entry}
use Rattle.sd_shared_table.proofs.LogLemmas.{empty_by, number_next}
use Rattle.sd_shared_table.proofs.history.shortened.Goals as goal

pub loop-entry-init : goal.loop-entry-init
loop-entry-init c =
    let gives = c.into_iter-entry-iterator.ensures.into_iter_gives in
    let many : vec_len c.args.entries ≡ length c.args.entries.items = grind arith in
    (refl, c.new-log.ensures.items, gives.1 ∙ (many ∙ sym (ap length gives.0)))

pub loop-entry-preserved : goal.loop-entry-preserved
loop-entry-preserved c =
    let at = c.loop-entry in
    let x = c.in-Some.entry in
    let gives = c.into_iter-entry-iterator.ensures.into_iter_gives in
    let steps : into_iter_items at.entry-iterator ≡ x ∷ into_iter_items c.next.new.self = c.in-Some.ensures.steps.0 in
    let e = ap (λ l. at.yielded ++ l) (sym steps) ∙ (at.invariant.0 ∙ gives.0) in
    let number : x.number ≡ length at.yielded = number_next c.args.entries.items at.yielded (into_iter_items c.next.new.self) x c.requires e in
    let before = c.in_ok-reserve.ensures.same ∙ at.invariant.1 in
    let last = λ (n : _). let y : Entry = record { number = n; cpu = x.cpu; event = x.event; hints = x.hints } in y in (
      append_assoc at.yielded (x ∷ []) _ ∙ rw (← steps) at.invariant.0,
      c.push_reserved.ensures.items ∙ ap (λ es. es ++ last (length es) ∷ []) before ∙ ap (λ n. at.yielded ++ last n ∷ []) (sym number),
      let was = at.invariant.2 in
          let gone = c.in-Some.ensures.steps.1 in
          let short = ap length steps in
          omega arith,
    )

pub returns : goal.returns
returns c =
    let at = c.loop-entry in
    let none = c.in-None.ensures.steps in
    let empty : into_iter_items at.entry-iterator ≡ [] = empty_by _ (sym at.invariant.2 ∙ none.0) in
    at.invariant.1 ∙ sym (append-nil at.yielded) ∙ rw empty at at.invariant.0 ∙ c.into_iter-entry-iterator.ensures.into_iter_gives.0
