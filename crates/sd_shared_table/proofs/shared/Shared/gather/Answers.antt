use Rattle.std.proofs.Common.{◌≡◌, ◌∷◌, ◌++◌, [], length, refl, sym, ap, ◌∙◌, subst, append_assoc, append-nil, arith}
use Rattle.std.specs.Prelude.{vec_len}
use Rattle.std.specs.Vec.Iter.{into_iter_items}
use Rattle.sd_shared_table.specs.Seats.{id_of, work_of}
use Rattle.sd_shared_table.specs.Whole.{IsGathered}
use Rattle.sd_shared_table.proofs.ClosingLemmas.{gathered_none, seat_next}
use Rattle.sd_shared_table.proofs.LogLemmas.{empty_by}
use Rattle.sd_shared_table.proofs.shared.Shared.gather.Goals as goal

pub loop-seat-init : goal.loop-seat-init
loop-seat-init c =
    let gives = c.into_iter-seat-iterator.ensures.into_iter_gives in
    let many : vec_len c.args.seats ≡ length c.args.seats.items = grind arith in
    (refl, gathered_none (id_of c.args.self.now) (record { place = c.sit.result; actors = c.new.result; logs = c.new-2.result }) c.sit.ensures.table c.sit.ensures.view c.new.ensures.items c.new-2.ensures.items, gives.1 ∙ (many ∙ sym (ap length gives.0)))

pub take_back-requires : goal.take_back-requires
take_back-requires c =
    let at = c.loop-seat in
    let gives = c.into_iter-seat-iterator.ensures.into_iter_gives in
    let e = ap (λ l. at.yielded ++ l) (sym c.in-Some.ensures.steps.0) ∙ (at.invariant.0 ∙ gives.0) in
    record { before = (at.yielded, at.invariant.1, seat_next (work_of c.args.self.now) (id_of c.args.self.now) c.args.seats.items at.yielded (into_iter_items c.next.new.self) c.in-Some.seat c.requires.seats e) }

pub loop-seat-preserved : goal.loop-seat-preserved
loop-seat-preserved c =
    let at = c.loop-seat in
    let x = c.in-Some.seat in
    let steps : into_iter_items at.seat-iterator ≡ x ∷ into_iter_items c.next.new.self = c.in-Some.ensures.steps.0 in (
      append_assoc at.yielded (x ∷ []) _ ∙ rw (← steps) at.invariant.0,
      c.in_ok-take_back.ensures at.yielded at.invariant.1,
      let was = at.invariant.2 in
          let gone = c.in-Some.ensures.steps.1 in
          let short = ap length steps in
          omega arith,
    )

pub returns : goal.returns
returns c =
    let at = c.loop-seat in
    let none = c.in-None.ensures.steps in
    let empty : into_iter_items at.seat-iterator ≡ [] = empty_by _ (sym at.invariant.2 ∙ none.0) in
    let all = sym (append-nil at.yielded) ∙ rw empty at at.invariant.0 ∙ c.into_iter-seat-iterator.ensures.into_iter_gives.0 in
    subst (λ l. IsGathered (id_of c.args.self.now) l at.gathered) all at.invariant.1
