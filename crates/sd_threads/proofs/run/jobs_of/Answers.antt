use Rattle.std.proofs.Common.{◌≡◌, ◌∷◌, ◌++◌, [], length, refl, sym, ap, ◌∙◌, append_assoc, append-nil, arith}
use Rattle.std.specs.Prelude.{vec_len}
use Rattle.std.specs.Vec.Iter.{into_iter_items}
use Rattle.sd_shared_table.proofs.LogLemmas.{empty_by}
use Rattle.sd_threads.specs.Jobs.{seats_in}
use Rattle.sd_threads.proofs.JobLemmas.{seats_more}
use Rattle.sd_threads.proofs.run.jobs_of.Goals as goal

pub loop-seat-init : goal.loop-seat-init
loop-seat-init c =
    let gives = c.into_iter-seat-iterator.ensures.into_iter_gives in
    let many : vec_len c.args.seats ≡ length c.args.seats.items = grind arith in
    (refl, ap seats_in c.new-jobs.ensures.items, gives.1 ∙ (many ∙ sym (ap length gives.0)))

pub loop-seat-preserved : goal.loop-seat-preserved
loop-seat-preserved c =
    let at = c.loop-seat in
    let x = c.in-Some.seat in
    let steps : into_iter_items at.seat-iterator ≡ x ∷ into_iter_items c.next.new.self = c.in-Some.ensures.steps.0 in (
      append_assoc at.yielded (x ∷ []) _ ∙ rw (← steps) at.invariant.0,
      ap seats_in c.in_ok-push.ensures.items ∙ (seats_more at.jobs.items _ ∙ ap (λ l. l ++ x ∷ []) at.invariant.1),
      let was = at.invariant.2 in
          let gone = c.in-Some.ensures.steps.1 in
          let short = ap length steps in
          omega arith,
    )

pub returns : goal.returns
returns c =
    let at = c.loop-seat in
    let none = c.in-None.ensures.steps in
    let empty : into_iter_items at.seat-iterator ≡ [] = empty_by _ (sym at.invariant.2 ∙ none.0) in
    at.invariant.1 ∙ (sym (append-nil at.yielded) ∙ rw empty at at.invariant.0 ∙ c.into_iter-seat-iterator.ensures.into_iter_gives.0)
