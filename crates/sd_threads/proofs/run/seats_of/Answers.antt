use Rattle.std.proofs.Common.{◌≡◌, ◌∷◌, ◌++◌, [], length, refl, sym, ap, ◌∙◌, append_assoc, append-nil, arith}
use Rattle.std.specs.Prelude.{vec_len}
use Rattle.std.specs.Vec.Iter.{into_iter_items}
use Rattle.sd_shared_table.proofs.LogLemmas.{empty_by}
use Rattle.sd_threads.specs.Jobs.{seats_in}
use Rattle.sd_threads.proofs.JobLemmas.{seats_more}
use Rattle.sd_threads.proofs.run.seats_of.Goals as goal

pub loop-job-init : goal.loop-job-init
loop-job-init c =
    let gives = c.into_iter-job-iterator.ensures.into_iter_gives in
    let many : vec_len c.args.jobs ≡ length c.args.jobs.items = grind arith in
    (refl, c.new-seats.ensures.items, gives.1 ∙ (many ∙ sym (ap length gives.0)))

pub loop-job-preserved : goal.loop-job-preserved
loop-job-preserved c =
    let at = c.loop-job in
    let x = c.in-Some.job in
    let steps : into_iter_items at.job-iterator ≡ x ∷ into_iter_items c.next.new.self = c.in-Some.ensures.steps.0 in (
      append_assoc at.yielded (x ∷ []) _ ∙ rw (← steps) at.invariant.0,
      c.in_ok-push.ensures.items ∙ (ap (λ l. l ++ x.seat ∷ []) at.invariant.1 ∙ sym (seats_more at.yielded x)),
      let was = at.invariant.2 in
          let gone = c.in-Some.ensures.steps.1 in
          let short = ap length steps in
          omega arith,
    )

pub returns : goal.returns
returns c =
    let at = c.loop-job in
    let none = c.in-None.ensures.steps in
    let empty : into_iter_items at.job-iterator ≡ [] = empty_by _ (sym at.invariant.2 ∙ none.0) in
    at.invariant.1 ∙ ap seats_in (sym (append-nil at.yielded) ∙ rw empty at at.invariant.0 ∙ c.into_iter-job-iterator.ensures.into_iter_gives.0)
