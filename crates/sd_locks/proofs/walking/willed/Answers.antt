use Rattle.std.proofs.Common.{ℕ, ◌+◌, ap, ◌∙◌, subst}
use Rattle.sd_basics.proofs.Results.{done}
use Rattle.sd_types.specs.declared.bodies.ThreadBody.{ThreadBody}
use Rattle.sd_types.specs.Priorities.{eff}
use Rattle.sd_types.specs.Willed.{number_for}
use Rattle.sd_machine.specs.Requeueing.{reordered}
use Rattle.sd_machine.specs.Walking.{walked, willed}
use Rattle.sd_locks.proofs.Same.{priority_kept}
use Rattle.sd_locks.proofs.walking.willed.Goals as goal

pub returns-clause-value : goal.returns-clause-value
unfolding willed
returns-clause-value g c =
    done c.moved.result _ _
    (λ made. λ s shows can.
    let n = c.args.number in
    let o = c.args.o in
    let l = c.args.l in
    let gone = walked s c.args.c l o in
    let body = c.in_ok-body.ensures.value n s shows in
    let had = c.number_in-had.ensures ∙ ap (λ (b : ThreadBody). number_for l b.willed.items) body in
    let old = c.effective_in-old.ensures ∙ ap eff body in
    let greatest = c.in_ok-greatest.ensures.value n s shows in
    subst (λ (m : ℕ). g.S.Look.shows c.moved.new.x (n + 1) (reordered c.args.work.now gone n o.0 m c.args.at)) old
    (made gone (c.in_ok-walked.ensures.value n s shows (can, had, greatest))
    (priority_kept s c.args.c l o c.effective_in-old.result c.number_in-had.result c.in_ok-greatest.greatest c.same_number.result old had greatest c.same_number.ensures)))
    c.moved.ensures.value
