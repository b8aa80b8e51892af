use Rattle.std.proofs.Common.{length, sym, ap, ◌∙◌, arith}
use Rattle.std.specs.Prelude.{nat_lt}
use Rattle.sd_types.specs.declared.bodies.ThreadBody.{ThreadBody}
use Rattle.sd_types.specs.Priorities.{base_of}
use Rattle.sd_stretches.specs.Changes.{is_above_base}
use Rattle.sd_viewer.proofs.GlimpseLemmas.{thread_past, thread_read}
use Rattle.sd_viewer.proofs.glimpses.is_above_base.Goals as goal

pub returns-then-items-t : goal.returns-then-items-t
returns-then-items-t c =
    sym (ap (λ o. is_above_base o c.args.priority) (thread_past c.args.work.now c.args.world.now c.args.t.0 (let many = ap length c.items.ensures in omega (arith, many))))

pub returns-in-Some : goal.returns-in-Some
returns-in-Some c =
    ap (λ n. nat_lt n c.args.priority) (c.base.ensures.value ∙ ap (λ (b : ThreadBody). base_of b.class) c.in-Some.ensures)
    ∙ sym (ap (λ o. is_above_base o c.args.priority) (thread_read c.args.work.now c.args.world.now c.args.t.0 (let many = ap length c.items.ensures in omega (arith, many))))

pub returns-in-None : goal.returns-in-None
returns-in-None c =
    ap (λ (b : ThreadBody). nat_lt (base_of b.class) c.args.priority) c.in-None.ensures
    ∙ sym (ap (λ o. is_above_base o c.args.priority) (thread_read c.args.work.now c.args.world.now c.args.t.0 (let many = ap length c.items.ensures in omega (arith, many))))
