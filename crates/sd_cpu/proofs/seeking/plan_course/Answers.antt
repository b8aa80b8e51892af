use Rattle.sd_machine.specs.Plans.{plan}
use Rattle.sd_step.specs.Needed.{plan_parts, read_parts}
use Rattle.sd_store.proofs.Among.{among_left}
use Rattle.sd_cpu.proofs.SeekLemmas.{course_lack, course_value}
use Rattle.sd_cpu.proofs.seeking.plan_course.Goals as goal

pub returns-in-Ok-clause-value : goal.returns-in-Ok-clause-value
returns-in-Ok-clause-value c = course_value c.args.work.now c.args.x.now c.in-Ok.plan c.course_of.result c.in-Ok.ensures.value c.course_of.ensures.value

pub returns-in-Ok-clause-lack : goal.returns-in-Ok-clause-lack
returns-in-Ok-clause-lack c = course_lack c.args.work.now c.args.x.now c.in-Ok.plan c.course_of.result c.in-Ok.ensures.value c.course_of.ensures.lack

pub returns-in-Err-clause-lack : goal.returns-in-Err-clause-lack
returns-in-Err-clause-lack c =
    let w = c.args.work.now in
    let cpu = c.args.x.now.actor.cpu in
    ((λ n s shown can. among_left c.in-Err.part (plan_parts w s cpu) (read_parts w s cpu (plan w s cpu.0)) (c.in-Err.ensures.lack.0 n s shown)), c.in-Err.ensures.lack.1)
