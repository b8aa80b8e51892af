use Rattle.sd_cpu.proofs.GateLemmas.{passed_once}
use Rattle.sd_cpu.proofs.AttemptLemmas as M
use Rattle.sd_cpu.proofs.MeaningLemmas.{hindered, looks_then}
use Rattle.sd_cpu.proofs.ReadLemmas.{course_there}
use Rattle.sd_cpu.proofs.SeekLemmas.{holds_still, read_is_sought}
use Rattle.sd_cpu.proofs.attempts.act.Goals as goal

pub find_course-requires-clause-holds : goal.find_course-requires-clause-holds
find_course-requires-clause-holds g c = c.requires.holds

pub returns-in_default-clause-acts : goal.returns-in_default-clause-acts
returns-in_default-clause-acts g c = M.hindered_held (g.W.World.meaning c.args.world.now) (g.W.World.meaning c.find_course.new.world) c.in_default.ensures.finds

pub read_hints-hints-requires-clause-work : goal.read_hints-hints-requires-clause-work
read_hints-hints-requires-clause-work g c = M.same_work (g.W.World.meaning c.args.world.now) (g.W.World.meaning c.find_course.new.world) c.args.work.now c.requires.work c.in-Some.ensures.finds.looks.stays

pub read_hints-hints-requires-clause-there : goal.read_hints-hints-requires-clause-there
read_hints-hints-requires-clause-there g c =
    let found = c.in-Some.ensures.finds in
    let m = g.W.World.meaning c.find_course.new.world in
    course_there m c.args.work.now c.in-Some.course.plan c.in-Some.course.reading (g.met.W.World.sound c.find_course.new.world c.in-Some.ensures.good)
    (M.same_work (g.W.World.meaning c.args.world.now) m c.args.work.now c.requires.work found.looks.stays) found.course

pub find_event-requires-clause-work : goal.find_event-requires-clause-work
find_event-requires-clause-work g c =
    let m = g.W.World.meaning c.find_course.new.world in
    M.same_work m (g.W.World.meaning c.read_hints-hints.new.world) c.args.work.now
    (M.same_work (g.W.World.meaning c.args.world.now) m c.args.work.now c.requires.work c.in-Some.ensures.finds.looks.stays) c.read_hints-hints.ensures.looks.stays

pub find_event-requires-clause-ready : goal.find_event-requires-clause-ready
find_event-requires-clause-ready g c =
    let m = g.W.World.meaning c.find_course.new.world in
    let m' = g.W.World.meaning c.read_hints-hints.new.world in
    M.ready m m' m' c.in-Some.course.plan c.in-Some.course.reading c.read_hints-hints.result c.read_hints-hints.ensures.looks c.in-Some.ensures.finds.course c.read_hints-hints.ensures.read

pub find_event-requires-clause-holds : goal.find_event-requires-clause-holds
find_event-requires-clause-holds g c =
    let m = g.W.World.meaning c.find_course.new.world in
    let m' = g.W.World.meaning c.read_hints-hints.new.world in
    read_is_sought m' c.read_hints-hints.result (holds_still m m' c.read_hints-hints.ensures.looks.stays c.read_hints-hints.ensures.acting c.in-Some.ensures.finds.holds)

pub come-requires-clause-work : goal.come-requires-clause-work
come-requires-clause-work g c =
    let m1 = g.W.World.meaning c.find_course.new.world in
    let m2 = g.W.World.meaning c.read_hints-hints.new.world in
    M.same_work m2 (g.W.World.meaning c.find_event.new.world) c.args.work.now
    (M.same_work m1 m2 c.args.work.now (M.same_work (g.W.World.meaning c.args.world.now) m1 c.args.work.now c.requires.work c.in-Some.ensures.finds.looks.stays) c.read_hints-hints.ensures.looks.stays)
    c.in-Some-find_event.ensures.finds.looks.stays

pub come-requires-clause-comes : goal.come-requires-clause-comes
come-requires-clause-comes g c =
    let m = g.W.World.meaning c.find_course.new.world in
    let m' = g.W.World.meaning c.read_hints-hints.new.world in
    let read = c.read_hints-hints.ensures in
    let course = c.in-Some.ensures.finds.course in
    let p = c.in-Some.course.plan in
    let r = c.in-Some.course.reading in
    let hints = c.read_hints-hints.result in
    M.comes_found m' (g.W.World.meaning c.find_event.new.world) p c.in-Some-find_event.event hints (M.ready m m' m' p r hints read.looks course read.read)
    (M.use_read m m' p r hints read.looks course read.read)
    (M.given_later m m' hints read.looks.stays (M.course_given m m' p r hints (g.met.W.World.sound c.find_course.new.world c.in-Some.ensures.good) course read.read)) c.in-Some-find_event.ensures.finds

pub come-requires-clause-held : goal.come-requires-clause-held
come-requires-clause-held g c = c.in-Some-find_event.ensures.finds.holds

pub returns-in-Some-find_event-clause-acts : goal.returns-in-Some-find_event-clause-acts
returns-in-Some-find_event-clause-acts g c =
    let m0 = g.W.World.meaning c.args.world.now in
    let m1 = g.W.World.meaning c.find_course.new.world in
    let m2 = g.W.World.meaning c.read_hints-hints.new.world in
    let m3 = g.W.World.meaning c.find_event.new.world in
    M.acts_from m0 m3 (g.W.World.meaning c.come.new.world) c.come.result
    (looks_then m0 m2 m3 (looks_then m0 m1 m2 c.in-Some.ensures.finds.looks c.read_hints-hints.ensures.looks) c.in-Some-find_event.ensures.finds.looks) c.come.ensures.acts

pub returns-in-None-clause-acts : goal.returns-in-None-clause-acts
returns-in-None-clause-acts g c =
    let m0 = g.W.World.meaning c.args.world.now in
    let m1 = g.W.World.meaning c.find_course.new.world in
    let m2 = g.W.World.meaning c.read_hints-hints.new.world in
    hindered m0 m2 (g.W.World.meaning c.find_event.new.world) (looks_then m0 m1 m2 c.in-Some.ensures.finds.looks c.read_hints-hints.ensures.looks) c.in-None.ensures.finds

pub returns-in_default-clause-passed : goal.returns-in_default-clause-passed
returns-in_default-clause-passed g c = passed_once _ _ _ c.in_default.ensures.passes

pub returns-in-Some-find_event-clause-passed : goal.returns-in-Some-find_event-clause-passed
returns-in-Some-find_event-clause-passed g c = passed_once _ _ _ c.in-Some.ensures.passes

pub returns-in-None-clause-passed : goal.returns-in-None-clause-passed
returns-in-None-clause-passed g c = passed_once _ _ _ c.in-Some.ensures.passes
