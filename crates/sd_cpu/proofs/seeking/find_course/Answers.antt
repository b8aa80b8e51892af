use Rattle.std.proofs.Common.{sym, ◌∙◌, arith}
use Rattle.sd_cpu.proofs.MeaningLemmas.{looks_same}
use Rattle.sd_cpu.proofs.GateLemmas.{passed_more, passed_still}
use Rattle.sd_cpu.proofs.SeekLemmas as S
use Rattle.sd_cpu.proofs.seeking.find_course.Goals as goal

pub seeking-init : goal.seeking-init
seeking-init g c = record { good = c.requires.good; looks = looks_same (g.W.World.meaning c.args.world.now); holds = c.requires.holds; passed = c.pass_once.ensures }

pub fetch-requires-clause-can : goal.fetch-requires-clause-can
fetch-requires-clause-can g c =
    let inv = c.seeking.invariant in
    let m = g.W.World.meaning c.seeking.world in
    S.fetch_to_read m (g.met.W.World.sound c.seeking.world inv.good) c.args.work.now (c.requires.work ∙ sym inv.looks.stays.work) c.acting.result.now c.acting.ensures c.in-Err.part c.in-Err.ensures.lack.0 c.in-Err.ensures.lack.1 inv.holds

pub returns-then-not-fetch-clause-finds : goal.returns-then-not-fetch-clause-finds
returns-then-not-fetch-clause-finds g c =
    S.stopped_more (g.W.World.meaning c.args.world.now) (g.W.World.meaning c.seeking.world) (g.W.World.meaning c.fetch.new.world) c.in-Err.part c.seeking.invariant.looks c.if-not-fetch.ensures.fetches

pub returns-then-not-fetch-clause-passes : goal.returns-then-not-fetch-clause-passes
returns-then-not-fetch-clause-passes g c =
    passed_still (g.W.World.meaning c.seeking.world).acting (g.W.World.meaning c.fetch.new.world).acting c.args.passed.now c.seeking.passed c.if-not-fetch.ensures.fetches.acting c.seeking.invariant.passed

pub returns-in-Ok-clause-passes : goal.returns-in-Ok-clause-passes
returns-in-Ok-clause-passes g c = c.seeking.invariant.passed

pub returns-in-Ok-clause-finds : goal.returns-in-Ok-clause-finds
returns-in-Ok-clause-finds g c =
    let inv = c.seeking.invariant in
    let m = g.W.World.meaning c.seeking.world in
    record {
      looks = inv.looks;
      course = S.course_found m (g.met.W.World.sound c.seeking.world inv.good) c.args.work.now (c.requires.work ∙ sym inv.looks.stays.work) c.acting.result.now c.acting.ensures c.in-Ok.course c.in-Ok.ensures.value;
      holds = inv.holds;
    }

pub seeking-smaller : goal.seeking-smaller
seeking-smaller g c =
    let inv = c.seeking.invariant in
    let m = g.W.World.meaning c.seeking.world in
    let can = S.fetch_to_read m (g.met.W.World.sound c.seeking.world inv.good) c.args.work.now (c.requires.work ∙ sym inv.looks.stays.work) c.acting.result.now c.acting.ensures c.in-Err.part c.in-Err.ensures.lack.0 c.in-Err.ensures.lack.1 inv.holds in
    let less = S.room_of m c.in-Err.part can in
    let more = S.counts_more m (g.W.World.meaning c.fetch.new.world) c.in-Err.part c.if-not-fetch.ensures.fetches in
    omega (arith, less, more)

pub seeking-preserved : goal.seeking-preserved
seeking-preserved g c =
    let inv = c.seeking.invariant in
    let m = g.W.World.meaning c.seeking.world in
    let good = g.met.W.World.sound c.seeking.world inv.good in
    record {
      good = c.if-not-fetch.ensures.good;
      looks = S.looks_more (g.W.World.meaning c.args.world.now) m (g.W.World.meaning c.fetch.new.world) c.in-Err.part good inv.looks c.if-not-fetch.ensures.fetches;
      holds = S.more_to_read m (g.W.World.meaning c.fetch.new.world) c.in-Err.part good c.if-not-fetch.ensures.fetches
          (S.read_among m good c.args.work.now (c.requires.work ∙ sym inv.looks.stays.work) c.acting.result.now c.acting.ensures c.in-Err.part c.in-Err.ensures.lack.0) inv.holds;
      passed = passed_more m (g.W.World.meaning c.fetch.new.world) c.in-Err.part c.args.passed.now c.seeking.passed c.pass_once-in-Err.result c.if-not-fetch.ensures.fetches inv.passed c.pass_once-in-Err.ensures;
    }
