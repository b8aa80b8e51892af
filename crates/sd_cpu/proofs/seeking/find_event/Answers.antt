use Rattle.std.proofs.Common.{sym, ◌∙◌, arith}
use Rattle.sd_cpu.proofs.MeaningLemmas.{looks_same}
use Rattle.sd_cpu.proofs.SeekLemmas as S
use Rattle.sd_cpu.proofs.seeking.find_event.Goals as goal
use Rattle.std.proofs.Common.{inl, inr}
use Rattle.sd_cpu.proofs.AttemptLemmas.{ready_later}

pub seeking-init : goal.seeking-init
seeking-init g c = record { good = c.requires.good; looks = looks_same (g.W.World.meaning c.args.world.now); ready = c.requires.ready; holds = c.requires.holds }

pub fetch-requires-clause-can : goal.fetch-requires-clause-can
fetch-requires-clause-can g c =
    let inv = c.seeking.invariant in
    let m = g.W.World.meaning c.seeking.world in
    S.fetch_to_choose m (g.met.W.World.sound c.seeking.world inv.good) c.args.work.now (c.requires.work ∙ sym inv.looks.stays.work) c.acting.result.now c.acting.ensures c.args.plan c.args.hints.now c.in-Err.part inv.ready c.in-Err.ensures.lack.0 c.in-Err.ensures.lack.1 inv.holds

pub returns-then-not-fetch-clause-finds : goal.returns-then-not-fetch-clause-finds
returns-then-not-fetch-clause-finds g c =
    S.stopped_more (g.W.World.meaning c.args.world.now) (g.W.World.meaning c.seeking.world) (g.W.World.meaning c.fetch.new.world) c.in-Err.part c.seeking.invariant.looks c.if-not-fetch.ensures.fetches

pub returns-in-Ok-clause-finds : goal.returns-in-Ok-clause-finds
returns-in-Ok-clause-finds g c =
    let inv = c.seeking.invariant in
    let m = g.W.World.meaning c.seeking.world in
    record {
      looks = inv.looks;
      wish = S.event_found m (g.met.W.World.sound c.seeking.world inv.good) c.args.work.now (c.requires.work ∙ sym inv.looks.stays.work) c.acting.result.now c.acting.ensures c.args.plan c.args.hints.now c.in-Ok.event inv.ready c.in-Ok.ensures.value;
      holds = inv.holds;
    }

pub seeking-smaller : goal.seeking-smaller
seeking-smaller g c =
    let inv = c.seeking.invariant in
    let m = g.W.World.meaning c.seeking.world in
    let can = S.fetch_to_choose m (g.met.W.World.sound c.seeking.world inv.good) c.args.work.now (c.requires.work ∙ sym inv.looks.stays.work) c.acting.result.now c.acting.ensures c.args.plan c.args.hints.now c.in-Err.part inv.ready c.in-Err.ensures.lack.0 c.in-Err.ensures.lack.1 inv.holds in
    let less = S.room_of m c.in-Err.part can in
    let more = S.counts_more m (g.W.World.meaning c.fetch.new.world) c.in-Err.part c.if-not-fetch.ensures.fetches in
    omega (arith, less, more)

pub seeking-preserved : goal.seeking-preserved
seeking-preserved g c =
    let inv = c.seeking.invariant in
    let m = g.W.World.meaning c.seeking.world in
    let m' = g.W.World.meaning c.fetch.new.world in
    let good = g.met.W.World.sound c.seeking.world inv.good in
    record {
      good = c.if-not-fetch.ensures.good;
      looks = S.looks_more (g.W.World.meaning c.args.world.now) m m' c.in-Err.part good inv.looks c.if-not-fetch.ensures.fetches;
      ready = ready_later m m' c.args.plan c.args.hints.now (S.looks_more m m m' c.in-Err.part good (looks_same m) c.if-not-fetch.ensures.fetches) inv.ready;
      holds = S.more_to_make m m' c.in-Err.part c.args.hints.now good c.if-not-fetch.ensures.fetches
          (λ h may. inr (inl (S.choice_among m good c.args.work.now (c.requires.work ∙ sym inv.looks.stays.work) c.acting.result.now c.acting.ensures c.args.plan c.args.hints.now c.in-Err.part inv.ready c.in-Err.ensures.lack.0 h may))) inv.holds;
    }
