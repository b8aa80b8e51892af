use Rattle.std.proofs.Common.{sym, ◌∙◌, arith}
use Rattle.sd_cpu.proofs.MeaningLemmas.{looks_same}
use Rattle.sd_cpu.proofs.SeekLemmas as S
use Rattle.sd_cpu.proofs.seeking.hold_all.Goals as goal

pub seeking-init : goal.seeking-init
seeking-init g c = record { good = c.requires.good; looks = looks_same (g.W.World.meaning c.args.world.now); way = c.requires.way }

pub lacking-requires : goal.lacking-requires
lacking-requires g c =
    let inv = c.seeking.invariant in
    S.shows_acting (g.W.World.meaning c.seeking.world) (g.met.W.World.sound c.seeking.world inv.good) c.args.work.now (c.requires.work ∙ sym inv.looks.stays.work) c.acting.result.now c.acting.ensures

pub fetch-requires-clause-can : goal.fetch-requires-clause-can
fetch-requires-clause-can g c =
    let inv = c.seeking.invariant in
    let m = g.W.World.meaning c.seeking.world in
    S.fetch_to_touch m (g.met.W.World.sound c.seeking.world inv.good) c.args.work.now (c.requires.work ∙ sym inv.looks.stays.work) c.acting.result.now c.acting.ensures c.args.event c.in-Err.part c.in-Err.ensures inv.way

pub returns-then-not-fetch-clause-holds : goal.returns-then-not-fetch-clause-holds
returns-then-not-fetch-clause-holds g c =
    S.stopped_more (g.W.World.meaning c.args.world.now) (g.W.World.meaning c.seeking.world) (g.W.World.meaning c.fetch.new.world) c.in-Err.part c.seeking.invariant.looks c.if-not-fetch.ensures.fetches

pub returns-in-Ok-clause-holds : goal.returns-in-Ok-clause-holds
returns-in-Ok-clause-holds g c =
    let inv = c.seeking.invariant in
    let m = g.W.World.meaning c.seeking.world in
    (inv.looks, S.has_touched m (g.met.W.World.sound c.seeking.world inv.good) c.args.work.now (c.requires.work ∙ sym inv.looks.stays.work) c.acting.result.now c.acting.ensures c.args.event c.in-Ok.ensures)

pub seeking-smaller : goal.seeking-smaller
seeking-smaller g c =
    let inv = c.seeking.invariant in
    let m = g.W.World.meaning c.seeking.world in
    let can = S.fetch_to_touch m (g.met.W.World.sound c.seeking.world inv.good) c.args.work.now (c.requires.work ∙ sym inv.looks.stays.work) c.acting.result.now c.acting.ensures c.args.event c.in-Err.part c.in-Err.ensures inv.way in
    let less = S.room_of m c.in-Err.part can in
    let more = S.counts_more m (g.W.World.meaning c.fetch.new.world) c.in-Err.part c.if-not-fetch.ensures.fetches in
    omega (arith, less, more)

pub seeking-preserved : goal.seeking-preserved
seeking-preserved g c =
    let inv = c.seeking.invariant in
    let m = g.W.World.meaning c.seeking.world in
    let m' = g.W.World.meaning c.fetch.new.world in
    let good = g.met.W.World.sound c.seeking.world inv.good in
    record {
      good = c.if-not-fetch.ensures.good;
      looks = S.looks_more (g.W.World.meaning c.args.world.now) m m' c.in-Err.part good inv.looks c.if-not-fetch.ensures.fetches;
      way = S.way_more m m' c.args.event c.in-Err.part good c.if-not-fetch.ensures.fetches
          (S.touch_among m good c.args.work.now (c.requires.work ∙ sym inv.looks.stays.work) c.acting.result.now c.acting.ensures c.args.event c.in-Err.part c.in-Err.ensures) inv.way;
    }
