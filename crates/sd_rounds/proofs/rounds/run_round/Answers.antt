use Rattle.std.proofs.Common.{length, get_or, sym, ◌∙◌, arith, subst}
use Rattle.sd_rounds.specs.Floors.{IsFloor}
use Rattle.sd_rounds.proofs.FloorLemmas.{floor_kept}
use Rattle.sd_machine.specs.Runs.{turn}
use Rattle.sd_world.specs.Plain.{told}
use Rattle.sd_world.proofs.PlainLemmas.{reached, told_more}
use Rattle.sd_rounds.proofs.RoundLemmas.{grows, round_on, entries_over}
use Rattle.sd_rounds.proofs.rounds.run_round.Goals as goal

pub loop-c-preserved : goal.loop-c-preserved
loop-c-preserved g c =
    let w = c.args.work.now in
    let order = c.args.order.now in
    let l = c.loop-c in
    let x = l.world in
    let y = c.take_turn.new.world in
    let e = c.in_default.ensures in
    let t = turn w (told w x) (length x.entries.items) (get_or order l.c-index (record { 0 = 0 })) in
    record {
      stands = e.stands;
      work = e.work;
      entries = round_on w order l.c-index (record { 0 = 0 }) (told w x) (told w y) x.entries.items y.entries.items c.loop-c-test.true e.entries (told_more w x y t e.entries) ∙ l.invariant.entries;
      room = e.room;
      grown = let more = grows t x.entries.items y.entries.items e.entries in
          let so_far = l.invariant.grown in
          omega arith;
      least = subst (λ z. IsFloor w z c.take_turn.new.floor) (sym (told_more w x y t e.entries))
          (floor_kept w (told w x) (length x.entries.items) (get_or order l.c-index (record { 0 = 0 })) c.take_turn.new.floor (reached w x l.invariant.stands) c.take_turn.ensures.least);
      searched = e.searched;
      begins = λ some. let so_far = l.invariant.grown in let room = e.begins in omega arith;
    }

pub returns-clause-entries : goal.returns-clause-entries
returns-clause-entries g c =
    let x = c.loop-c.world in
    entries_over c.args.work.now c.args.order.now c.loop-c.c-index (told c.args.work.now x) x.entries.items _ c.loop-c-test.false c.loop-c.invariant.entries

pub returns-clause-begins : goal.returns-clause-begins
returns-clause-begins g c = λ some. c.loop-c.invariant.begins (omega arith)
