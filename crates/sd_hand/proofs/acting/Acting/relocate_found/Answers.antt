use Rattle.std.proofs.Common.{refl, sym}
use Rattle.sd_state.specs.States.{thread_of}
use Rattle.sd_homes.specs.Standing.{record_of}
use Rattle.sd_hand.specs.Steps.{stepped}
use Rattle.sd_hand.specs.declared.acting.Acting.{Acting}
use Rattle.sd_hand.proofs.ActLemmas.{move_carried, same_has}
use Rattle.sd_hand.proofs.MoveLemmas.{taken}
use Rattle.sd_hand.proofs.TellLemmas.{found_at, found_held}
use Rattle.sd_hand.proofs.acting.Acting.relocate_found.Goals as goal

pub returns-in-Ok-clause-value : goal.returns-in-Ok-clause-value
returns-in-Ok-clause-value c =
    let x = c.args.self.now in
    let y : Acting = record x { hand = c.relocate_found.new.self } in
    let t = c.args.t.0 in
    let from = c.in-Ok.field-0 in
    let gone = c.in-Ok.ensures.gone in
    record {
      there = λ n s sh. (found_at x n s sh t from gone.stands).inside;
      shown = λ n m s z sh le list rec may there.
          let at = found_at x n s sh t from gone.stands in
          let r = record_of t (thread_of s t) in
          move_carried x y n m s t from c.args.to z (stepped c.args.step r) refl
          (gone.moved r (sym (taken n s t from x.hand.slots at sh.homes (found_held x n s sh t from gone.stands))))
          (gone.apart sh.apart) le at list rec may there sh;
    }

pub returns-in-Ok-clause-has : goal.returns-in-Ok-clause-has
returns-in-Ok-clause-has c is there room =
    let y : Acting = record c.args.self.now { hand = c.relocate_found.new.self } in
    let gone = c.in-Ok.ensures.gone in
    same_has c.args.self.now y refl gone.homes (gone.threads is there (room c.in-Ok.field-0))
