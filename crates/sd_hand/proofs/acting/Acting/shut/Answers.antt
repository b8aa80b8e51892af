use Rattle.std.proofs.Common.{◌∙◌, refl, sym, subst}
use Rattle.sd_types.specs.declared.numbers.HomeId.TheVariants.{RealTime}
use Rattle.sd_machine.specs.Changes.{without_cpu}
use Rattle.sd_machine.specs.Threads.{with_open}
use Rattle.sd_homes.specs.Families.{open_in, opening, shut}
use Rattle.sd_hand.specs.Acting.{IsShown}
use Rattle.sd_hand.specs.declared.acting.Acting.{Acting}
use Rattle.sd_hand.proofs.ActLemmas.{open_carried, opened_has}
use Rattle.sd_hand.proofs.SlotLemmas.{edit_same}
use Rattle.sd_hand.proofs.TellLemmas.{open_told}
use Rattle.sd_hand.proofs.acting.Acting.shut.Goals as goal

pub returns-clause-value : goal.returns-clause-value
returns-clause-value c n s sh (h, is) =
    let x = c.args.self.now in
    let y : Acting = record x { hand = c.close.new.self } in
    let rest = without_cpu c.args.d (open_in h) in
    let made = c.close.ensures.shut ∙ edit_same (RealTime c.args.p) (shut c.args.d) (opening rest) x.hand.slots h is refl in
    subst (λ cpus. IsShown y n (with_open s c.args.p.0 (without_cpu c.args.d cpus))) (sym (open_told x n s h sh c.args.p is))
    (open_carried x y n s c.args.p rest refl made sh)

pub returns-clause-has : goal.returns-clause-has
returns-clause-has c (h, is) =
    let x = c.args.self.now in
    let y : Acting = record x { hand = c.close.new.self } in
    let rest = without_cpu c.args.d (open_in h) in
    opened_has x y c.args.p rest refl (c.close.ensures.shut ∙ edit_same (RealTime c.args.p) (shut c.args.d) (opening rest) x.hand.slots h is refl)
