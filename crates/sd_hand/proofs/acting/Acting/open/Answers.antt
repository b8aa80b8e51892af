use Rattle.std.proofs.Common.{◌∙◌, length, refl, sym, ap, subst, arith}
use Rattle.sd_basics.proofs.Results.{done, refused}
use Rattle.sd_types.specs.declared.numbers.HomeId.TheVariants.{RealTime}
use Rattle.sd_machine.specs.Changes.{with_cpu_in}
use Rattle.sd_machine.specs.Threads.{with_open}
use Rattle.sd_homes.specs.Families.{open_in, opened, opening}
use Rattle.sd_hand.specs.Acting.{IsShown}
use Rattle.sd_hand.specs.declared.acting.Acting.{Acting}
use Rattle.sd_hand.proofs.ActLemmas.{actor_has, open_carried, opened_has}
use Rattle.sd_hand.proofs.SlotLemmas.{edit_same, either}
use Rattle.sd_hand.proofs.TellLemmas.{open_told}
use Rattle.sd_hand.proofs.acting.Acting.open.Goals as goal

pub returns-clause-value : goal.returns-clause-value
returns-clause-value c =
    let x = c.args.self.now in
    let y : Acting = record x { hand = c.open.new.self } in
    done c.open.result _ _
    (λ made. λ n s sh at.
    let more = with_cpu_in c.args.c (open_in at.0) in
    subst (λ cpus. IsShown y n (with_open s c.args.p.0 (with_cpu_in c.args.c cpus))) (sym (open_told x n s at.0 sh c.args.p at.1))
    (open_carried x y n s c.args.p more refl (made ∙ edit_same (RealTime c.args.p) (opened c.args.c) (opening more) x.hand.slots at.0 at.1 refl) sh))
    c.open.ensures.opened

pub returns-clause-full : goal.returns-clause-full
returns-clause-full c =
    refused c.open.result _ _
    (λ full. λ n s sh can.
    let told = ap length (open_told c.args.self.now n s full.0 sh c.args.p full.1) in
    let all = full.2 in
    absurd (omega (arith, told, all, can)))
    c.open.ensures.full

pub returns-clause-has : goal.returns-clause-has
returns-clause-has c at =
    let x = c.args.self.now in
    let y : Acting = record x { hand = c.open.new.self } in
    let more = with_cpu_in c.args.c (open_in at.0) in
    either c.open.result _ _ _
    (λ made. opened_has x y c.args.p more refl (made ∙ edit_same (RealTime c.args.p) (opened c.args.c) (opening more) x.hand.slots at.0 at.1 refl))
    (λ full. actor_has x y full.3 refl)
    c.open.ensures.opened c.open.ensures.full
