use Rattle.std.proofs.Common.{◌%◌, int_lt, option_map, sym, ap, ◌∙◌}
use Rattle.sd_types.specs.declared.numbers.HomeId.TheVariants.{Sleepers}
use Rattle.sd_boxq.specs.Order.{find_below}
use Rattle.sd_state.specs.States.{cpu_of}
use Rattle.sd_machine.specs.Sleeping.{rouse_key}
use Rattle.sd_machine.specs.Threads.{best_sleeper_below}
use Rattle.sd_store.specs.Walks.{next_to_rouse}
use Rattle.sd_homes.specs.declared.list_id.ListId.TheVariants.{Sleeps}
use Rattle.sd_homes.specs.Standing.{id_of, key_in}
use Rattle.sd_homes.specs.Families.{list_in}
use Rattle.sd_hand.proofs.FoundLemmas.{passing_there}
use Rattle.sd_hand.proofs.ShownLemmas.{finds_by, names_by}
use Rattle.sd_hand.proofs.TellLemmas.{sleeper_below_told}
use Rattle.sd_hand.proofs.look.ActingLook.next_to_rouse.Goals as goal

pub returns-clause-value : goal.returns-clause-value
unfolding next_to_rouse
returns-clause-value c =
    let below = rouse_key c.args.self.now.actor.duty in
    names_by c.args.self.now (Sleepers (c.args.k.0 % 64)) (λ h. option_map id_of (find_below key_in below (list_in h (Sleeps c.args.k)))) (λ s. next_to_rouse s c.args.c c.args.k)
    c.first_roused.result c.first_roused.ensures
    (λ n s h sh e. ap (λ d. best_sleeper_below s c.args.k.0 (rouse_key d)) (ap (λ i. (cpu_of s i).duty) c.if-c-self.false ∙ sym sh.duty)
    ∙ sleeper_below_told c.args.self.now n s h sh c.args.k below e)

pub returns-clause-found : goal.returns-clause-found
returns-clause-found c =
    let below = rouse_key c.args.self.now.actor.duty in
    finds_by c.args.self.now (Sleepers (c.args.k.0 % 64)) (λ h. option_map id_of (find_below key_in below (list_in h (Sleeps c.args.k)))) c.first_roused.result c.first_roused.ensures
    (λ h t e. passing_there (Sleeps c.args.k) (λ r. int_lt (key_in r) below) h t e)
