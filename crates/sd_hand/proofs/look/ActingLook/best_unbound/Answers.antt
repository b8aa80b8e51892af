use Rattle.std.proofs.Common.{[], ◌∷◌, option_map, inl, refl}
use Rattle.sd_types.specs.declared.numbers.HomeId.TheVariants.{Cpu}
use Rattle.sd_boxq.specs.Order.{find_first}
use Rattle.sd_machine.specs.Threads.{best_unbound}
use Rattle.sd_store.specs.Parts.{cpu_part, number}
use Rattle.sd_homes.specs.declared.list_id.ListId.TheVariants.{Queues}
use Rattle.sd_homes.specs.Standing.{id_of, is_unbound}
use Rattle.sd_homes.specs.Families.{list_in}
use Rattle.sd_hand.proofs.FoundLemmas.{passing_there}
use Rattle.sd_hand.proofs.ShownLemmas.{finds_by, lacks_by, names_by}
use Rattle.sd_hand.proofs.TellLemmas.{unbound_told}
use Rattle.sd_hand.proofs.look.ActingLook.best_unbound.Goals as goal

pub returns-clause-value : goal.returns-clause-value
returns-clause-value c = names_by c.args.self.now (Cpu c.args.c) (λ h. option_map id_of (find_first is_unbound (list_in h (Queues c.args.c)))) (λ s. best_unbound s c.args.c.0) c.first_unbound.result c.first_unbound.ensures (λ n s h sh e. unbound_told c.args.self.now n s h sh c.args.c e)

pub returns-clause-lack : goal.returns-clause-lack
returns-clause-lack c = lacks_by c.args.self.now (Cpu c.args.c) (option_map number) (λ h. option_map id_of (find_first is_unbound (list_in h (Queues c.args.c)))) (λ s. cpu_part c.args.c ∷ []) c.first_unbound.result c.first_unbound.ensures (λ n s sh. inl refl)

pub returns-clause-found : goal.returns-clause-found
returns-clause-found c = finds_by c.args.self.now (Cpu c.args.c) (λ h. option_map id_of (find_first is_unbound (list_in h (Queues c.args.c)))) c.first_unbound.result c.first_unbound.ensures (λ h t e. passing_there (Queues c.args.c) is_unbound h t e)
