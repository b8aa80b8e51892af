use Rattle.std.proofs.Common.{[], ◌∷◌, option_map, inl, refl}
use Rattle.sd_types.specs.declared.numbers.HomeId.TheVariants.{Cpu}
use Rattle.sd_machine.specs.Threads.{next_to_age}
use Rattle.sd_store.specs.Parts.{cpu_part, number}
use Rattle.sd_homes.specs.declared.list_id.ListId.TheVariants.{Queues}
use Rattle.sd_homes.specs.Standing.{least_to_age}
use Rattle.sd_homes.specs.Families.{list_in}
use Rattle.sd_hand.proofs.FoundLemmas.{aging_there}
use Rattle.sd_hand.proofs.ShownLemmas.{finds_by, lacks_by, names_by}
use Rattle.sd_hand.proofs.TellLemmas.{aging_told}
use Rattle.sd_hand.proofs.look.ActingLook.next_to_age.Goals as goal

pub returns-clause-value : goal.returns-clause-value
returns-clause-value c = names_by c.args.self.now (Cpu c.args.c) (λ h. least_to_age c.args.u.0 (list_in h (Queues c.args.c))) (λ s. next_to_age s c.args.c.0 c.args.u.0) c.next_to_age.result c.next_to_age.ensures (λ n s h sh e. aging_told c.args.self.now n s h sh c.args.c c.args.u.0 e)

pub returns-clause-lack : goal.returns-clause-lack
returns-clause-lack c = lacks_by c.args.self.now (Cpu c.args.c) (option_map number) (λ h. least_to_age c.args.u.0 (list_in h (Queues c.args.c))) (λ s. cpu_part c.args.c ∷ []) c.next_to_age.result c.next_to_age.ensures (λ n s sh. inl refl)

pub returns-clause-found : goal.returns-clause-found
returns-clause-found c = finds_by c.args.self.now (Cpu c.args.c) (λ h. least_to_age c.args.u.0 (list_in h (Queues c.args.c))) c.next_to_age.result c.next_to_age.ensures (λ h t e. aging_there (Queues c.args.c) c.args.u.0 h t e)
