use Rattle.std.proofs.Common.{[], ◌∷◌, option_map, slice_get, inl, refl}
use Rattle.sd_types.specs.declared.numbers.HomeId.TheVariants.{Cpu}
use Rattle.sd_machine.specs.Threads.{best_queued}
use Rattle.sd_store.specs.Parts.{cpu_part, number}
use Rattle.sd_homes.specs.declared.list_id.ListId.TheVariants.{Queues}
use Rattle.sd_homes.specs.Standing.{id_of}
use Rattle.sd_homes.specs.Families.{list_in}
use Rattle.sd_hand.proofs.FoundLemmas.{first_there}
use Rattle.sd_hand.proofs.ShownLemmas.{finds_by, lacks_by, names_by}
use Rattle.sd_hand.proofs.TellLemmas.{queued_told}
use Rattle.sd_hand.proofs.look.ActingLook.best_queued.Goals as goal

pub returns-clause-value : goal.returns-clause-value
returns-clause-value c = names_by c.args.self.now (Cpu c.args.c) (λ h. option_map id_of (slice_get (list_in h (Queues c.args.c)) 0)) (λ s. best_queued s c.args.c.0) c.first.result c.first.ensures (λ n s h sh e. queued_told c.args.self.now n s h sh c.args.c e)

pub returns-clause-lack : goal.returns-clause-lack
returns-clause-lack c = lacks_by c.args.self.now (Cpu c.args.c) (option_map number) (λ h. option_map id_of (slice_get (list_in h (Queues c.args.c)) 0)) (λ s. cpu_part c.args.c ∷ []) c.first.result c.first.ensures (λ n s sh. inl refl)

pub returns-clause-found : goal.returns-clause-found
returns-clause-found c = finds_by c.args.self.now (Cpu c.args.c) (λ h. option_map id_of (slice_get (list_in h (Queues c.args.c)) 0)) c.first.result c.first.ensures (λ h t e. first_there (Queues c.args.c) h t e)
