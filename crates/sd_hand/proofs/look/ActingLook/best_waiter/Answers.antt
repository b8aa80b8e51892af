use Rattle.std.proofs.Common.{◌%◌, [], ◌∷◌, option_map, slice_get, inl, refl}
use Rattle.sd_types.specs.declared.numbers.HomeId.TheVariants.{Chain}
use Rattle.sd_machine.specs.Threads.{best_waiter}
use Rattle.sd_store.specs.Parts.{chain_part, number}
use Rattle.sd_homes.specs.declared.list_id.ListId.TheVariants.{Waits}
use Rattle.sd_homes.specs.Standing.{id_of}
use Rattle.sd_homes.specs.Families.{list_in}
use Rattle.sd_hand.proofs.FoundLemmas.{first_there}
use Rattle.sd_hand.proofs.ShownLemmas.{finds_by, lacks_by, names_by}
use Rattle.sd_hand.proofs.TellLemmas.{waiter_told}
use Rattle.sd_hand.proofs.look.ActingLook.best_waiter.Goals as goal

pub returns-clause-value : goal.returns-clause-value
returns-clause-value c = names_by c.args.self.now (Chain (c.args.l.0 % 64)) (λ h. option_map id_of (slice_get (list_in h (Waits c.args.l c.args.side)) 0)) (λ s. best_waiter s c.args.l.0 c.args.side) c.first.result c.first.ensures (λ n s h sh e. waiter_told c.args.self.now n s h sh c.args.l c.args.side e)

pub returns-clause-lack : goal.returns-clause-lack
returns-clause-lack c = lacks_by c.args.self.now (Chain (c.args.l.0 % 64)) (option_map number) (λ h. option_map id_of (slice_get (list_in h (Waits c.args.l c.args.side)) 0)) (λ s. chain_part c.args.l ∷ []) c.first.result c.first.ensures (λ n s sh. inl refl)

pub returns-clause-found : goal.returns-clause-found
returns-clause-found c = finds_by c.args.self.now (Chain (c.args.l.0 % 64)) (λ h. option_map id_of (slice_get (list_in h (Waits c.args.l c.args.side)) 0)) c.first.result c.first.ensures (λ h t e. first_there (Waits c.args.l c.args.side) h t e)
