use Rattle.std.proofs.Common.{◌%◌, [], ◌∷◌, option_map, slice_get, inl, refl}
use Rattle.sd_types.specs.declared.numbers.HomeId.TheVariants.{Sleepers}
use Rattle.sd_machine.specs.Threads.{best_sleeper}
use Rattle.sd_store.specs.Parts.{number, sleepers_part}
use Rattle.sd_homes.specs.declared.list_id.ListId.TheVariants.{Sleeps}
use Rattle.sd_homes.specs.Standing.{id_of}
use Rattle.sd_homes.specs.Families.{list_in}
use Rattle.sd_hand.proofs.FoundLemmas.{first_there}
use Rattle.sd_hand.proofs.ShownLemmas.{finds_by, lacks_by, names_by}
use Rattle.sd_hand.proofs.TellLemmas.{sleeper_told}
use Rattle.sd_hand.proofs.look.ActingLook.best_sleeper.Goals as goal

pub returns-clause-value : goal.returns-clause-value
returns-clause-value c = names_by c.args.self.now (Sleepers (c.args.k.0 % 64)) (λ h. option_map id_of (slice_get (list_in h (Sleeps c.args.k)) 0)) (λ s. best_sleeper s c.args.k.0) c.first.result c.first.ensures (λ n s h sh e. sleeper_told c.args.self.now n s h sh c.args.k e)

pub returns-clause-lack : goal.returns-clause-lack
returns-clause-lack c = lacks_by c.args.self.now (Sleepers (c.args.k.0 % 64)) (option_map number) (λ h. option_map id_of (slice_get (list_in h (Sleeps c.args.k)) 0)) (λ s. sleepers_part c.args.k ∷ []) c.first.result c.first.ensures (λ n s sh. inl refl)

pub returns-clause-found : goal.returns-clause-found
returns-clause-found c = finds_by c.args.self.now (Sleepers (c.args.k.0 % 64)) (λ h. option_map id_of (slice_get (list_in h (Sleeps c.args.k)) 0)) c.first.result c.first.ensures (λ h t e. first_there (Sleeps c.args.k) h t e)
