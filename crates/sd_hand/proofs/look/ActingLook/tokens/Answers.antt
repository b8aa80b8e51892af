use Rattle.std.proofs.Common.{◌%◌, [], ◌∷◌, inl, refl}
use Rattle.sd_types.specs.declared.numbers.HomeId.TheVariants.{Sleepers}
use Rattle.sd_machine.specs.Threads.{count_of}
use Rattle.sd_store.specs.Parts.{sleepers_part}
use Rattle.sd_homes.specs.Families.{tokens_in}
use Rattle.sd_hand.proofs.ShownLemmas.{lacks_by, tells_by}
use Rattle.sd_hand.proofs.TellLemmas.{tokens_told}
use Rattle.sd_hand.proofs.look.ActingLook.tokens.Goals as goal

pub returns-clause-value : goal.returns-clause-value
returns-clause-value c = tells_by c.args.self.now (Sleepers (c.args.k.0 % 64)) (tokens_in c.args.k.0) (λ s. count_of s c.args.k.0) c.tokens.result c.tokens.ensures (λ n s h sh e. tokens_told c.args.self.now n s h sh c.args.k e)

pub returns-clause-lack : goal.returns-clause-lack
returns-clause-lack c = lacks_by c.args.self.now (Sleepers (c.args.k.0 % 64)) (λ n. n) (tokens_in c.args.k.0) (λ s. sleepers_part c.args.k ∷ []) c.tokens.result c.tokens.ensures (λ n s sh. inl refl)
