use Rattle.std.proofs.Common.{◌%◌, [], ◌∷◌, inl, refl}
use Rattle.sd_types.specs.declared.numbers.HomeId.TheVariants.{Chain}
use Rattle.sd_machine.specs.Threads.{lock_of}
use Rattle.sd_store.specs.Parts.{chain_part}
use Rattle.sd_homes.specs.Families.{lock_in}
use Rattle.sd_hand.proofs.ShownLemmas.{lacks_by, tells_by}
use Rattle.sd_hand.proofs.TellLemmas.{lock_told}
use Rattle.sd_hand.proofs.look.ActingLook.lock.Goals as goal

pub returns-clause-value : goal.returns-clause-value
returns-clause-value c = tells_by c.args.self.now (Chain (c.args.l.0 % 64)) (lock_in c.args.l.0) (λ s. lock_of s c.args.l.0) c.lock.result c.lock.ensures (λ n s h sh e. lock_told c.args.self.now n s h sh c.args.l e)

pub returns-clause-lack : goal.returns-clause-lack
returns-clause-lack c = lacks_by c.args.self.now (Chain (c.args.l.0 % 64)) (λ n. n) (lock_in c.args.l.0) (λ s. chain_part c.args.l ∷ []) c.lock.result c.lock.ensures (λ n s sh. inl refl)
