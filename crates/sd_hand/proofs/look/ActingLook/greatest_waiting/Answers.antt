use Rattle.std.proofs.Common.{◌%◌, ◌++◌, [], ◌∷◌, inl, refl}
use Rattle.sd_types.specs.declared.numbers.HomeId.TheVariants.{Chain}
use Rattle.sd_types.specs.declared.numbers.Side.TheVariants.{Writer, Reader}
use Rattle.sd_turnstile.specs.Waiters.{highest}
use Rattle.sd_machine.specs.Threads.{greatest_waiting}
use Rattle.sd_store.specs.Parts.{chain_part}
use Rattle.sd_homes.specs.declared.list_id.ListId.TheVariants.{Waits}
use Rattle.sd_homes.specs.Standing.{rank_of}
use Rattle.sd_homes.specs.Families.{list_in}
use Rattle.sd_hand.proofs.ShownLemmas.{lacks_by, tells_by}
use Rattle.sd_hand.proofs.TellLemmas.{greatest_told}
use Rattle.sd_hand.proofs.look.ActingLook.greatest_waiting.Goals as goal

pub returns-clause-value : goal.returns-clause-value
returns-clause-value c = tells_by c.args.self.now (Chain (c.args.l.0 % 64)) (λ h. highest rank_of (list_in h (Waits c.args.l Writer) ++ list_in h (Waits c.args.l Reader))) (λ s. greatest_waiting c.args.l.0 s.threads) c.greatest.result c.greatest.ensures (λ n s h sh e. greatest_told c.args.self.now n s h sh c.args.l e)

pub returns-clause-lack : goal.returns-clause-lack
returns-clause-lack c = lacks_by c.args.self.now (Chain (c.args.l.0 % 64)) (λ n. n) (λ h. highest rank_of (list_in h (Waits c.args.l Writer) ++ list_in h (Waits c.args.l Reader))) (λ s. chain_part c.args.l ∷ []) c.greatest.result c.greatest.ensures (λ n s sh. inl refl)
