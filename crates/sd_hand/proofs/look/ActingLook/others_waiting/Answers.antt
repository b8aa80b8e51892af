use Rattle.std.proofs.Common.{◌%◌, ◌++◌, [], ◌∷◌, inl, refl}
use Rattle.sd_types.specs.declared.numbers.HomeId.TheVariants.{Chain}
use Rattle.sd_types.specs.declared.numbers.Side.TheVariants.{Writer, Reader}
use Rattle.sd_boxq.specs.Order.{drop_id}
use Rattle.sd_turnstile.specs.Waiters.{highest}
use Rattle.sd_machine.specs.Locking.{others_waiting}
use Rattle.sd_store.specs.Parts.{chain_part}
use Rattle.sd_homes.specs.declared.list_id.ListId.TheVariants.{Waits}
use Rattle.sd_homes.specs.Standing.{id_of, rank_of}
use Rattle.sd_homes.specs.Families.{list_in}
use Rattle.sd_hand.proofs.ShownLemmas.{lacks_by, tells_by}
use Rattle.sd_hand.proofs.TellLemmas.{others_told}
use Rattle.sd_hand.proofs.look.ActingLook.others_waiting.Goals as goal

pub returns-clause-value : goal.returns-clause-value
returns-clause-value c = tells_by c.args.self.now (Chain (c.args.l.0 % 64)) (λ h. highest rank_of (drop_id id_of c.args.u.0 (list_in h (Waits c.args.l Writer)) ++ drop_id id_of c.args.u.0 (list_in h (Waits c.args.l Reader)))) (λ s. others_waiting s c.args.l c.args.u.0) c.greatest_but.result c.greatest_but.ensures (λ n s h sh e. others_told c.args.self.now n s h sh c.args.l c.args.u.0 e)

pub returns-clause-lack : goal.returns-clause-lack
returns-clause-lack c = lacks_by c.args.self.now (Chain (c.args.l.0 % 64)) (λ n. n) (λ h. highest rank_of (drop_id id_of c.args.u.0 (list_in h (Waits c.args.l Writer)) ++ drop_id id_of c.args.u.0 (list_in h (Waits c.args.l Reader)))) (λ s. chain_part c.args.l ∷ []) c.greatest_but.result c.greatest_but.ensures (λ n s sh. inl refl)
