use Rattle.std.proofs.Common.{◌≡◌, ℕ, [], refl, arith}
use Rattle.atomic_table.specs.Table.{Me}
use Rattle.sd_shared_rule.specs.declared.views.View.{View}
use Rattle.sd_shared_rule.specs.declared.views.View.TheVariants.{Gathers}
use Rattle.sd_shared_rule.specs.Plays.{Slot}
use Rattle.sd_shared_rule.proofs.Making.{sits}
use Rattle.sd_shared_table.proofs.shared.Shared.sit.Goals as goal

abbrev sat : ℕ → View → Type 0
sat n v = ◌≡◌ {A = Me Slot View} (v, []) (Gathers [], [])

pub load_new_seat-requires : goal.load_new_seat-requires
load_new_seat-requires c =
    let s = c.args.self.now in
    let words = s.words in
    ((omega (arith, words)), sits s.table.shared.key s.table.shared.table_id.slots 0 sat (λ n. refl))
