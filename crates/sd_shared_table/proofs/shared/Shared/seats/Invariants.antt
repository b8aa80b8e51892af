use Rattle.std.proofs.Common.{◌≡◌, []}
use Rattle.sd_shared_rule.specs.declared.views.View.TheVariants.{Maker}
use Rattle.sd_shared_table.specs.Seats.{id_of, work_of}
use Rattle.sd_shared_table.proofs.OpeningLemmas.{Cut}
use Rattle.sd_shared_table.proofs.shared.Shared.seats.Given as goal

abbrev pub invariant-loop-c : goal.invariant-loop-c
invariant-loop-c l = (l.maker.table_id ≡ id_of l.self) × (l.maker.me ≡ (Maker l.c, [])) × Cut (work_of l.self) (id_of l.self) l.c l.seats.items
