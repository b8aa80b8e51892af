use Rattle.std.proofs.Common.{◌≡◌, Option, Some, None, is_some, true, refl, sym, ap, ◌∙◌}
use Rattle.sd_types.specs.declared.numbers.HomeId.TheVariants.{Cpu}
use Rattle.sd_store.specs.declared.parts.CpuView.{CpuView}
use Rattle.sd_homes.specs.Families.{view_in}
use Rattle.sd_hand.proofs.SlotLemmas.{held_id}
use Rattle.sd_hand.proofs.TellLemmas.{has_view}
use Rattle.sd_hand.proofs.hand.Hand.view.Goals as goal

there : (o : Option CpuView) → (o ≡ None → ⊥) → is_some o ≡ true
there None never = absurd (never refl)
there (Some v) never = refl

pub known-requires : goal.known-requires
known-requires c =
    let a = c.in-Ok.ensures in
    c.is_some.ensures
    ∙ there c.view-view.result (λ none. has_view c.args.c a.0 (held_id (Cpu c.args.c) a.0 c.args.self.now.slots a.1) (ap view_in (sym a.2) ∙ sym c.view-view.ensures ∙ none))

pub unreachable-requires : goal.unreachable-requires
unreachable-requires c =
    let a = c.in-Ok.ensures in
    has_view c.args.c a.0 (held_id (Cpu c.args.c) a.0 c.args.self.now.slots a.1) (ap view_in (sym a.2) ∙ sym c.view-view.ensures ∙ c.in-None.is)
