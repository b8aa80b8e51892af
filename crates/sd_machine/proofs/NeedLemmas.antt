-- Where each need of one state is met in another, so are all that an event has; and where each has a reason to be met, all are met.
use Rattle.std.proofs.Common.{◌≡◌, true, List, [], ◌∷◌, Bool}
use Rattle.std.specs.Prelude.{⊤}
use Rattle.std.specs.List.{list_all}
use Rattle.std.proofs.lemmas.Bool.{and_parts}
use Rattle.sd_types.specs.declared.numbers.CpuId.{CpuId}
use Rattle.sd_types.specs.declared.events.Event.{Event}
use Rattle.sd_types.specs.declared.events.Event.TheVariants.{Tick}
use Rattle.sd_types.specs.declared.works.Work.{Work}
use Rattle.sd_state.specs.declared.states.State.{State}
use Rattle.sd_machine.specs.Needs.{Need, Met, AllMet, Needs, asks}

pub to_met : (w : Work) (s : State) (c : CpuId) (e : Event) → Needs w s c e → AllMet w s c (asks e)
to_met w s c (Tick t) n = n
to_met w s c _ n = n

pub from_met : (w : Work) (s : State) (c : CpuId) (e : Event) → AllMet w s c (asks e) → Needs w s c e
from_met w s c (Tick t) n = n
from_met w s c _ n = n

module _ (w : Work) (s x : State) (c : CpuId) (each : (a : Need) → Met w s c a → Met w x c a) where
  pub all_met : (needs : List Need) → AllMet w s c needs → AllMet w x c needs
  all_met [] n = tt
  all_met (a ∷ []) n = each a n
  all_met (a ∷ b ∷ []) n = (each a n.0, each b n.1)
  all_met (a ∷ b ∷ d ∷ []) n = (each a n.0, each b n.1, each d n.2)
  all_met (a ∷ b ∷ d ∷ e ∷ []) n = (each a n.0, each b n.1, each d n.2, each e n.3)
  all_met (a ∷ b ∷ d ∷ e ∷ f ∷ []) n = (each a n.0, each b n.1, each d n.2, each e n.3, each f n.4)
  all_met (a ∷ b ∷ d ∷ e ∷ f ∷ g ∷ rest) n = (each a n.0, each b n.1, each d n.2, each e n.3, each f n.4, all_met (g ∷ rest) n.5)

  pub needs_met : (e : Event) → Needs w s c e → Needs w x c e
  needs_met e n = from_met w x c e (all_met (asks e) (to_met w s c e n))

abbrev pub Each : (Need → Type 0) → List Need → Type 0
Each P [] = ⊤
Each P (a ∷ needs) = P a × Each P needs

-- each need of a kind is met for a reason that there is for it
module _ (w : Work) (s : State) (c : CpuId) (P : Need → Type 0) (kind : Need → Bool) (met : (a : Need) → kind a ≡ true → P a → Met w s c a) where
  each_met : (needs : List Need) → list_all kind needs ≡ true → Each P needs → Each (Met w s c) needs
  each_met [] is why = tt
  each_met (a ∷ needs) is why = let both = and_parts (kind a) (list_all kind needs) is in (met a both.0 why.0, each_met needs both.1 why.1)

  product : (needs : List Need) → Each (Met w s c) needs → AllMet w s c needs
  product [] n = tt
  product (a ∷ []) n = n.0
  product (a ∷ b ∷ []) n = (n.0, n.1.0)
  product (a ∷ b ∷ d ∷ []) n = (n.0, n.1.0, n.1.1.0)
  product (a ∷ b ∷ d ∷ e ∷ []) n = (n.0, n.1.0, n.1.1.0, n.1.1.1.0)
  product (a ∷ b ∷ d ∷ e ∷ f ∷ []) n = (n.0, n.1.0, n.1.1.0, n.1.1.1.0, n.1.1.1.1.0)
  product (a ∷ b ∷ d ∷ e ∷ f ∷ g ∷ rest) n = (n.0, n.1.0, n.1.1.0, n.1.1.1.0, n.1.1.1.1.0, product (g ∷ rest) n.1.1.1.1.1)

  pub met_by : (needs : List Need) → list_all kind needs ≡ true → Each P needs → AllMet w s c needs
  met_by needs is why = product needs (each_met needs is why)
