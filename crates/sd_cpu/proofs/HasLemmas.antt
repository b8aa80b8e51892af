-- Parts one after another.
use Rattle.std.proofs.Common.{◌≡◌, true, false, List, [], ◌∷◌, ◌++◌, Option, Some, None, Result, Ok, Err, refl, sym, ap, ◌∙◌, inl, inr}
use Rattle.std.proofs.lemmas.Bool.{eq-eqb, false≢true}
use Rattle.sd_types.specs.declared.numbers.CpuId.{CpuId}
use Rattle.sd_types.specs.declared.numbers.ThreadId.{ThreadId}
use Rattle.sd_types.specs.declared.events.Put.{Put}
use Rattle.sd_types.specs.declared.works.Work.{Work}
use Rattle.sd_state.specs.declared.states.Place.{Place}
use Rattle.sd_state.specs.declared.states.Place.TheVariants as place
use Rattle.sd_state.specs.declared.states.State.{State}
use Rattle.sd_store.specs.declared.parts.Part.{Part}
use Rattle.sd_store.specs.Keyless.{spot_of}
use Rattle.sd_store.specs.Parts.{IsAmong, actor_part, bound_parts, ready_parts, thread_part}
use Rattle.sd_dispatcher.specs.Touched.{put_parts_if, reordered_parts}
use Rattle.sd_priocntl.specs.SetsTouched.{runs_parts}
use Rattle.sd_hand.specs.declared.acting.Acting.{Acting}
use Rattle.sd_hand.specs.Acting.{has_part}
use Rattle.sd_cpu.specs.Has.{Has, HasAll, running_cpu}
use Rattle.sd_store.proofs.Among.{among_right, among_left}

module _ (x : Acting) where
  pub also : (r : Result Unit Part) (p : Part) (ps : List Part) → has_part x p ≡ true → Has x r ps → Has x r (p ∷ ps)
  also (Ok u) p ps here all = (here, all)
  also (Err q) p ps here all = (inr all.0, all.1)

  joined : (ps qs : List Part) → HasAll x ps → HasAll x qs → HasAll x (ps ++ qs)
  joined [] qs a b = b
  joined (p ∷ ps) qs a b = (a.0, joined ps qs a.1 b)

  pub also_all : (r : Result Unit Part) (ps qs : List Part) → HasAll x ps → Has x r qs → Has x r (ps ++ qs)
  also_all (Ok u) ps qs a b = joined ps qs a b
  also_all (Err q) ps qs a b = (among_right q ps qs b.0, b.1)

  pub lacks_first : (q : Part) (ps qs : List Part) → Has x (Err q) ps → Has x (Err q) (ps ++ qs)
  lacks_first q ps qs a = (among_left q ps qs a.0, a.1)

  -- the acting processor's count and duty
  pub own : (c : CpuId) → c ≡ x.actor.cpu → has_part x (actor_part c) ≡ true
  own c e = eq-eqb c.0 x.actor.cpu.0 (ap (λ (z : CpuId). z.0) e)

-- by where a thread runs
pub reordered_is : (w : Work) (s : State) (t : ThreadId) (at : Option Put) (p : Place) (d : CpuId) → Some d ≡ running_cpu (spot_of p) → reordered_parts w s t at p ≡ thread_part t ∷ ready_parts s d
reordered_is w s t at (place.Running c) d e = ap (λ z. thread_part t ∷ ready_parts s z) (let z : c ≡ d = cc in z)
reordered_is w s t at p d e = cc

pub reordered_not : (w : Work) (s : State) (t : ThreadId) (at : Option Put) (p : Place) → None ≡ running_cpu (spot_of p) → reordered_parts w s t at p ≡ thread_part t ∷ put_parts_if w t at
reordered_not w s t at (place.Running c) e = cc
reordered_not w s t at p e = refl

pub runs_is : (p : Place) (o : Option CpuId) → o ≡ running_cpu (spot_of p) → runs_parts p ≡ bound_parts o
runs_is (place.Running c) o e = ap bound_parts (sym e)
runs_is p o e = ap bound_parts (sym e)

-- nothing is lacking but what is not there
pub no_lack : (x : Acting) (q p : Part) → IsAmong q (p ∷ []) → has_part x q ≡ false → has_part x p ≡ true → ⊥
no_lack x q p (inl is) lacks here = false≢true (sym lacks ∙ (ap (has_part x) is ∙ here))
no_lack x q p (inr none) lacks here = none
