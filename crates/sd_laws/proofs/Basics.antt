-- Small facts on numbers, tests, options and places.
use Rattle.std.proofs.Common.{◌≡◌, ℕ, true, false, Option, Some, None, is_none, refl, sym, ◌∙◌}
use Rattle.std.proofs.lemmas.Bool.{eqb-true}
use Rattle.sd_state.specs.declared.states.Place.{Place}
use Rattle.sd_state.specs.declared.states.Place.TheVariants.{Running, Queued}
use Rattle.sd_state.specs.States.{is_running, is_queued}
use Rattle.sd_invariants.specs.Laws.{is_runnable}

pub none_of : {X : Type 0} (o : Option X) → is_none o ≡ true → o ≡ None
none_of None e = refl
none_of (Some x) e = cc

-- Places.

-- a thread runs on one processor
pub runs_one : (p : Place) (c d : ℕ) → is_running c p ≡ true → is_running d p ≡ true → d ≡ c
runs_one (Running k) c d a b = sym (eqb-true k.0 d b) ∙ eqb-true k.0 c a
runs_one p c d a b = cc

pub running_rests : (c : ℕ) (p : Place) → is_running c p ≡ true → is_runnable p ≡ false
running_rests c (Running d) e = refl
running_rests c p e = cc

pub queued_runnable : (d : ℕ) (p : Place) → is_queued d p ≡ true → is_runnable p ≡ true
queued_runnable d (Queued c k) e = refl
queued_runnable d p e = cc
