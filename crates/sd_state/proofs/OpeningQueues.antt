-- In the initial state threads are queued by their priority.
use Rattle.std.proofs.Common.{◌≡◌, ℕ, Bool, true, false, cond, leb, None, pos, refl, sym, inl}
use Rattle.std.proofs.lemmas.Bool.{leb-true, leb-false}
use Rattle.sd_types.specs.declared.works.ThreadDecl.{ThreadDecl}
use Rattle.sd_types.specs.declared.works.Work.{Work}
use Rattle.sd_types.specs.Priorities.{eff, base_of}
use Rattle.sd_types.specs.Works.{class_fits}
use Rattle.sd_state.specs.declared.states.Place.TheVariants.{Queued, RealTime}
use Rattle.sd_state.specs.States.{thread_of, eff_of}
use Rattle.sd_state.specs.Opening.{opening, first_thread, first_cpu, is_urgent, class_of}
use Rattle.sd_state.specs.Invariants.{SuitsQueue}
use Rattle.sd_state.proofs.Chosen.{places}
use Rattle.sd_state.proofs.ClassLemmas.{urgent_law}
use Rattle.sd_state.proofs.Declared.{decl_class_fits, opening_each}

first_suits : (w : Work) (t : ℕ) (d : ThreadDecl) → class_fits d.class d.cpupri ≡ true → SuitsQueue (eff (first_thread w t d).body) (first_thread w t d).body.bound (first_thread w t d).place
unfolding first_thread
first_suits w t d fits = by (is_urgent d) (urgent_law w d fits)
  where
    by : (v : Bool) → v ≡ leb 100 (base_of (class_of w d)) → SuitsQueue (base_of (class_of w d)) None (cond v (RealTime d.set (pos t)) (Queued (first_cpu w t d) (pos t)))
    by true e = (leb-true 100 (base_of (class_of w d)) (sym e), refl)
    by false e = inl (leb-false 100 (base_of (class_of w d)) (sym e))

-- a thread of the initial state is queued as its priority asks
pub opening_suits : (w : Work) (t : ℕ) → SuitsQueue (eff_of (opening w) t) (thread_of (opening w) t).body.bound (places (opening w) t)
opening_suits w t = opening_each w t (λ x. SuitsQueue (eff x.body) x.body.bound x.place) tt (λ d is. first_suits w t d (decl_class_fits w t d is))
