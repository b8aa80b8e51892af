-- In every state of every run inherited priorities are sound and effective ones are below 160.
use Rattle.std.proofs.Common.{◌≡◌, ℕ, true, ◌&&◌, refl, arith}
use Rattle.std.specs.Prelude.{nat_le, ◌==◌}
use Rattle.std.proofs.lemmas.Bool.Decides.{nat_tests}
use Rattle.sd_basics.proofs.Truths.{and_left, and_right}
use Rattle.sd_types.specs.declared.classes.ClassParms.{ClassParms}
use Rattle.sd_types.specs.declared.classes.ClassParms.TheVariants as parms
use Rattle.sd_types.specs.declared.works.ThreadDecl.{ThreadDecl}
use Rattle.sd_types.specs.declared.works.Work.{Work}
use Rattle.sd_types.specs.Works.{class_fits, quantum_fits}
use Rattle.sd_state.specs.States.{thread_of, no_thread}
use Rattle.sd_state.specs.Opening.{first_class, first_thread, opening}
use Rattle.sd_invariants.specs.Laws.{HoldsWhenReached, AreSound}
use Rattle.sd_invariants.proofs.BaseLemmas.{IsBelow, tick_below, wake_below, age_below, requeue_below, new_below}
use Rattle.sd_frames.proofs.ClassTable.{IsClosed, after_fit}
use Rattle.sd_invariants.proofs.NumberLemmas.{IsFine, AreFine, fine_eff, after_sound}
use Rattle.sd_invariants.proofs.Ready.{IsKept, kept_reached}
use Rattle.sd_state.proofs.Declared.{decl_class_fits, opening_each}

first_below : (w : Work) (p : ClassParms) (level : ℕ) → class_fits p level ≡ true → IsBelow (first_class w p level)
first_below w (parms.Ts limit upri) level fits = omega arith
first_below w (parms.Fx limit pri quantum) level fits =
    let both : (nat_le limit 60 && nat_le pri limit) ≡ true = and_left _ (quantum_fits quantum) (and_left _ (level == 0) fits) in
    let a : nat_le limit 60 ≡ true = and_left _ (nat_le pri limit) both in
    let b : nat_le pri limit ≡ true = and_right (nat_le limit 60) _ both in
    grind (arith, nat_tests)
first_below w (parms.Sys pri) level fits =
    let both : (nat_le 60 pri && nat_le pri 99) ≡ true = and_left _ (level == 0) fits in
    let b : nat_le pri 99 ≡ true = and_right (nat_le 60 pri) _ both in
    grind (arith, nat_tests)
first_below w (parms.Rt pri quantum) level fits =
    let both : (nat_le pri 59 && quantum_fits quantum) ≡ true = and_left _ (level == 0) fits in
    let b : nat_le pri 59 ≡ true = and_left _ (quantum_fits quantum) both in
    grind (arith, nat_tests)

first_fine : (w : Work) (t : ℕ) (d : ThreadDecl) → class_fits d.class d.cpupri ≡ true → IsFine (first_thread w t d)
unfolding first_thread
first_fine w t d fits = record {
  sound = record { below = refl; apart = refl; owned = refl; held_once = refl };
  base = first_below w d.class d.cpupri fits;
}

nobody_fine : IsFine no_thread
nobody_fine = record { sound = record { below = refl; apart = refl; owned = refl; held_once = refl }; base = omega arith }

opening_fine : (w : Work) → AreFine (opening w)
opening_fine w t = opening_each w t IsFine nobody_fine (λ d is. first_fine w t d (decl_class_fits w t d is))

classes : (w : Work) → IsClosed IsBelow w
classes w = record {
  ticks = tick_below w;
  wakes = wake_below w;
  ages = age_below w;
  requeues = requeue_below;
  enters = λ s t u r p e. new_below w s t u r p e;
}

pub fine_kept : IsKept (λ w n s. AreFine s)
fine_kept = record {
  start = opening_fine;
  step = λ w s n c e ready cause fine t. record { sound = after_sound w s n c ready fine e cause t; base = (after_fit IsBelow w (classes w) s n c e).each t (fine t).base };
}

pub fine_reached : HoldsWhenReached (λ w s. AreFine s)
fine_reached = kept_reached (λ w s. AreFine s) fine_kept

pub sound_law : HoldsWhenReached (λ w s. AreSound s)
sound_law w n s reached = λ t. let fine = fine_reached w n s reached t in (fine.sound, fine_eff (thread_of s t) fine)
