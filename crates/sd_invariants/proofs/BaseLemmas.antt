-- Base priorities are below 160, whatever a class makes of a thread.
use Rattle.std.proofs.Common.{◌≡◌, ℕ, ◌+◌, ◌<◌, ◌≤◌, Bool, true, false, not, ◌&&◌, ◌||◌, cond, ℤ, pos, negsuc, Option, Some, None, refl, subst, arith}
use Rattle.std.specs.Prelude.{⊤, Ok, Err, int_le}
use Rattle.std.proofs.lemmas.Int.{ints}
use Rattle.sd_basics.proofs.Truths.{and_left, and_right, or_or_not}
use Rattle.sd_types.specs.declared.classes.Class.{Class}
use Rattle.sd_types.specs.declared.classes.Class.TheVariants as class
use Rattle.sd_types.specs.declared.classes.ClassParms.{ClassParms}
use Rattle.sd_types.specs.declared.classes.ClassParms.TheVariants as parms
use Rattle.sd_types.specs.declared.classes.ClassState.{ClassState}
use Rattle.sd_types.specs.declared.classes.ClassState.TheVariants.{Ts, Fx, Sys, Rt}
use Rattle.sd_types.specs.declared.events.Denied.TheVariants.{EINVAL, EPERM}
use Rattle.sd_types.specs.declared.scripts.Request.{Request}
use Rattle.sd_types.specs.declared.works.Work.{Work}
use Rattle.sd_types.specs.Priorities.{base_of, at_least_zero}
use Rattle.sd_rules.specs.ClassRules.{fx_tick, fx_wake, rt_tick, rt_wake, class_requeue}
use Rattle.sd_rules.specs.Priocntl.{is_sys, class_of_parms, from_zero_to, numbers_fit, is_invalid, is_forbidden, lowered, new_parms, judged, entered}
use Rattle.sd_state.specs.declared.states.State.{State}
use Rattle.sd_machine.specs.Bodies.{ticked_class, woken_class, aged_class}
use Rattle.sd_machine.specs.Prioritising.{answer_to, new_class, target_of, uid_of, is_privileged}

abbrev pub IsBelow : ClassState → Type 0
IsBelow k = base_of k < 160

pub tick_below : (w : Work) (k : ClassState) → IsBelow k → IsBelow (ticked_class w k)
unfolding fx_tick rt_tick
tick_below w (Ts s) h = omega arith
tick_below w (Fx s) h = h
tick_below w (Sys s) h = h
tick_below w (Rt s) h = h

pub wake_below : (w : Work) (k : ClassState) → IsBelow k → IsBelow (woken_class w k)
unfolding fx_wake rt_wake
wake_below w (Ts s) h = omega arith
wake_below w (Fx s) h = h
wake_below w (Sys s) h = h
wake_below w (Rt s) h = h

pub age_below : (w : Work) (k : ClassState) → IsBelow k → IsBelow (aged_class w k)
age_below w (Ts s) h = omega arith
age_below w (Fx s) h = h
age_below w (Sys s) h = h
age_below w (Rt s) h = h

pub requeue_below : (b : Bool) (k : ClassState) → IsBelow k → IsBelow (class_requeue b k)
requeue_below b (Ts s) h = omega arith
requeue_below b (Fx s) h = h
requeue_below b (Sys s) h = h
requeue_below b (Rt s) h = h

-- What priocntl grants.

abbrev AreBelow : ClassParms → Type 0
AreBelow (parms.Ts limit upri) = ⊤
AreBelow (parms.Fx limit pri quantum) = pri < 160
AreBelow (parms.Sys pri) = pri < 160
AreBelow (parms.Rt pri quantum) = 100 + pri < 160

not_more : (z : ℤ) (n : ℕ) → int_le z (pos n) ≡ true → at_least_zero z ≤ n
not_more (pos m) n e = grind (arith, ints)
not_more (negsuc m) n e = omega arith

fits_up : (n : ℕ) (z : ℤ) → from_zero_to n z ≡ true → at_least_zero z ≤ n
fits_up n z e = not_more z n (and_right (int_le (pos 0) z) (int_le z (pos n)) e)

lowered_up : (n : ℕ) (limit pri : ℤ) → at_least_zero limit ≤ n → at_least_zero pri ≤ n → at_least_zero (lowered limit pri) ≤ n
lowered_up n limit pri a b = elim (int_le pri limit) as (λ v. at_least_zero (cond v pri limit) ≤ n) [ true ↦ b | false ↦ a ]

asked_below : (c : Class) (r : Request) → is_sys c ≡ false → numbers_fit c r.limit r.pri ≡ true → AreBelow (new_parms c r)
unfolding new_parms
asked_below class.Ts r a e = tt
asked_below class.Fx r a e =
    let limit = fits_up 60 r.limit (and_left _ (from_zero_to 60 r.pri) e) in
    let pri = fits_up 60 r.pri (and_right (from_zero_to 60 r.limit) _ e) in
    let both = lowered_up 60 r.limit r.pri limit pri in
    omega arith
asked_below class.Sys r a e = cc
asked_below class.Rt r a e = let pri = fits_up 59 r.pri e in omega arith

granted : (a b : Bool) (p q : ClassParms) → cond a (Err EINVAL) (cond b (Err EPERM) (Ok q)) ≡ Ok p → (a ≡ false) × (q ≡ p)
granted true b p q e = cc
granted false true p q e = cc
granted false false p q e = (refl, cc)

judged_below : (uid : ℕ) (privileged : Bool) (target : Option (ℕ × ClassParms)) (r : Request) (p : ClassParms) → judged uid privileged target r ≡ Ok p → AreBelow p
unfolding judged is_invalid
judged_below uid privileged None r p e = cc
judged_below uid privileged (Some target) r p e =
    let (valid, is) = granted (is_sys r.class || is_sys (class_of_parms target.1) || not (numbers_fit r.class r.limit r.pri)) (not privileged && is_forbidden uid target.0 target.1 r) p (new_parms r.class r) e in
    let (class_ok, fits) = or_or_not (is_sys r.class) (is_sys (class_of_parms target.1)) (numbers_fit r.class r.limit r.pri) valid in
    subst AreBelow is (asked_below r.class r class_ok fits)

entered_below : (w : Work) (p : ClassParms) (old : ClassState) → AreBelow p → IsBelow (entered w.ts w.fx w.rt p old)
unfolding entered
entered_below w (parms.Ts limit upri) old h = omega arith
entered_below w (parms.Fx limit pri quantum) old h = h
entered_below w (parms.Sys pri) old h = h
entered_below w (parms.Rt pri quantum) old h = h

pub new_below : (w : Work) (s : State) (t u : ℕ) (r : Request) (p : ClassParms) → answer_to w s t u r ≡ Ok p → IsBelow (new_class w s u p)
new_below w s t u r p e = entered_below w p _ (judged_below (uid_of w t) (is_privileged w t) (target_of w s u) r p e)
