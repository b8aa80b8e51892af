-- What a caller without privilege is granted.
use Rattle.std.proofs.Common.{◌≡◌, ℕ, Bool, true, false, not, ◌&&◌, ◌||◌, nat_eq, cond, ℤ, pos, negsuc, ◌≤ℤ◌, Some, Ok, Err, IsErr, IfOk, refl, sym, ap, subst, arith}
use Rattle.std.specs.Prelude.{int_le, int_lt}
use Rattle.std.proofs.lemmas.Int.{ints}
use Rattle.std.proofs.lemmas.Bool.Decides.{nat_tests}
use Rattle.sd_basics.proofs.Truths.{or_or_not}
use Rattle.sd_types.specs.declared.classes.Class.{Class}
use Rattle.sd_types.specs.declared.classes.Class.TheVariants as class
use Rattle.sd_types.specs.declared.classes.ClassParms.{ClassParms}
use Rattle.sd_types.specs.declared.events.Denied.TheVariants.{EINVAL, EPERM}
use Rattle.sd_types.specs.declared.scripts.Request.{Request}
use Rattle.sd_types.specs.Priorities.{at_least_zero}
use Rattle.sd_rules.specs.Priocntl.{is_sys, is_rt, class_of_parms, limit_of_parms, greatest_limit, numbers_fit, is_invalid, is_forbidden, new_parms, judged}

refused : (a b : Bool) (p : ClassParms) → b ≡ true → IsErr (cond a (Err EINVAL) (cond b (Err EPERM) (Ok p)))
refused true b p h = refl
refused false true p h = refl
refused false false p h = cc

forbidden : (a b c d : Bool) → (b ≡ true → (a || b || c || d) ≡ true) × (c ≡ true → (a || b || c || d) ≡ true)
forbidden true b c d = (λ h. refl, λ h. refl)
forbidden false true c d = (λ h. refl, λ h. refl)
forbidden false false true d = (λ h. refl, λ h. refl)
forbidden false false false d = (λ h. cc, λ h. cc)

pub real_time : (uid owner : ℕ) (target : ClassParms) (r : Request) → class_of_parms target ≡ class.Rt → IsErr (judged uid false (Some (owner, target)) r)
unfolding judged is_forbidden
real_time uid owner target r h =
    refused (is_invalid target r) _ (new_parms r.class r)
    ((forbidden (not (nat_eq uid owner)) (is_rt r.class) (is_rt (class_of_parms target)) (int_lt (greatest_limit target r.class) r.limit)).1 (ap is_rt h))

pub no_real_time : (uid owner : ℕ) (target : ClassParms) (r : Request) → r.class ≡ class.Rt → IsErr (judged uid false (Some (owner, target)) r)
unfolding judged is_forbidden
no_real_time uid owner target r h =
    refused (is_invalid target r) _ (new_parms r.class r)
    ((forbidden (not (nat_eq uid owner)) (is_rt r.class) (is_rt (class_of_parms target)) (int_lt (greatest_limit target r.class) r.limit)).0 (ap is_rt h))

granted : (a b : Bool) (p : ClassParms) (P : ClassParms → Type 0) → (a ≡ false → b ≡ false → P p) → IfOk (cond a (Err EINVAL) (cond b (Err EPERM) (Ok p))) P
granted true b p P h = tt
granted false true p P h = tt
granted false false p P h = h refl refl

none_of : (a b c d : Bool) → (a || b || c || d) ≡ false → (a ≡ false) × (b ≡ false) × (c ≡ false) × (d ≡ false)
none_of true b c d h = cc
none_of false true c d h = cc
none_of false false true d h = cc
none_of false false false d h = (refl, refl, refl, h)

same_user : (uid owner : ℕ) → not (nat_eq uid owner) ≡ false → uid ≡ owner
same_user uid owner h = grind (arith, nat_tests)

pub own : (uid owner : ℕ) (target : ClassParms) (r : Request) → IfOk (judged uid false (Some (owner, target)) r) (λ p. uid ≡ owner)
unfolding judged is_forbidden
own uid owner target r =
    granted (is_invalid target r) _ (new_parms r.class r) (λ p. uid ≡ owner) (λ valid allowed.
    same_user uid owner ((none_of (not (nat_eq uid owner)) (is_rt r.class) (is_rt (class_of_parms target)) (int_lt (greatest_limit target r.class) r.limit) allowed).0))

under : (z limit : ℤ) → int_lt z limit ≡ false → limit ≤ℤ z
under z limit h = grind (arith, ints)

not_negative : (z : ℤ) (a b : Bool) → ((int_le (pos 0) z && a) && b) ≡ true → pos (at_least_zero z) ≡ z
not_negative (pos n) a b h = refl
not_negative (negsuc n) a b h = cc

not_raised : (c : Class) (target : ClassParms) (r : Request) → numbers_fit c r.limit r.pri ≡ true → is_sys c ≡ false → is_rt c ≡ false
    → int_lt (greatest_limit target c) r.limit ≡ false → limit_of_parms (new_parms c r) ≤ℤ greatest_limit target (class_of_parms (new_parms c r))
unfolding new_parms
not_raised class.Ts target r fit sys rt h = under _ r.limit h
not_raised class.Fx target r fit sys rt h =
    subst (λ (z : ℤ). z ≤ℤ greatest_limit target class.Fx) (sym (not_negative r.limit _ _ fit)) (under _ r.limit h)
not_raised class.Sys target r fit sys rt h = cc
not_raised class.Rt target r fit sys rt h = cc

pub limit : (uid owner : ℕ) (target : ClassParms) (r : Request)
    → IfOk (judged uid false (Some (owner, target)) r) (λ p. limit_of_parms p ≤ℤ greatest_limit target (class_of_parms p))
unfolding judged is_forbidden is_invalid
limit uid owner target r =
    granted (is_sys r.class || is_sys (class_of_parms target) || not (numbers_fit r.class r.limit r.pri)) _ (new_parms r.class r)
    (λ p. limit_of_parms p ≤ℤ greatest_limit target (class_of_parms p)) (λ valid allowed.
    let v = or_or_not (is_sys r.class) (is_sys (class_of_parms target)) (numbers_fit r.class r.limit r.pri) valid in
    let a = none_of (not (nat_eq uid owner)) (is_rt r.class) (is_rt (class_of_parms target)) (int_lt (greatest_limit target r.class) r.limit) allowed in
    not_raised r.class target r v.1 v.0 a.1 a.3)
