-- What the numbers of inherited priorities keep when one is set or removed, or a lock is taken or released.
use Rattle.std.proofs.Common.{◌≡◌, ℕ, zero, suc, ◌<◌, ◌≤◌, Bool, true, false, not, List, [], ◌∷◌, ◌++◌, length, filter, get_or, take, drop, Some, None, inl, inr, refl, sym, ap, ◌∙◌, subst, arith, max, nat_lt, drop-cons}
use Rattle.std.specs.List.{list_any, list_all, refill}
use Rattle.std.proofs.Math.ListN.{set, length-set}
use Rattle.std.proofs.lemmas.List.{take-append-le, take_all}
use Rattle.std.proofs.lemmas.Bool.{eq-eqb, false≢true, cases_Bool}
use Rattle.std.proofs.lemmas.Bool.Decides.{nat_tests}
use Rattle.std.proofs.lemmas.Option.{none-some}
use Rattle.sd_types.specs.declared.numbers.LockId.{LockId}
use Rattle.sd_types.specs.declared.bodies.ThreadBody.{ThreadBody}
use Rattle.sd_types.specs.Scripts.{is_lock, is_held, without_lock}
use Rattle.sd_types.specs.Works.{is_distinct}
use Rattle.sd_types.specs.Priorities.{base_of, greatest_willed}
use Rattle.sd_types.specs.Willed.{Numbers, number_for, with_number, without_number, same_lock, eff_with, InheritsSoundly}

-- the definitions at the first number
with-here : (l : LockId) (n : ℕ) (w : LockId × ℕ) (ws : Numbers) → is_lock l w.0 ≡ true → with_number l n (w ∷ ws) ≡ (l, n) ∷ ws
with-here l n w ws h = rw h refl

with-later : (l : LockId) (n : ℕ) (w : LockId × ℕ) (ws : Numbers) → is_lock l w.0 ≡ false → with_number l n (w ∷ ws) ≡ w ∷ with_number l n ws
with-later l n w ws h = rw h refl

pub for-here : (l : LockId) (w : LockId × ℕ) (ws : Numbers) → is_lock l w.0 ≡ true → number_for l (w ∷ ws) ≡ Some w.1
for-here l w ws h = rw h refl

pub for-later : (l : LockId) (w : LockId × ℕ) (ws : Numbers) → is_lock l w.0 ≡ false → number_for l (w ∷ ws) ≡ number_for l ws
for-later l w ws h = rw h refl

without-here : (l : LockId) (w : LockId × ℕ) (ws : Numbers) → is_lock l w.0 ≡ true → without_number l (w ∷ ws) ≡ without_number l ws
without-here l w ws h = rw h refl

without-later : (l : LockId) (w : LockId × ℕ) (ws : Numbers) → is_lock l w.0 ≡ false → without_number l (w ∷ ws) ≡ w ∷ without_number l ws
without-later l w ws h = rw h refl

pub lock_self : (l : LockId) → is_lock l l ≡ true
lock_self l = grind (arith, nat_tests)

-- ---- the number for a lock

pub number_for-with : (ws : Numbers) (l : LockId) (n : ℕ) → number_for l (with_number l n ws) ≡ Some n
number_for-with [] l n = for-here l (l, n) [] (lock_self l)
number_for-with (w ∷ ws) l n = elim (cases_Bool (is_lock l w.0)) [
  | inl h ↦ ap (number_for l) (with-here l n w ws h) ∙ for-here l (l, n) ws (lock_self l)
  | inr h ↦ ap (number_for l) (with-later l n w ws h) ∙ for-later l w (with_number l n ws) h ∙ number_for-with ws l n
]

pub number_for-without : (ws : Numbers) (l : LockId) → number_for l (without_number l ws) ≡ None
number_for-without [] l = refl
number_for-without (w ∷ ws) l = elim (cases_Bool (is_lock l w.0)) [
  | inl h ↦ ap (number_for l) (without-here l w ws h) ∙ number_for-without ws l
  | inr h ↦ ap (number_for l) (without-later l w ws h) ∙ for-later l w (without_number l ws) h ∙ number_for-without ws l
]

-- the number at the front is for one of two locks at most
not_both : (l other m : LockId) → is_lock l other ≡ false → is_lock l m ≡ true → is_lock other m ≡ false
not_both l other m apart h = grind (arith, nat_tests)

not_same : (l other : LockId) → is_lock l other ≡ false → is_lock other l ≡ false
not_same l other h = grind (arith, nat_tests)

for-cons : (l : LockId) (w : LockId × ℕ) (vs ws : Numbers) → number_for l vs ≡ number_for l ws → number_for l (w ∷ vs) ≡ number_for l (w ∷ ws)
for-cons l w vs ws e = elim (cases_Bool (is_lock l w.0)) [
  | inl h ↦ for-here l w vs h ∙ sym (for-here l w ws h)
  | inr h ↦ for-later l w vs h ∙ e ∙ sym (for-later l w ws h)
]

pub number_for-with_other : (ws : Numbers) (l other : LockId) (n : ℕ) → is_lock l other ≡ false → number_for other (with_number l n ws) ≡ number_for other ws
number_for-with_other [] l other n apart = for-later other (l, n) [] (not_same l other apart)
number_for-with_other (w ∷ ws) l other n apart = elim (cases_Bool (is_lock l w.0)) [
  | inl h ↦ ap (number_for other) (with-here l n w ws h) ∙ for-later other (l, n) ws (not_same l other apart) ∙ sym (for-later other w ws (not_both l other w.0 apart h))
  | inr h ↦ ap (number_for other) (with-later l n w ws h) ∙ for-cons other w (with_number l n ws) ws (number_for-with_other ws l other n apart)
]

pub number_for-without_other : (ws : Numbers) (l other : LockId) → is_lock l other ≡ false → number_for other (without_number l ws) ≡ number_for other ws
number_for-without_other [] l other apart = refl
number_for-without_other (w ∷ ws) l other apart = elim (cases_Bool (is_lock l w.0)) [
  | inl h ↦ ap (number_for other) (without-here l w ws h) ∙ number_for-without_other ws l other apart ∙ sym (for-later other w ws (not_both l other w.0 apart h))
  | inr h ↦ ap (number_for other) (without-later l w ws h) ∙ for-cons other w (without_number l ws) ws (number_for-without_other ws l other apart)
]

-- ---- what stays true

list_all-with : (p : LockId × ℕ → Bool) (l : LockId) (n : ℕ) (ws : Numbers) → p (l, n) ≡ true → list_all p ws ≡ true → list_all p (with_number l n ws) ≡ true
list_all-with p l n [] h all = grind (arith, nat_tests)
list_all-with p l n (w ∷ ws) h all =
    let rest : list_all p ws ≡ true = grind (arith, nat_tests) in
    elim (cases_Bool (is_lock l w.0)) [
      | inl here ↦ rw (with-here l n w ws here) (grind (arith, nat_tests))
      | inr later ↦ let r = list_all-with p l n ws h rest in rw (with-later l n w ws later) (grind (arith, nat_tests))
    ]

any-with : (w : LockId × ℕ) (l : LockId) (n : ℕ) (ws : Numbers) → is_lock l w.0 ≡ false → list_any (same_lock w) ws ≡ false → list_any (same_lock w) (with_number l n ws) ≡ false
any-with w l n [] h none = grind (arith, nat_tests)
any-with w l n (v ∷ vs) h none =
    let rest : list_any (same_lock w) vs ≡ false = grind (arith, nat_tests) in
    elim (cases_Bool (is_lock l v.0)) [
      | inl here ↦ rw (with-here l n v vs here) (grind (arith, nat_tests))
      | inr later ↦ let r = any-with w l n vs h rest in rw (with-later l n v vs later) (grind (arith, nat_tests))
    ]

any-same : (v w : LockId × ℕ) (ws : Numbers) → is_lock v.0 w.0 ≡ true → list_any (same_lock v) ws ≡ list_any (same_lock w) ws
any-same v w [] h = refl
any-same v w (x ∷ xs) h = let r = any-same v w xs h in grind (arith, nat_tests)

distinct-here : (l : LockId) (n : ℕ) (w : LockId × ℕ) (ws : Numbers) → list_any (same_lock (l, n)) ws ≡ list_any (same_lock w) ws → list_any (same_lock w) ws ≡ false
    → is_distinct same_lock ws ≡ true → is_distinct same_lock ((l, n) ∷ ws) ≡ true
distinct-here l n w ws same none rest = grind (arith, nat_tests)

distinct-later : (w : LockId × ℕ) (vs : Numbers) → list_any (same_lock w) vs ≡ false → is_distinct same_lock vs ≡ true → is_distinct same_lock (w ∷ vs) ≡ true
distinct-later w vs none rest = grind (arith, nat_tests)

distinct-with : (l : LockId) (n : ℕ) (ws : Numbers) → is_distinct same_lock ws ≡ true → is_distinct same_lock (with_number l n ws) ≡ true
distinct-with l n [] h = refl
distinct-with l n (w ∷ ws) h =
    let rest : is_distinct same_lock ws ≡ true = grind (arith, nat_tests) in
    let none : list_any (same_lock w) ws ≡ false = grind (arith, nat_tests) in
    elim (cases_Bool (is_lock l w.0)) [
      | inl here ↦ rw (with-here l n w ws here) (distinct-here l n w ws (any-same (l, n) w ws here) none rest)
      | inr later ↦ rw (with-later l n w ws later) (distinct-later w (with_number l n ws) (any-with w l n ws later none) (distinct-with l n ws rest))
    ]

list_all-filter : {X : Type 0} (p q : X → Bool) (xs : List X) → list_all p xs ≡ true → list_all p (filter q xs) ≡ true
list_all-filter p q [] h = refl
list_all-filter p q (x ∷ xs) h =
    let rest : list_all p xs ≡ true = grind (arith, nat_tests) in
    let r = list_all-filter p q xs rest in
    grind (arith, nat_tests)

any-filter : {X : Type 0} (p q : X → Bool) (xs : List X) → list_any p xs ≡ false → list_any p (filter q xs) ≡ false
any-filter p q [] h = refl
any-filter p q (x ∷ xs) h =
    let rest : list_any p xs ≡ false = grind (arith, nat_tests) in
    let r = any-filter p q xs rest in
    grind (arith, nat_tests)

distinct-filter : {X : Type 0} (same : X → X → Bool) (q : X → Bool) (xs : List X) → is_distinct same xs ≡ true → is_distinct same (filter q xs) ≡ true
distinct-filter same q [] h = refl
distinct-filter same q (x ∷ xs) h =
    let rest : is_distinct same xs ≡ true = grind (arith, nat_tests) in
    let none : list_any (same x) xs ≡ false = grind (arith, nat_tests) in
    let r = distinct-filter same q xs rest in
    let a = any-filter (same x) q xs none in
    grind (arith, nat_tests)

pub sound-with : (b : ThreadBody) (l : LockId) (n : ℕ) (ws : Numbers) → InheritsSoundly b → is_held l b.held.items ≡ true → n < 160 → ws ≡ with_number l n b.willed.items
    → InheritsSoundly (record b { willed = record { items = ws } })
sound-with b l n ws s held small e =
    let low : nat_lt n 160 ≡ true = grind (arith, nat_tests) in
    record {
      below = rw e (list_all-with (λ w. nat_lt w.1 160) l n b.willed.items low s.below);
      apart = rw e (distinct-with l n b.willed.items s.apart);
      owned = rw e (list_all-with (λ w. is_held w.0 b.held.items) l n b.willed.items held s.owned);
      held_once = s.held_once;
    }

pub sound-without : (b : ThreadBody) (l : LockId) (ws : Numbers) → InheritsSoundly b → ws ≡ without_number l b.willed.items → InheritsSoundly (record b { willed = record { items = ws } })
sound-without b l ws s e = record {
  below = rw e (list_all-filter (λ w. nat_lt w.1 160) (λ w. not (is_lock l w.0)) b.willed.items s.below);
  apart = rw e (distinct-filter same_lock (λ w. not (is_lock l w.0)) b.willed.items s.apart);
  owned = rw e (list_all-filter (λ w. is_held w.0 b.held.items) (λ w. not (is_lock l w.0)) b.willed.items s.owned);
  held_once = s.held_once;
}

pub below-without : (b : ThreadBody) (l : LockId) (ws : Numbers) → InheritsSoundly b → ws ≡ without_number l b.willed.items → list_all (λ w. nat_lt w.1 160) ws ≡ true
below-without b l ws s e = rw e (list_all-filter (λ w. nat_lt w.1 160) (λ w. not (is_lock l w.0)) b.willed.items s.below)

-- ---- a lock that is taken

held-more : (m l : LockId) (held : List LockId) → is_held m held ≡ true → is_held m (held ++ l ∷ []) ≡ true
held-more m l [] h = absurd (false≢true h)
held-more m l (x ∷ xs) h = elim (cases_Bool (is_lock m x)) [
  | inl here ↦ grind (arith, nat_tests)
  | inr later ↦ let rest : is_held m xs ≡ true = grind (arith, nat_tests) in let r = held-more m l xs rest in grind (arith, nat_tests)
]

all-held-more : (l : LockId) (held : List LockId) (ws : Numbers) → list_all (λ w. is_held w.0 held) ws ≡ true → list_all (λ w. is_held w.0 (held ++ l ∷ [])) ws ≡ true
all-held-more l held [] h = refl
all-held-more l held (w ∷ ws) h =
    let here : is_held w.0 held ≡ true = grind (arith, nat_tests) in
    let rest : list_all (λ v. is_held v.0 held) ws ≡ true = grind (arith, nat_tests) in
    let first = held-more w.0 l held here in
    let others = all-held-more l held ws rest in
    grind (arith, nat_tests)

any-push : (m l : LockId) (held : List LockId) → is_lock m l ≡ false → is_held m held ≡ false → is_held m (held ++ l ∷ []) ≡ false
any-push m l [] apart h = grind (arith, nat_tests)
any-push m l (x ∷ xs) apart h =
    let rest : is_held m xs ≡ false = grind (arith, nat_tests) in
    let r = any-push m l xs apart rest in
    grind (arith, nat_tests)

distinct-push : (l : LockId) (held : List LockId) → is_held l held ≡ false → is_distinct is_lock held ≡ true → is_distinct is_lock (held ++ l ∷ []) ≡ true
distinct-push l [] new h = refl
distinct-push l (m ∷ ms) new h =
    let apart : is_lock l m ≡ false = grind (arith, nat_tests) in
    let other = not_same l m apart in
    let new_here : is_held l ms ≡ false = grind (arith, nat_tests) in
    let none : is_held m ms ≡ false = grind (arith, nat_tests) in
    let rest : is_distinct is_lock ms ≡ true = grind (arith, nat_tests) in
    let r = distinct-push l ms new_here rest in
    let a = any-push m l ms other none in
    grind (arith, nat_tests)

pub sound-taken : (b : ThreadBody) (l : LockId) (ls : List LockId) → InheritsSoundly b → is_held l b.held.items ≡ false → ls ≡ b.held.items ++ l ∷ [] → InheritsSoundly (record b { held = record { items = ls } })
sound-taken b l ls s new e = record {
  below = s.below;
  apart = s.apart;
  owned = rw e (all-held-more l b.held.items b.willed.items s.owned);
  held_once = rw e (distinct-push l b.held.items new s.held_once);
}

held-without : (l m : LockId) (held : List LockId) → is_lock l m ≡ false → is_held m held ≡ true → is_held m (without_lock l held) ≡ true
held-without l m [] apart h = h
held-without l m (x ∷ xs) apart h = elim (cases_Bool (is_lock l x)) [
  | inl here ↦ let rest : is_held m xs ≡ true = grind (arith, nat_tests) in let r = held-without l m xs apart rest in grind (arith, nat_tests)
  | inr later ↦ elim (cases_Bool (is_lock m x)) [
    | inl same ↦ grind (arith, nat_tests)
    | inr other ↦ let rest : is_held m xs ≡ true = grind (arith, nat_tests) in let r = held-without l m xs apart rest in grind (arith, nat_tests)
  ]
]

-- ---- a lock that is released

all-released : (l : LockId) (held : List LockId) (ws : Numbers) → list_all (λ w. is_held w.0 held) ws ≡ true → list_all (λ w. is_held w.0 (without_lock l held)) (without_number l ws) ≡ true
all-released l held [] h = refl
all-released l held (w ∷ ws) h =
    let here : is_held w.0 held ≡ true = grind (arith, nat_tests) in
    let rest : list_all (λ v. is_held v.0 held) ws ≡ true = grind (arith, nat_tests) in
    let r = all-released l held ws rest in
    elim (cases_Bool (is_lock l w.0)) [
      | inl gone ↦ rw (without-here l w ws gone) r
      | inr stays ↦ let first = held-without l w.0 held stays here in rw (without-later l w ws stays) (grind (arith, nat_tests))
    ]

pub sound-released : (b : ThreadBody) (l : LockId) (ws : Numbers) (ls : List LockId) → InheritsSoundly b → ws ≡ without_number l b.willed.items → ls ≡ without_lock l b.held.items
    → InheritsSoundly (record b { willed = record { items = ws }; held = record { items = ls } })
sound-released b l ws ls s e f = record {
  below = below-without b l ws s e;
  apart = rw e (distinct-filter same_lock (λ w. not (is_lock l w.0)) b.willed.items s.apart);
  owned = rw (e, f) (all-released l b.held.items b.willed.items s.owned);
  held_once = rw f (distinct-filter is_lock (λ m. not (is_lock l m)) b.held.items s.held_once);
}

-- ---- the greatest with another number for a lock

-- no other number is for the lock of the first
without-none : (l : LockId) (w : LockId × ℕ) (ws : Numbers) → is_lock l w.0 ≡ true → list_any (same_lock w) ws ≡ false → without_number l ws ≡ ws
without-none l w [] here none = refl
without-none l w (v ∷ vs) here none =
    let apart : is_lock l v.0 ≡ false = grind (arith, nat_tests) in
    let rest : list_any (same_lock w) vs ≡ false = grind (arith, nat_tests) in
    without-later l v vs apart ∙ ap (λ (xs : Numbers). v ∷ xs) (without-none l w vs here rest)

pub greatest-with : (n p : ℕ) (l : LockId) (ws : Numbers) → is_distinct same_lock ws ≡ true → greatest_willed n (with_number l p ws) ≡ max (greatest_willed n (without_number l ws)) p
greatest-with n p l [] h = omega arith
greatest-with n p l (w ∷ ws) h =
    let none : list_any (same_lock w) ws ≡ false = grind (arith, nat_tests) in
    let rest : is_distinct same_lock ws ≡ true = grind (arith, nat_tests) in
    elim (cases_Bool (is_lock l w.0)) [
      | inl here ↦
          let same = ap (greatest_willed n) (with-here l p w ws here) in
          let others = ap (greatest_willed n) (without-here l w ws here ∙ without-none l w ws here none) in
          omega arith
      | inr later ↦
          let same = ap (greatest_willed n) (with-later l p w ws later) in
          let others = ap (greatest_willed n) (without-later l w ws later) in
          omega (arith, greatest-with n p l ws rest)
    ]

pub with-one : (b : ThreadBody) (l : LockId) (base g p : ℕ) (ws : Numbers) → InheritsSoundly b → base ≡ base_of b.class → ws ≡ without_number l b.willed.items
    → g ≡ greatest_willed base ws → max g p ≡ eff_with l (Some p) b
with-one b l base g p ws s first rest e =
    let parts = greatest-with (base_of b.class) p l b.willed.items s.apart in
    let greatest : g ≡ greatest_willed (base_of b.class) (without_number l b.willed.items) = cc in
    ap (λ (n : ℕ). max n p) greatest ∙ sym parts

pub with-none : (b : ThreadBody) (l : LockId) (base g : ℕ) (ws : Numbers) → base ≡ base_of b.class → ws ≡ without_number l b.willed.items
    → g ≡ greatest_willed base ws → g ≡ eff_with l None b
with-none b l base g ws first rest e = cc

-- ---- room for a number

length-without_le : (l : LockId) (held : List LockId) → length (without_lock l held) ≤ length held
length-without_le l [] = omega arith
length-without_le l (m ∷ ms) = let r = length-without_le l ms in grind (arith, nat_tests)

length-without : (l : LockId) (held : List LockId) → is_held l held ≡ true → length (without_lock l held) < length held
length-without l [] h = absurd (false≢true h)
length-without l (m ∷ ms) h = elim (cases_Bool (is_lock l m)) [
  | inl here ↦ let r = length-without_le l ms in grind (arith, nat_tests)
  | inr later ↦ let rest : is_held l ms ≡ true = grind (arith, nat_tests) in let r = length-without l ms rest in grind (arith, nat_tests)
]

all-without : (w : LockId × ℕ) (ws : Numbers) (held : List LockId) → list_any (same_lock w) ws ≡ false → list_all (λ v. is_held v.0 held) ws ≡ true
    → list_all (λ v. is_held v.0 (without_lock w.0 held)) ws ≡ true
all-without w [] held none all = refl
all-without w (v ∷ vs) held none all =
    let apart : is_lock w.0 v.0 ≡ false = grind (arith, nat_tests) in
    let here : is_held v.0 held ≡ true = grind (arith, nat_tests) in
    let h = held-without w.0 v.0 held apart here in
    let nones : list_any (same_lock w) vs ≡ false = grind (arith, nat_tests) in
    let rest : list_all (λ v. is_held v.0 held) vs ≡ true = grind (arith, nat_tests) in
    let r = all-without w vs held nones rest in
    grind (arith, nat_tests)

-- as many held locks as numbers, or more
at_most_held : (ws : Numbers) (held : List LockId) → is_distinct same_lock ws ≡ true → list_all (λ v. is_held v.0 held) ws ≡ true → length ws ≤ length held
at_most_held [] held d all = omega arith
at_most_held (w ∷ ws) held d all =
    let none : list_any (same_lock w) ws ≡ false = grind (arith, nat_tests) in
    let apart : is_distinct same_lock ws ≡ true = grind (arith, nat_tests) in
    let here : is_held w.0 held ≡ true = grind (arith, nat_tests) in
    let rest : list_all (λ v. is_held v.0 held) ws ≡ true = grind (arith, nat_tests) in
    let r = at_most_held ws (without_lock w.0 held) apart (all-without w ws held none rest) in
    let less = length-without w.0 held here in
    omega arith

none-any : (l : LockId) (n : ℕ) (ws : Numbers) → number_for l ws ≡ None → list_any (same_lock (l, n)) ws ≡ false
none-any l n [] h = refl
none-any l n (w ∷ ws) h = elim (cases_Bool (is_lock l w.0)) [
  | inl here ↦ absurd (none-some w.1 (sym h ∙ for-here l w ws here))
  | inr later ↦ let r = none-any l n ws (sym (for-later l w ws later) ∙ h) in grind (arith, nat_tests)
]

-- a held lock without a number has room for one
pub room : (b : ThreadBody) (l : LockId) (most : ℕ) → InheritsSoundly b → is_held l b.held.items ≡ true → length b.held.items ≤ most → number_for l b.willed.items ≡ None
    → length b.willed.items < most
room b l most s held short none =
    let apart = s.apart in
    let owned = s.owned in
    let new = none-any l 0 b.willed.items none in
    let both : is_distinct same_lock ((l, 0) ∷ b.willed.items) ≡ true = grind (arith, nat_tests) in
    let all : list_all (λ v. is_held v.0 b.held.items) ((l, 0) ∷ b.willed.items) ≡ true = grind (arith, nat_tests) in
    omega (arith, at_most_held ((l, 0) ∷ b.willed.items) b.held.items both all)

-- ---- the index of a number

pub with-at : (l : LockId) (n : ℕ) (ws : Numbers) (i : ℕ) (d : LockId × ℕ) → i < length ws → is_lock l (get_or ws i d).0 ≡ true
    → with_number l n (drop i ws) ≡ (l, n) ∷ drop (suc i) ws
with-at l n ws i d h here = ap (with_number l n) (drop-cons ws i d h) ∙ with-here l n (get_or ws i d) (drop (suc i) ws) here

set-split : (xs : Numbers) (i : ℕ) (v : LockId × ℕ) → i < length xs → set xs i v ≡ take i xs ++ v ∷ drop (suc i) xs
set-split [] i v h = absurd (omega arith)
set-split (x ∷ xs) zero v h = refl
set-split (x ∷ xs) (suc i) v h = ap (λ (ys : Numbers). x ∷ ys) (set-split xs i v (omega arith))

-- a list that is written as a whole
refill-whole : (xs ws : Numbers) → length ws ≡ length xs → refill (length xs) xs ws ≡ ws
refill-whole xs ws e =
    take-append-le (length xs) ws (drop (length ws) xs) (omega arith) ∙ take_all (length xs) ws (omega arith)

-- the number for the lock is written where it stands
pub written : (l : LockId) (n : ℕ) (ws ys zs : Numbers) (i : ℕ) (d : LockId × ℕ) → i < length ws → l.0 ≡ (get_or ys i d).0.0 → ys ≡ ws → zs ≡ ws
    → with_number l n ws ≡ take i ws ++ with_number l n (drop i ws) → refill (length ws) ws (set zs i (l, n)) ≡ with_number l n ws
written l n ws ys zs i d h here same as_it_was e =
    let found = subst (λ (xs : Numbers). is_lock l (get_or xs i d).0 ≡ true) same (eq-eqb l.0 (get_or ys i d).0.0 here) in
    ap (λ (xs : Numbers). refill (length ws) ws (set xs i (l, n))) as_it_was
    ∙ refill-whole ws (set ws i (l, n)) (length-set ws i (l, n))
    ∙ set-split ws i (l, n) h
    ∙ ap (λ (xs : Numbers). take i ws ++ xs) (sym (with-at l n ws i d h found))
    ∙ sym e

-- soundness looks at the two lists alone
pub sound_is : (b d : ThreadBody) → d.willed.items ≡ b.willed.items → d.held.items ≡ b.held.items → InheritsSoundly b → InheritsSoundly d
sound_is b d willed held is = record {
  below = subst (λ (ws : Numbers). list_all (λ w. nat_lt w.1 160) ws ≡ true) (sym willed) is.below;
  apart = subst (λ (ws : Numbers). is_distinct same_lock ws ≡ true) (sym willed) is.apart;
  owned = subst (λ (ws : Numbers). list_all (λ w. is_held w.0 d.held.items) ws ≡ true) (sym willed) (subst (λ (ls : List LockId). list_all (λ w. is_held w.0 ls) b.willed.items ≡ true) (sym held) is.owned);
  held_once = subst (λ (ls : List LockId). is_distinct is_lock ls ≡ true) (sym held) is.held_once;
}
