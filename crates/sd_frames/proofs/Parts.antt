-- A part of each thread, lock or processor as a function of its number, and how an event changes it.
use Rattle.std.proofs.Common.{◌≡◌, ℕ, ◌<◌, List, length, get_or, set, ap, ◌∙◌, sym, subst, inl, inr}
use Rattle.std.proofs.lemmas.Bool.{cases_eq, cases_lt}
use Rattle.std.proofs.lemmas.List.{get_or-set_same, get_or-set_other}
use Rattle.std.proofs.lemmas.List.{set_past}
use Rattle.sd_state.proofs.KeyLemmas.{IsPut}
use Rattle.sd_machine.proofs.Moves.{IsSame}

-- a part of a list, where one item is written
pub put_item : {X Y : Type 0} (part : X → Y) (xs : List X) (d : X) (t : ℕ) (x : X) → t < length xs → IsPut t (part x) (λ u. part (get_or xs u d)) (λ u. part (get_or (set xs t x) u d))
put_item part xs d t x here = record {
  at = ap part (get_or-set_same xs t x d here);
  others = λ u other. ap part (get_or-set_other xs t u x d other);
}

-- where what is written has that part as it was, each has
pub same_item : {X Y : Type 0} (part : X → Y) (xs : List X) (d : X) (t : ℕ) (x : X) → part x ≡ part (get_or xs t d) → IsSame (λ u. part (get_or xs u d)) (λ u. part (get_or (set xs t x) u d))
same_item part xs d t x same u =
    elim (cases_lt t (length xs)) [
      | inl here ↦
          let put = put_item part xs d t x here in
          elim (cases_eq u t) [
            | inl is ↦ subst (λ v. part (get_or (set xs t x) v d) ≡ part (get_or xs v d)) (sym is) (put.at ∙ same)
            | inr other ↦ put.others u other
          ]
      | inr past ↦ ap (λ ys. part (get_or ys u d)) (set_past xs t x past)
    ]

pub put_same : {X : Type 0} {f g h : ℕ → X} (t : ℕ) (x : X) → IsPut t x f g → IsSame g h → IsPut t x f h
put_same t x put same = record { at = same t ∙ put.at; others = λ u other. same u ∙ put.others u other }

pub same_put : {X : Type 0} {f g h : ℕ → X} (t : ℕ) (x : X) → IsSame f g → IsPut t x g h → IsPut t x f h
same_put t x same put = record { at = put.at; others = λ u other. put.others u other ∙ same u }

pub same_is_put : {X : Type 0} {f g : ℕ → X} (t : ℕ) (x : X) → IsSame f g → f t ≡ x → IsPut t x f g
same_is_put t x same is = record { at = same t ∙ is; others = λ u other. same u }

pub put_is : {X : Type 0} {f g : ℕ → X} (t : ℕ) (x y : X) → IsPut t x f g → x ≡ y → IsPut t y f g
put_is t x y put is = record { at = put.at ∙ is; others = put.others }

-- two writes at one number are the last one
pub put_put : {X : Type 0} {f g h : ℕ → X} (t : ℕ) (x y : X) → IsPut t x f g → IsPut t y g h → IsPut t y f h
put_put t x y a b = record { at = b.at; others = λ u other. b.others u other ∙ a.others u other }
