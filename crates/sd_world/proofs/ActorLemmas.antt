-- The counts and the duties of processors, as a list in the order of their numbers.
use Rattle.std.proofs.Common.{◌≡◌, ℕ, ◌+◌, ◌<◌, ◌⊎◌, suc, Bool, ◌&&◌, List, [], ◌∷◌, ◌++◌, length, get_or, slice_get, Some, refl, sym, ap, ◌∙◌, subst, inl, inr, arith, length-append}
use Rattle.std.specs.Prelude.{nat_le}
use Rattle.std.specs.List.{list_all}
use Rattle.std.proofs.lemmas.Option.{get_or_from_slice_get, slice_get-get_or}
use Rattle.sd_basics.proofs.Lists.{get_cases}
use Rattle.sd_state.specs.declared.states.CpuState.{CpuState}
use Rattle.sd_state.specs.declared.states.State.{State}
use Rattle.sd_state.specs.States.{no_cpu}
use Rattle.sd_hand.specs.declared.acting.Actor.{Actor}
use Rattle.sd_world.specs.Told.{AreActorsOf, IsActorOf}

-- those of so many processors
pub record AreFirst (s : State) (c : ℕ) (actors : List Actor) : Type 0 where
  pub many : length actors ≡ c
  pub each : (i : ℕ) (a : Actor) → slice_get actors i ≡ Some a → IsActorOf s i a

pub none_first : (s : State) (actors : List Actor) → actors ≡ [] → AreFirst s 0 actors
none_first s actors e = record { many = ap length e; each = λ i a at. let none = ap (λ xs. slice_get xs i) (sym e) ∙ at in absurd cc }

pub one_first : (s : State) (c : ℕ) (actors new : List Actor) (a : Actor) → AreFirst s c actors → IsActorOf s c a → new ≡ actors ++ a ∷ [] → AreFirst s (c + 1) new
one_first s c actors new a first is pushed = subst (AreFirst s (c + 1)) (sym pushed) (record {
  many = length-append actors (a ∷ []) ∙ ap (λ n. n + 1) first.many;
  each = λ i b at. by i b (get_cases actors a b i at);
})
  where
    by : (i : ℕ) (b : Actor) → (slice_get actors i ≡ Some b) ⊎ ((i ≡ length actors) × (a ≡ b)) → IsActorOf s i b
    by i b (inl before) = first.each i b before
    by i b (inr here) = subst (λ j. IsActorOf s j b) (sym (here.0 ∙ first.many)) (subst (IsActorOf s c) here.1 is)

pub all_first : (s : State) (c : ℕ) (actors : List Actor) → AreFirst s c actors → c ≡ length s.cpus → AreActorsOf s actors
all_first s c actors first end = record { many = first.many ∙ end; each = first.each }

-- what holds of the counts of all
same_all : {A B : Type 0} (p : A → Bool) (q : B → Bool) (xs : List A) (ys : List B) → length xs ≡ length ys
    → ((i : ℕ) (x : A) (y : B) → slice_get xs i ≡ Some x → slice_get ys i ≡ Some y → p x ≡ q y) → list_all p xs ≡ list_all q ys
same_all p q [] [] many each = refl
same_all p q [] (y ∷ ys) many each = absurd (omega arith)
same_all p q (x ∷ xs) [] many each = absurd (omega arith)
same_all p q (x ∷ xs) (y ∷ ys) many each =
    let rest = same_all p q xs ys (let m : length xs ≡ length ys = omega arith in m) (λ i a b e f. each (suc i) a b e f) in
    (λ j. each 0 x y refl refl j && rest j)

pub all_counts : (s : State) (actors : List Actor) (n : ℕ) → AreActorsOf s actors → list_all (λ a. nat_le n a.count) actors ≡ list_all (λ x. nat_le n x.count) s.cpus
all_counts s actors n are =
    same_all (λ a. nat_le n a.count) (λ x. nat_le n x.count) actors s.cpus are.many
    (λ i a x at there. ap (nat_le n) ((are.each i a at).count ∙ ap (λ (y : CpuState). y.count) (get_or_from_slice_get s.cpus i x no_cpu there)))

-- the processor at an index
pub at_index : (s : State) (actors : List Actor) (c : ℕ) (a : Actor) → AreActorsOf s actors → c < length actors → a ≡ get_or actors c a → slice_get actors c ≡ Some a
at_index s actors c a are inside e = slice_get-get_or actors c a inside ∙ ap Some (sym e)
