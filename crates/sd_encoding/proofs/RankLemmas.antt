-- Places and duties with their ranks, and lists that are written with them.
use Rattle.std.proofs.Common.{◌≡◌, ℕ, zero, suc, ◌<◌, ◌≤◌, List, [], ◌∷◌, ◌++◌, length, map, take, get_or, ℤ, refl, sym, ap, ◌∙◌, subst, arith}
use Rattle.std.specs.List.{All, flat_map}
use Rattle.std.proofs.lemmas.List.{length-map, take_all}
use Rattle.std.proofs.lemmas.List.Elements.{All-map}
use Rattle.std.proofs.lemmas.List.Folds.{flat_map-map}
use Rattle.sd_types.specs.declared.events.Duty.{Duty}
use Rattle.sd_types.specs.declared.events.Duty.TheVariants.{Walk, Rouse}
use Rattle.sd_types.specs.declared.numbers.ChanId.{ChanId}
use Rattle.sd_types.specs.declared.numbers.CpuId.{CpuId}
use Rattle.sd_types.specs.declared.numbers.LockId.{LockId}
use Rattle.sd_types.specs.declared.numbers.SetId.{SetId}
use Rattle.sd_types.specs.declared.numbers.Side.{Side}
use Rattle.sd_types.specs.declared.numbers.ThreadId.{ThreadId}
use Rattle.sd_state.specs.declared.states.Place.{Place}
use Rattle.sd_state.specs.declared.states.Place.TheVariants.{Queued, RealTime, Waiting, Asleep}
use Rattle.sd_state.specs.declared.states.State.{State}
use Rattle.sd_encoding.specs.Numbers.{listed}
use Rattle.sd_encoding.specs.Ranks.{rank, ranked_duty, ranked_place}

-- A place and a duty with the rank of the key, as a number of 64 bits is passed and returned.

pub queued : (s : State) (p : Place) (c : CpuId) (key k r r' : ℤ) → p ≡ Queued c key → k ≡ key → r ≡ rank s k → r' ≡ r → Queued c r' ≡ ranked_place s p
queued s p c key k r r' is passed found returned = rw (is, returned, found, passed) refl

pub real_time : (s : State) (p : Place) (q : SetId) (key k r r' : ℤ) → p ≡ RealTime q key → k ≡ key → r ≡ rank s k → r' ≡ r → RealTime q r' ≡ ranked_place s p
real_time s p q key k r r' is passed found returned = rw (is, returned, found, passed) refl

pub waiting : (s : State) (p : Place) (l : LockId) (side : Side) (key k r r' : ℤ) → p ≡ Waiting l side key → k ≡ key → r ≡ rank s k → r' ≡ r → Waiting l side r' ≡ ranked_place s p
waiting s p l side key k r r' is passed found returned = rw (is, returned, found, passed) refl

pub asleep : (s : State) (p : Place) (c : ChanId) (key k r r' : ℤ) → p ≡ Asleep c key → k ≡ key → r ≡ rank s k → r' ≡ r → Asleep c r' ≡ ranked_place s p
asleep s p c key k r r' is passed found returned = rw (is, returned, found, passed) refl

pub walk : (s : State) (d : Duty) (l : LockId) (seek : ThreadId) (key k r r' : ℤ) → d ≡ Walk l seek key → k ≡ key → r ≡ rank s k → r' ≡ r → Walk l seek r' ≡ ranked_duty s d
walk s d l seek key k r r' is passed found returned = rw (is, returned, found, passed) refl

pub rouse : (s : State) (d : Duty) (c : ChanId) (key k r r' : ℤ) → d ≡ Rouse c key → k ≡ key → r ≡ rank s k → r' ≡ r → Rouse c r' ≡ ranked_duty s d
rouse s d c key k r r' is passed found returned = rw (is, returned, found, passed) refl

-- ---- items that are written with their ranks

-- an item that is there is the same for any default
pub item_or : {A : Type 0} (xs : List A) (i : ℕ) (d : A) → i < length xs → get_or xs i d ≡ get_or xs i (get_or xs i d)
item_or [] i d lt = absurd (omega arith)
item_or (x ∷ xs) zero d lt = refl
item_or (x ∷ xs) (suc i) d lt = item_or xs i d (omega arith)

-- a loop has written all items, each as it is after a change
pub written_by : {A B : Type 0} (each : B → List ℕ) (f : A → B) (old into : List ℕ) (xs : List A) (i : ℕ) → length xs ≤ i
    → into ≡ old ++ length xs ∷ flat_map (λ x. each (f x)) (take i xs) → into ≡ old ++ listed each (map f xs)
written_by {A} each f old into xs i all so_far =
    let whole : take i xs ≡ xs = take_all i xs all in
    so_far ∙ ap (λ (ys : List A). old ++ length xs ∷ flat_map (λ x. each (f x)) ys) whole
    ∙ ap (λ (ns : List ℕ). old ++ length xs ∷ ns) (sym (flat_map-map each f xs)) ∙ ap (λ (n : ℕ). old ++ n ∷ flat_map each (map f xs)) (sym (length-map xs f))

pub fit_by : {A B : Type 0} (Fits : B → Type 0) (f : A → B) (xs : List A) (i : ℕ) → length xs ≤ i → All (λ x. Fits (f x)) (take i xs) → All Fits (map f xs)
fit_by {A} Fits f xs i all so_far = All-map Fits f xs (subst (λ (ys : List A). All (λ x. Fits (f x)) ys) (take_all i xs all) so_far)
