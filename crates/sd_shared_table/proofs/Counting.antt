-- Two hands that hold the same homes hold as many.
use Rattle.std.proofs.Common.{◌≡◌, ℕ, zero, suc, ◌+◌, Bool, true, false, is_some, List, [], ◌∷◌, set, slice_get, Option, Some, None, refl, sym, ap, ◌∙◌, subst}
use Rattle.sd_basics.proofs.Lists.{none_of}
use Rattle.sd_types.specs.declared.numbers.HomeId.{HomeId}
use Rattle.sd_homes.specs.declared.home.Home.{Home}
use Rattle.sd_homes.specs.Families.{home_id, same_home}
use Rattle.sd_hand.specs.Hands.{AreApart, HoldsMore, held, how_many_held}
use Rattle.sd_hand.proofs.SlotLemmas.{holds_more, same_home_self, same_home_true}
use Rattle.sd_world.proofs.GivenLemmas.{set_twice}
use Rattle.sd_hand.proofs.CountLemmas.{lies_held, apart_without}

emptied : (hs : List (Option Home)) (i : ℕ) (h : Home) → slice_get hs i ≡ Some (Some h) → slice_get (set hs i None) i ≡ Some None
emptied [] i h e = absurd cc
emptied (x ∷ hs) zero h e = refl
emptied (x ∷ hs) (suc i) h e = emptied hs i h e

back_again : (hs : List (Option Home)) (i : ℕ) (h : Home) → slice_get hs i ≡ Some (Some h) → set hs i (Some h) ≡ hs
back_again [] i h e = refl
back_again (x ∷ hs) zero h e = let same : x ≡ Some h = cc in ap (λ o. o ∷ hs) (sym same)
back_again (x ∷ hs) (suc i) h e = ap (λ ys. x ∷ ys) (back_again hs i h e)

gone : (hs : List (Option Home)) (i : ℕ) (h : Home) → AreApart hs → slice_get hs i ≡ Some (Some h) → held (home_id h) (set hs i None) ≡ None
gone [] i h a e = absurd cc
gone (None ∷ hs) zero h a e = absurd cc
gone (Some g ∷ hs) zero h a e = let same : g ≡ h = cc in ap (λ k. held k hs) (ap home_id (sym same)) ∙ a.0
gone (None ∷ hs) (suc i) h a e = gone hs i h a e
gone (Some g ∷ hs) (suc i) h a e = by (same_home (home_id h) (home_id g)) refl (gone hs i h a.1 e)
  where
    by : (b : Bool) → same_home (home_id h) (home_id g) ≡ b → held (home_id h) (set hs i None) ≡ None → held (home_id h) (Some g ∷ set hs i None) ≡ None
    by true f r = absurd (lies_held h hs i e (ap (λ k. held k hs) (same_home_true (home_id h) (home_id g) f) ∙ a.0))
    by false f r = rw f r

count_less : (hs : List (Option Home)) (i : ℕ) (h : Home) → slice_get hs i ≡ Some (Some h) → how_many_held hs ≡ how_many_held (set hs i None) + 1
count_less [] i h e = absurd cc
count_less (None ∷ hs) zero h e = absurd cc
count_less (Some g ∷ hs) zero h e = refl
count_less (None ∷ hs) (suc i) h e = count_less hs i h e
count_less (Some g ∷ hs) (suc i) h e = ap (λ n. n + 1) (count_less hs i h e)

none_held : (hs : List (Option Home)) → ((k : HomeId) → held k hs ≡ None) → how_many_held hs ≡ 0
none_held [] none = refl
none_held (None ∷ hs) none = none_held hs none
none_held (Some h ∷ hs) none = let some = rw (same_home_self (home_id h)) at (none (home_id h)) in absurd cc

held_at : (k : HomeId) (hs : List (Option Home)) → is_some (held k hs) ≡ true → (i : ℕ) × (h : Home) × (slice_get hs i ≡ Some (Some h)) × (home_id h ≡ k)
held_at k [] e = absurd cc
held_at k (None ∷ hs) e = let (i, h, there, is) = held_at k hs e in (suc i, h, there, is)
held_at k (Some g ∷ hs) e = by (same_home k (home_id g)) refl (held_at k hs)
  where
    by : (b : Bool) → same_home k (home_id g) ≡ b → (is_some (held k hs) ≡ true → (i : ℕ) × (h : Home) × (slice_get hs i ≡ Some (Some h)) × (home_id h ≡ k))
        → (i : ℕ) × (h : Home) × (slice_get (Some g ∷ hs) i ≡ Some (Some h)) × (home_id h ≡ k)
    by true f r = (0, g, refl, sym (same_home_true k (home_id g) f))
    by false f r = let (i, h, there, is) = r (rw f at e) in (suc i, h, there, is)

pub same_count : (hs gs : List (Option Home)) → AreApart hs → AreApart gs → ((k : HomeId) → is_some (held k hs) ≡ is_some (held k gs)) → how_many_held hs ≡ how_many_held gs
same_count [] gs a b same = sym (none_held gs (λ k. none_of (held k gs) (sym (same k))))
same_count (None ∷ hs) gs a b same = same_count hs gs a b same
same_count (Some h ∷ hs) gs a b same =
    let here : is_some (held (home_id h) (Some h ∷ hs)) ≡ true = rw (same_home_self (home_id h)) refl in
    let (i, g, there, is) = held_at (home_id h) gs (sym (same (home_id h)) ∙ here) in
    let rest = same_count hs (set gs i None) a.1 (apart_without gs i b) (λ k. others k i g there is) in
    ap (λ n. n + 1) rest ∙ sym (count_less gs i g there)
  where
    others : (k : HomeId) (i : ℕ) (g : Home) → slice_get gs i ≡ Some (Some g) → home_id g ≡ home_id h → is_some (held k hs) ≡ is_some (held k (set gs i None))
    others k i g there is = by (same_home k (home_id h)) refl
      where
        more : HoldsMore (set gs i None) g gs
        more = subst (HoldsMore (set gs i None) g) (set_twice gs i None (Some g) ∙ back_again gs i g there) (holds_more g (set gs i None) i (emptied gs i g there) (gone gs i g b there))

        by : (c : Bool) → same_home k (home_id h) ≡ c → is_some (held k hs) ≡ is_some (held k (set gs i None))
        by true f =
            let k_is = same_home_true k (home_id h) f in
            ap is_some (ap (λ j. held j hs) k_is ∙ a.0) ∙ sym (ap is_some (ap (λ j. held j (set gs i None)) (k_is ∙ sym is) ∙ gone gs i g b there))
        by false f =
            let apart : k ≡ home_id g → ⊥ = λ q. (let yes : same_home k (home_id h) ≡ true = ap (λ j. same_home j (home_id h)) (q ∙ is) ∙ same_home_self (home_id h) in absurd cc) in
            let first : is_some (held k (Some h ∷ hs)) ≡ is_some (held k hs) = rw f refl in
            sym first ∙ (same k ∙ ap is_some (more.others k apart))
