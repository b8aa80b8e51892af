-- Homes in two hands as in one: those that a processor holds, and the others.
use Rattle.std.proofs.Common.{◌≡◌, ℕ, ◌≤◌, ◌⊎◌, Bool, true, false, ◌||◌, inl, inr, List, [], ◌∷◌, ◌++◌, length, Option, Some, None, refl, sym, ap, ◌∙◌, subst, arith}
use Rattle.std.proofs.lemmas.Bool.{false≢true}
use Rattle.sd_types.specs.declared.numbers.HomeId.{HomeId}
use Rattle.sd_state.specs.declared.states.State.{State}
use Rattle.sd_homes.specs.declared.home.Home.{Home}
use Rattle.sd_homes.specs.Families.{home_id, same_home}
use Rattle.sd_hand.specs.Hands.{AreApart, HoldsMore, IsHeld, has_thread, held, how_many_held, slot_has}
use Rattle.sd_hand.specs.OneHome.{AreAllHomes}
use Rattle.sd_hand.proofs.SlotLemmas.{same_home_self, same_home_true}

-- the first of two homes that is there
abbrev pub first_of : Option Home → Option Home → Option Home
first_of (Some h) o = Some h
first_of None o = o

pub held_both : (k : HomeId) (hs rs : List (Option Home)) → held k (hs ++ rs) ≡ first_of (held k hs) (held k rs)
held_both k [] rs = refl
held_both k (None ∷ hs) rs = held_both k hs rs
held_both k (Some h ∷ hs) rs = by (same_home k (home_id h)) refl (held_both k hs rs)
  where
    by : (b : Bool) → same_home k (home_id h) ≡ b → held k (hs ++ rs) ≡ first_of (held k hs) (held k rs) → held k (Some h ∷ (hs ++ rs)) ≡ first_of (held k (Some h ∷ hs)) (held k rs)
    by true e r = rw e refl
    by false e r = rw e r

pub has_both : (t : ℕ) (hs rs : List (Option Home)) → has_thread t (hs ++ rs) ≡ (has_thread t hs || has_thread t rs)
has_both t [] rs = refl
has_both t (x ∷ hs) rs = ap (λ b. slot_has t x || b) (has_both t hs rs) ∙ grouped (slot_has t x) (has_thread t hs) (has_thread t rs)
  where
    grouped : (a b c : Bool) → (a || (b || c)) ≡ ((a || b) || c)
    grouped true b c = refl
    grouped false b c = refl

-- a home that one of the hands holds the other does not
abbrev pub AreTwo : List (Option Home) → List (Option Home) → Type 0
AreTwo hs rs = (k : HomeId) → IsHeld k hs → held k rs ≡ None

pub left_held : (k : HomeId) (h : Home) (hs rs : List (Option Home)) → held k hs ≡ Some h → held k (hs ++ rs) ≡ Some h
left_held k h hs rs e = held_both k hs rs ∙ ap (λ o. first_of o (held k rs)) e

pub right_held : (k : HomeId) (hs rs : List (Option Home)) → held k hs ≡ None → held k (hs ++ rs) ≡ held k rs
right_held k hs rs e = held_both k hs rs ∙ ap (λ o. first_of o (held k rs)) e

pub others_held : (k : HomeId) (h : Home) (hs rs : List (Option Home)) → AreTwo hs rs → held k rs ≡ Some h → held k (hs ++ rs) ≡ Some h
others_held k h hs rs two e = by (held k hs) refl
  where
    by : (o : Option Home) → held k hs ≡ o → held k (hs ++ rs) ≡ Some h
    by None n = right_held k hs rs n ∙ e
    by (Some g) n = let no : None ≡ Some h = sym (two k (g, n)) ∙ e in absurd cc

none_left : (o p : Option Home) → first_of o p ≡ None → o ≡ None
none_left None p e = refl
none_left (Some h) p e = absurd cc

none_right : (o p : Option Home) → first_of o p ≡ None → p ≡ None
none_right None p e = e
none_right (Some h) p e = absurd cc

pub apart_left : (hs rs : List (Option Home)) → AreApart (hs ++ rs) → AreApart hs
apart_left [] rs a = tt
apart_left (None ∷ hs) rs a = apart_left hs rs a
apart_left (Some h ∷ hs) rs a = (none_left (held (home_id h) hs) (held (home_id h) rs) (sym (held_both (home_id h) hs rs) ∙ a.0), apart_left hs rs a.1)

pub apart_right : (hs rs : List (Option Home)) → AreApart (hs ++ rs) → AreApart rs
apart_right [] rs a = a
apart_right (None ∷ hs) rs a = apart_right hs rs a
apart_right (Some h ∷ hs) rs a = apart_right hs rs a.1

pub apart_two : (hs rs : List (Option Home)) → AreApart (hs ++ rs) → AreTwo hs rs
apart_two [] rs a k (g, e) = absurd cc
apart_two (None ∷ hs) rs a k is = apart_two hs rs a k is
apart_two (Some h ∷ hs) rs a k (g, e) = by (same_home k (home_id h)) refl (apart_two hs rs a.1 k)
  where
    by : (b : Bool) → same_home k (home_id h) ≡ b → (IsHeld k hs → held k rs ≡ None) → held k rs ≡ None
    by true f r = subst (λ j. held j rs ≡ None) (sym (same_home_true k (home_id h) f)) (none_right (held (home_id h) hs) (held (home_id h) rs) (sym (held_both (home_id h) hs rs) ∙ a.0))
    by false f r = r (g, rw f at e)

pub apart_whole : (hs rs : List (Option Home)) → AreApart hs → AreApart rs → AreTwo hs rs → AreApart (hs ++ rs)
apart_whole [] rs a b two = b
apart_whole (None ∷ hs) rs a b two = apart_whole hs rs a b two
apart_whole (Some h ∷ hs) rs a b two =
    let own : held (home_id h) (Some h ∷ hs) ≡ Some h = rw (same_home_self (home_id h)) refl in
    (right_held (home_id h) hs rs a.0 ∙ two (home_id h) (h, own), apart_whole hs rs a.1 b (λ k is. two k (later k is)))
  where
    later : (k : HomeId) → IsHeld k hs → IsHeld k (Some h ∷ hs)
    later k (g, e) = by (same_home k (home_id h)) refl
      where
        by : (x : Bool) → same_home k (home_id h) ≡ x → IsHeld k (Some h ∷ hs)
        by true f = let no : None ≡ Some g = sym a.0 ∙ (ap (λ j. held j hs) (sym (same_home_true k (home_id h) f)) ∙ e) in absurd cc
        by false f = (g, rw f e)

-- ---- a home goes from the one hand to the other
module _ (hs rs hs' rs' : List (Option Home)) (h : Home) (near : HoldsMore hs h hs') (others : HoldsMore rs' h rs) where
  -- it is this home or another
  is_it : (k : HomeId) → (k ≡ home_id h) ⊎ (k ≡ home_id h → ⊥)
  is_it k = by (same_home k (home_id h)) refl
    where
      by : (b : Bool) → same_home k (home_id h) ≡ b → (k ≡ home_id h) ⊎ (k ≡ home_id h → ⊥)
      by true e = inl (same_home_true k (home_id h) e)
      by false e = inr (λ same. false≢true (sym e ∙ (ap (λ j. same_home j (home_id h)) same ∙ same_home_self (home_id h))))

  pub same_whole : (k : HomeId) → held k (hs' ++ rs') ≡ held k (hs ++ rs)
  same_whole k = by (is_it k)
    where
      by : (k ≡ home_id h) ⊎ (k ≡ home_id h → ⊥) → held k (hs' ++ rs') ≡ held k (hs ++ rs)
      by (inl same) = subst (λ j. held j (hs' ++ rs') ≡ held j (hs ++ rs)) (sym same)
          (left_held (home_id h) h hs' rs' near.here ∙ sym (right_held (home_id h) hs rs near.before ∙ others.here))
      by (inr other) = held_both k hs' rs' ∙ (ap (λ o. first_of o (held k rs')) (near.others k other) ∙ (ap (first_of (held k hs)) (sym (others.others k other)) ∙ sym (held_both k hs rs)))

  pub two_after : AreTwo hs rs → AreTwo hs' rs'
  two_after two k (g, e) = by (is_it k)
    where
      by : (k ≡ home_id h) ⊎ (k ≡ home_id h → ⊥) → held k rs' ≡ None
      by (inl same) = subst (λ j. held j rs' ≡ None) (sym same) others.before
      by (inr other) = sym (others.others k other) ∙ two k (g, sym (near.others k other) ∙ e)

  pub two_before : AreTwo hs' rs' → AreTwo hs rs
  two_before two k (g, e) = by (is_it k)
    where
      by : (k ≡ home_id h) ⊎ (k ≡ home_id h → ⊥) → held k rs ≡ None
      by (inl same) = let no : Some g ≡ None = sym e ∙ subst (λ j. held j hs ≡ None) (sym same) near.before in absurd cc
      by (inr other) = others.others k other ∙ two k (g, near.others k other ∙ e)

-- ---- all homes of a state, in other slots
pub all_same : (n : ℕ) (s : State) (hs rs : List (Option Home)) → ((k : HomeId) → held k rs ≡ held k hs) → AreApart rs → AreAllHomes n s hs → AreAllHomes n s rs
all_same n s hs rs same apart all = record {
  shown = λ k h e. all.shown k h (sym (same k) ∙ e);
  apart = apart;
  all = λ k there. let (h, e) = all.all k there in (h, same k ∙ e);
  only = λ k there. let (h, e) = there in all.only k (h, sym (same k) ∙ e);
  locks = all.locks;
  chans = all.chans;
}

-- ---- no more are held than there are slots
pub most_held : (hs : List (Option Home)) → how_many_held hs ≤ length hs
most_held [] = omega arith
most_held (None ∷ hs) = let rest = most_held hs in omega (arith, rest)
most_held (Some h ∷ hs) = let rest = most_held hs in omega (arith, rest)

pub apart_empty : (hs rs : List (Option Home)) → how_many_held hs ≡ 0 → AreApart rs → AreApart (hs ++ rs)
apart_empty [] rs e a = a
apart_empty (None ∷ hs) rs e a = apart_empty hs rs e a
apart_empty (Some h ∷ hs) rs e a = absurd (omega (arith, e))
