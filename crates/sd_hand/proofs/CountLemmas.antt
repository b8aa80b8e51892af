-- How many homes are held, and what is left when one is given out.
use Rattle.std.proofs.Common.{◌≡◌, ℕ, zero, suc, ◌+◌, ◌<◌, ◌≤◌, Bool, true, false, is_some, List, [], ◌∷◌, length, get_or, set, slice_get, Option, Some, None, IfSome, refl, sym, ap, ◌∙◌, subst, arith}
use Rattle.std.specs.Prelude.{IfNone, slice_set}
use Rattle.std.proofs.lemmas.List.{length-set}
use Rattle.std.proofs.lemmas.Option.{get_or_from_slice_get}
use Rattle.sd_types.specs.declared.numbers.HomeId.{HomeId}
use Rattle.sd_homes.specs.declared.home.Home.{Home}
use Rattle.sd_homes.specs.Families.{home_id, same_home}
use Rattle.sd_hand.specs.Hands.{AreApart, AreSlots, AreTaken, HandSlots, HoldsMore, HasNoRoom, IsHeld, IsSlot, held, how_many_held}
use Rattle.sd_hand.proofs.GuideLemmas.{ShowsSlots}
use Rattle.sd_hand.proofs.SlotLemmas.{held_id, holds_more, same_home_self, same_home_true}

pub count_set : (g : Home) (hs : List (Option Home)) (i : ℕ) → slice_get hs i ≡ Some None → how_many_held (set hs i (Some g)) ≡ how_many_held hs + 1
count_set g [] i e = absurd cc
count_set g (None ∷ hs) zero e = refl
count_set g (Some h ∷ hs) zero e = absurd cc
count_set g (None ∷ hs) (suc i) e = count_set g hs i e
count_set g (Some h ∷ hs) (suc i) e = ap (λ n. n + 1) (count_set g hs i e)

pub taken_full : (hs : List (Option Home)) → AreTaken hs → how_many_held hs ≡ length hs
taken_full [] t = refl
taken_full (None ∷ hs) t = absurd t
taken_full (Some h ∷ hs) t = let rest = taken_full hs t in omega (arith, rest)

-- ---- a home that lies in a slot
pub lies_held : (h : Home) (hs : List (Option Home)) (i : ℕ) → slice_get hs i ≡ Some (Some h) → held (home_id h) hs ≡ None → ⊥
lies_held h [] i e n = absurd cc
lies_held h (None ∷ hs) zero e n = absurd cc
lies_held h (Some g ∷ hs) zero e n =
    let same : g ≡ h = cc in
    let yes : same_home (home_id h) (home_id g) ≡ true = ap (λ z. same_home (home_id h) (home_id z)) same ∙ same_home_self (home_id h) in
    let some = rw yes at n in absurd cc
lies_held h (None ∷ hs) (suc i) e n = lies_held h hs i e n
lies_held h (Some g ∷ hs) (suc i) e n = by (same_home (home_id h) (home_id g)) refl (lies_held h hs i e)
  where
    by : (b : Bool) → same_home (home_id h) (home_id g) ≡ b → (held (home_id h) hs ≡ None → ⊥) → ⊥
    by true f r = let some = rw f at n in absurd cc
    by false f r = r (rw f at n)

pub none_without : (k : HomeId) (hs : List (Option Home)) (i : ℕ) → held k hs ≡ None → held k (set hs i None) ≡ None
none_without k [] i n = refl
none_without k (None ∷ hs) zero n = n
none_without k (Some g ∷ hs) zero n = by (same_home k (home_id g)) refl
  where
    by : (b : Bool) → same_home k (home_id g) ≡ b → held k hs ≡ None
    by true f = let some = rw f at n in absurd cc
    by false f = rw f at n
none_without k (None ∷ hs) (suc i) n = none_without k hs i n
none_without k (Some g ∷ hs) (suc i) n = by (same_home k (home_id g)) refl (none_without k hs i)
  where
    by : (b : Bool) → same_home k (home_id g) ≡ b → (held k hs ≡ None → held k (set hs i None) ≡ None) → held k (Some g ∷ set hs i None) ≡ None
    by true f r = let some = rw f at n in absurd cc
    by false f r = rw f (r (rw f at n))

pub apart_without : (hs : List (Option Home)) (i : ℕ) → AreApart hs → AreApart (set hs i None)
apart_without [] i a = tt
apart_without (None ∷ hs) zero a = a
apart_without (Some g ∷ hs) zero a = a.1
apart_without (None ∷ hs) (suc i) a = apart_without hs i a
apart_without (Some g ∷ hs) (suc i) a = (none_without (home_id g) hs i a.0, apart_without hs i a.1)

gone : (h : Home) (hs : List (Option Home)) (i : ℕ) → AreApart hs → slice_get hs i ≡ Some (Some h) → held (home_id h) (set hs i None) ≡ None
gone h [] i a e = absurd cc
gone h (None ∷ hs) zero a e = absurd cc
gone h (Some g ∷ hs) zero a e = let same : g ≡ h = cc in ap (λ z. held (home_id z) hs) (sym same) ∙ a.0
gone h (None ∷ hs) (suc i) a e = gone h hs i a e
gone h (Some g ∷ hs) (suc i) a e = by (same_home (home_id h) (home_id g)) refl (gone h hs i a.1 e)
  where
    by : (b : Bool) → same_home (home_id h) (home_id g) ≡ b → held (home_id h) (set hs i None) ≡ None → held (home_id h) (Some g ∷ set hs i None) ≡ None
    by true f r = absurd (lies_held h hs i e (ap (λ k. held k hs) (same_home_true (home_id h) (home_id g) f) ∙ a.0))
    by false f r = rw f r

free_here : (h : Home) (hs : List (Option Home)) (i : ℕ) → slice_get hs i ≡ Some (Some h) → slice_get (set hs i None) i ≡ Some None
free_here h [] i e = absurd cc
free_here h (x ∷ hs) zero e = refl
free_here h (x ∷ hs) (suc i) e = free_here h hs i e

back_again : (h : Home) (hs : List (Option Home)) (i : ℕ) → slice_get hs i ≡ Some (Some h) → set (set hs i None) i (Some h) ≡ hs
back_again h [] i e = absurd cc
back_again h (x ∷ hs) zero e = let same : x ≡ Some h = cc in ap (λ z. z ∷ hs) (sym same)
back_again h (x ∷ hs) (suc i) e = ap (λ zs. x ∷ zs) (back_again h hs i e)

-- ---- it is given out
pub slots_without : (hs : List (Option Home)) (i : ℕ) (m : Option Home) → m ≡ None → AreSlots hs → AreSlots (slice_set hs i m)
slots_without hs i m none a =
    subst (λ o. AreSlots (slice_set hs i o)) (sym none)
    (record { apart = apart_without hs i a.apart; four = subst (λ n. 4 ≤ n) (sym (length-set hs i None)) a.four })

pub record GivesOut (x : HandSlots) (k : HomeId) (o : Option Home) (new : List (Option Home)) : Type 0 where
  pub none : IfNone o ((held k x.slots ≡ None) × (new ≡ x.slots))
  pub some : IfSome o (λ h. (home_id h ≡ k) × HoldsMore new h x.slots)
  pub count : IfSome o (λ h. (how_many_held x.slots ≡ how_many_held new + 1) × (length new ≡ length x.slots))

-- without the home in this slot
pub less : (h : Home) (hs : List (Option Home)) (i : ℕ) → AreApart hs → slice_get hs i ≡ Some (Some h) → HoldsMore (set hs i None) h hs
less h hs i apart there = subst (λ xs. HoldsMore (set hs i None) h xs) (back_again h hs i there) (holds_more h (set hs i None) i (free_here h hs i there) (gone h hs i apart there))

count_less : (h : Home) (hs : List (Option Home)) (i : ℕ) → slice_get hs i ≡ Some (Some h) → how_many_held hs ≡ how_many_held (set hs i None) + 1
count_less h hs i there = ap how_many_held (sym (back_again h hs i there)) ∙ count_set h (set hs i None) i (free_here h hs i there)

given_out : (hs : List (Option Home)) (k : HomeId) (i : ℕ) → AreApart hs → (at : IsSlot k hs i) → GivesOut (record { slots = hs }) k (Some at.home) (set hs i None)
given_out hs k i apart at = record {
  none = tt;
  some = (sym (held_id k at.home hs at.first), less at.home hs i apart at.there);
  count = (count_less at.home hs i at.there, length-set hs i None);
}

pub gives_out : (x : HandSlots) (hs : List (Option Home)) (k : HomeId) (i : ℕ) (o m q : Option Home) → ShowsSlots x hs → AreSlots hs → IsSlot k x.slots i → o ≡ m → m ≡ get_or hs i m → q ≡ None
    → GivesOut x k o (slice_set hs i q)
gives_out x hs k i o m q shown slots at same is none = by (subst (λ (y : HandSlots). IsSlot k y.slots i) (sym shown) at)
  where
    by : IsSlot k hs i → GivesOut x k o (slice_set hs i q)
    by slot =
        let found : o ≡ Some slot.home = same ∙ (is ∙ get_or_from_slice_get hs i (Some slot.home) m slot.there) in
        subst (λ y. GivesOut y k o (slice_set hs i q)) shown
        (subst (λ p. GivesOut (record { slots = hs }) k o (slice_set hs i p)) (sym none)
        (subst (λ p. GivesOut (record { slots = hs }) k p (set hs i None)) (sym found) (given_out hs k i slots.apart slot)))

-- ---- a home that is held
pub any_held : (h : Home) (hs : List (Option Home)) (i : ℕ) → slice_get hs i ≡ Some (Some h) → IsHeld (home_id h) hs
any_held h hs i e = by (held (home_id h) hs) refl
  where
    by : (o : Option Home) → held (home_id h) hs ≡ o → IsHeld (home_id h) hs
    by None n = absurd (lies_held h hs i e n)
    by (Some g) n = (g, n)

pub none_held : (k : HomeId) (hs : List (Option Home)) → how_many_held hs ≡ 0 → held k hs ≡ None
none_held k [] e = refl
none_held k (None ∷ hs) e = none_held k hs e
none_held k (Some h ∷ hs) e = absurd (omega (arith, e))

pub none_counted : (hs : List (Option Home)) → ((j : ℕ) → j < length hs → is_some (get_or hs j None) ≡ false) → how_many_held hs ≡ 0
none_counted [] none = refl
none_counted (None ∷ hs) none = none_counted hs (λ j l. none (suc j) (omega arith))
none_counted (Some h ∷ hs) none = let no : true ≡ false = none 0 (omega arith) in absurd cc

-- ---- a home lies in each slot, or in one more
pub full : (x : HandSlots) (hs : List (Option Home)) → ShowsSlots x hs → AreSlots hs → AreTaken hs → HasNoRoom x.slots
full x hs shown slots taken = subst (λ (y : HandSlots). HasNoRoom y.slots) shown (record { four = slots.four; all = taken_full hs taken })

pub held_more : (x : HandSlots) (hs : List (Option Home)) (home : Home) (i : ℕ) → ShowsSlots x hs → slice_get hs i ≡ Some None
    → (how_many_held (slice_set hs i (Some home)) ≡ how_many_held x.slots + 1) × (length (slice_set hs i (Some home)) ≡ length x.slots)
held_more x hs home i shown free =
    subst (λ (y : HandSlots). (how_many_held (slice_set hs i (Some home)) ≡ how_many_held y.slots + 1) × (length (slice_set hs i (Some home)) ≡ length y.slots)) shown
    (count_set home hs i free, length-set hs i (Some home))

-- ---- homes of the same numbers are as many
lies_at : (k : HomeId) (g : Home) (hs : List (Option Home)) → held k hs ≡ Some g → (i : ℕ) × (slice_get hs i ≡ Some (Some g))
lies_at k g [] e = absurd cc
lies_at k g (None ∷ hs) e = let (i, at) = lies_at k g hs e in (suc i, at)
lies_at k g (Some h ∷ hs) e = by (same_home k (home_id h)) refl (lies_at k g hs)
  where
    by : (b : Bool) → same_home k (home_id h) ≡ b → (held k hs ≡ Some g → (i : ℕ) × (slice_get hs i ≡ Some (Some g))) → (i : ℕ) × (slice_get (Some h ∷ hs) i ≡ Some (Some g))
    by true f r = (0, ap Some (rw f at e))
    by false f r = let (i, at) = r (rw f at e) in (suc i, at)

own : (h : Home) (hs : List (Option Home)) → held (home_id h) (Some h ∷ hs) ≡ Some h
own h hs = rw (same_home_self (home_id h)) refl

not_own : (h : Home) (hs : List (Option Home)) (k : HomeId) → held (home_id h) hs ≡ None → IsHeld k hs → k ≡ home_id h → ⊥
not_own h hs k none (g, e) same = let no : None ≡ Some g = sym none ∙ (ap (λ j. held j hs) (sym same) ∙ e) in absurd cc

later : (h : Home) (hs : List (Option Home)) (k : HomeId) → (k ≡ home_id h → ⊥) → IsHeld k hs → IsHeld k (Some h ∷ hs)
later h hs k other (g, e) = by (same_home k (home_id h)) refl
  where
    by : (b : Bool) → same_home k (home_id h) ≡ b → IsHeld k (Some h ∷ hs)
    by true f = absurd (other (same_home_true k (home_id h) f))
    by false f = (g, rw f e)

fewer : (hs rs : List (Option Home)) → AreApart hs → AreApart rs → ((k : HomeId) → IsHeld k hs → IsHeld k rs) → how_many_held hs ≤ how_many_held rs
fewer [] rs a b each = omega arith
fewer (None ∷ hs) rs a b each = fewer hs rs a b each
fewer (Some h ∷ hs) rs a b each =
    let (g, is) = each (home_id h) (h, own h hs) in
    let (i, at) = lies_at (home_id h) g rs is in
    let same : home_id g ≡ home_id h = sym (held_id (home_id h) g rs is) in
    let rest = fewer hs (set rs i None) a.1 (apart_without rs i b)
    (λ k on. let other = not_own h hs k a.0 on in let (x, e) = each k (later h hs k other on) in (x, sym ((less g rs i b at).others k (λ z. other (z ∙ same))) ∙ e)) in
    let count = count_less g rs i at in
    omega (arith, count, rest)

pub as_many : (hs rs : List (Option Home)) → AreApart hs → AreApart rs → ((k : HomeId) → IsHeld k hs → IsHeld k rs) → ((k : HomeId) → IsHeld k rs → IsHeld k hs) → how_many_held hs ≡ how_many_held rs
as_many hs rs a b to from = let most = fewer hs rs a b to in let least = fewer rs hs b a from in omega (arith, most, least)
