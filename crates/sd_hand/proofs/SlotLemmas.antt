-- The homes of a hand.
use Rattle.std.proofs.Common.{◌≡◌, ℕ, zero, suc, ◌<◌, Bool, true, false, cond, ◌||◌, is_some, inl, inr, List, [], ◌∷◌, length, get_or, set, slice_get, Option, Some, None, option_map, refl, sym, ap, ◌∙◌, arith}
use Rattle.std.specs.Prelude.{Result, Ok, Err, IfOk, IfErr}
use Rattle.std.proofs.lemmas.Bool.{eqb-true, or_left, or_right}
use Rattle.sd_basics.proofs.Numbers.{same_itself}
use Rattle.sd_types.specs.declared.numbers.HomeId.{HomeId}
use Rattle.sd_types.specs.declared.numbers.HomeId.TheVariants as id
use Rattle.sd_homes.specs.declared.home.Home.{Home}
use Rattle.sd_homes.specs.Families.{has, same_home, home_id}
use Rattle.sd_hand.specs.Hands.{AreApart, AreTaken, HoldsMore, IsIn, StandsIn, StandsInSlot, held, edit, is_at, has_thread, slot_has, IsSlot, IsNoSlot}
use Rattle.sd_homes.specs.declared.list_id.ListId.{ListId}

pub same_home_self : (k : HomeId) → same_home k k ≡ true
same_home_self (id.Cpu c) = same_itself c.0
same_home_self (id.RealTime p) = same_itself p.0
same_home_self (id.Chain i) = same_itself i
same_home_self (id.Sleepers i) = same_itself i

pub same_home_true : (a b : HomeId) → same_home a b ≡ true → a ≡ b
same_home_true (id.Cpu c) (id.Cpu d) e = ap (λ n. id.Cpu (record { 0 = n })) (eqb-true c.0 d.0 e)
same_home_true (id.RealTime p) (id.RealTime q) e = ap (λ n. id.RealTime (record { 0 = n })) (eqb-true p.0 q.0 e)
same_home_true (id.Chain i) (id.Chain j) e = ap id.Chain (eqb-true i j e)
same_home_true (id.Sleepers i) (id.Sleepers j) e = ap id.Sleepers (eqb-true i j e)
same_home_true _ _ e = absurd cc

pub same_default : {X : Type 0} (xs : List X) (i : ℕ) (d e : X) → i < length xs → get_or xs i d ≡ get_or xs i e
same_default [] i d e h = absurd (omega arith)
same_default (x ∷ xs) zero d e h = refl
same_default (x ∷ xs) (suc i) d e h = same_default xs i d e (omega arith)

-- ---- where a home lies in each slot
pub are_taken : (hs : List (Option Home)) → ((j : ℕ) → j < length hs → is_some (get_or hs j None) ≡ true) → AreTaken hs
are_taken [] each = tt
are_taken (None ∷ hs) each = let no : false ≡ true = each 0 (omega arith) in absurd cc
are_taken (Some h ∷ hs) each = are_taken hs (λ j l. each (suc j) (omega arith))

-- ---- what a slot has
pub same_slot : (hs : List (Option Home)) (i : ℕ) (d : Option Home) (g h : Home) → get_or hs i d ≡ Some g → slice_get hs i ≡ Some (Some h) → g ≡ h
same_slot [] i d g h e f = absurd cc
same_slot (x ∷ hs) zero d g h e f = cc
same_slot (x ∷ hs) (suc i) d g h e f = same_slot hs i d g h e f

-- ---- what was done, or refused
pub either : {A L : Type 0} (r : Result A L) (P R Q : Type 0) → (P → Q) → (R → Q) → IfOk r (λ _. P) → IfErr r (λ _. R) → Q
either (Ok a) P R Q f g made kept = f made
either (Err q) P R Q f g made kept = g kept

-- ---- the slot of a home
pub slot_at : (k : HomeId) (hs : List (Option Home)) (i : ℕ) → is_at k (get_or hs i None) ≡ true → ((j : ℕ) → j < i → is_at k (get_or hs j None) ≡ false) → IsSlot k hs i
slot_at k [] i e before = absurd cc
slot_at k (None ∷ hs) zero e before = absurd cc
slot_at k (Some h ∷ hs) zero e before = record { home = h; there = refl; first = rw e refl; edited = λ f. rw e refl }
slot_at k (None ∷ hs) (suc i) e before =
    let rest = slot_at k hs i e (λ j l. before (suc j) (omega arith)) in
    record { home = rest.home; there = rest.there; first = rest.first; edited = λ f. ap (λ x. None ∷ x) (rest.edited f) }
slot_at k (Some h ∷ hs) (suc i) e before =
    let rest = slot_at k hs i e (λ j l. before (suc j) (omega arith)) in
    let other : same_home k (home_id h) ≡ false = before 0 (omega arith) in
    record { home = rest.home; there = rest.there; first = rw other rest.first; edited = λ f. rw other (ap (λ x. Some h ∷ x) (rest.edited f)) }

pub no_slot : (k : HomeId) (hs : List (Option Home)) → ((j : ℕ) → j < length hs → is_at k (get_or hs j None) ≡ false) → IsNoSlot k hs
no_slot k [] none = record { none = refl; same = λ f. refl }
no_slot k (None ∷ hs) none =
    let rest = no_slot k hs (λ j l. none (suc j) (omega arith)) in
    record { none = rest.none; same = λ f. ap (λ x. None ∷ x) (rest.same f) }
no_slot k (Some h ∷ hs) none =
    let rest = no_slot k hs (λ j l. none (suc j) (omega arith)) in
    let other : same_home k (home_id h) ≡ false = none 0 (omega arith) in
    record { none = rw other rest.none; same = λ f. rw other (ap (λ x. Some h ∷ x) (rest.same f)) }

-- ---- what is held after a change
pub held_id : (k : HomeId) (h : Home) (hs : List (Option Home)) → held k hs ≡ Some h → k ≡ home_id h
held_id k h [] e = absurd cc
held_id k h (None ∷ hs) e = held_id k h hs e
held_id k h (Some g ∷ hs) e = by (same_home k (home_id g)) refl (held_id k h hs)
  where
    by : (b : Bool) → same_home k (home_id g) ≡ b → (held k hs ≡ Some h → k ≡ home_id h) → k ≡ home_id h
    by true f r = let is = rw f at e in let same : g ≡ h = cc in same_home_true k (home_id g) f ∙ ap home_id same
    by false f r = r (rw f at e)

-- two changes that make the same of it
pub edit_same : (k : HomeId) (f g : Home → Home) (hs : List (Option Home)) (h : Home) → held k hs ≡ Some h → f h ≡ g h → edit k f hs ≡ edit k g hs
edit_same k f g [] h e same = refl
edit_same k f g (None ∷ hs) h e same = ap (λ xs. None ∷ xs) (edit_same k f g hs h e same)
edit_same k f g (Some x ∷ hs) h e same = by (same_home k (home_id x)) refl (edit_same k f g hs h)
  where
    by : (b : Bool) → same_home k (home_id x) ≡ b → (held k hs ≡ Some h → f h ≡ g h → edit k f hs ≡ edit k g hs) → edit k f (Some x ∷ hs) ≡ edit k g (Some x ∷ hs)
    by true t r = let is = rw t at e in let one : x ≡ h = cc in let made : f x ≡ g x = ap f one ∙ same ∙ sym (ap g one) in rw t (ap (λ y. Some y ∷ hs) made)
    by false t r = rw t (ap (λ xs. Some x ∷ xs) (r (rw t at e) same))

abbrev pub KeepsId : (Home → Home) → Type 0
KeepsId f = (h : Home) → home_id (f h) ≡ home_id h

held-edit_by : (b : Bool) (c d : HomeId) (f : Home → Home) → KeepsId f → (hs : List (Option Home)) → same_home d c ≡ b
    → held d (edit c f hs) ≡ cond b (option_map f (held d hs)) (held d hs)
held-edit_by true c d f keeps [] e = refl
held-edit_by false c d f keeps [] e = refl
held-edit_by b c d f keeps (None ∷ hs) e = held-edit_by b c d f keeps hs e
held-edit_by true c d f keeps (Some g ∷ hs) e = by (same_home c (home_id g)) refl (held-edit_by true c d f keeps hs e)
  where
    same : d ≡ c
    same = same_home_true d c e

    by : (x : Bool) → same_home c (home_id g) ≡ x → held d (edit c f hs) ≡ option_map f (held d hs)
        → held d (edit c f (Some g ∷ hs)) ≡ option_map f (held d (Some g ∷ hs))
    by true h r =
        let there : same_home d (home_id g) ≡ true = ap (λ k. same_home k (home_id g)) same ∙ h in
        let new : same_home d (home_id (f g)) ≡ true = ap (same_home d) (keeps g) ∙ there in
        rw (h, new, there) refl
    by false h r = let there : same_home d (home_id g) ≡ false = ap (λ k. same_home k (home_id g)) same ∙ h in rw (h, there) r
held-edit_by false c d f keeps (Some g ∷ hs) e = by (same_home c (home_id g)) refl (held-edit_by false c d f keeps hs e)
  where
    by : (x : Bool) → same_home c (home_id g) ≡ x → held d (edit c f hs) ≡ held d hs → held d (edit c f (Some g ∷ hs)) ≡ held d (Some g ∷ hs)
    by true h r =
        let is = same_home_true c (home_id g) h in
        let there : same_home d (home_id g) ≡ false = ap (same_home d) (sym is) ∙ e in
        let new : same_home d (home_id (f g)) ≡ false = ap (same_home d) (keeps g) ∙ there in
        rw (h, new, there) refl
    by false h r = elim_by (same_home d (home_id g)) refl
      where
        elim_by : (y : Bool) → same_home d (home_id g) ≡ y → held d (edit c f (Some g ∷ hs)) ≡ held d (Some g ∷ hs)
        elim_by true k = rw (h, k) refl
        elim_by false k = rw (h, k) r

-- the home that a hand has after a change is another one, or it is changed
pub data Changed (c d : HomeId) (f : Home → Home) (hs : List (Option Home)) (h : Home) : Type 0 where
  Other : (d ≡ c → ⊥) → held d hs ≡ Some h → Changed c d f hs h
  Made : (g : Home) → d ≡ c → held d hs ≡ Some g → f g ≡ h → Changed c d f hs h

made_by : (c d : HomeId) (f : Home → Home) (hs : List (Option Home)) (h : Home) (o : Option Home) → d ≡ c → held d hs ≡ o → option_map f o ≡ Some h → Changed c d f hs h
made_by c d f hs h None s e m = absurd cc
made_by c d f hs h (Some g) s e m = Made g s e cc

pub changed : (c d : HomeId) (f : Home → Home) → KeepsId f → (hs : List (Option Home)) (h : Home) → held d (edit c f hs) ≡ Some h → Changed c d f hs h
changed c d f keeps hs h e = by (same_home d c) refl
  where
    by : (b : Bool) → same_home d c ≡ b → Changed c d f hs h
    by true s = made_by c d f hs h (held d hs) (same_home_true d c s) refl (sym (held-edit_by true c d f keeps hs s) ∙ e)
    by false s = Other (λ g. let is : same_home d c ≡ true = ap (λ k. same_home k c) g ∙ same_home_self c in absurd cc) (sym (held-edit_by false c d f keeps hs s) ∙ e)

-- a change lets no home go, and brings none
some-map : (f : Home → Home) (o : Option Home) → is_some (option_map f o) ≡ is_some o
some-map f None = refl
some-map f (Some h) = refl

pub edit_held : (c k : HomeId) (f : Home → Home) → KeepsId f → (hs : List (Option Home)) → is_some (held k (edit c f hs)) ≡ is_some (held k hs)
edit_held c k f keeps hs = by (same_home k c) refl
  where
    by : (b : Bool) → same_home k c ≡ b → is_some (held k (edit c f hs)) ≡ is_some (held k hs)
    by true s = ap is_some (held-edit_by true c k f keeps hs s) ∙ some-map f (held k hs)
    by false s = ap is_some (held-edit_by false c k f keeps hs s)

none-edit : (c k : HomeId) (f : Home → Home) → KeepsId f → (hs : List (Option Home)) → held k hs ≡ None → held k (edit c f hs) ≡ None
none-edit c k f keeps hs e = by (same_home k c) refl
  where
    by : (b : Bool) → same_home k c ≡ b → held k (edit c f hs) ≡ None
    by true s = held-edit_by true c k f keeps hs s ∙ ap (option_map f) e
    by false s = held-edit_by false c k f keeps hs s ∙ e

-- the one that was changed
pub edit_made : (c : HomeId) (f : Home → Home) → KeepsId f → (hs : List (Option Home)) (h : Home) → held c hs ≡ Some h → held c (edit c f hs) ≡ Some (f h)
edit_made c f keeps hs h e = held-edit_by true c c f keeps hs (same_home_self c) ∙ ap (option_map f) e

-- ---- homes of different numbers
pub apart-edit : (c : HomeId) (f : Home → Home) → KeepsId f → (hs : List (Option Home)) → AreApart hs → AreApart (edit c f hs)
apart-edit c f keeps [] a = tt
apart-edit c f keeps (None ∷ hs) a = apart-edit c f keeps hs a
apart-edit c f keeps (Some h ∷ hs) a = by (same_home c (home_id h)) refl (apart-edit c f keeps hs a.1)
  where
    by : (b : Bool) → same_home c (home_id h) ≡ b → AreApart (edit c f hs) → AreApart (edit c f (Some h ∷ hs))
    by true e r = rw e (ap (λ k. held k hs) (keeps h) ∙ a.0, a.1)
    by false e r = rw e (none-edit c (home_id h) f keeps hs a.0, r)

held_none_not : (k : HomeId) (h : Home) (hs : List (Option Home)) → held k hs ≡ None → IsIn h hs → k ≡ home_id h → ⊥
held_none_not k h [] e i f = i
held_none_not k h (None ∷ hs) e i f = held_none_not k h hs e i f
held_none_not k h (Some g ∷ hs) e (inl same) f =
    let yes : same_home k (home_id g) ≡ true = ap (same_home k) (ap home_id same ∙ sym f) ∙ same_home_self k in
    let some = rw yes at e in
    absurd cc
held_none_not k h (Some g ∷ hs) e (inr i) f = by (same_home k (home_id g)) refl (λ n. held_none_not k h hs n i f)
  where
    by : (b : Bool) → same_home k (home_id g) ≡ b → (held k hs ≡ None → ⊥) → ⊥
    by true y r = let some = rw y at e in absurd cc
    by false y r = r (rw y at e)

pub apart_held : (h : Home) (hs : List (Option Home)) → AreApart hs → IsIn h hs → held (home_id h) hs ≡ Some h
apart_held h [] a i = absurd i
apart_held h (None ∷ hs) a i = apart_held h hs a i
apart_held h (Some g ∷ hs) a (inl same) = let yes : same_home (home_id h) (home_id g) ≡ true = ap (λ z. same_home (home_id h) (home_id z)) same ∙ same_home_self (home_id h) in rw yes (ap Some same)
apart_held h (Some g ∷ hs) a (inr i) = by (same_home (home_id h) (home_id g)) refl (apart_held h hs a.1 i)
  where
    by : (b : Bool) → same_home (home_id h) (home_id g) ≡ b → held (home_id h) hs ≡ Some h → held (home_id h) (Some g ∷ hs) ≡ Some h
    by true y r = absurd (held_none_not (home_id g) h hs a.0 i (sym (same_home_true (home_id h) (home_id g) y)))
    by false y r = rw y r

-- ---- the threads of a hand
pub held_has : (k : HomeId) (t : ℕ) (h : Home) (hs : List (Option Home)) → held k hs ≡ Some h → has t h ≡ true → has_thread t hs ≡ true
held_has k t h [] e f = absurd cc
held_has k t h (None ∷ hs) e f = held_has k t h hs e f
held_has k t h (Some g ∷ hs) e f = by (same_home k (home_id g)) refl (λ n. held_has k t h hs n f)
  where
    by : (b : Bool) → same_home k (home_id g) ≡ b → (held k hs ≡ Some h → has_thread t hs ≡ true) → has_thread t (Some g ∷ hs) ≡ true
    by true y r = let is = rw y at e in let same : g ≡ h = cc in or_left (has t g) (has_thread t hs) (ap (has t) same ∙ f)
    by false y r = or_right (has t g) (has_thread t hs) (r (rw y at e))

pub edit_has : (t : ℕ) (c : HomeId) (f : Home → Home) (hs : List (Option Home)) → ((h : Home) → held c hs ≡ Some h → has t (f h) ≡ has t h) → has_thread t (edit c f hs) ≡ has_thread t hs
edit_has t c f [] same = refl
edit_has t c f (None ∷ hs) same = edit_has t c f hs same
edit_has t c f (Some g ∷ hs) same = by (same_home c (home_id g)) refl (edit_has t c f hs)
  where
    by : (b : Bool) → same_home c (home_id g) ≡ b → (((h : Home) → held c hs ≡ Some h → has t (f h) ≡ has t h) → has_thread t (edit c f hs) ≡ has_thread t hs)
        → has_thread t (edit c f (Some g ∷ hs)) ≡ has_thread t (Some g ∷ hs)
    by true y r = rw y (ap (λ b. b || has_thread t hs) (same g (rw y refl)))
    by false y r = rw y (ap (λ b. has t g || b) (r (λ h e. same h (rw y e))))

-- ---- where a thread stands
pub stands_at_slot : (t : ℕ) (hs : List (Option Home)) (i : ℕ) (sp : ListId) → i < length hs → StandsInSlot t (get_or hs i None) sp → StandsIn t hs sp
stands_at_slot t [] i sp h l = absurd (omega arith)
stands_at_slot t (None ∷ hs) zero sp h l = absurd l
stands_at_slot t (Some g ∷ hs) zero sp h l = record { home = g; inside = inl refl; listed = l }
stands_at_slot t (None ∷ hs) (suc i) sp h l = let rest = stands_at_slot t hs i sp (omega arith) l in record { home = rest.home; inside = rest.inside; listed = rest.listed }
stands_at_slot t (Some g ∷ hs) (suc i) sp h l = let rest = stands_at_slot t hs i sp (omega arith) l in record { home = rest.home; inside = inr rest.inside; listed = rest.listed }

pub has_nowhere : (t : ℕ) (hs : List (Option Home)) → ((j : ℕ) → j < length hs → slot_has t (get_or hs j None) ≡ false) → has_thread t hs ≡ false
has_nowhere t [] none = refl
has_nowhere t (slot ∷ hs) none = rw (none 0 (omega arith)) (has_nowhere t hs (λ j l. none (suc j) (omega arith)))

in_has : (t : ℕ) (h : Home) (hs : List (Option Home)) → IsIn h hs → has t h ≡ true → has_thread t hs ≡ true
in_has t h [] i e = absurd i
in_has t h (None ∷ hs) i e = in_has t h hs i e
in_has t h (Some g ∷ hs) (inl same) e = or_left (has t g) (has_thread t hs) (ap (has t) same ∙ e)
in_has t h (Some g ∷ hs) (inr i) e = or_right (has t g) (has_thread t hs) (in_has t h hs i e)

pub stands_has : (t : ℕ) (hs : List (Option Home)) (sp : ListId) → StandsIn t hs sp → has_thread t hs ≡ true
stands_has t hs sp s = in_has t s.home hs s.inside s.listed.there

-- ---- one home more
held_set : (k : HomeId) (g : Home) (hs : List (Option Home)) (i : ℕ) → slice_get hs i ≡ Some None → held (home_id g) hs ≡ None → (k ≡ home_id g → ⊥) → held k (set hs i (Some g)) ≡ held k hs
held_set k g [] i e none n = refl
held_set k g (None ∷ hs) zero e none n = by (same_home k (home_id g)) refl
  where
    by : (b : Bool) → same_home k (home_id g) ≡ b → held k (Some g ∷ hs) ≡ held k hs
    by true f = absurd (n (same_home_true k (home_id g) f))
    by false f = rw f refl
held_set k g (Some h ∷ hs) zero e none n = absurd cc
held_set k g (None ∷ hs) (suc i) e none n = held_set k g hs i e none n
held_set k g (Some h ∷ hs) (suc i) e none n = by (same_home (home_id g) (home_id h)) refl (λ m. held_set k g hs i e m n)
  where
    step : (b : Bool) → same_home k (home_id h) ≡ b → held k (set hs i (Some g)) ≡ held k hs → held k (Some h ∷ set hs i (Some g)) ≡ held k (Some h ∷ hs)
    step true f r = rw f refl
    step false f r = rw f r

    by : (b : Bool) → same_home (home_id g) (home_id h) ≡ b → (held (home_id g) hs ≡ None → held k (set hs i (Some g)) ≡ held k hs) → held k (Some h ∷ set hs i (Some g)) ≡ held k (Some h ∷ hs)
    by true f r = let some = rw f at none in absurd cc
    by false f r = step (same_home k (home_id h)) refl (r (rw f at none))

here_set : (g : Home) (hs : List (Option Home)) (i : ℕ) → slice_get hs i ≡ Some None → held (home_id g) hs ≡ None → held (home_id g) (set hs i (Some g)) ≡ Some g
here_set g [] i e none = absurd cc
here_set g (None ∷ hs) zero e none = rw (same_home_self (home_id g)) refl
here_set g (Some h ∷ hs) zero e none = absurd cc
here_set g (None ∷ hs) (suc i) e none = here_set g hs i e none
here_set g (Some h ∷ hs) (suc i) e none = by (same_home (home_id g) (home_id h)) refl (λ m. here_set g hs i e m)
  where
    by : (b : Bool) → same_home (home_id g) (home_id h) ≡ b → (held (home_id g) hs ≡ None → held (home_id g) (set hs i (Some g)) ≡ Some g) → held (home_id g) (Some h ∷ set hs i (Some g)) ≡ Some g
    by true f r = let some = rw f at none in absurd cc
    by false f r = rw f (r (rw f at none))

has_set : (u : ℕ) (g : Home) (hs : List (Option Home)) (i : ℕ) → slice_get hs i ≡ Some None → has_thread u (set hs i (Some g)) ≡ (has u g || has_thread u hs)
has_set u g [] i e = absurd cc
has_set u g (None ∷ hs) zero e = refl
has_set u g (Some h ∷ hs) zero e = absurd cc
has_set u g (None ∷ hs) (suc i) e = has_set u g hs i e
has_set u g (Some h ∷ hs) (suc i) e = ap (λ b. has u h || b) (has_set u g hs i e) ∙ swap (has u h) (has u g) (has_thread u hs)
  where
    swap : (a b c : Bool) → (a || (b || c)) ≡ (b || (a || c))
    swap true true c = refl
    swap true false c = refl
    swap false b c = refl

apart_set : (g : Home) (hs : List (Option Home)) (i : ℕ) → slice_get hs i ≡ Some None → held (home_id g) hs ≡ None → AreApart hs → AreApart (set hs i (Some g))
apart_set g [] i e none a = absurd cc
apart_set g (None ∷ hs) zero e none a = (none, a)
apart_set g (Some h ∷ hs) zero e none a = absurd cc
apart_set g (None ∷ hs) (suc i) e none a = apart_set g hs i e none a
apart_set g (Some h ∷ hs) (suc i) e none a = by (same_home (home_id g) (home_id h)) refl (λ m. apart_set g hs i e m a.1)
  where
    by : (b : Bool) → same_home (home_id g) (home_id h) ≡ b → (held (home_id g) hs ≡ None → AreApart (set hs i (Some g))) → (held (home_id h) (set hs i (Some g)) ≡ None) × AreApart (set hs i (Some g))
    by true f r = let some = rw f at none in absurd cc
    by false f r =
        let other : home_id h ≡ home_id g → ⊥ = λ k. let yes : same_home (home_id g) (home_id h) ≡ true = ap (same_home (home_id g)) k ∙ same_home_self (home_id g) in absurd cc in
        (held_set (home_id h) g hs i e (rw f at none) other ∙ a.0, r (rw f at none))

pub holds_more : (g : Home) (hs : List (Option Home)) (i : ℕ) → slice_get hs i ≡ Some None → held (home_id g) hs ≡ None → HoldsMore hs g (set hs i (Some g))
holds_more g hs i e none = record {
  before = none;
  here = here_set g hs i e none;
  others = λ k n. held_set k g hs i e none n;
  apart = apart_set g hs i e none;
  threads = λ u. has_set u g hs i e;
}
