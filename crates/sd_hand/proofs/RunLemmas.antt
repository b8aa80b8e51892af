-- The thread that runs on a processor changes where it stands: as if it had left its list and come back.
use Rattle.std.proofs.Common.{◌≡◌, ℕ, Bool, true, false, is_some, List, [], ◌∷◌, get_or, Option, Some, None, refl, sym, ap, ◌∙◌, subst}
use Rattle.std.specs.Prelude.{MatchOption, slice_set}
use Rattle.sd_boxq.specs.Order.{drop_id, find_id}
use Rattle.sd_types.specs.declared.numbers.CpuId.{CpuId}
use Rattle.sd_types.specs.declared.numbers.HomeId.{HomeId}
use Rattle.sd_types.specs.declared.numbers.HomeId.TheVariants as id
use Rattle.sd_record.specs.Records.{ThreadRecord}
use Rattle.sd_homes.specs.declared.list_id.ListId.TheVariants.{Runs}
use Rattle.sd_homes.specs.Standing.{id_of, insert_at}
use Rattle.sd_homes.specs.declared.home.Home.{Home}
use Rattle.sd_homes.specs.declared.home.Home.TheVariants as home
use Rattle.sd_homes.specs.Families.{IsWhole, home_id, list_in, putting, same_home, taken_from, taking}
use Rattle.sd_hand.specs.Hands.{AreApart, HandSlots, IsSlot, edit, has_thread, held}
use Rattle.sd_hand.specs.Steps.{RunsChanged}
use Rattle.sd_hand.proofs.GuideLemmas.{ShowsSlots, held_here, kept_here, slot_changed}
use Rattle.sd_hand.proofs.HasLemmas.{back_has, taken_id, went_apart, went_held}
use Rattle.sd_hand.proofs.HomeLemmas.{keeps-with_list}
use Rattle.sd_hand.proofs.SlotLemmas.{KeepsId, held_id}

pub edit_twice : (k : HomeId) (f g : Home → Home) → KeepsId g → (hs : List (Option Home)) → edit k (λ h. f (g h)) hs ≡ edit k f (edit k g hs)
edit_twice k f g keeps [] = refl
edit_twice k f g keeps (None ∷ hs) = ap (λ xs. None ∷ xs) (edit_twice k f g keeps hs)
edit_twice k f g keeps (Some h ∷ hs) = by (same_home k (home_id h)) refl (edit_twice k f g keeps hs)
  where
    by : (b : Bool) → same_home k (home_id h) ≡ b → edit k (λ z. f (g z)) hs ≡ edit k f (edit k g hs) → edit k (λ z. f (g z)) (Some h ∷ hs) ≡ edit k f (edit k g (Some h ∷ hs))
    by true e r = let there : same_home k (home_id (g h)) ≡ true = ap (same_home k) (keeps h) ∙ e in rw (e, there) refl
    by false e r = rw (e, e) (ap (λ xs. Some h ∷ xs) r)

taking_keeps : (t : ℕ) (c : CpuId) → KeepsId (taking t (Runs c))
taking_keeps t c = keeps-with_list (Runs c) (λ h. drop_id id_of t (list_in h (Runs c)))

-- a home in which the thread that runs is changed
abbrev pub HomeChanged : ℕ → CpuId → (ThreadRecord → ThreadRecord → Type 0) → Home → Home → Type 0
HomeChanged t c P h g = MatchOption (find_id id_of t (list_in h (Runs c))) (g ≡ h) (λ r. (q : ThreadRecord) × (g ≡ putting q (Runs c) (taking t (Runs c) h)) × (q.id ≡ r.id) × P r q)

pub home_keeps : (t : ℕ) (c : CpuId) (P : ThreadRecord → ThreadRecord → Type 0) (h g : Home) → HomeChanged t c P h g → home_id g ≡ home_id h
home_keeps t c P h g = by (find_id id_of t (list_in h (Runs c)))
  where
    by : (o : Option ThreadRecord) → MatchOption o (g ≡ h) (λ r. (q : ThreadRecord) × (g ≡ putting q (Runs c) (taking t (Runs c) h)) × (q.id ≡ r.id) × P r q) → home_id g ≡ home_id h
    by None same = ap home_id same
    by (Some r) (q, made, same, can) = ap home_id made ∙ (keeps-with_list (Runs c) (λ z. insert_at (Runs c) q (list_in z (Runs c))) (taking t (Runs c) h) ∙ taking_keeps t c h)

pub runs_changed : (x : HandSlots) (hs : List (Option Home)) (t : ℕ) (c : CpuId) (i : ℕ) (h g : Home) (m : Option Home) (P : ThreadRecord → ThreadRecord → Type 0) → ShowsSlots x hs → IsSlot (id.Cpu c) x.slots i
    → m ≡ get_or hs i m → m ≡ Some h → HomeChanged t c P h g → RunsChanged t c P x.slots (slice_set hs i (Some g))
runs_changed x hs t c i h g m P shown slot e is made =
    subst (λ o. MatchOption (taken_from t (Runs c) o) (slice_set hs i (Some g) ≡ x.slots)
    (λ r. (q : ThreadRecord) × (slice_set hs i (Some g) ≡ edit (id.Cpu c) (putting q (Runs c)) (edit (id.Cpu c) (taking t (Runs c)) x.slots)) × (q.id ≡ r.id) × P r q))
    (sym (held_here x hs (id.Cpu c) i h m shown slot e is)) (by (find_id id_of t (list_in h (Runs c))) made)
  where
    by : (o : Option ThreadRecord) → MatchOption o (g ≡ h) (λ r. (q : ThreadRecord) × (g ≡ putting q (Runs c) (taking t (Runs c) h)) × (q.id ≡ r.id) × P r q)
        → MatchOption o (slice_set hs i (Some g) ≡ x.slots) (λ r. (q : ThreadRecord) × (slice_set hs i (Some g) ≡ edit (id.Cpu c) (putting q (Runs c)) (edit (id.Cpu c) (taking t (Runs c)) x.slots)) × (q.id ≡ r.id) × P r q)
    by None same = kept_here x hs i h g m shown e is same
    by (Some r) (q, came, same, can) =
        (q, slot_changed x hs (id.Cpu c) i h g m (λ z. putting q (Runs c) (taking t (Runs c) z)) shown slot e is came ∙ edit_twice (id.Cpu c) (putting q (Runs c)) (taking t (Runs c)) (taking_keeps t c) x.slots, same, can)

-- the home of a processor is whole
pub whole_cpu : (c : CpuId) (h : Home) → id.Cpu c ≡ home_id h → IsWhole h
whole_cpu c (home.Cpu h) e = tt
whole_cpu c (home.RealTime h) e = absurd cc
whole_cpu c (home.Chain h) e = absurd cc
whole_cpu c (home.Sleepers h) e = absurd cc

-- ---- what the change makes of the homes
module _ (t : ℕ) (c : CpuId) (P : ThreadRecord → ThreadRecord → Type 0) (hs new : List (Option Home)) where
  abbrev pub Made : Option ThreadRecord → Type 0
  Made o = MatchOption o (new ≡ hs) (λ r. (q : ThreadRecord) × (new ≡ edit (id.Cpu c) (putting q (Runs c)) (edit (id.Cpu c) (taking t (Runs c)) hs)) × (q.id ≡ r.id) × P r q)

  pub run_untouched : RunsChanged t c P hs new → is_some (taken_from t (Runs c) (held (id.Cpu c) hs)) ≡ false → new ≡ hs
  run_untouched = by (taken_from t (Runs c) (held (id.Cpu c) hs))
    where
      by : (o : Option ThreadRecord) → Made o → is_some o ≡ false → new ≡ hs
      by None same none = same
      by (Some r) made none = absurd cc

  pub run_held : (k : HomeId) → RunsChanged t c P hs new → is_some (held k new) ≡ is_some (held k hs)
  run_held k = by (taken_from t (Runs c) (held (id.Cpu c) hs))
    where
      by : (o : Option ThreadRecord) → Made o → is_some (held k new) ≡ is_some (held k hs)
      by None same = ap (λ xs. is_some (held k xs)) same
      by (Some r) (q, made, same, can) = ap (λ xs. is_some (held k xs)) made ∙ went_held k t (Runs c) (Runs c) q hs

  pub run_apart : RunsChanged t c P hs new → AreApart hs → AreApart new
  run_apart = by (taken_from t (Runs c) (held (id.Cpu c) hs))
    where
      by : (o : Option ThreadRecord) → Made o → AreApart hs → AreApart new
      by None same a = subst AreApart (sym same) a
      by (Some r) (q, made, same, can) a = subst AreApart (sym made) (went_apart t (Runs c) (Runs c) q hs a)

  pub run_has : (u : ℕ) → RunsChanged t c P hs new → has_thread u new ≡ has_thread u hs
  run_has u = by (taken_from t (Runs c) (held (id.Cpu c) hs)) refl
    where
      by : (o : Option ThreadRecord) → o ≡ taken_from t (Runs c) (held (id.Cpu c) hs) → Made o → has_thread u new ≡ has_thread u hs
      by None e same = ap (has_thread u) same
      by (Some r) e (q, made, same, can) =
          ap (has_thread u) made
          ∙ back_has u t (Runs c) r q hs e (ap (λ i. i.0) same ∙ taken_id t (Runs c) (held (id.Cpu c) hs) r e)
          (λ h f. whole_cpu c h (held_id (id.Cpu c) h (edit (id.Cpu c) (taking t (Runs c)) hs) f))

-- a change that is known
pub run_moved : (t : ℕ) (c : CpuId) (Can : ThreadRecord → Type 0) (f : ThreadRecord → ThreadRecord) (hs new : List (Option Home)) → RunsChanged t c (λ r q. Can r → q ≡ f r) hs new
    → (r : ThreadRecord) → Some r ≡ taken_from t (Runs c) (held (id.Cpu c) hs) → Can r → new ≡ edit (id.Cpu c) (putting (f r) (Runs c)) (edit (id.Cpu c) (taking t (Runs c)) hs)
run_moved t c Can f hs new changed r = by (taken_from t (Runs c) (held (id.Cpu c) hs)) changed
  where
    by : (o : Option ThreadRecord) → Made t c (λ p q. Can p → q ≡ f p) hs new o → Some r ≡ o → Can r → new ≡ edit (id.Cpu c) (putting (f r) (Runs c)) (edit (id.Cpu c) (taking t (Runs c)) hs)
    by None same e can = absurd cc
    by (Some p) (q, made, same, is) e can =
        let one : r ≡ p = cc in
        made ∙ ap (λ z. edit (id.Cpu c) (putting z (Runs c)) (edit (id.Cpu c) (taking t (Runs c)) hs)) (is (subst Can one can) ∙ ap f (sym one))
