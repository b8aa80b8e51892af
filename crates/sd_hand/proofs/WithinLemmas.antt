-- A thread goes from one list of a home to another of the same home: as if it had left its home and come back.
use Rattle.std.proofs.Common.{◌≡◌, ℕ, Bool, false, is_some, List, get_or, Option, Some, None, refl, sym, ap, ◌∙◌, subst}
use Rattle.std.specs.Prelude.{ℤ, MatchOption, slice_set}
use Rattle.sd_boxq.specs.Order.{drop_id, find_id}
use Rattle.sd_types.specs.declared.classes.ClassState.{ClassState}
use Rattle.sd_types.specs.declared.numbers.CpuId.{CpuId}
use Rattle.sd_types.specs.declared.numbers.HomeId.{HomeId}
use Rattle.sd_types.specs.declared.numbers.HomeId.TheVariants as id
use Rattle.sd_record.specs.Records.{ThreadRecord}
use Rattle.sd_homes.specs.declared.list_id.ListId.{ListId}
use Rattle.sd_homes.specs.declared.list_id.ListId.TheVariants.{Queues, Runs}
use Rattle.sd_homes.specs.Standing.{home_at, id_of, insert_at}
use Rattle.sd_homes.specs.declared.home.Home.{Home}
use Rattle.sd_homes.specs.Families.{home_id, list_in, putting, taken_from, taking}
use Rattle.sd_homes.specs.Homes.{queued_as, running_on}
use Rattle.sd_state.specs.declared.states.Place.TheVariants.{Queued}
use Rattle.sd_hand.specs.declared.steps.Step.{Step}
use Rattle.sd_hand.specs.declared.steps.Step.TheVariants.{Arrive, MoveAs}
use Rattle.sd_hand.specs.Hands.{AreApart, HandSlots, HasRoom, IsHeld, IsSlot, edit, has_thread, held}
use Rattle.sd_hand.specs.Shown.{IsListThere}
use Rattle.sd_hand.specs.Steps.{GoesBack, GoesWithin, Relocated, RunsFromQueue, stepped}
use Rattle.sd_hand.proofs.GuideLemmas.{ShowsSlots, held_here, kept_here, slot_changed}
use Rattle.sd_hand.proofs.HasLemmas.{taken_id, went_apart, went_has, went_held}
use Rattle.sd_hand.proofs.HomeLemmas.{keeps-with_list}
use Rattle.sd_hand.proofs.RunLemmas.{edit_twice, whole_cpu}
use Rattle.sd_hand.proofs.SlotLemmas.{KeepsId, held_id}
use Rattle.sd_hand.proofs.StepLemmas.{step_id}

taking_keeps : (t : ℕ) (from : ListId) → KeepsId (taking t from)
taking_keeps t from = keeps-with_list from (λ h. drop_id id_of t (list_in h from))

-- a home in which it has gone
abbrev pub HomeWent : ℕ → ListId → ListId → (ThreadRecord → ThreadRecord) → Home → Home → Type 0
HomeWent t from to f h g = MatchOption (find_id id_of t (list_in h from)) (g ≡ h) (λ r. g ≡ putting (f r) to (taking t from h))

pub home_stays : (t : ℕ) (from to : ListId) (f : ThreadRecord → ThreadRecord) (h g : Home) → HomeWent t from to f h g → home_id g ≡ home_id h
home_stays t from to f h g = by (find_id id_of t (list_in h from))
  where
    by : (o : Option ThreadRecord) → MatchOption o (g ≡ h) (λ r. g ≡ putting (f r) to (taking t from h)) → home_id g ≡ home_id h
    by None same = ap home_id same
    by (Some r) made = ap home_id made ∙ (keeps-with_list to (λ z. insert_at to (f r) (list_in z to)) (taking t from h) ∙ taking_keeps t from h)

pub goes_within : (x : HandSlots) (hs : List (Option Home)) (t : ℕ) (from to : ListId) (f : ThreadRecord → ThreadRecord) (i : ℕ) (h g : Home) (m : Option Home) → home_at to ≡ home_at from → ShowsSlots x hs
    → IsSlot (home_at from) x.slots i → m ≡ get_or hs i m → m ≡ Some h → HomeWent t from to f h g → GoesWithin t from to f x.slots (slice_set hs i (Some g))
goes_within x hs t from to f i h g m one shown slot e is made =
    subst (λ o. MatchOption (taken_from t from o) (slice_set hs i (Some g) ≡ x.slots)
    (λ r. slice_set hs i (Some g) ≡ edit (home_at to) (putting (f r) to) (edit (home_at from) (taking t from) x.slots)))
    (sym (held_here x hs (home_at from) i h m shown slot e is)) (by (find_id id_of t (list_in h from)) made)
  where
    by : (o : Option ThreadRecord) → MatchOption o (g ≡ h) (λ r. g ≡ putting (f r) to (taking t from h))
        → MatchOption o (slice_set hs i (Some g) ≡ x.slots) (λ r. slice_set hs i (Some g) ≡ edit (home_at to) (putting (f r) to) (edit (home_at from) (taking t from) x.slots))
    by None same = kept_here x hs i h g m shown e is same
    by (Some r) came =
        slot_changed x hs (home_at from) i h g m (λ z. putting (f r) to (taking t from z)) shown slot e is came
        ∙ (edit_twice (home_at from) (putting (f r) to) (taking t from) (taking_keeps t from) x.slots
        ∙ ap (λ k. edit k (putting (f r) to) (edit (home_at from) (taking t from) x.slots)) (sym one))

-- ---- what it makes of the homes
module _ (t : ℕ) (from to : ListId) (f : ThreadRecord → ThreadRecord) (hs new : List (Option Home)) where
  abbrev pub Gone : Option ThreadRecord → Type 0
  Gone o = MatchOption o (new ≡ hs) (λ r. new ≡ edit (home_at to) (putting (f r) to) (edit (home_at from) (taking t from) hs))

  pub within_untouched : GoesWithin t from to f hs new → is_some (taken_from t from (held (home_at from) hs)) ≡ false → new ≡ hs
  within_untouched = by (taken_from t from (held (home_at from) hs))
    where
      by : (o : Option ThreadRecord) → Gone o → is_some o ≡ false → new ≡ hs
      by None same none = same
      by (Some r) made none = absurd cc

  pub within_moved : GoesWithin t from to f hs new → (r : ThreadRecord) → Some r ≡ taken_from t from (held (home_at from) hs)
      → new ≡ edit (home_at to) (putting (f r) to) (edit (home_at from) (taking t from) hs)
  within_moved went r = by (taken_from t from (held (home_at from) hs)) went
    where
      by : (o : Option ThreadRecord) → Gone o → Some r ≡ o → new ≡ edit (home_at to) (putting (f r) to) (edit (home_at from) (taking t from) hs)
      by None same e = absurd cc
      by (Some p) made e =
          let one : p ≡ r = cc in
          made ∙ ap (λ z. edit (home_at to) (putting (f z) to) (edit (home_at from) (taking t from) hs)) one

  pub within_held : GoesWithin t from to f hs new → (k : HomeId) → is_some (held k new) ≡ is_some (held k hs)
  within_held went k = by (taken_from t from (held (home_at from) hs)) went
    where
      by : (o : Option ThreadRecord) → Gone o → is_some (held k new) ≡ is_some (held k hs)
      by None same = ap (λ xs. is_some (held k xs)) same
      by (Some r) made = ap (λ xs. is_some (held k xs)) made ∙ went_held k t from to (f r) hs

  pub within_apart : GoesWithin t from to f hs new → AreApart hs → AreApart new
  within_apart = by (taken_from t from (held (home_at from) hs))
    where
      by : (o : Option ThreadRecord) → Gone o → AreApart hs → AreApart new
      by None same a = subst AreApart (sym same) a
      by (Some r) made a = subst AreApart (sym made) (went_apart t from to (f r) hs a)

  pub within_has : (c : CpuId) → id.Cpu c ≡ home_at to → ((r : ThreadRecord) → id_of (f r) ≡ id_of r) → GoesWithin t from to f hs new → IsHeld (home_at to) hs → IsListThere to → HasRoom t from to hs
      → (u : ℕ) → has_thread u new ≡ has_thread u hs
  within_has c cpu keeps went is there room u = by (taken_from t from (held (home_at from) hs)) refl went
    where
      by : (o : Option ThreadRecord) → o ≡ taken_from t from (held (home_at from) hs) → Gone o → has_thread u new ≡ has_thread u hs
      by None e same = ap (has_thread u) same
      by (Some r) e made =
          ap (has_thread u) made
          ∙ went_has u t from to r (f r) hs e (keeps r ∙ taken_id t from (held (home_at from) hs) r e) is there room
          (λ h z. whole_cpu c h (cpu ∙ held_id (home_at to) h (edit (home_at from) (taking t from) hs) z))

-- ---- a step that was one of these
relocated : (t : ℕ) (c : CpuId) (from : ListId) (step : Step) (to : ListId) (hs new : List (Option Home)) (stands : Bool) → id.Cpu c ≡ home_at to → stands ≡ is_some (taken_from t from (held (home_at from) hs))
    → GoesWithin t from to (stepped step) hs new → Relocated t from step to hs new stands
relocated t c from step to hs new stands cpu stood went = record {
  stood = stood;
  untouched = λ gone. within_untouched t from to (stepped step) hs new went (sym stood ∙ gone);
  moved = within_moved t from to (stepped step) hs new went;
  homes = within_held t from to (stepped step) hs new went;
  apart = within_apart t from to (stepped step) hs new went;
  threads = within_has t from to (stepped step) hs new c cpu (step_id step) went;
}

pub run_relocated : (t : ℕ) (c : CpuId) (from : ListId) (step : Step) (to : ListId) (hs new : List (Option Home)) (stands : Bool) → RunsFromQueue c from step to
    → stands ≡ is_some (taken_from t (Queues c) (held (id.Cpu c) hs)) → GoesWithin t (Queues c) (Runs c) (running_on c) hs new → Relocated t from step to hs new stands
run_relocated t c from step to hs new stands (at, how, last) stood went =
    subst (λ sp. Relocated t sp step to hs new stands) (sym at)
    (subst (λ sp. Relocated t (Queues c) step sp hs new stands) (sym last)
    (subst (λ z. Relocated t (Queues c) z (Runs c) hs new stands) (sym how) (relocated t c (Queues c) (Arrive c) (Runs c) hs new stands refl stood went)))

pub place_relocated : (t : ℕ) (c : CpuId) (class : ClassState) (k key : ℤ) (from : ListId) (step : Step) (to : ListId) (hs new : List (Option Home)) (stands : Bool) → k ≡ key → GoesBack c class key from step to
    → stands ≡ is_some (taken_from t (Queues c) (held (id.Cpu c) hs)) → GoesWithin t (Queues c) (Queues c) (queued_as class k) hs new → Relocated t from step to hs new stands
place_relocated t c class k key from step to hs new stands same (at, how, last) stood went =
    subst (λ sp. Relocated t sp step to hs new stands) (sym at)
    (subst (λ sp. Relocated t (Queues c) step sp hs new stands) (sym last)
    (subst (λ z. Relocated t (Queues c) z (Queues c) hs new stands) (sym how) (relocated t c (Queues c) (MoveAs class (Queued c key)) (Queues c) hs new stands refl stood
    (subst (λ z. GoesWithin t (Queues c) (Queues c) (queued_as class z) hs new) same went))))
