-- A thread stands in one list of its home, and in none of another.
use Rattle.std.proofs.Common.{◌≡◌, ℕ, zero, suc, ◌+◌, ◌%◌, ◌<◌, ◌≤◌, ◌==◌, ◌&&◌, Bool, true, false, is_some, List, [], ◌∷◌, length, Option, Some, None, slice_get, refl, ap, ◌∙◌, arith, ◌⊎◌, inl, inr}
use Rattle.std.specs.Prelude.{if◌then◌else◌, ⊤}
use Rattle.std.proofs.lemmas.Bool.{eq-eqb, eqb-true}
use Rattle.sd_basics.proofs.Numbers.{ones as bit}
use Rattle.sd_types.specs.declared.numbers.CpuId.{CpuId}
use Rattle.sd_types.specs.declared.numbers.HomeId.{HomeId}
use Rattle.sd_types.specs.declared.numbers.HomeId.TheVariants as home
use Rattle.sd_types.specs.declared.numbers.Side.{Side}
use Rattle.sd_types.specs.declared.numbers.Side.TheVariants.{Writer, Reader}
use Rattle.sd_state.specs.declared.states.Place.{Place}
use Rattle.sd_state.specs.declared.states.Place.TheVariants.{Running, Queued, RealTime, Waiting, Asleep, Napping, Ended}
use Rattle.sd_state.specs.declared.states.ThreadState.{ThreadState}
use Rattle.sd_state.specs.declared.states.State.{State}
use Rattle.sd_state.specs.States.{thread_of, same_side}
use Rattle.sd_homes.specs.declared.list_id.ListId.{ListId}
use Rattle.sd_homes.specs.declared.list_id.ListId.TheVariants.{Waits, Sleeps}
use Rattle.sd_homes.specs.Standing.{ByNumber, home_at, home_of, home_of_place, list_at, list_of, listed, look_of, record_of, stands, stands_at}
use Rattle.sd_homes.specs.declared.home.Home.{Home}
use Rattle.sd_homes.specs.Families.{home_id, list_in, same_home}
use Rattle.sd_homes.specs.Kinds.{has_id}
use Rattle.sd_hand.specs.Hands.{AreApart, IsHeld, IsIn, held}
use Rattle.sd_homes.specs.Numbers.{IsHomeOf, IsListOf}
use Rattle.sd_homes.proofs.NumberLemmas.{home_of_list}
use Rattle.sd_hand.specs.OneHome.{AreAllHomes, how_often, lists_at, lists_with}
use Rattle.sd_hand.specs.Shown.{IsHome, IsListThere}
use Rattle.sd_hand.proofs.MoveLemmas.{at_look}
use Rattle.sd_hand.proofs.SlotLemmas.{apart_held, same_home_true}

-- ---- a list of a home has those who stand there
in_list : ListId → Option ThreadState → Bool
in_list sp None = false
in_list sp (Some x) = stands sp x

abbrev times : (ListId → Bool) → List ListId → ℕ
times is [] = 0
times is (sp ∷ sps) = bit (is sp) + times is sps

listed_is : (sp : ListId) (t : ℕ) (o : Option ThreadState) → is_some (listed sp t o) ≡ in_list sp o
unfolding in_list
listed_is sp t None = refl
listed_is sp t (Some x) = by (stands sp x)
  where
    by : (b : Bool) → is_some (if b then Some (record_of t x) else None) ≡ b
    by true = refl
    by false = refl

abbrev AllAt : HomeId → List ListId → Type 0
AllAt k [] = ⊤
AllAt k (sp ∷ sps) = (home_at sp ≡ k) × AllAt k sps

same_times : (n : ℕ) (s : State) (look : ByNumber) (t : ℕ) (h : Home) (sps : List ListId) → IsHome n s look h → AllAt (home_id h) sps → how_often t h sps ≡ times (λ sp. in_list sp (look t)) sps
same_times n s look t h [] is at = refl
same_times n s look t h (sp ∷ sps) is at =
    let here : has_id t (list_in h sp) ≡ in_list sp (look t) = ap is_some ((is.lists sp at.0).each t) ∙ listed_is sp t (look t) in
    (λ i. bit (here i) + same_times n s look t h sps is at.1 i)

all_at : (s : State) (k : HomeId) → IsHomeOf s k → AllAt k (lists_at k)
all_at s (home.Cpu c) there = (refl, (refl, (refl, (refl, tt))))
all_at s (home.RealTime p) there = (refl, tt)
all_at s (home.Chain i) there =
    let a : i % 64 ≡ i = omega arith in
    let b : (i + 64) % 64 ≡ i = omega arith in
    let c : (i + 128) % 64 ≡ i = omega arith in
    let d : (i + 192) % 64 ≡ i = omega arith in
    (ap home.Chain a, (ap home.Chain a, (ap home.Chain b, (ap home.Chain b, (ap home.Chain c, (ap home.Chain c, (ap home.Chain d, (ap home.Chain d, tt))))))))
all_at s (home.Sleepers i) there =
    let a : i % 64 ≡ i = omega arith in
    let b : (i + 64) % 64 ≡ i = omega arith in
    let c : (i + 128) % 64 ≡ i = omega arith in
    let d : (i + 192) % 64 ≡ i = omega arith in
    (ap home.Sleepers a, (ap home.Sleepers b, (ap home.Sleepers c, (ap home.Sleepers d, tt))))

-- ---- of the lists of its home a thread stands in one
yes : (a b : ℕ) → a ≡ b → bit (a == b) ≡ 1
yes a b e = ap bit (eq-eqb a b e)

no : (a b : ℕ) → (a ≡ b → ⊥) → bit (a == b) ≡ 0
no a b n = by (a == b) refl
  where
    by : (x : Bool) → (a == b) ≡ x → bit (a == b) ≡ 0
    by true e = absurd (n (eqb-true a b e))
    by false e = ap bit e

abbrev Decided : ℕ → ℕ → Type 0
Decided a b = ((a ≡ b) × (bit (a == b) ≡ 1)) ⊎ ((a ≡ b → ⊥) × (bit (a == b) ≡ 0))

decide : (a b : ℕ) → Decided a b
decide a b = by (a == b) refl
  where
    by : (x : Bool) → (a == b) ≡ x → Decided a b
    by true e = inl (eqb-true a b e, ap bit e)
    by false e = inr ((λ f. let is = eq-eqb a b f in absurd cc), ap bit e)

-- a number below 256 is one of four with its residue
of_four : (l i : ℕ) → l < 256 → i < 64 → bit (l == i) + (bit (l == (i + 64)) + (bit (l == (i + 128)) + (bit (l == (i + 192)) + 0))) ≡ bit ((l % 64) == i)
of_four l i low small = by (decide l i) (decide l (i + 64)) (decide l (i + 128)) (decide l (i + 192))
  where
    by : Decided l i → Decided l (i + 64) → Decided l (i + 128) → Decided l (i + 192)
        → bit (l == i) + (bit (l == (i + 64)) + (bit (l == (i + 128)) + (bit (l == (i + 192)) + 0))) ≡ bit ((l % 64) == i)
    by (inl a) b c d =
        let is = a.0 in
        let e = no l (i + 64) (λ f. absurd (omega (arith, is, f))) in
        let g = no l (i + 128) (λ f. absurd (omega (arith, is, f))) in
        let h = no l (i + 192) (λ f. absurd (omega (arith, is, f))) in
        let one = a.1 in
        let r = yes (l % 64) i (omega (arith, is, small)) in
        omega (arith, one, e, g, h, r)
    by (inr a) (inl b) c d =
        let is = b.0 in
        let g = no l (i + 128) (λ f. absurd (omega (arith, is, f))) in
        let h = no l (i + 192) (λ f. absurd (omega (arith, is, f))) in
        let none = a.1 in
        let one = b.1 in
        let r = yes (l % 64) i (omega (arith, is, small)) in
        omega (arith, none, one, g, h, r)
    by (inr a) (inr b) (inl c) d =
        let is = c.0 in
        let h = no l (i + 192) (λ f. absurd (omega (arith, is, f))) in
        let none = a.1 in
        let more = b.1 in
        let one = c.1 in
        let r = yes (l % 64) i (omega (arith, is, small)) in
        omega (arith, none, more, one, h, r)
    by (inr a) (inr b) (inr c) (inl d) =
        let is = d.0 in
        let none = a.1 in
        let more = b.1 in
        let most = c.1 in
        let one = d.1 in
        let r = yes (l % 64) i (omega (arith, is, small)) in
        omega (arith, none, more, most, one, r)
    by (inr a) (inr b) (inr c) (inr d) =
        let e = a.0 in
        let g = b.0 in
        let h = c.0 in
        let k = d.0 in
        let r = no (l % 64) i (λ f. absurd (omega (arith, low, small, f, e, g, h, k))) in
        let none = a.1 in
        let more = b.1 in
        let most = c.1 in
        let all = d.1 in
        omega (arith, none, more, most, all, r)

side_by_side : (a : Bool) (side : Side) (rest : ℕ) → bit (a && same_side Writer side) + (bit (a && same_side Reader side) + rest) ≡ bit a + rest
side_by_side true Writer rest = omega arith
side_by_side true Reader rest = omega arith
side_by_side false Writer rest = omega arith
side_by_side false Reader rest = omega arith

first : (b : Bool) → bit b + (0 + (0 + (0 + 0))) ≡ bit b
first true = refl
first false = refl

second : (b : Bool) → 0 + (bit b + (0 + (0 + 0))) ≡ bit b
second true = refl
second false = refl

third : (b : Bool) → 0 + (0 + (bit b + (0 + 0))) ≡ bit b
third true = refl
third false = refl

fourth : (b : Bool) → 0 + (0 + (0 + (bit b + 0))) ≡ bit b
fourth true = refl
fourth false = refl

alone : (b : Bool) → bit b + 0 ≡ bit b
alone true = refl
alone false = refl

one_list : (s : State) (k : HomeId) (last : CpuId) (place : Place) → IsHomeOf s k → IsListThere (list_at last place)
    → times (λ sp. stands_at sp last place) (lists_at k) ≡ bit (same_home (home_of_place place last) k)
one_list s (home.Cpu c) last (Running d) there small = first (d.0 == c.0)
one_list s (home.Cpu c) last (Queued d key) there small = second (d.0 == c.0)
one_list s (home.Cpu c) last (Napping d due) there small = third (d.0 == c.0)
one_list s (home.Cpu c) last Ended there small = fourth (last.0 == c.0)
one_list s (home.Cpu c) last _ there small = refl
one_list s (home.RealTime p) last (RealTime q key) there small = alone (q.0 == p.0)
one_list s (home.RealTime p) last _ there small = refl
one_list s (home.Chain i) last (Waiting l side key) there small =
    side_by_side (l.0 == i) side _
    ∙ ap (λ n. bit (l.0 == i) + n) (side_by_side (l.0 == (i + 64)) side _
    ∙ ap (λ n. bit (l.0 == (i + 64)) + n) (side_by_side (l.0 == (i + 128)) side _
    ∙ ap (λ n. bit (l.0 == (i + 128)) + n) (side_by_side (l.0 == (i + 192)) side 0)))
    ∙ of_four l.0 i small there
one_list s (home.Chain i) last _ there small = refl
one_list s (home.Sleepers i) last (Asleep j key) there small = of_four j.0 i small there
one_list s (home.Sleepers i) last _ there small = refl

-- ---- of all homes one is the thread's
none_else : (t : ℕ) (k : HomeId) (hs : List (Option Home)) → held k hs ≡ None → ((h : Home) → IsIn h hs → how_often t h (lists_at (home_id h)) ≡ bit (same_home k (home_id h))) → lists_with t hs ≡ 0
none_else t k [] none each = refl
none_else t k (None ∷ hs) none each = none_else t k hs none each
none_else t k (Some h ∷ hs) none each = by (same_home k (home_id h)) refl (λ e. none_else t k hs e (λ g i. each g (inr i)))
  where
    by : (b : Bool) → same_home k (home_id h) ≡ b → (held k hs ≡ None → lists_with t hs ≡ 0) → how_often t h (lists_at (home_id h)) + lists_with t hs ≡ 0
    by true y r = let some = rw y at none in absurd cc
    by false y r =
        let here = each h (inl refl) ∙ ap bit y in
        let rest = r (rw y at none) in
        omega (arith, here, rest)

pub one_home : (t : ℕ) (k : HomeId) (hs : List (Option Home)) → AreApart hs → IsHeld k hs → ((h : Home) → IsIn h hs → how_often t h (lists_at (home_id h)) ≡ bit (same_home k (home_id h))) → lists_with t hs ≡ 1
one_home t k [] apart (g, is) each = absurd cc
one_home t k (None ∷ hs) apart is each = one_home t k hs apart is each
one_home t k (Some h ∷ hs) apart (g, is) each = by (same_home k (home_id h)) refl (λ e. one_home t k hs apart.1 (g, e) (λ x i. each x (inr i)))
  where
    by : (b : Bool) → same_home k (home_id h) ≡ b → (held k hs ≡ Some g → lists_with t hs ≡ 1) → how_often t h (lists_at (home_id h)) + lists_with t hs ≡ 1
    by true y r =
        let here = each h (inl refl) ∙ ap bit y in
        let rest = none_else t k hs (ap (λ j. held j hs) (same_home_true k (home_id h) y) ∙ apart.0) (λ x i. each x (inr i)) in
        omega (arith, here, rest)
    by false y r =
        let here = each h (inl refl) ∙ ap bit y in
        let rest = r (rw y at is) in
        omega (arith, here, rest)

-- ---- in all homes of a state
small_there : (s : State) (sp : ListId) → length s.locks ≤ 256 → length s.counts ≤ 256 → IsListOf s sp → IsListThere sp
small_there s (Waits l side) locks chans there = omega (arith, locks, there)
small_there s (Sleeps k) locks chans there = omega (arith, chans, there)
small_there s sp locks chans there = tt

module _ (n : ℕ) (s : State) (hs : List (Option Home)) (t : ℕ) (homes : AreAllHomes n s hs) where
  often : (h : Home) → IsIn h hs → how_often t h (lists_at (home_id h)) ≡ times (λ sp. in_list sp (look_of s t)) (lists_at (home_id h))
  often h i =
      let is = apart_held h hs homes.apart i in
      same_times n s (look_of s) t h (lists_at (home_id h)) (homes.shown (home_id h) h is) (all_at s (home_id h) (homes.only (home_id h) (h, is)))

  pub stands_once : t < length s.threads → IsListOf s (list_of (thread_of s t)) → lists_with t hs ≡ 1
  unfolding in_list
  stands_once inside there =
      let x = thread_of s t in
      let small = small_there s (list_of x) homes.locks homes.chans there in
      one_home t (home_of x) hs homes.apart (homes.all (home_of x) (home_of_list s (list_of x) there))
      (λ h i. let k = homes.only (home_id h) (h, apart_held h hs homes.apart i) in
      often h i ∙ ap (λ o. times (λ sp. in_list sp o) (lists_at (home_id h))) (at_look s t inside) ∙ one_list s (home_id h) x.body.last x.place k small)

  pub stands_nowhere : length s.threads ≤ t → lists_with t hs ≡ 0
  unfolding in_list
  stands_nowhere past = nobody hs (λ h i. often h i ∙ ap (λ o. times (λ sp. in_list sp o) (lists_at (home_id h))) (gone s.threads t past) ∙ no_times (lists_at (home_id h)))
    where
      gone : (xs : List ThreadState) (i : ℕ) → length xs ≤ i → slice_get xs i ≡ None
      gone [] i h = refl
      gone (x ∷ xs) zero h = absurd (omega arith)
      gone (x ∷ xs) (suc i) h = gone xs i (omega arith)

      no_times : (sps : List ListId) → times (λ sp. false) sps ≡ 0
      no_times [] = refl
      no_times (sp ∷ sps) = let rest = no_times sps in omega (arith, rest)

      nobody : (hs : List (Option Home)) → ((h : Home) → IsIn h hs → how_often t h (lists_at (home_id h)) ≡ 0) → lists_with t hs ≡ 0
      nobody [] each = refl
      nobody (None ∷ hs) each = nobody hs each
      nobody (Some h ∷ hs) each =
          let here = each h (inl refl) in
          let rest = nobody hs (λ g i. each g (inr i)) in
          omega (arith, here, rest)
