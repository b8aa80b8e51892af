-- A thread that a list of a home has, the home has.
use Rattle.std.proofs.Common.{◌≡◌, ℕ, ◌/◌, zero, suc, Bool, true, false, ◌==◌, ◌||◌, is_some, List, [], ◌∷◌, get_or, Option, Some, None, option_map, slice_get, refl, sym, ap, ◌∙◌, min, nat_lt, int_le, pos, ◌⊎◌, inl, inr, arith}
use Rattle.std.specs.Option.{option_or}
use Rattle.std.proofs.lemmas.Bool.{cases_lt, eq-eqb, or_left, or_right}
use Rattle.sd_types.specs.declared.numbers.Side.{Side}
use Rattle.sd_types.specs.declared.numbers.Side.TheVariants.{Writer, Reader}
use Rattle.sd_boxq.specs.Order.{find_first, find_id}
use Rattle.sd_turnstile.specs.Waiters.{Waiters, find_among as find_waiter, find_in, nobody, on_side}
use Rattle.sd_sleepq.specs.Among.{find_among as find_sleeper}
use Rattle.sd_record.specs.Records.{ThreadRecord}
use Rattle.sd_homes.specs.declared.list_id.ListId.{ListId}
use Rattle.sd_homes.specs.declared.list_id.ListId.TheVariants.{Runs, Queues, Urgent, Waits, Sleeps, Naps, Ends}
use Rattle.sd_homes.specs.Standing.{ages, better, due_of_first, earlier, id_of, least_to_age, rank_of}
use Rattle.sd_homes.specs.declared.home.Home.{Home}
use Rattle.sd_homes.specs.declared.home.Home.TheVariants.{Cpu, RealTime, Chain, Sleepers}
use Rattle.sd_homes.specs.Homes.{OfChain, OfCpu, OfSet, OfSleepers, is_chan_of, is_of, one}
use Rattle.sd_homes.specs.Kinds.{asleep_has, asleep_list, chain_has, chain_list, cpu_has, cpu_list, has_id, set_has, set_list}
use Rattle.sd_homes.specs.Families.{has, list_in}

pub some_or : {X : Type 0} (a b : Option X) → is_some (option_or a b) ≡ (is_some a || is_some b)
some_or None b = refl
some_or (Some x) b = refl

-- ---- lists
pub id_passes : (t : ℕ) (r : ThreadRecord) (rs : List ThreadRecord) (p : ThreadRecord → Bool) → find_first p rs ≡ Some r → has_id (id_of r) rs ≡ true
id_passes t r [] p e = absurd cc
id_passes t r (x ∷ xs) p e = by (p x) (id_of x == id_of r) refl refl (λ n. id_passes t r xs p n)
  where
    by : (b c : Bool) → p x ≡ b → (id_of x == id_of r) ≡ c → (find_first p xs ≡ Some r → has_id (id_of r) xs ≡ true) → has_id (id_of r) (x ∷ xs) ≡ true
    by b true f g rest = rw g refl
    by true false f g rest =
        let is = rw f at e in
        let same : x ≡ r = cc in
        let yes : (id_of x == id_of r) ≡ true = ap (λ z. id_of z == id_of r) same ∙ eq-eqb (id_of r) (id_of r) refl in
        absurd cc
    by false false f g rest = rw g (rest (rw f at e))

pub head_passes : (r : ThreadRecord) (rs : List ThreadRecord) → slice_get rs 0 ≡ Some r → has_id (id_of r) rs ≡ true
head_passes r [] e = absurd cc
head_passes r (x ∷ xs) e = let same : x ≡ r = cc in rw (ap (λ z. id_of z == id_of r) same ∙ eq-eqb (id_of r) (id_of r) refl) refl

-- ---- homes
waiter_there : (t i : ℕ) (side : Side) (ws : List (Waiters ThreadRecord)) → has_id t (on_side (get_or ws i nobody) side) ≡ true → is_some (find_waiter id_of t ws) ≡ true
waiter_there t i Writer [] e = absurd cc
waiter_there t i Reader [] e = absurd cc
waiter_there t zero Writer (w ∷ ws) e =
    some_or (find_in id_of t w) (find_waiter id_of t ws)
    ∙ or_left (is_some (find_in id_of t w)) (is_some (find_waiter id_of t ws)) (some_or (find_id id_of t w.writers) (find_id id_of t w.readers) ∙ or_left (has_id t w.writers) (has_id t w.readers) e)
waiter_there t zero Reader (w ∷ ws) e =
    some_or (find_in id_of t w) (find_waiter id_of t ws)
    ∙ or_left (is_some (find_in id_of t w)) (is_some (find_waiter id_of t ws)) (some_or (find_id id_of t w.writers) (find_id id_of t w.readers) ∙ or_right (has_id t w.writers) (has_id t w.readers) e)
waiter_there t (suc i) side (w ∷ ws) e =
    some_or (find_in id_of t w) (find_waiter id_of t ws) ∙ or_right (is_some (find_in id_of t w)) (is_some (find_waiter id_of t ws)) (waiter_there t i side ws e)

sleeper_there : (t i : ℕ) (qs : List (List ThreadRecord)) → has_id t (get_or qs i []) ≡ true → is_some (find_sleeper id_of t qs) ≡ true
sleeper_there t i [] e = absurd cc
sleeper_there t zero (q ∷ qs) e = some_or (find_id id_of t q) (find_sleeper id_of t qs) ∙ or_left (has_id t q) (is_some (find_sleeper id_of t qs)) e
sleeper_there t (suc i) (q ∷ qs) e = some_or (find_id id_of t q) (find_sleeper id_of t qs) ∙ or_right (has_id t q) (is_some (find_sleeper id_of t qs)) (sleeper_there t i qs e)

cpu_listed : (t : ℕ) (h : OfCpu) (sp : ListId) → has_id t (cpu_list h sp) ≡ true → cpu_has t h ≡ true
cpu_listed t h (Runs c) e = or_left (has_id t (one h.running)) (has_id t h.queue || (has_id t h.nappers || has_id t h.ended)) e
cpu_listed t h (Queues c) e = or_right (has_id t (one h.running)) (has_id t h.queue || (has_id t h.nappers || has_id t h.ended)) (or_left (has_id t h.queue) (has_id t h.nappers || has_id t h.ended) e)
cpu_listed t h (Naps c) e =
    or_right (has_id t (one h.running)) (has_id t h.queue || (has_id t h.nappers || has_id t h.ended))
    (or_right (has_id t h.queue) (has_id t h.nappers || has_id t h.ended) (or_left (has_id t h.nappers) (has_id t h.ended) e))
cpu_listed t h (Ends c) e =
    or_right (has_id t (one h.running)) (has_id t h.queue || (has_id t h.nappers || has_id t h.ended))
    (or_right (has_id t h.queue) (has_id t h.nappers || has_id t h.ended) (or_right (has_id t h.nappers) (has_id t h.ended) e))
cpu_listed t h _ e = absurd cc

set_listed : (t : ℕ) (h : OfSet) (sp : ListId) → has_id t (set_list h sp) ≡ true → set_has t h ≡ true
set_listed t h (Urgent p) e = e
set_listed t h _ e = absurd cc

chain_listed : (t : ℕ) (h : OfChain) (sp : ListId) → has_id t (chain_list h sp) ≡ true → chain_has t h ≡ true
chain_listed t h (Waits l side) e = by (is_of h.turnstiles l.0) refl
  where
    by : (b : Bool) → is_of h.turnstiles l.0 ≡ b → chain_has t h ≡ true
    by true f = waiter_there t (l.0 / 64) side h.turnstiles.locks (rw f at e)
    by false f = let no = rw f at e in absurd cc
chain_listed t h _ e = absurd cc

asleep_listed : (t : ℕ) (h : OfSleepers) (sp : ListId) → has_id t (asleep_list h sp) ≡ true → asleep_has t h ≡ true
asleep_listed t h (Sleeps k) e = by (is_chan_of h.sleepers k.0) refl
  where
    by : (b : Bool) → is_chan_of h.sleepers k.0 ≡ b → asleep_has t h ≡ true
    by true f = sleeper_there t (k.0 / 64) h.sleepers.queues (rw f at e)
    by false f = let no = rw f at e in absurd cc
asleep_listed t h _ e = absurd cc

pub listed_has : (t : ℕ) (h : Home) (sp : ListId) → has_id t (list_in h sp) ≡ true → has t h ≡ true
listed_has t (Cpu h) sp e = cpu_listed t h sp e
listed_has t (RealTime h) sp e = set_listed t h sp e
listed_has t (Chain h) sp e = chain_listed t h sp e
listed_has t (Sleepers h) sp e = asleep_listed t h sp e

-- ---- what look-ups find
some_id : (rs : List ThreadRecord) (o : Option ThreadRecord) (t : ℕ) → option_map id_of o ≡ Some t → ((r : ThreadRecord) → o ≡ Some r → has_id (id_of r) rs ≡ true) → has_id t rs ≡ true
some_id rs None t e there = absurd cc
some_id rs (Some r) t e there = let same : id_of r ≡ t = cc in ap (λ k. has_id k rs) (sym same) ∙ there r refl

pub first_there : (sp : ListId) (h : Home) (t : ℕ) → option_map id_of (slice_get (list_in h sp) 0) ≡ Some t → has t h ≡ true
first_there sp h t e = listed_has t h sp (some_id (list_in h sp) (slice_get (list_in h sp) 0) t e (λ r f. head_passes r (list_in h sp) f))

pub passing_there : (sp : ListId) (p : ThreadRecord → Bool) (h : Home) (t : ℕ) → option_map id_of (find_first p (list_in h sp)) ≡ Some t → has t h ≡ true
passing_there sp p h t e = listed_has t h sp (some_id (list_in h sp) (find_first p (list_in h sp)) t e (λ r f. id_passes t r (list_in h sp) p f))

min_is : (a b : ℕ) → (min a b ≡ a) ⊎ (min a b ≡ b)
min_is a b = elim (cases_lt a b) [ inl h ↦ inl (grind arith) | inr h ↦ inr (grind arith) ]

-- the least number is that of one of them
least_there : (u t : ℕ) (rs : List ThreadRecord) → least_to_age u rs ≡ Some t → has_id t rs ≡ true
least_there u t [] e = absurd cc
least_there u t (r ∷ rs) e = by (ages u r) (id_of r == t) refl refl (least_there u t rs)
  where
    step : (o : Option ℕ) → (id_of r == t) ≡ false → Some (earlier (id_of r) o) ≡ Some t → o ≡ Some t
    step None g f = let same : id_of r ≡ t = cc in let yes = eq-eqb (id_of r) t same in absurd cc
    step (Some m) g f =
        let same : earlier (id_of r) (Some m) ≡ t = cc in
        elim (min_is (id_of r) m) [
          | inl a ↦ (let yes = eq-eqb (id_of r) t (sym a ∙ same) in absurd cc)
          | inr b ↦ ap Some (sym b ∙ same)
        ]

    by : (b c : Bool) → ages u r ≡ b → (id_of r == t) ≡ c → (least_to_age u rs ≡ Some t → has_id t rs ≡ true) → has_id t (r ∷ rs) ≡ true
    by b true f g rest = rw g refl
    by true false f g rest = rw g (rest (step (least_to_age u rs) g (rw f at e)))
    by false false f g rest = rw g (rest (rw f at e))

pub aging_there : (sp : ListId) (u : ℕ) (h : Home) (t : ℕ) → least_to_age u (list_in h sp) ≡ Some t → has t h ≡ true
aging_there sp u h t e = listed_has t h sp (least_there u t (list_in h sp) e)

due_some : (count : ℕ) (o : Option ThreadRecord) (r : ThreadRecord) → due_of_first count o ≡ Some r → o ≡ Some r
due_some count None r e = absurd cc
due_some count (Some q) r e = by (int_le q.key (pos count)) refl
  where
    by : (b : Bool) → int_le q.key (pos count) ≡ b → Some q ≡ Some r
    by true f = rw f at e
    by false f = let none = rw f at e in absurd cc

pub due_there : (sp : ListId) (count : ℕ) (h : Home) (t : ℕ) → option_map id_of (due_of_first count (slice_get (list_in h sp) 0)) ≡ Some t → has t h ≡ true
due_there sp count h t e =
    listed_has t h sp (some_id (list_in h sp) (due_of_first count (slice_get (list_in h sp) 0)) t e
    (λ r f. head_passes r (list_in h sp) (due_some count (slice_get (list_in h sp) 0) r f)))

pub better_there : (c p : ListId) (h g : Home) (t : ℕ) → option_map id_of (better (slice_get (list_in h c) 0) (slice_get (list_in g p) 0)) ≡ Some t → (has t h ≡ true) ⊎ (has t g ≡ true)
better_there c p h g t e = by (slice_get (list_in h c) 0) (slice_get (list_in g p) 0) refl refl e
  where
    own : (r : ThreadRecord) → slice_get (list_in h c) 0 ≡ Some r → Some (id_of r) ≡ Some t → has t h ≡ true
    own r f w = first_there c h t (ap (option_map id_of) f ∙ w)

    urgent : (q : ThreadRecord) → slice_get (list_in g p) 0 ≡ Some q → Some (id_of q) ≡ Some t → has t g ≡ true
    urgent q f w = first_there p g t (ap (option_map id_of) f ∙ w)

    both : (r q : ThreadRecord) (b : Bool) → nat_lt (rank_of q) (rank_of r) ≡ b → slice_get (list_in h c) 0 ≡ Some r → slice_get (list_in g p) 0 ≡ Some q
        → option_map id_of (better (Some r) (Some q)) ≡ Some t → (has t h ≡ true) ⊎ (has t g ≡ true)
    both r q true l a b w = inl (own r a (rw l at w))
    both r q false l a b w = inr (urgent q b (rw l at w))

    by : (o u : Option ThreadRecord) → slice_get (list_in h c) 0 ≡ o → slice_get (list_in g p) 0 ≡ u → option_map id_of (better o u) ≡ Some t → (has t h ≡ true) ⊎ (has t g ≡ true)
    by None None a b w = absurd cc
    by None (Some q) a b w = inr (urgent q b w)
    by (Some r) None a b w = inl (own r a w)
    by (Some r) (Some q) a b w = both r q (nat_lt (rank_of q) (rank_of r)) refl a b w
