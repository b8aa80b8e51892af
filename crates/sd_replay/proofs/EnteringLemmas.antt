-- A processor that has an event for any numbers that it may read has one for those of the state itself.
use Rattle.std.proofs.Common.{◌≡◌, ℕ, zero, suc, ◌<◌, Bool, true, false, not, ◌&&◌, ◌||◌, cond, List, [], ◌∷◌, map, length, Option, Some, None, All, MatchOption, get_or, ◌⊎◌, inl, inr, refl, sym, ap, ◌∙◌, subst, arith}
use Rattle.std.specs.Prelude.{slice_get, option_map, is_some, IsSome, nat_lt}
use Rattle.std.specs.List.{list_any}
use Rattle.std.proofs.lemmas.List.{length-map}
use Rattle.std.proofs.lemmas.Bool.{or_right, cases_Bool, or_parts}
use Rattle.std.proofs.lemmas.Bool.Decides.{nat_tests}
use Rattle.std.proofs.lemmas.Option.{same_Some, slice_get-map, slice_get_within, get_or_from_slice_get}
use Rattle.sd_types.specs.declared.numbers.CpuId.{CpuId}
use Rattle.sd_types.specs.declared.events.Event.{Event}
use Rattle.sd_types.specs.declared.events.Hints.{Hints}
use Rattle.sd_types.specs.declared.events.Put.{Put}
use Rattle.sd_types.specs.declared.events.Which.TheVariants.{Queued}
use Rattle.sd_types.specs.declared.works.Work.{Work}
use Rattle.sd_types.specs.Events.{ticks}
use Rattle.sd_rules.specs.Choices.{IsVictim}
use Rattle.sd_rules.specs.ChoiceFunctions.{victim_of}
use Rattle.sd_rules.proofs.FunctionLemmas.{victim_is}
use Rattle.sd_state.specs.declared.states.State.{State}
use Rattle.sd_machine.specs.declared.plans.Plan.{Plan}
use Rattle.sd_machine.specs.declared.plans.Plan.TheVariants.{Make, Place, Search}
use Rattle.sd_machine.specs.declared.plans.Placement.{Placement}
use Rattle.sd_machine.specs.declared.plans.Placement.TheVariants as placement
use Rattle.sd_machine.specs.Threads.{best_unbound, priority_of}
use Rattle.sd_machine.specs.Choosing.{neighbours, numbers_read, put_chosen, victim_for}
use Rattle.sd_machine.specs.Dispatching.{search_event, steal_event}
use Rattle.sd_machine.specs.Events.{allowed, event_of, may_tick, next, plan_event, wish}
use Rattle.sd_machine.specs.Hints.{hint_of, hint_shown, hints_fit, placed_thread, plan_reads, read_of, reads}
use Rattle.sd_machine.specs.Plans.{plan}
use Rattle.sd_machine.specs.Runs.{serial_hints, shown}
use Rattle.sd_machine.proofs.NumberLemmas.{search_numbers}
use Rattle.sd_replay.specs.Entering.{can_enter, can_steal, plan_enters}
use Rattle.sd_invariants.proofs.Complete.{shown_fit}

-- ---- lists

record IsFound (numbers : List ℕ) : Type 0 where
  index : ℕ
  number : ℕ
  at : slice_get numbers index ≡ Some number
  above : 0 < number

found-next : (n : ℕ) (ns : List ℕ) → IsFound ns → IsFound (n ∷ ns)
found-next n ns f = record { index = suc f.index; number = f.number; at = f.at; above = f.above }

above_zero : (n : ℕ) → nat_lt 0 n ≡ true → 0 < n
above_zero n e = grind (arith, nat_tests)

is_above : (n : ℕ) → 0 < n → nat_lt 0 n ≡ true
is_above n h = grind (arith, nat_tests)

found : (numbers : List ℕ) → list_any (λ n. nat_lt 0 n) numbers ≡ true → IsFound numbers
found [] e = cc
found (n ∷ ns) e = by (nat_lt 0 n) refl (λ later. found ns later) e
  where
    by : (b : Bool) → nat_lt 0 n ≡ b → (list_any (λ m. nat_lt 0 m) ns ≡ true → IsFound ns) → (b || list_any (λ m. nat_lt 0 m) ns) ≡ true → IsFound (n ∷ ns)
    by true here rest e = record { index = 0; number = n; at = refl; above = above_zero n here }
    by false here rest e = found-next n ns (rest e)

any_at : (numbers : List ℕ) (i n : ℕ) → slice_get numbers i ≡ Some n → 0 < n → list_any (λ m. nat_lt 0 m) numbers ≡ true
any_at [] i n at h = cc
any_at (m ∷ ms) zero n at h =
    let same = same_Some m n at in
    let is : nat_lt 0 m ≡ true = is_above m (omega arith) in
    rw is refl
any_at (m ∷ ms) (suc i) n at h = or_right (nat_lt 0 m) (list_any (λ m. nat_lt 0 m) ms) (any_at ms i n at h)

-- ---- the numbers of a state

numbers_shown : (s : State) (cpus : List CpuId) → numbers_read cpus (shown s (read_of cpus)) ≡ map (hint_shown s Queued) cpus
numbers_shown s [] = refl
numbers_shown s (c ∷ cs) = refl

hint_some : (s : State) (best : Option ℕ) → 0 < hint_of (priority_of s best) → is_some best ≡ true
hint_some s None h = absurd (omega arith)
hint_some s (Some t) h = refl

some_hint : (s : State) (best : Option ℕ) → is_some best ≡ true → 0 < hint_of (priority_of s best)
some_hint s None some = cc
some_hint s (Some t) some = omega arith

queue_hint : (s : State) (d : CpuId) → hint_shown s Queued d ≡ hint_of (priority_of s (best_unbound s d.0))
unfolding hint_shown
queue_hint s d = refl

-- ---- a search

steals : (s : State) (v : CpuId) (best : Option ℕ) → is_some best ≡ true → ticks (steal_event s v best) ≡ false
steals s v None e = cc
steals s v (Some t) e = refl

stolen : (s : State) (v : CpuId) (best : Option ℕ) → ticks (steal_event s v best) ≡ false → is_some best ≡ true
stolen s v None e = cc
stolen s v (Some t) e = refl

abbrev zeros : List ℕ → Type 0
zeros numbers = All (λ hint. hint ≡ 0) numbers

-- a processor of the list shows its number at its index
shows : (s : State) (cpus : List CpuId) (i : ℕ) (d : CpuId) → slice_get cpus i ≡ Some d → slice_get (map (hint_shown s Queued) cpus) i ≡ Some (hint_shown s Queued d)
shows s cpus i d at = slice_get-map (hint_shown s Queued) cpus i ∙ ap (option_map (hint_shown s Queued)) at

not_all_zero : (numbers : List ℕ) → zeros numbers → IsFound numbers → ⊥
not_all_zero numbers all f =
    let is_zero : get_or numbers f.index 0 ≡ 0 = all f.index 0 (slice_get_within numbers f.index f.number f.at) in
    let here : get_or numbers f.index 0 ≡ f.number = get_or_from_slice_get numbers f.index f.number 0 f.at in
    let above = f.above in
    omega arith

finds : (s : State) (cpus : List CpuId) (victim : Option CpuId) → MatchOption victim (zeros (map (hint_shown s Queued) cpus)) (IsVictim cpus (map (hint_shown s Queued) cpus))
    → IsFound (map (hint_shown s Queued) cpus) → ticks (search_event s victim) ≡ false
finds s cpus None all f = absurd (not_all_zero (map (hint_shown s Queued) cpus) all f)
finds s cpus (Some v) is f =
    let at = shows s cpus is.has.0 v is.has.1 in
    let hint : hint_shown s Queued v ≡ is.hint = same_Some (hint_shown s Queued v) is.hint (sym at ∙ is.has.2) in
    let above : 0 < hint_of (priority_of s (best_unbound s v.0)) = subst (λ (n : ℕ). 0 < n) (sym hint ∙ queue_hint s v) is.some in
    steals s v (best_unbound s v.0) (hint_some s (best_unbound s v.0) above)

search_steals : (s : State) (c : ℕ) → can_steal s c ≡ true → ticks (search_event s (victim_for s c (shown s (read_of (neighbours s c))))) ≡ false
unfolding can_steal victim_for
search_steals s c e =
    let cpus : List CpuId = neighbours s c in
    subst (λ (numbers : List ℕ). ticks (search_event s (victim_of cpus numbers)) ≡ false) (sym (numbers_shown s cpus))
    (finds s cpus (victim_of cpus (map (hint_shown s Queued) cpus)) (victim_is cpus (map (hint_shown s Queued) cpus) (sym (length-map cpus (hint_shown s Queued))))
    (found (map (hint_shown s Queued) cpus) e))

leads : (s : State) (cpus : List CpuId) (numbers : List ℕ) (victim : Option CpuId) → MatchOption victim (zeros numbers) (IsVictim cpus numbers)
    → ticks (search_event s victim) ≡ false → list_any (λ n. nat_lt 0 n) (map (hint_shown s Queued) cpus) ≡ true
leads s cpus numbers None all e = cc
leads s cpus numbers (Some v) is e =
    let above = some_hint s (best_unbound s v.0) (stolen s v (best_unbound s v.0) e) in
    any_at (map (hint_shown s Queued) cpus) is.has.0 (hint_shown s Queued v) (shows s cpus is.has.0 v is.has.1)
    (subst (λ (n : ℕ). 0 < n) (sym (queue_hint s v)) above)

search_leads : (s : State) (c : ℕ) (hints : Option Hints) → hints_fit (read_of (neighbours s c)) hints ≡ true → ticks (search_event s (victim_for s c hints)) ≡ false
    → can_steal s c ≡ true
unfolding can_steal victim_for
search_leads s c hints fit e =
    let cpus : List CpuId = neighbours s c in
    let numbers : List ℕ = numbers_read cpus hints in
    leads s cpus numbers (victim_of cpus numbers) (victim_is cpus numbers (sym (search_numbers cpus hints fit))) e

-- ---- any plan

plain : (p : Placement) (at : Put) → ticks (event_of p at) ≡ false
plain (placement.Napend t) at = refl
plain p at = refl

given : (a b : Bool) (e : Event) → (a ≡ false) ⊎ (b ≡ true) → is_some (cond (not a || b) (Some e) None) ≡ true
given false b e h = refl
given true true e h = refl
given true false e (inl h) = cc
given true false e (inr h) = cc

refused : (a b : Bool) (e : Event) → a ≡ true → b ≡ false → cond (not a || b) (Some e) None ≡ None
refused true false e h k = refl
refused true true e h k = cc
refused false b e h k = cc

not_or : (a b : Bool) → (not a || b) ≡ true → (a ≡ false) ⊎ (b ≡ true)
not_or false b e = inl refl
not_or true b e = inr e

plan_some : (w : Work) (s : State) (c : ℕ) (p : Plan) → plan_enters w s c p ≡ true → is_some (allowed w s c (plan_event w s c (shown s (plan_reads w s c p)) p)) ≡ true
plan_some w s c (Make e) may = given (ticks e) (may_tick w s c) e (not_or (ticks e) (may_tick w s c) may)
plan_some w s c (Place q p) may =
    let at : Put = put_chosen w s c (placed_thread q) p (shown s (plan_reads w s c (Place q p))) in
    given (ticks (event_of q at)) (may_tick w s c) (event_of q at) (inl (plain q at))
plan_some w s c Search may =
    let e : Event = search_event s (victim_for s c (shown s (read_of (neighbours s c)))) in
    elim (cases_Bool (may_tick w s c)) [
      | inl tick ↦ given (ticks e) (may_tick w s c) e (inr tick)
      | inr still ↦ given (ticks e) (may_tick w s c) e (inl (search_steals s c (by (may_tick w s c) (can_steal s c) still may)))
    ]
  where
    by : (a b : Bool) → a ≡ false → (a || b) ≡ true → b ≡ true
    by false b e h = h
    by true b e h = cc

made_none : (a b : Bool) (e : Event) → (not a || b) ≡ false → cond (not a || b) (Some e) None ≡ None
made_none a b e h = rw h refl

plan_none : (w : Work) (s : State) (c : ℕ) (hints : Option Hints) (p : Plan) → hints_fit (plan_reads w s c p) hints ≡ true → plan_enters w s c p ≡ false
    → allowed w s c (plan_event w s c hints p) ≡ None
plan_none w s c hints (Make e) fit not_made = made_none (ticks e) (may_tick w s c) e not_made
plan_none w s c hints (Place q p) fit not_made = cc
plan_none w s c hints Search fit not_made =
    let parts = or_parts (may_tick w s c) (can_steal s c) not_made in
    let e : Event = search_event s (victim_for s c hints) in
    elim (cases_Bool (ticks e)) [
      | inl tick ↦ refused (ticks e) (may_tick w s c) e tick parts.0
      | inr plain_one ↦ let steal = search_leads s c hints fit plain_one in let no_steal = parts.1 in cc
    ]

-- ---- the event

pub enters_some : (w : Work) (s : State) (c : CpuId) → can_enter w s c ≡ true → IsSome (next w s c (serial_hints w s c))
unfolding can_enter next serial_hints reads wish
enters_some w s c e = by (nat_lt c.0 w.cpus) (hints_fit (plan_reads w s c.0 (plan w s c.0)) (shown s (plan_reads w s c.0 (plan w s c.0)))) (shown_fit s (plan_reads w s c.0 (plan w s c.0))) e
  where
    by : (a f : Bool) → f ≡ true → (a && plan_enters w s c.0 (plan w s c.0)) ≡ true
        → is_some (cond (a && f) (allowed w s c.0 (plan_event w s c.0 (shown s (plan_reads w s c.0 (plan w s c.0))) (plan w s c.0))) None) ≡ true
    by true true fit may = plan_some w s c.0 (plan w s c.0) may
    by true false fit may = cc
    by false f fit may = cc

pub enters_none : (w : Work) (s : State) (c : CpuId) (hints : Option Hints) → can_enter w s c ≡ false → next w s c hints ≡ None
unfolding can_enter next reads wish
enters_none w s c hints e = by (nat_lt c.0 w.cpus) (hints_fit (plan_reads w s c.0 (plan w s c.0)) hints) refl e
  where
    by : (a f : Bool) → hints_fit (plan_reads w s c.0 (plan w s c.0)) hints ≡ f → (a && plan_enters w s c.0 (plan w s c.0)) ≡ false
        → cond (a && f) (allowed w s c.0 (plan_event w s c.0 hints (plan w s c.0))) None ≡ None
    by true true fit may = plan_none w s c.0 hints (plan w s c.0) fit may
    by true false fit may = refl
    by false f fit may = refl

both : {X : Type 0} (a b : Bool) (x y : X) → a ≡ true → b ≡ true → cond (a && b) x y ≡ x
both true true x y h k = refl
both true false x y h k = cc
both false b x y h k = cc

-- in a run that goes in rounds the numbers always fit
pub serial_event : (w : Work) (s : State) (c : CpuId) → c.0 < w.cpus
    → next w s c (serial_hints w s c) ≡ allowed w s c.0 (plan_event w s c.0 (shown s (plan_reads w s c.0 (plan w s c.0))) (plan w s c.0))
unfolding next serial_hints reads wish
serial_event w s c there =
    let inside : nat_lt c.0 w.cpus ≡ true = grind (arith, nat_tests) in
    both (nat_lt c.0 w.cpus) (hints_fit (plan_reads w s c.0 (plan w s c.0)) (shown s (plan_reads w s c.0 (plan w s c.0)))) _ None inside (shown_fit s (plan_reads w s c.0 (plan w s c.0)))
