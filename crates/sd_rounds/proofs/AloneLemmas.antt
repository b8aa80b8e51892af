-- The turn of a processor that has all homes, and whose plan reads nothing, or searches where nothing is queued.
use Rattle.std.proofs.Common.{◌≡◌, ℕ, zero, suc, ◌<◌, true, ◌==◌, max, List, [], ◌∷◌, length, map, replicate, Option, Some, None, is_none, option_map, refl, sym, ap, ◌∙◌, if◌then◌else◌}
use Rattle.std.specs.List.{list_all}
use Rattle.std.proofs.lemmas.Bool.{and_parts, eqb-true}
use Rattle.std.proofs.lemmas.Option.{same_Some}
use Rattle.sd_types.specs.declared.numbers.ChanId.{ChanId}
use Rattle.sd_types.specs.declared.numbers.CpuId.{CpuId}
use Rattle.sd_types.specs.declared.events.Event.{Event}
use Rattle.sd_types.specs.declared.events.Event.TheVariants.{Idle}
use Rattle.sd_types.specs.declared.events.Hints.{Hints}
use Rattle.sd_types.specs.declared.events.Which.{Which}
use Rattle.sd_types.specs.declared.events.Which.TheVariants.{Queued}
use Rattle.sd_types.specs.declared.works.Work.{Work}
use Rattle.sd_rules.specs.ChoiceFunctions.{greatest_hint, least_number, victim_of, with_hint}
use Rattle.sd_state.specs.declared.states.State.{State}
use Rattle.sd_log.specs.Parts.{zeros_read}
use Rattle.sd_machine.specs.declared.plans.Placement.{Placement}
use Rattle.sd_machine.specs.declared.plans.Plan.{Plan}
use Rattle.sd_machine.specs.declared.plans.Plan.TheVariants.{Make, Place, Search}
use Rattle.sd_machine.specs.Choosing.{neighbours, numbers_read, put_chosen, victim_for}
use Rattle.sd_machine.specs.Dispatching.{search_event}
use Rattle.sd_machine.specs.Events.{allowed, event_of, next, plan_event}
use Rattle.sd_machine.specs.Hints.{hint_shown, placed_thread, plan_reads, read_of, reads, reads_for}
use Rattle.sd_machine.specs.Needs.{CanCount}
use Rattle.sd_machine.specs.Plans.{plan}
use Rattle.sd_machine.specs.Runs.{made, serial_hints, shown, turn}
use Rattle.sd_invariants.proofs.Whole.{fit_reached}
use Rattle.sd_replay.proofs.EnteringLemmas.{serial_event}
use Rattle.sd_dispatcher.specs.Reading.{put_unread}
use Rattle.sd_hand.specs.Acting.{IsShown}
use Rattle.sd_world.specs.declared.plain.PlainWorld.{PlainWorld}
use Rattle.sd_world.specs.Plain.{Stands, told}
use Rattle.sd_world.proofs.PlainLemmas as P

-- what the homes show of its plan is its plan
pub plan_shown : (w : Work) (x : PlainWorld) (p : Plan) → Stands w x
    → ((n : ℕ) (s : State) → IsShown x.acting n s → ((k : ChanId) → CanCount s k) → p ≡ plan w s x.acting.actor.cpu.0) → p ≡ plan w (told w x) x.acting.actor.cpu.0
plan_shown w x p st is =
    is (length x.entries.items) (told w x) (P.shown w x st) (λ k. (fit_reached w (length x.entries.items) (told w x) (P.reached w x st)).counts k.0)

-- the numbers that are read for a plan, and what it comes to with them
pub serial_of : (w : Work) (s : State) (c : CpuId) (p : Plan) → p ≡ plan w s c.0 → serial_hints w s c ≡ shown s (plan_reads w s c.0 p)
unfolding serial_hints reads
serial_of w s c p e = ap (λ q. shown s (plan_reads w s c.0 q)) (sym e)

pub next_of : (w : Work) (s : State) (c : CpuId) (p : Plan) → c.0 < w.cpus → p ≡ plan w s c.0
    → next w s c (serial_hints w s c) ≡ allowed w s c.0 (plan_event w s c.0 (shown s (plan_reads w s c.0 p)) p)
next_of w s c p inside e = serial_event w s c inside ∙ ap (λ q. allowed w s c.0 (plan_event w s c.0 (shown s (plan_reads w s c.0 q)) q)) (sym e)

-- a plan that reads nothing
pub makes_it : (w : Work) (s : State) (c : CpuId) (e : Event) → c.0 < w.cpus → Make e ≡ plan w s c.0 → next w s c None ≡ allowed w s c.0 e
makes_it w s c e inside is = ap (next w s c) (sym (serial_of w s c (Make e) is)) ∙ next_of w s c (Make e) inside is

-- a placement for which nothing is read
pub unread : (w : Work) (s : State) (c : CpuId) (at : Placement) (p : ℕ) (e : Event) → c.0 < w.cpus → Place at p ≡ plan w s c.0
    → option_map (event_of at) (put_unread w s c.0 (placed_thread at) p) ≡ Some e → (None ≡ serial_hints w s c) × (next w s c None ≡ allowed w s c.0 e)
unread w s c at p e inside is made = by (reads_for w s c.0 (placed_thread at)) refl made
  where
    by : (o : Option (Which × List CpuId)) → reads_for w s c.0 (placed_thread at) ≡ o
        → option_map (event_of at) (if is_none o then Some (put_chosen w s c.0 (placed_thread at) p None) else None) ≡ Some e
        → (None ≡ serial_hints w s c) × (next w s c None ≡ allowed w s c.0 e)
    by None none same =
        let nothing : shown s (reads_for w s c.0 (placed_thread at)) ≡ None = ap (shown s) none in
        let hints : None ≡ serial_hints w s c = sym (serial_of w s c (Place at p) is ∙ nothing) in (
          hints,
          ap (next w s c) hints ∙ next_of w s c (Place at p) inside is ∙ ap (λ h. allowed w s c.0 (event_of at (put_chosen w s c.0 (placed_thread at) p h))) nothing
              ∙ ap (allowed w s c.0) (same_Some (event_of at (put_chosen w s c.0 (placed_thread at) p None)) e same),
        )
    by (Some r) some same = absurd cc

-- numbers that are all 0
greatest_zero : (ns : List ℕ) → list_all (λ n. n == 0) ns ≡ true → greatest_hint ns ≡ 0
greatest_zero [] e = refl
greatest_zero (n ∷ ns) e =
    let parts = and_parts (n == 0) (list_all (λ m. m == 0) ns) e in
    let here : n ≡ 0 = eqb-true n 0 parts.0 in
    let rest = greatest_zero ns parts.1 in
    (λ j. max (here j) (rest j))

vain_among : (s : State) (cpus : List CpuId) → list_all (λ n. n == 0) (map (hint_shown s Queued) cpus) ≡ true → victim_of cpus (numbers_read cpus (shown s (read_of cpus))) ≡ None
vain_among s [] e = refl
vain_among s (d ∷ ds) e =
    ap (λ g. if g == 0 then None else Some (least_number (with_hint g (d ∷ ds) (map (hint_shown s Queued) (d ∷ ds))))) (greatest_zero (map (hint_shown s Queued) (d ∷ ds)) e)

-- a search where nothing is queued that may be stolen
pub vain : (w : Work) (s : State) (c : CpuId) (hints : Option Hints) → c.0 < w.cpus → Search ≡ plan w s c.0
    → list_all (λ n. n == 0) (map (hint_shown s Queued) (neighbours s c.0)) ≡ true → hints ≡ shown s (read_of (neighbours s c.0)) → next w s c hints ≡ allowed w s c.0 Idle
unfolding victim_for
vain w s c hints inside is zeros read =
    ap (next w s c) (read ∙ sym (serial_of w s c Search is)) ∙ next_of w s c Search inside is
    ∙ ap (λ v. allowed w s c.0 (search_event s v)) (vain_among s (neighbours s c.0) zeros)

-- the event that comes next, with the numbers that are read for it
pub will_make : (w : Work) (s : State) (c : CpuId) (e : Event) → c.0 < w.cpus → Make e ≡ plan w s c.0 → next w s c (serial_hints w s c) ≡ allowed w s c.0 e
will_make w s c e inside is = next_of w s c (Make e) inside is

pub will_idle : (w : Work) (s : State) (c : CpuId) → c.0 < w.cpus → Search ≡ plan w s c.0 → list_all (λ n. n == 0) (map (hint_shown s Queued) (neighbours s c.0)) ≡ true
    → next w s c (serial_hints w s c) ≡ allowed w s c.0 Idle
will_idle w s c inside is zeros = vain w s c (serial_hints w s c) inside is zeros (serial_of w s c Search is)

-- what was read in a search in which all show 0
pub all_zero : (s : State) (cpus : List CpuId) (n : ℕ) → replicate n 0 ≡ map (hint_shown s Queued) cpus → shown s (read_of cpus) ≡ zeros_read n
all_zero s [] zero e = refl
all_zero s [] (suc n) e = cc
all_zero s (d ∷ ds) zero e = cc
all_zero s (d ∷ ds) (suc n) e = ap (λ (ns : List ℕ). let h : Hints = record { which = Queued; numbers = record { items = ns } } in Some h) (sym e)

-- the turn, with the numbers that are read for it
pub with_serial : (w : Work) (s : State) (n : ℕ) (c : CpuId) (hints : Option Hints) → hints ≡ serial_hints w s c → made n c hints (next w s c hints) ≡ turn w s n c
with_serial w s n c hints e = ap (λ h. made n c h (next w s c h)) e
