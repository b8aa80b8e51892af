-- A glimpse tells the lists of an entry, and so the history of one entry more.
use Rattle.std.proofs.Common.{◌≡◌, ℕ, ◌+◌, Bool, ◌&&◌, cond, List, [], ◌∷◌, ◌++◌, length, map, Option, Some, None, refl, ap, ◌∙◌}
use Rattle.std.specs.Prelude.{◌==◌, nat_lt, not, option_to_list, slice_get}
use Rattle.std.specs.List.{position_or_len}
use Rattle.std.proofs.lemmas.List.{length-map}
use Rattle.sd_types.specs.declared.numbers.ThreadId.{ThreadId}
use Rattle.sd_types.specs.declared.events.Entry.{Entry}
use Rattle.sd_types.specs.declared.events.Event.{Event}
use Rattle.sd_types.specs.declared.events.Event.TheVariants.{Will}
use Rattle.sd_types.specs.declared.works.Work.{Work}
use Rattle.sd_types.specs.Priorities.{eff}
use Rattle.sd_state.specs.declared.states.Place.{Place}
use Rattle.sd_state.specs.declared.states.Place.TheVariants.{Waiting}
use Rattle.sd_state.specs.declared.states.State.{State}
use Rattle.sd_state.specs.declared.states.ThreadState.{ThreadState}
use Rattle.sd_state.specs.Opening.{opening}
use Rattle.sd_state.specs.States.{cpu_of}
use Rattle.sd_machine.specs.Runs.{final}
use Rattle.sd_machine.specs.Threads.{greatest_waiting, is_waiting}
use Rattle.sd_frames.specs.Altered.{altered}
use Rattle.sd_stretches.specs.declared.changes.HandOver.{HandOver}
use Rattle.sd_stretches.specs.declared.changes.Wakeup.{Wakeup}
use Rattle.sd_stretches.specs.declared.sights.Sight.{Sight}
use Rattle.sd_stretches.specs.declared.glimpses.Glimpse.{Glimpse}
use Rattle.sd_stretches.specs.declared.histories.History.{History}
use Rattle.sd_stretches.specs.Altered.{last_count, loads_by, onsets_by, ranks_by, sight_among, sights_by}
use Rattle.sd_stretches.specs.Changes.{giver, giver_of, hand_over_by, is_above_base, is_giver, is_inherited, is_priority, wakeup_by, woken_by}
use Rattle.sd_stretches.specs.Glimpses.{above_base_by, giver_among, glimpse_of, greatest_by, hand_over_seen, happening_seen, is_inherited_by, is_seen_giving, waits_for, waker_by, wakeup_seen}
use Rattle.sd_stretches.specs.Histories.{IsHistory}
use Rattle.sd_stretches.specs.Sights.{doing_of, sight_of, sights_of}
use Rattle.sd_stretches.proofs.HistoryLemmas.{history_by, sights_next}

-- The thread that hands priority on.

waits_seen : (l : ℕ) (p : Place) → waits_for l (doing_of p) ≡ is_waiting l p
waits_seen l (Waiting m side k) = refl
waits_seen l p = refl

place_seen : (l greatest : ℕ) (xs : List ThreadState) → position_or_len (λ x. is_seen_giving l greatest x) (map sight_of xs) ≡ position_or_len (λ x. is_giver l greatest x) xs
place_seen l greatest [] = refl
place_seen l greatest (x ∷ xs) =
    ap (λ b. cond (not (b && (eff x.body == greatest))) (1 + position_or_len (λ y. is_seen_giving l greatest y) (map sight_of xs)) 0) (waits_seen l x.place)
    ∙ ap (λ n. cond (not (is_giver l greatest x)) (1 + n) 0) (place_seen l greatest xs)

givers_same : (s : State) (l : ℕ) (greatest : Option ℕ) → giver_among (sights_of s) l greatest ≡ giver_of s l greatest
unfolding sights_of
givers_same s l None = refl
givers_same s l (Some greatest) =
    let place = place_seen l greatest s.threads in
    let many = length-map s.threads sight_of in
    let found : ℕ → ℕ → Option ℕ = λ n m. cond (nat_lt n m) (Some n) None in
    ap (λ n. found n (length (map sight_of s.threads))) place ∙ ap (found (position_or_len (λ x. is_giver l greatest x) s.threads)) many

-- The lists of the entry.

hand_over_same : (s : State) (e : Entry) (ev : Event) (sights : List Sight) (g : Glimpse) → sights ≡ sights_of s → g.tick ≡ (cpu_of s e.cpu.0).count
    → g.greatest ≡ greatest_by s ev → g.above_base ≡ above_base_by s ev → hand_over_seen sights g e ev ≡ hand_over_by s e ev
hand_over_same s e (Will l o p at) sights g are tick greatest above =
    let waiter : giver_among sights l.0 g.greatest ≡ giver s l.0
    = ap (λ (xs : List Sight). giver_among xs l.0 g.greatest) are ∙ ap (giver_among (sights_of s) l.0) greatest ∙ givers_same s l.0 (greatest_waiting l.0 s.threads) in
    let inherited : is_inherited_by g p ≡ is_inherited s l.0 o.0 p
    = ap (λ b. b && is_priority g.greatest p) above ∙ ap (λ m. is_above_base (slice_get s.threads o.0) p && is_priority m p) greatest in
    let made : ℕ → Option ℕ → Bool → Option HandOver
    = λ t w b. Some (record { entry = e.number; tick = t; lock = l; waiter = w; owner = o; priority = p; inherited = b }) in
    ap (λ t. made t (giver_among sights l.0 g.greatest) (is_inherited_by g p)) tick
    ∙ ap (λ w. made (cpu_of s e.cpu.0).count w (is_inherited_by g p)) waiter
    ∙ ap (made (cpu_of s e.cpu.0).count (giver s l.0)) inherited
hand_over_same s e ev sights g are tick greatest above = refl

wakeup_same : (s : State) (e : Entry) (woken : Option ThreadId) (g : Glimpse) → g.tick ≡ (cpu_of s e.cpu.0).count → g.waker ≡ waker_by s e.cpu e.event woken
    → wakeup_seen g e woken ≡ wakeup_by s e woken
wakeup_same s e None g tick waker = refl
wakeup_same s e (Some u) g tick waker =
    let made : ℕ → Option ℕ → Option Wakeup = λ t w. Some (record { entry = e.number; tick = t; waker = w; woken = u }) in
    ap (λ t. made t g.waker) tick ∙ ap (made (cpu_of s e.cpu.0).count) waker

-- one entry more, of whose state this was seen
pub history_glimpsed : (w : Work) (es : List Entry) (e : Entry) (g : Glimpse) (old new : History) → g ≡ glimpse_of (final w (opening w) (es ++ e ∷ [])) e → IsHistory w es old
    → new.onsets.items ≡ old.onsets.items ++ onsets_by (altered e.event) (old.entries + 1) g.tick old.sights.items g.sight
    → new.ranks.items ≡ old.ranks.items ++ ranks_by (altered e.event) (old.entries + 1) g.tick old.sights.items g.sight
    → new.loads.items ≡ old.loads.items ++ loads_by (last_count old.loads.items) (altered e.event) (old.entries + 1) g.tick old.sights.items g.sight
    → new.hand_overs.items ≡ old.hand_overs.items ++ option_to_list (hand_over_seen new.sights.items g e e.event)
    → new.wakeups.items ≡ old.wakeups.items ++ option_to_list (wakeup_seen g e (woken_by e.event))
    → new.happenings.items ≡ old.happenings.items ++ happening_seen g e ∷ []
    → new.sights.items ≡ sights_by (altered e.event) old.sights.items g.sight → new.entries ≡ old.entries + 1
    → IsHistory w (es ++ e ∷ []) new
history_glimpsed w es e g old new seen h onsets ranks loads hand_overs wakeups happenings sights entries =
    let o = altered e.event in
    let s : State = final w (opening w) (es ++ e ∷ []) in
    let tick : g.tick ≡ (cpu_of s e.cpu.0).count = ap (λ (x : Glimpse). x.tick) seen in
    let sight : g.sight ≡ sight_among o (sights_of s) = ap (λ (x : Glimpse). x.sight) seen in
    let are : new.sights.items ≡ sights_of s = sights ∙ ap (sights_by o old.sights.items) sight ∙ sights_next w es e old h in
    history_by w es e s old new refl h
    (rw (tick, sight) at onsets) (rw (tick, sight) at ranks) (rw (tick, sight) at loads)
    (hand_overs
    ∙ ap (λ x. old.hand_overs.items ++ option_to_list x)
    (hand_over_same s e e.event new.sights.items g are tick (ap (λ (x : Glimpse). x.greatest) seen) (ap (λ (x : Glimpse). x.above_base) seen)))
    (wakeups ∙ ap (λ x. old.wakeups.items ++ option_to_list x) (wakeup_same s e (woken_by e.event) g tick (ap (λ (x : Glimpse). x.waker) seen)))
    (happenings ∙ ap (λ (x : Glimpse). old.happenings.items ++ happening_seen x e ∷ []) seen)
    are entries
