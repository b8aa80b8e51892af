-- What was found that a processor reads tells what it goes by: whether its choice is settled, of which processors the numbers are, and its victim.
use Rattle.std.proofs.Common.{◌≡◌, ℕ, Bool, true, false, ◌&&◌, ◌==◌, List, [], ◌∷◌, length, Option, Some, None, is_none, refl, sym, ap, ◌∙◌, if◌then◌else◌}
use Rattle.std.proofs.lemmas.Option.{same_Some}
use Rattle.std.specs.Prelude.{Result, Ok, Err, IfOk}
use Rattle.sd_basics.proofs.Truths.{or_rest}
use Rattle.sd_types.specs.declared.numbers.CpuId.{CpuId}
use Rattle.sd_types.specs.declared.events.Hints.{Hints}
use Rattle.sd_types.specs.declared.events.Which.{Which}
use Rattle.sd_types.specs.declared.events.Which.TheVariants.{Queued, Running}
use Rattle.sd_types.specs.declared.works.Work.{Work}
use Rattle.sd_rules.specs.Choices.{is_among}
use Rattle.sd_rules.specs.ChoiceFunctions.{chosen, preferred, victim_of, with_hint, least_hint}
use Rattle.sd_state.specs.declared.states.State.{State}
use Rattle.sd_state.specs.States.{thread_of}
use Rattle.sd_machine.specs.Choosing.{choice, cpus_for, is_settled, is_warm, neighbours, numbers_read, put_chosen, put_on, victim_for}
use Rattle.sd_machine.specs.Hints.{hints_fit, read_of, reads_for}
use Rattle.sd_dispatcher.specs.Allowed.{settled_put}
use Rattle.sd_dispatcher.specs.Reading.{put_unread}
use Rattle.sd_machine.proofs.NumberLemmas.{placed_numbers, search_numbers}

-- what is told of an answer
pub tells : {A L : Type 0} (r : Result A L) (P Q : A → Type 0) → ((a : A) → P a → Q a) → IfOk r P → IfOk r Q
tells (Ok a) P Q f is = f a is
tells (Err q) P Q f is = tt

-- what is read, of a kind and of a list
abbrev pub listed : Which → List CpuId → Option (Which × List CpuId)
listed which cpus = Some (which, cpus)

-- A choice that is settled.

-- of several processors the last one
pub last_chosen : (cpus : List CpuId) (numbers : List ℕ) (last : CpuId) (warm : Bool) → (length cpus == 1) ≡ false → is_settled cpus last warm ≡ true → last ≡ chosen cpus numbers last warm
last_chosen cpus numbers last warm one e =
    let recent : (warm && is_among last cpus) ≡ true = rw one at e in
    rw recent refl

-- What was read for a thread that is made runnable.

abbrev read_if : Bool → List CpuId → Option (Which × List CpuId)
read_if settled cpus = if settled then None else Some (Running, cpus)

settled_by : (settled : Bool) (cpus : List CpuId) → None ≡ read_if settled cpus → settled ≡ true
settled_by true cpus e = refl
settled_by false cpus e = cc

-- nothing: the choice is settled
pub settled_unread : (w : Work) (s : State) (c t : ℕ) → None ≡ reads_for w s c t → is_settled (cpus_for w s t) (thread_of s t).body.last (is_warm s c t) ≡ true
unfolding reads_for
settled_unread w s c t e = settled_by (is_settled (cpus_for w s t) (thread_of s t).body.last (is_warm s c t)) (cpus_for w s t) e

no_hints : (read : Option (Which × List CpuId)) (hints : Option Hints) → None ≡ read → hints_fit read hints ≡ true → None ≡ hints
no_hints None None e fit = refl
no_hints None (Some h) e fit = cc
no_hints (Some r) hints e fit = cc

pub unread_hints : (w : Work) (s : State) (c t : ℕ) (hints : Option Hints) → None ≡ reads_for w s c t → hints_fit (reads_for w s c t) hints ≡ true → None ≡ hints
unread_hints w s c t hints e fit = no_hints (reads_for w s c t) hints e fit

unsettled_by : (settled : Bool) (cpus : List CpuId) (r : Which × List CpuId) → Some r ≡ read_if settled cpus → (r ≡ (Running, cpus)) × (settled ≡ false)
unsettled_by true cpus r e = cc
unsettled_by false cpus r e = (cc, refl)

-- some: they are the processors on which it may run, and it left its last one a while ago
pub chosen_read : (w : Work) (s : State) (c t p : ℕ) (which : Which) (read : List CpuId) (hints : Option Hints) → listed which read ≡ reads_for w s c t
    → put_on p (thread_of s t).body.bound (chosen read (numbers_read read hints) (thread_of s t).body.last false) ≡ put_chosen w s c t p hints
unfolding reads_for choice put_chosen
chosen_read w s c t p which read hints e =
    let cpus = cpus_for w s t in
    let last = (thread_of s t).body.last in
    let warm = is_warm s c t in
    let is = unsettled_by (is_settled cpus last warm) cpus (which, read) e in
    let away : (warm && is_among last cpus) ≡ false = or_rest (length cpus == 1) (warm && is_among last cpus) is.1 in
    ap (λ (q : Which × List CpuId). put_on p (thread_of s t).body.bound (chosen q.1 (numbers_read q.1 hints) last false)) is.0
    ∙ ap (λ (b : Bool). put_on p (thread_of s t).body.bound (if b then last else preferred last (with_hint (least_hint (numbers_read cpus hints)) cpus (numbers_read cpus hints)))) (sym away)

pub numbers_for : (w : Work) (s : State) (c t : ℕ) (which : Which) (read : List CpuId) (hints : Option Hints) → listed which read ≡ reads_for w s c t
    → hints_fit (reads_for w s c t) hints ≡ true → length (numbers_read read hints) ≡ length read
unfolding reads_for
numbers_for w s c t which read hints e fit =
    let is = unsettled_by (is_settled (cpus_for w s t) (thread_of s t).body.last (is_warm s c t)) (cpus_for w s t) (which, read) e in
    ap (λ (q : Which × List CpuId). length (numbers_read q.1 hints)) is.0 ∙ placed_numbers w s c t hints fit ∙ sym (ap (λ (q : Which × List CpuId). length q.1) is.0)

-- where nothing is read the choice is settled, and the thread is put without it
unread_if : {A : Type 0} (settled : Bool) (cpus : List CpuId) (a : A) → (if settled then Some a else None) ≡ (if is_none (read_if settled cpus) then Some a else None)
unread_if true cpus a = refl
unread_if false cpus a = refl

pub unread_put : (w : Work) (s : State) (c t p : ℕ) (cpus : List CpuId) (bound : Option CpuId) (last : CpuId) (warm : Bool) → cpus ≡ cpus_for w s t → bound ≡ (thread_of s t).body.bound
    → last ≡ (thread_of s t).body.last → warm ≡ is_warm s c t → settled_put cpus bound last warm p ≡ put_unread w s c t p
unfolding reads_for choice put_chosen
unread_put w s c t p cpus bound last warm a b d e =
    (λ j. settled_put (a j) (b j) (d j) (e j) p) ∙ unread_if (is_settled (cpus_for w s t) (thread_of s t).body.last (is_warm s c t)) (cpus_for w s t) (put_chosen w s c t p None)

-- What was read for a search.

-- nothing: there is no neighbour
none_by : (cpus : List CpuId) (hints : Option Hints) → None ≡ read_of cpus → hints_fit (read_of cpus) hints ≡ true → None ≡ victim_of cpus (numbers_read cpus hints)
none_by [] None e fit = refl
none_by [] (Some h) e fit = cc
none_by (d ∷ ds) hints e fit = cc

pub no_victim : (s : State) (c : ℕ) (hints : Option Hints) → None ≡ read_of (neighbours s c) → hints_fit (read_of (neighbours s c)) hints ≡ true → None ≡ victim_for s c hints
unfolding victim_for
no_victim s c hints e fit = none_by (neighbours s c) hints e fit

listed_by : (cpus : List CpuId) (which : Which) (read : List CpuId) → listed which read ≡ read_of cpus → read ≡ cpus
listed_by [] which read e = cc
listed_by (d ∷ ds) which read e = ap (λ (q : Which × List CpuId). q.1) (same_Some (which, read) (Queued, d ∷ ds) e)

-- some: they are the neighbours
pub victim_read : (s : State) (c : ℕ) (which : Which) (read : List CpuId) (hints : Option Hints) → listed which read ≡ read_of (neighbours s c)
    → victim_of read (numbers_read read hints) ≡ victim_for s c hints
unfolding victim_for
victim_read s c which read hints e = ap (λ (cpus : List CpuId). victim_of cpus (numbers_read cpus hints)) (listed_by (neighbours s c) which read e)

pub numbers_of : (s : State) (c : ℕ) (which : Which) (read : List CpuId) (hints : Option Hints) → listed which read ≡ read_of (neighbours s c)
    → hints_fit (read_of (neighbours s c)) hints ≡ true → length (numbers_read read hints) ≡ length read
numbers_of s c which read hints e fit =
    let is = listed_by (neighbours s c) which read e in
    ap (λ (cpus : List CpuId). length (numbers_read cpus hints)) is ∙ search_numbers (neighbours s c) hints fit ∙ sym (ap (λ (cpus : List CpuId). length cpus) is)
