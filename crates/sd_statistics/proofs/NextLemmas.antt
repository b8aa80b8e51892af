-- The next entry of each thread behind a place, when one entry more stands before it.
use Rattle.std.proofs.Common.{◌≡◌, ℕ, ◌+◌, ◌<◌, Bool, true, false, List, [], ◌∷◌, ◌++◌, length, get_or, drop, reverse, Option, Some, None, refl, sym, ap, ◌∙◌}
use Rattle.std.specs.Prelude.{filter, ◌||◌, if◌then◌else◌}
use Rattle.std.proofs.lemmas.List.{drop_more, reverse-append}
use Rattle.sd_types.specs.declared.numbers.ThreadId.{ThreadId}
use Rattle.sd_types.specs.declared.events.Event.TheVariants.{Tick}
use Rattle.sd_stretches.specs.declared.changes.Happening.{Happening}
use Rattle.sd_stretches.specs.Changes.{is_that_thread}
use Rattle.sd_stretches.specs.Rows.{next_of}
use Rattle.sd_statistics.specs.Locks.{gives, giving, hold_by, taking, trying, wait_by, wait_to, wants}
use Rattle.sd_statistics.specs.Nexts.{AreNexts}

-- for a place that a list does not have
abbrev pub no_happening : Happening
no_happening = record { entry = 0; cpu = record { 0 = 0 }; tick = 0; event = Tick (record { 0 = 0 }); owner = None }

-- the first that passes, of one more
next_more : (p : Happening → Bool) (x : Happening) (xs : List Happening) (b : Bool) → p x ≡ b
    → (if b then Some x else next_of (filter p xs)) ≡ next_of (filter p (x ∷ xs))
next_more p x xs true is = ap (λ c. next_of (if c then x ∷ filter p xs else filter p xs)) (sym is)
next_more p x xs false is = ap (λ c. next_of (if c then x ∷ filter p xs else filter p xs)) (sym is)

next_at : (p : Happening → Bool) (xs : List Happening) (i : ℕ) (d : Happening) → i < length xs
    → (if p (get_or xs i d) then Some (get_or xs i d) else next_of (filter p (drop (i + 1) xs))) ≡ next_of (filter p (drop i xs))
next_at p xs i d inside =
    next_more p (get_or xs i d) (drop (i + 1) xs) (p (get_or xs i d)) refl
    ∙ ap (λ ys. next_of (filter p ys)) (sym (drop_more xs i d inside))

pub gives_at : (xs : List Happening) (i : ℕ) (d : Happening) (who : Option ThreadId) (nexts : List (Option Happening)) → i < length xs → who ≡ giving (get_or xs i d).event
    → AreNexts (λ t. if is_that_thread t who then Some (get_or xs i d) else next_of (filter (gives t) (drop (i + 1) xs))) nexts
    → AreNexts (λ t. next_of (filter (gives t) (drop i xs))) nexts
gives_at xs i d who nexts inside is_who are t next is =
    are t next is
    ∙ ap (λ w. if is_that_thread (record { 0 = t }) w then Some (get_or xs i d) else next_of (filter (gives (record { 0 = t })) (drop (i + 1) xs))) is_who
    ∙ next_at (gives (record { 0 = t })) xs i d inside

either : (a b : Bool) (x : Happening) (y : Option Happening) → (if b then Some x else if a then Some x else y) ≡ (if a || b then Some x else y)
either true true x y = refl
either true false x y = refl
either false true x y = refl
either false false x y = refl

pub wants_at : (xs : List Happening) (i : ℕ) (d : Happening) (taker trier : Option ThreadId) (nexts : List (Option Happening)) → i < length xs
    → taker ≡ taking (get_or xs i d).event → trier ≡ trying (get_or xs i d).event
    → AreNexts (λ t. if is_that_thread t trier then Some (get_or xs i d)
    else if is_that_thread t taker then Some (get_or xs i d) else next_of (filter (wants t) (drop (i + 1) xs))) nexts
    → AreNexts (λ t. next_of (filter (wants t) (drop i xs))) nexts
wants_at xs i d taker trier nexts inside is_taker is_trier are t next is =
    let x = get_or xs i d in
    let rest = next_of (filter (wants (record { 0 = t })) (drop (i + 1) xs)) in
    are t next is
    ∙ ap (λ w. if is_that_thread (record { 0 = t }) w then Some x else if is_that_thread (record { 0 = t }) taker then Some x else rest) is_trier
    ∙ ap (λ w. if is_that_thread (record { 0 = t }) (trying x.event) then Some x else if is_that_thread (record { 0 = t }) w then Some x else rest) is_taker
    ∙ either (is_that_thread (record { 0 = t }) (taking x.event)) (is_that_thread (record { 0 = t }) (trying x.event)) x rest
    ∙ next_at (wants (record { 0 = t })) xs i d inside

-- what is found last comes first: f makes a list of at most one from each element with what follows it
pub found_before : {A B : Type 0} (f : List A → List B) (xs : List A) (i : ℕ) (d : A) (ys found more : List B) → i < length xs
    → f (get_or xs i d ∷ drop (i + 1) xs) ≡ ys ++ f (drop (i + 1) xs) → reverse ys ≡ ys → reverse found ≡ f (drop (i + 1) xs) → more ≡ found ++ ys
    → reverse more ≡ f (drop i xs)
found_before f xs i d ys found more inside makes one so_far pushed =
    ap reverse pushed ∙ reverse-append found ys ∙ ap (λ zs. zs ++ reverse found) one ∙ ap (λ zs. ys ++ zs) so_far ∙ sym makes ∙ ap f (sym (drop_more xs i d inside))

pub one_hold : (entries end : ℕ) (x : Happening) (rest : List Happening) (who : Option ThreadId) → reverse (hold_by entries end x rest who) ≡ hold_by entries end x rest who
one_hold entries end x rest None = refl
one_hold entries end x rest (Some t) = refl

if_one : {A : Type 0} (b : Bool) (y : A) → reverse (if b then y ∷ [] else []) ≡ (if b then y ∷ [] else [])
if_one true y = refl
if_one false y = refl

one_wait_to : (x : Happening) (t : ThreadId) (next : Option Happening) → reverse (wait_to x t next) ≡ wait_to x t next
one_wait_to x t None = refl
one_wait_to x t (Some y) = if_one (is_that_thread t (taking y.event)) _

pub one_wait : (x : Happening) (rest : List Happening) (who : Option ThreadId) → reverse (wait_by x rest who) ≡ wait_by x rest who
one_wait x rest None = refl
one_wait x rest (Some t) = one_wait_to x t (next_of (filter (wants t) rest))
