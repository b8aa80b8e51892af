-- Rows of the items of each number, and one item more.
use Rattle.std.proofs.Common.{◌≡◌, ℕ, ◌+◌, ◌<◌, Bool, true, false, List, [], ◌∷◌, ◌++◌, length, get_or, take, refl, sym, ◌∙◌}
use Rattle.std.specs.Prelude.{◌==◌, filter, if◌then◌else◌, Vec}
use Rattle.std.specs.declared.alloc.Global.{Global}
use Rattle.std.proofs.lemmas.List.{append-nil}
use Rattle.sd_stretches.specs.declared.changes.Happening.{Happening}
use Rattle.sd_stretches.specs.declared.changes.Onset.{Onset}
use Rattle.sd_stretches.specs.declared.changes.Rank.{Rank}
use Rattle.sd_stretches.specs.declared.changes.Wakeup.{Wakeup}
use Rattle.sd_stretches.specs.declared.spin_pieces.Spell.{Spell}
use Rattle.sd_stretches.specs.declared.spin_pieces.Track.TheVariants.{Thread}
use Rattle.sd_stretches.specs.Parted.{AreRows}
use Rattle.sd_stretches.specs.Rows.{own_onsets, own_ranks, own_wakeups}
use Rattle.sd_stretches.specs.SpinPieces.{spell_by, spells_on}
use Rattle.sd_stretches.proofs.RangeLemmas.{filter_take_more, flat_take_more}

pub same_rows : {A : Type 0} (f g : ℕ → List A) (rows : List (Vec A Global)) → ((t : ℕ) → f t ≡ g t) → AreRows f rows → AreRows g rows
same_rows f g rows same are t row is = are t row is ∙ same t

-- what is appended where a test is passed
pub if_append : {A : Type 0} (b : Bool) (xs ys : List A) → (if b then xs ++ ys else xs) ≡ xs ++ (if b then ys else [])
if_append true xs ys = refl
if_append false xs ys = sym (append-nil xs)

own_more : {A : Type 0} (key : A → ℕ) (u : ℕ) (xs : List A) (i : ℕ) (d : A) → i < length xs
    → (if key (get_or xs i d) == u then filter (λ x. key x == u) (take i xs) ++ get_or xs i d ∷ [] else filter (λ x. key x == u) (take i xs)) ≡ filter (λ x. key x == u) (take (i + 1) xs)
own_more key u xs i d inside =
    if_append (key (get_or xs i d) == u) (filter (λ x. key x == u) (take i xs)) (get_or xs i d ∷ [])
    ∙ sym (filter_take_more (λ x. key x == u) xs i d inside)

pub onsets_more : (xs : List Onset) (i : ℕ) (d : Onset) (rows : List (Vec Onset Global)) → i < length xs
    → AreRows (λ u. if (get_or xs i d).thread == u then own_onsets u (take i xs) ++ get_or xs i d ∷ [] else own_onsets u (take i xs)) rows
    → AreRows (λ u. own_onsets u (take (i + 1) xs)) rows
onsets_more xs i d rows inside are t row is = are t row is ∙ own_more (λ (x : Onset). x.thread) t xs i d inside

pub ranks_more : (xs : List Rank) (i : ℕ) (d : Rank) (rows : List (Vec Rank Global)) → i < length xs
    → AreRows (λ u. if (get_or xs i d).thread == u then own_ranks u (take i xs) ++ get_or xs i d ∷ [] else own_ranks u (take i xs)) rows
    → AreRows (λ u. own_ranks u (take (i + 1) xs)) rows
ranks_more xs i d rows inside are t row is = are t row is ∙ own_more (λ (x : Rank). x.thread) t xs i d inside

pub wakeups_more : (xs : List Wakeup) (i : ℕ) (d : Wakeup) (rows : List (Vec Wakeup Global)) → i < length xs
    → AreRows (λ u. if (get_or xs i d).woken.0 == u then own_wakeups u (take i xs) ++ get_or xs i d ∷ [] else own_wakeups u (take i xs)) rows
    → AreRows (λ u. own_wakeups u (take (i + 1) xs)) rows
wakeups_more xs i d rows inside are t row is = are t row is ∙ own_more (λ (x : Wakeup). x.woken.0) t xs i d inside

pub spells_none : (rows : List (Vec Spell Global)) → AreRows (λ t. []) rows → AreRows (λ t. spells_on (Thread t) []) rows
unfolding spells_on
spells_none rows are t row is = are t row is

pub spells_more : (xs : List Happening) (i : ℕ) (d : Happening) (rows : List (Vec Spell Global)) → i < length xs
    → AreRows (λ u. spells_on (Thread u) (take i xs) ++ spell_by (Thread u) (get_or xs i d) (get_or xs i d).event) rows
    → AreRows (λ u. spells_on (Thread u) (take (i + 1) xs)) rows
unfolding spells_on
spells_more xs i d rows inside are t row is = are t row is ∙ sym (flat_take_more (λ x. spell_by (Thread t) x x.event) xs i d inside)
