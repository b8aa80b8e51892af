-- Entries that are kept short: how many there are, which one lies at a place, and what one more makes of them.
use Rattle.std.proofs.Common.{◌≡◌, ℕ, zero, suc, ◌+◌, ◌<◌, ◌≤◌, List, [], ◌∷◌, ◌++◌, length, get_or, slice_get, take, drop, Some, refl, sym, ap, ◌∙◌, arith, add-zero, length-drop}
use Rattle.std.proofs.lemmas.List.{take-append-le, drop-append-le}
use Rattle.sd_types.specs.declared.events.Entry.{Entry}
use Rattle.sd_log.specs.declared.short.ShortEntry.{ShortEntry}
use Rattle.sd_log.specs.Logged.{AreWithin, entries_from}
use Rattle.sd_log.specs.declared.short.Reading.{Reading}
use Rattle.sd_log.specs.declared.short.Reading.TheVariants.{Nothing, Running, Queued, Zeros}
use Rattle.sd_log.specs.Parts.{hints_of}
use Rattle.sd_log.specs.Short.{IsWithin, bytes_of, entry_at, kind_of, numbers_at}

pub entries-length : (bytes : List ℕ) (n : ℕ) (xs : List ShortEntry) → length (entries_from bytes n xs) ≡ length xs
unfolding entries_from
entries-length bytes n [] = refl
entries-length bytes n (x ∷ xs) = ap suc (entries-length bytes (n + 1) xs)

pub entries-none : (bytes : List ℕ) (n : ℕ) → entries_from bytes n [] ≡ []
unfolding entries_from
entries-none bytes n = refl

pub entries-push : (bytes : List ℕ) (n : ℕ) (xs : List ShortEntry) (y : ShortEntry)
    → entries_from bytes n (xs ++ y ∷ []) ≡ entries_from bytes n xs ++ entry_at bytes (n + length xs) y ∷ []
unfolding entries_from
entries-push bytes n [] y = ap (λ k. entry_at bytes k y ∷ []) (sym (add-zero n))
entries-push bytes n (x ∷ xs) y =
    ap (λ es. entry_at bytes n x ∷ es) (entries-push bytes (n + 1) xs y)
    ∙ (let e : n + 1 + length xs ≡ n + length (x ∷ xs) = omega arith in ap (λ k. entry_at bytes n x ∷ (entries_from bytes (n + 1) xs ++ entry_at bytes k y ∷ [])) e)

-- more bytes behind the others change no entry
grows : (bytes more : List ℕ) (from count : ℕ) → from + count ≤ length bytes → take count (drop from (bytes ++ more)) ≡ take count (drop from bytes)
grows bytes more from count inside =
    let start : from ≤ length bytes = omega (arith, inside) in
    let left : count ≤ length (drop from bytes) = (let long = length-drop from bytes in omega (arith, inside, long)) in
    ap (take count) (drop-append-le from bytes more start) ∙ take-append-le count (drop from bytes) more left

numbers-grow : (bytes more : List ℕ) (r : Reading) (from count : ℕ) → from + bytes_of r count ≤ length bytes → numbers_at (bytes ++ more) r from count ≡ numbers_at bytes r from count
numbers-grow bytes more Nothing from count inside = grows bytes more from count inside
numbers-grow bytes more Running from count inside = grows bytes more from count inside
numbers-grow bytes more Queued from count inside = grows bytes more from count inside
numbers-grow bytes more Zeros from count inside = refl

entry-grows : (bytes more : List ℕ) (n : ℕ) (x : ShortEntry) → IsWithin (length bytes) x → entry_at (bytes ++ more) n x ≡ entry_at bytes n x
entry-grows bytes more n x within =
    ap (λ (ns : List ℕ). let e : Entry = record { number = n; cpu = x.cpu; event = x.event; hints = hints_of (kind_of x.reading) ns } in e)
    (numbers-grow bytes more x.reading x.from x.count within.inside)

pub entries-grow : (bytes more : List ℕ) (n : ℕ) (xs : List ShortEntry) → AreWithin (length bytes) xs
    → entries_from (bytes ++ more) n xs ≡ entries_from bytes n xs
unfolding entries_from
entries-grow bytes more n [] within = refl
entries-grow bytes more n (x ∷ xs) within =
    ap (λ e. e ∷ entries_from (bytes ++ more) (n + 1) xs) (entry-grows bytes more n x (within 0 x (omega arith)))
    ∙ ap (λ es. entry_at bytes n x ∷ es) (entries-grow bytes more (n + 1) xs (λ k d h. within (suc k) d (omega (arith, h))))

-- the entry at a place
pub entries-at : (bytes : List ℕ) (n : ℕ) (xs : List ShortEntry) (i : ℕ) (d : ShortEntry) → i < length xs
    → slice_get (entries_from bytes n xs) i ≡ Some (entry_at bytes (n + i) (get_or xs i d))
unfolding entries_from
entries-at bytes n [] i d inside = absurd (let none : ⊥ = omega (arith, inside) in none)
entries-at bytes n (x ∷ xs) zero d inside = ap (λ k. Some (entry_at bytes k x)) (sym (add-zero n))
entries-at bytes n (x ∷ xs) (suc i) d inside =
    let e : n + 1 + i ≡ n + suc i = omega arith in
    entries-at bytes (n + 1) xs i d (omega (arith, inside)) ∙ ap (λ k. Some (entry_at bytes k (get_or xs i d))) e
