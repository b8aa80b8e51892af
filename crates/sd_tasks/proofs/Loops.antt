-- Lemmas on loops that count, and on kept lists.
use Rattle.std.proofs.Common.{◌≡◌, ℕ, suc, ◌+◌, ◌-◌, ◌<◌, Bool, List, [], ◌∷◌, ◌++◌, length, map, take, drop, cond, set, get_or, Some, sym, ap, ◌∙◌, append_assoc, arith}
use Rattle.std.specs.List.{count_by, flat_map, range_with_len, slice_get}
use Rattle.std.proofs.lemmas.List.{drop-map, get_or-map, map-set, take-map, take_rest}
use Rattle.std.proofs.lemmas.Option.{get_or_from_slice_get}
use Rattle.std.proofs.lemmas.List.Sums.{sum_by-append}
use Rattle.sd_basics.proofs.Ranges.{range_more, flat_range_more}
use Rattle.sd_tasks.specs.Written.{Written, again}
use Rattle.sd_tasks.specs.WrittenKept.{line_kept, lines_kept}
use Rattle.sd_tasks.specs.Above.{Member}
use Rattle.sd_tasks.specs.Blocks.{given}
use Rattle.sd_tasks.specs.Kept.{member_kept}
use Rattle.sd_tasks.specs.declared.facts.SetThread.{SetThread}
use Rattle.sd_tasks.specs.declared.written.WrittenLine.{WrittenLine}

-- one round more
pub again_more : (n : ℕ) (lines : List Written) → again (n + 1) lines ≡ again n lines ++ lines
again_more n lines = flat_range_more (λ k. lines) n

-- the range from a number on has the number first
pub range_from : (c n : ℕ) → c < n → range_with_len c (n - c) ≡ c ∷ range_with_len (c + 1) (n - (c + 1))
range_from c n h = ap (range_with_len c) (let e : n - c ≡ suc (n - (c + 1)) = omega arith in e)

pub count_more : (p : ℕ → Bool) (n : ℕ) → count_by p (range_with_len 0 (n + 1)) ≡ count_by p (range_with_len 0 n) + cond (p n) 1 0
count_more p n =
    ap (count_by p) (range_more n) ∙ sum_by-append (λ x. cond (p x) 1 0) (range_with_len 0 n) (n ∷ [])
    ∙ (let e : count_by p (range_with_len 0 n) + (0 + cond (p n) 1 0) ≡ count_by p (range_with_len 0 n) + cond (p n) 1 0 = omega arith in e)

pub kept_behind : (n : ℕ) (lines : List WrittenLine) → lines_kept (drop n lines) ≡ drop n (lines_kept lines)
kept_behind n lines = sym (drop-map line_kept n lines)

pub kept_rest : (n : ℕ) (lines : List WrittenLine) → lines_kept (take (length lines - n) (drop n lines)) ≡ drop n (lines_kept lines)
kept_rest n lines = ap lines_kept (take_rest lines n) ∙ kept_behind n lines

pub kept_front : (n : ℕ) (lines : List WrittenLine) → lines_kept (take n lines) ≡ take n (lines_kept lines)
kept_front n lines = sym (take-map line_kept n lines)

-- one round more of what is written for each number
pub range_step : {A : Type 0} (f : ℕ → List A) (old before now : List A) (k : ℕ) → now ≡ before ++ f k → before ≡ old ++ flat_map f (range_with_len 0 k)
    → now ≡ old ++ flat_map f (range_with_len 0 (k + 1))
range_step {A} f old before now k step below =
    step ∙ ap (λ (xs : List A). xs ++ f k) below ∙ append_assoc old (flat_map f (range_with_len 0 k)) (f k)
    ∙ ap (λ (xs : List A). old ++ xs) (sym (flat_range_more f k))

-- a thread is given a script, among what is kept
pub given_kept : (items : List SetThread) (n : ℕ) (x y : SetThread) (m : Member) → n < length items → x ≡ get_or items n x → member_kept y ≡ given (member_kept x)
    → slice_get (map member_kept items) n ≡ Some m → map member_kept (set items n y) ≡ set (map member_kept items) n (given m)
given_kept items n x y m inside is marked found =
    let same : member_kept x ≡ m = ap member_kept is ∙ sym (get_or-map member_kept items n x (member_kept x) inside) ∙ get_or_from_slice_get (map member_kept items) n m (member_kept x) found in
    map-set member_kept items n y ∙ ap (set (map member_kept items) n) (marked ∙ ap given same)
