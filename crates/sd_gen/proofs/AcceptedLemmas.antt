-- The names of generated workloads, and the lines at their head.
use Rattle.std.proofs.Common.{◌≡◌, ℕ, ◌<◌, ◌≤◌, Bool, true, false, leb, List, [], ◌∷◌, ◌++◌, length, map, Some, refl, sym, ap, ◌∙◌, subst, arith}
use Rattle.std.specs.Prelude.{codes}
use Rattle.std.specs.Fmt.{digits}
use Rattle.std.specs.Fmt.{decimal}
use Rattle.std.specs.List.{list_all, range_with_len, flat_map}
use Rattle.std.proofs.lemmas.Bool.{le-leb, and_parts}
use Rattle.std.proofs.lemmas.Bool.Decides.{nat_tests}
use Rattle.std.proofs.lemmas.Option.{same_Some}
use Rattle.std.proofs.lemmas.Fmt.{length-decimal-le, digits_decimal}
use Rattle.std.specs.Char.{is_ascii_digit}
use Rattle.std.specs.Str.{all_ascii_digits}
use Rattle.sd_types.specs.declared.numbers.CpuId.{CpuId}
use Rattle.sd_types.specs.declared.works.LockKind.{LockKind}
use Rattle.sd_types.specs.declared.works.LockKind.TheVariants.{Mutex, Rwlock}
use Rattle.sd_types.specs.NameWords.{is_letter, is_name_byte, is_name}
use Rattle.sd_types.specs.Works.{same_bytes}
use Rattle.sd_text.specs.Numbers.{number_of}
use Rattle.sd_text.proofs.NumberLemmas.{number_of-decimal, own}
use Rattle.sd_lines.specs.Words.{Word, first, only_word, all_numbers}
use Rattle.sd_lines.specs.Statements.{Cpus, Limit, Set, set_line, setting_statement, statement_of}
use Rattle.sd_declare.specs.Declarations.{Declarations, nothing, set_place}
use Rattle.sd_declare.specs.Statements.{is_taken}
use Rattle.sd_workload.specs.Texts.{Outside}
use Rattle.sd_gen.specs.Generated.{head_text, locks_text}
use Rattle.sd_canonical.specs.Canonical.{line_text}
use Rattle.sd_canonical.proofs.TakesLemmas.{Takes, takes-both, takes-line}
use Rattle.sd_canonical.proofs.BlockLemmas.{same-word}
use Rattle.sd_canonical.proofs.ObjectLemmas.{IsNamed, kind_text, takes-lock_lines}

-- ---- a letter and a number

abbrev pub numbered : ℕ → ℕ → Word
numbered letter n = letter ∷ decimal n

digits-name : (word : Word) → all_ascii_digits word ≡ true → list_all is_name_byte word ≡ true
digits-name [] h = refl
digits-name (b ∷ bs) h =
    let p = and_parts (is_ascii_digit b) (all_ascii_digits bs) h in
    let here : is_name_byte b ≡ true = grind (arith, nat_tests, p.0) in
    rw here (digits-name bs p.1)

pub numbered-name : (letter n : ℕ) → is_letter letter ≡ true → n < 1000 → is_name (numbered letter n) ≡ true
numbered-name letter n l small =
    let short : length (decimal n) ≤ 3 = length-decimal-le 3 n (omega arith) (omega arith) (omega arith) in
    let few : leb (length (numbered letter n)) 16 ≡ true = le-leb _ _ (omega arith) in
    rw (l, few, digits-name (decimal n) (digits_decimal own n (omega arith))) refl

-- different numbers are written differently
same-number : (n m : ℕ) → n < 1000 → m < 1000 → same_bytes (decimal n) (decimal m) ≡ true → n ≡ m
same-number n m p q h =
    same_Some n m (sym (number_of-decimal n (omega arith)) ∙ ap number_of (same-word (decimal n) (decimal m) h) ∙ number_of-decimal m (omega arith))

pub other-number : (n m : ℕ) → n < 1000 → m < 1000 → (n ≡ m → ⊥) → same_bytes (decimal n) (decimal m) ≡ false
other-number n m p q differ = by (same_bytes (decimal n) (decimal m)) refl
  where
    by : (b : Bool) → same_bytes (decimal n) (decimal m) ≡ b → same_bytes (decimal n) (decimal m) ≡ false
    by false e = e
    by true e = absurd (differ (same-number n m p q e))

-- ---- settings and the set

abbrev pub the-sets : List (Word × List CpuId)
the-sets = (codes "s", record { 0 = 6 } ∷ record { 0 = 7 } ∷ []) ∷ []

abbrev pub below-head : Declarations
below-head = record nothing { cpus = Some 8; limit = Some 10000; sets = the-sets }

cpus-form : statement_of (codes "cpus" ∷ codes "8" ∷ []) ≡ Some (Cpus 8)
unfolding statement_of setting_statement only_word number_of
cpus-form = refl

limit-form : statement_of (codes "limit" ∷ codes "10000" ∷ []) ≡ Some (Limit 10000)
unfolding statement_of setting_statement only_word number_of
limit-form = refl

set-form : statement_of (codes "set" ∷ codes "s" ∷ codes "6" ∷ codes "7" ∷ []) ≡ Some (Set (codes "s") (6 ∷ 7 ∷ []))
unfolding statement_of set_line first all_numbers number_of
set-form = refl

pub takes-head : Takes head_text nothing Outside below-head Outside
unfolding set_place is_taken
takes-head =
    let d : Declarations = record nothing { cpus = Some 8 } in
    let e : Declarations = record d { limit = Some 10000 } in
    takes-both (line_text (codes "cpus" ∷ codes "8" ∷ [])) _ nothing d below-head Outside Outside Outside
    (takes-line (codes "cpus") (codes "8" ∷ []) (Cpus 8) nothing refl cpus-form (record { syntax = refl; unknown = refl; twice = refl; range = refl; sets = refl; limits = refl }))
    (takes-both (line_text (codes "limit" ∷ codes "10000" ∷ [])) (line_text (codes "set" ∷ codes "s" ∷ codes "6" ∷ codes "7" ∷ [])) d e below-head Outside Outside Outside
    (takes-line (codes "limit") (codes "10000" ∷ []) (Limit 10000) d refl limit-form (record { syntax = refl; unknown = refl; twice = refl; range = refl; sets = refl; limits = refl }))
    (takes-line (codes "set") (codes "s" ∷ codes "6" ∷ codes "7" ∷ []) (Set (codes "s") (6 ∷ 7 ∷ [])) e refl set-form
    (record { syntax = refl; unknown = refl; twice = refl; range = refl; sets = refl; limits = refl })))

-- ---- the locks

abbrev pub mutex-at : ℕ → Word × LockKind
mutex-at n = (numbered 109 n, Mutex)

abbrev pub rwlock-at : ℕ → Word × LockKind
rwlock-at n = (numbered 119 n, Rwlock)

-- 16 mutexes, and 4 rwlocks behind them
unfoldable pub the-locks : List (Word × LockKind)
the-locks = map mutex-at (range_with_len 0 16) ++ map rwlock-at (range_with_len 0 4)

pub locks-named : IsNamed the-locks
unfolding the-locks digits
locks-named = record { names = refl; few = omega arith }

pub locks-count : length the-locks ≡ 20
unfolding the-locks
locks-count = refl

locks-names : list_all (λ l. is_name l.0) the-locks ≡ true
unfolding the-locks digits
locks-names = refl

locks-lines : flat_map kind_text the-locks ≡ locks_text
unfolding the-locks digits
locks-lines = refl

pub takes-the-locks : (d : Declarations) → d.locks ≡ [] → Takes locks_text d Outside (record d { locks = the-locks }) Outside
takes-the-locks d none =
    subst (λ (text : List ℕ). Takes text d Outside (record d { locks = the-locks }) Outside) locks-lines
    (takes-lock_lines the-locks d the-locks locks-names (ap (λ (l : List (Word × LockKind)). l ++ the-locks) none) locks-named)
