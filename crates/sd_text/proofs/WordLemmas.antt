-- The first word of a line, and the rest.
use Rattle.std.proofs.Common.{◌≡◌, ℕ, ◌+◌, ◌-◌, ◌<◌, Bool, true, false, not, cond, ltb, ◌||◌, List, [], ◌∷◌, ◌++◌, length, get_or, append_assoc, take, drop, refl, sym, ap, ◌∙◌, subst, arith, drop-drop, filter}
use Rattle.std.proofs.lemmas.List.{take_rest, take_at, drop_at}
use Rattle.std.proofs.lemmas.List.Folds.{length-prefix_len}
use Rattle.std.proofs.lemmas.Bool.{lt-ltb, and_parts}
use Rattle.std.proofs.lemmas.Bool.Decides.{nat_tests}
use Rattle.std.specs.List.{position_or_len, onto_first, list_all, join_with_byte}
use Rattle.sd_text.specs.Words.{is_blank, is_comment, is_other, ends_word, runs_of, words_of, is_word}
use Rattle.sd_text.proofs.LineLemmas.{take-one_more, drop-one_more}

-- how many blanks the line begins with, and how many bytes of a word
abbrev pub blanks : List ℕ → ℕ
blanks xs = position_or_len is_other xs

abbrev pub plain : List ℕ → ℕ
plain xs = position_or_len ends_word xs

is_comment-at_blank : (x : ℕ) → is_blank x ≡ true → is_comment x ≡ false
is_comment-at_blank x h = grind (arith, nat_tests)

-- blanks before the first word are no part of it
words_of-blank : (x : ℕ) (xs : List ℕ) → is_blank x ≡ true → words_of (x ∷ xs) ≡ words_of xs
unfolding words_of
words_of-blank x xs h = let f = is_comment-at_blank x h in rw (f, h) refl

words_of-comment : (x : ℕ) (xs : List ℕ) → is_comment x ≡ true → words_of (x ∷ xs) ≡ []
unfolding words_of
words_of-comment x xs h = rw h refl

words-blanks_step : (b : Bool) (x : ℕ) (xs : List ℕ) → is_blank x ≡ b → words_of xs ≡ words_of (drop (blanks xs) xs)
    → words_of (x ∷ xs) ≡ words_of (drop (cond (not (not b)) (1 + blanks xs) 0) (x ∷ xs))
words-blanks_step true x xs h rest =
    words_of-blank x xs h ∙ rest ∙ ap words_of (sym (drop-one_more (blanks xs) x xs))
words-blanks_step false x xs h rest = refl

pub words-blanks : (xs : List ℕ) → words_of xs ≡ words_of (drop (blanks xs) xs)
words-blanks [] = refl
words-blanks (x ∷ xs) = words-blanks_step (is_blank x) x xs refl (words-blanks xs)

-- behind the blanks there is a word, a comment or the end
words-none_at : (c : Bool) (x : ℕ) (xs : List ℕ) → is_comment x ≡ c → cond (not c) (1 + plain xs) 0 ≡ 0 → words_of (x ∷ xs) ≡ []
words-none_at true x xs h none = words_of-comment x xs h
words-none_at false x xs h none = absurd (omega arith)

words-none_step : (b : Bool) (x : ℕ) (xs : List ℕ) → is_blank x ≡ b
    → (plain (drop (blanks xs) xs) ≡ 0 → words_of (drop (blanks xs) xs) ≡ [])
    → plain (drop (cond (not (not b)) (1 + blanks xs) 0) (x ∷ xs)) ≡ 0
    → words_of (drop (cond (not (not b)) (1 + blanks xs) 0) (x ∷ xs)) ≡ []
words-none_step true x xs h rest none =
    ap words_of (drop-one_more (blanks xs) x xs) ∙ rest (sym (ap plain (drop-one_more (blanks xs) x xs)) ∙ none)
words-none_step false x xs h rest none =
    words-none_at (is_comment x) x xs refl (subst (λ b. cond (not (b || is_comment x)) (1 + plain xs) 0 ≡ 0) h none)

pub words-none : (xs : List ℕ) → plain (drop (blanks xs) xs) ≡ 0 → words_of (drop (blanks xs) xs) ≡ []
unfolding words_of
words-none [] none = refl
words-none (x ∷ xs) none = words-none_step (is_blank x) x xs refl (words-none xs) none

-- the first run of a line, and the runs of what stands behind it, the first of which is empty
abbrev SplitsRun : List ℕ → Type 0
SplitsRun xs = (more : List (List ℕ)) × (runs_of xs ≡ take (plain xs) xs ∷ more) × (runs_of (drop (plain xs) xs) ≡ [] ∷ more)

splits-step : (b c : Bool) (x : ℕ) (xs : List ℕ) → is_blank x ≡ b → is_comment x ≡ c → SplitsRun xs
    → (more : List (List ℕ)) × (runs_of (x ∷ xs) ≡ take (cond (not (b || c)) (1 + plain xs) 0) (x ∷ xs) ∷ more)
    × (runs_of (drop (cond (not (b || c)) (1 + plain xs) 0) (x ∷ xs)) ≡ [] ∷ more)
splits-step true c x xs blank comment rest =
    let f = is_comment-at_blank x blank in
    let e : runs_of (x ∷ xs) ≡ [] ∷ runs_of xs = rw (f, blank) refl in
    (runs_of xs, e, e)
splits-step false true x xs blank comment rest =
    let e : runs_of (x ∷ xs) ≡ [] ∷ [] = rw comment refl in ([], e, e)
splits-step false false x xs blank comment rest =
    let e : runs_of (x ∷ xs) ≡ onto_first x (runs_of xs) = rw (comment, blank) refl in (
      rest.0,
      e ∙ ap (onto_first x) rest.1 ∙ ap (λ l. l ∷ rest.0) (sym (take-one_more (plain xs) x xs)),
      ap runs_of (drop-one_more (plain xs) x xs) ∙ rest.2,
    )

splits : (xs : List ℕ) → SplitsRun xs
splits [] = ([], refl, refl)
splits (x ∷ xs) = splits-step (is_blank x) (is_comment x) x xs refl refl (splits xs)

kept : (b : Bool) (run : List ℕ) (more : List (List ℕ)) → b ≡ true → cond b (run ∷ more) more ≡ run ∷ more
kept true run more h = refl
kept false run more h = cc

-- a word, and the words behind it
pub words-first : (xs : List ℕ) → 0 < plain xs → words_of xs ≡ take (plain xs) xs ∷ words_of (drop (plain xs) xs)
unfolding words_of
words-first xs some =
    let s = splits xs in
    let here = λ (run : List ℕ). ltb 0 (length run) in
    let long : 0 < length (take (plain xs) xs) = subst (λ n. 0 < n) (sym (length-prefix_len (λ x. not (ends_word x)) xs)) some in
    ap (filter here) s.1 ∙ kept _ (take (plain xs) xs) (filter here s.0) (lt-ltb _ _ long)
    ∙ ap (λ l. take (plain xs) xs ∷ l) (sym (ap (filter here) s.2))

-- what stands behind the blanks from an index on
behind-blanks : (xs : List ℕ) (from s : ℕ) → s ≡ blanks (take (length xs - from) (drop from xs))
    → drop (blanks (drop from xs)) (drop from xs) ≡ drop (from + s) xs
behind-blanks xs from s is =
    drop-drop (blanks (drop from xs)) from xs ∙ ap (λ k. drop (from + k) xs) (sym (is ∙ ap blanks (take_rest xs from)))

-- the first word of what stands from an index on
pub words-from : (xs : List ℕ) (from s w : ℕ) → s ≡ blanks (take (length xs - from) (drop from xs))
    → w ≡ plain (take (length xs - (from + s)) (drop (from + s) xs)) → 0 < w
    → words_of (drop from xs) ≡ take (from + s + w - (from + s)) (drop (from + s) xs) ∷ words_of (drop (from + s + w) xs)
words-from xs from s w blank word some =
    let zs = drop (from + s) xs in
    let n : w ≡ plain zs = word ∙ ap plain (take_rest xs (from + s)) in
    let e : from + s + w - (from + s) ≡ plain zs = omega arith in
    let f : from + s + w ≡ from + s + plain zs = omega arith in
    rw (e, f) (words-blanks (drop from xs) ∙ ap words_of (behind-blanks xs from s blank)
    ∙ words-first zs (omega arith) ∙ ap (λ l. take (plain zs) zs ∷ words_of l) (drop-drop (plain zs) (from + s) xs))

-- there is none
pub words-from_none : (xs : List ℕ) (from s w : ℕ) → s ≡ blanks (take (length xs - from) (drop from xs))
    → w ≡ plain (take (length xs - (from + s)) (drop (from + s) xs)) → w ≡ 0 → words_of (drop from xs) ≡ []
words-from_none xs from s w blank word none =
    let zs = drop (from + s) xs in
    let n : plain zs ≡ 0 = sym (word ∙ ap plain (take_rest xs (from + s))) ∙ none in
    let here = behind-blanks xs from s blank in
    words-blanks (drop from xs) ∙ words-none (drop from xs) (ap plain here ∙ n)

-- ---- words that are put together

plain-here : (rest : List ℕ) → ends_word (get_or rest 0 32) ≡ true → plain rest ≡ 0
plain-here [] h = refl
plain-here (x ∷ xs) h = rw h refl

plain-word : (word rest : List ℕ) → list_all (λ byte. not (ends_word byte)) word ≡ true → ends_word (get_or rest 0 32) ≡ true
    → plain (word ++ rest) ≡ length word
plain-word [] rest h e = plain-here rest e
plain-word (x ∷ xs) rest h e =
    let p = and_parts _ _ h in
    ap (λ b. cond b (1 + plain (xs ++ rest)) 0) p.0
    ∙ ap (λ n. 1 + n) (plain-word xs rest p.1 e) ∙ omega arith

-- a word, and then what ends it
pub words_of-word : (word rest : List ℕ) → is_word word ≡ true → ends_word (get_or rest 0 32) ≡ true
    → words_of (word ++ rest) ≡ word ∷ words_of rest
words_of-word word rest h e =
    let p = and_parts _ _ h in
    let n : plain (word ++ rest) ≡ length word = plain-word word rest p.1 e in
    let some : 0 < length word = let long : ltb 0 (length word) ≡ true = p.0 in grind (arith, nat_tests) in
    words-first (word ++ rest) (omega arith)
    ∙ ap (λ k. take k (word ++ rest) ∷ words_of (drop k (word ++ rest))) n
    ∙ ap (λ l. l ∷ words_of (drop (length word) (word ++ rest))) (take_at word rest (length word) refl)
    ∙ ap (λ l. word ∷ words_of l) (drop_at word rest (length word) refl)

pub words_of-joined : (words : List (List ℕ)) (rest : List ℕ) → list_all is_word words ≡ true → ends_word (get_or rest 0 32) ≡ true
    → words_of (join_with_byte 32 words ++ rest) ≡ words ++ words_of rest
words_of-joined [] rest h e = refl
words_of-joined (word ∷ []) rest h e = words_of-word word rest (and_parts _ _ h).0 e
words_of-joined (word ∷ next ∷ words) rest h e =
    let p = and_parts _ _ h in
    let more = join_with_byte 32 (next ∷ words) in
    ap words_of (append_assoc word (32 ∷ more) rest)
    ∙ words_of-word word (32 ∷ (more ++ rest)) p.0 refl
    ∙ ap (λ l. word ∷ l) (words_of-blank 32 (more ++ rest) refl ∙ words_of-joined (next ∷ words) rest p.1 e)

-- a run has no byte that ends a word
abbrev is_run : List ℕ → Bool
is_run run = list_all (λ byte. not (ends_word byte)) run

runs-onto : (x : ℕ) (runs : List (List ℕ)) → ends_word x ≡ false → list_all is_run runs ≡ true → list_all is_run (onto_first x runs) ≡ true
runs-onto x [] e h = rw e refl
runs-onto x (run ∷ runs) e h = rw e h

runs-step : (b c : Bool) (x : ℕ) (xs : List ℕ) → is_blank x ≡ b → is_comment x ≡ c → list_all is_run (runs_of xs) ≡ true
    → list_all is_run (runs_of (x ∷ xs)) ≡ true
runs-step true c x xs blank comment h =
    let f = is_comment-at_blank x blank in
    let e : runs_of (x ∷ xs) ≡ [] ∷ runs_of xs = rw (f, blank) refl in
    ap (list_all is_run) e ∙ h
runs-step false true x xs blank comment h =
    let e : runs_of (x ∷ xs) ≡ [] ∷ [] = rw comment refl in ap (list_all is_run) e
runs-step false false x xs blank comment h =
    let e : runs_of (x ∷ xs) ≡ onto_first x (runs_of xs) = rw (comment, blank) refl in
    ap (list_all is_run) e ∙ runs-onto x (runs_of xs) (rw (blank, comment) refl) h

are_runs : (xs : List ℕ) → list_all is_run (runs_of xs) ≡ true
are_runs [] = refl
are_runs (x ∷ xs) = runs-step (is_blank x) (is_comment x) x xs refl refl (are_runs xs)

filtered : (b : Bool) (run : List ℕ) (runs : List (List ℕ)) → ltb 0 (length run) ≡ b → is_run run ≡ true → list_all is_word runs ≡ true
    → list_all is_word (cond b (run ∷ runs) runs) ≡ true
filtered true run runs long h rest = rw (long, h, rest) refl
filtered false run runs long h rest = rest

words-kept : (runs : List (List ℕ)) → list_all is_run runs ≡ true → list_all is_word (filter (λ run. ltb 0 (length run)) runs) ≡ true
words-kept [] h = refl
words-kept (run ∷ runs) h =
    let p = and_parts _ _ h in filtered (ltb 0 (length run)) run _ refl p.0 (words-kept runs p.1)

-- the words of a line are words
pub are_words : (line : List ℕ) → list_all is_word (words_of line) ≡ true
unfolding words_of
are_words line = words-kept (runs_of line) (are_runs line)
