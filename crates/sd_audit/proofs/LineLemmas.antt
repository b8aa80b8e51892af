-- Entries and their lines: a line tells one entry, and never is `accounts`.
use Rattle.std.proofs.Common.{◌≡◌, ℕ, ◌<◌, ◌^◌, true, ◌&&◌, List, [], ◌∷◌, ◌++◌, map, refl, sym, ap, ◌∙◌, arith}
use Rattle.std.specs.Prelude.{codes, nat_lt}
use Rattle.std.specs.List.{All, list_all, join_with_byte}
use Rattle.std.specs.Fmt.{decimal}
use Rattle.std.specs.Char.{is_ascii_digit}
use Rattle.std.specs.Str.{all_ascii_digits}
use Rattle.std.proofs.lemmas.Bool.{false≢true, and_parts}
use Rattle.std.proofs.lemmas.Bool.Decides.{nat_tests}
use Rattle.std.proofs.lemmas.List.Elements.{All-head, All-tail}
use Rattle.std.proofs.lemmas.Fmt.{digits_decimal}
use Rattle.sd_types.specs.declared.events.Entry.{Entry}
use Rattle.sd_types.specs.declared.works.Work.{Work}
use Rattle.sd_state.specs.declared.states.State.{State}
use Rattle.sd_state.specs.Opening.{opening}
use Rattle.sd_state.specs.Texts.{accounts_text, threads_text, cpus_text}
use Rattle.sd_text.specs.Lines.{lines_of, is_line, text_of_lines}
use Rattle.sd_text.specs.Words.{is_word}
use Rattle.sd_text.proofs.LineLemmas.{lines_of-line, lines_of-text}
use Rattle.sd_text.proofs.NumberLemmas.{own, is_word-decimal}
use Rattle.sd_machine.specs.Runs.{final}
use Rattle.sd_machine.specs.Texts.{entry_text, entries_text, cycles_text, journal}
use Rattle.sd_entries.specs.EntryWords.{entry_words, event_words, hint_words}
use Rattle.sd_machine.specs.Texts.{cpu_text}
use Rattle.sd_entries.specs.Fitting.{IsSpelled, in_range, event_in_range, hints_in_range}
use Rattle.sd_entries.proofs.SpellLemmas.{entry_spelled}
use Rattle.sd_entries.proofs.WordLemmas.{entry_is_line}
use Rattle.sd_entries.proofs.SpellingLemmas.{one_line}
use Rattle.sd_audit.specs.Audits.{entry_line}
use Rattle.sd_audit.proofs.ReadLemmas.{entry_line_is}

module _ (w : Work) where
  line_words : (e : Entry) → entry_line w e ≡ join_with_byte 32 (entry_words w e)
  line_words e = entry_line_is w e (join_with_byte 32 (entry_words w e)) (entry_spelled w e)

  pub text_of : (e : Entry) → entry_text w e ≡ entry_line w e ++ 10 ∷ []
  text_of e = entry_spelled w e ∙ ap (λ (l : List ℕ). l ++ 10 ∷ []) (sym (line_words e))

  pub same_line : (e f : Entry) → IsSpelled w e → IsSpelled w f → entry_line w e ≡ entry_line w f → e ≡ f
  same_line e f p q same = one_line w e f p q (text_of e ∙ ap (λ (l : List ℕ). l ++ 10 ∷ []) same ∙ sym (text_of f))

  pub line_is_line : (e : Entry) → IsSpelled w e → is_line (entry_line w e) ≡ true
  line_is_line e p = ap is_line (line_words e) ∙ entry_is_line w e p

-- ---- a line begins with a digit

first_same : (x y : ℕ) (xs ys : List ℕ) → x ∷ xs ≡ y ∷ ys → x ≡ y
first_same x y xs ys e = cc

no_digits : (ds rest : List ℕ) → all_ascii_digits ds ≡ true → is_word ds ≡ true → ds ++ rest ≡ codes "accounts" → ⊥
no_digits [] rest digits word same = false≢true word
no_digits (d ∷ ds) rest digits word same =
    let letter : d ≡ 97 = first_same d 97 (ds ++ rest) (codes "ccounts") same in
    let digit = (and_parts (is_ascii_digit d) (all_ascii_digits ds) digits).0 in
    false≢true (grind (arith, nat_tests))

small_number : (e : Entry) → in_range e ≡ true → e.number < 2 ^ 64
unfolding in_range
small_number e h =
    let r = and_parts (nat_lt e.number (2 ^ 64) && event_in_range e.event) (hints_in_range e.hints) h in
    let s = and_parts (nat_lt e.number (2 ^ 64)) (event_in_range e.event) r.0 in
    grind (arith, nat_tests, s.0)

words_begin : (w : Work) (e : Entry) → entry_words w e ≡ decimal e.number ∷ cpu_text e.cpu ∷ (event_words w e.event ++ hint_words e.hints)
unfolding entry_words
words_begin w e = refl

pub not_accounts : (w : Work) (e : Entry) → IsSpelled w e → entry_line w e ≡ codes "accounts" → ⊥
not_accounts w e p same =
    let small = small_number e p.range in
    let rest = join_with_byte 32 (cpu_text e.cpu ∷ (event_words w e.event ++ hint_words e.hints)) in
    let begins : decimal e.number ++ (32 ∷ rest) ≡ codes "accounts" = sym (line_words w e ∙ ap (join_with_byte 32) (words_begin w e)) ∙ same in
    no_digits (decimal e.number) (32 ∷ rest) (digits_decimal own e.number small) (is_word-decimal e.number small) begins

-- ---- the lines of a journal

are_lines : (w : Work) (es : List Entry) → All (IsSpelled w) es → list_all is_line (map (entry_line w) es) ≡ true
are_lines w [] h = refl
are_lines w (e ∷ es) h = rw (line_is_line w e (All-head (IsSpelled w) e es h)) (are_lines w es (All-tail (IsSpelled w) e es h))

entries_are_lines : (w : Work) (es : List Entry) → entries_text w es ≡ text_of_lines (map (entry_line w) es)
unfolding entries_text
entries_are_lines w [] = refl
entries_are_lines w (e ∷ es) = ap (λ (l : List ℕ). l ++ entries_text w es) (text_of w e) ∙ ap (λ (l : List ℕ). (entry_line w e ++ 10 ∷ []) ++ l) (entries_are_lines w es)

-- what stands behind the line `accounts` in a journal
abbrev behind : Work → List Entry → State → List ℕ
behind w es s = (threads_text w es s ++ cpus_text w es) ++ cycles_text w s

tail_begins : (w : Work) (es : List Entry) (s : State) → accounts_text w es s ++ cycles_text w s ≡ codes "accounts" ++ 10 ∷ behind w es s
unfolding accounts_text
tail_begins w es s = refl

pub journal_lines : (w : Work) (es : List Entry) → All (IsSpelled w) es
    → lines_of (journal w es) ≡ map (entry_line w) es ++ codes "accounts" ∷ lines_of (behind w es (final w (opening w) es))
unfolding journal
journal_lines w es h =
    let s = final w (opening w) es in
    ap (λ (l : List ℕ). lines_of (l ++ (accounts_text w es s ++ cycles_text w s))) (entries_are_lines w es)
    ∙ lines_of-text (map (entry_line w) es) (accounts_text w es s ++ cycles_text w s) (are_lines w es h)
    ∙ ap (λ (l : List ℕ). map (entry_line w) es ++ lines_of l) (tail_begins w es s)
    ∙ ap (λ (ls : List (List ℕ)). map (entry_line w) es ++ ls) (lines_of-line (codes "accounts") (behind w es s) refl)
