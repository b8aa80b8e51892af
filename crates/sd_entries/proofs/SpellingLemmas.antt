-- An entry is told by its line.
use Rattle.std.proofs.Common.{◌≡◌, ℕ, List, [], ◌∷◌, ◌++◌, refl, sym, ap, ◌∙◌}
use Rattle.std.specs.List.{join_with_byte}
use Rattle.std.proofs.lemmas.List.{append-nil}
use Rattle.sd_types.specs.declared.events.Entry.{Entry}
use Rattle.sd_types.specs.declared.works.Work.{Work}
use Rattle.sd_text.specs.Words.{words_of}
use Rattle.sd_text.proofs.WordLemmas.{words_of-joined}
use Rattle.sd_machine.specs.Texts.{entry_text}
use Rattle.sd_entries.specs.EntryWords.{entry_words}
use Rattle.sd_entries.specs.Fitting.{IsSpelled}
use Rattle.sd_entries.specs.Reading.{entry_of}
use Rattle.sd_entries.proofs.SpellLemmas.{entry_spelled}
use Rattle.sd_entries.proofs.WordLemmas.{entry_are_words}
use Rattle.sd_entries.proofs.ReadLemmas.{entry_back}

cons_same : (x y : ℕ) (xs ys : List ℕ) → x ∷ xs ≡ y ∷ ys → (x ≡ y) × (xs ≡ ys)
cons_same x y xs ys e = (cc, cc)

no_cons : (x : ℕ) (xs : List ℕ) → [] ≡ x ∷ xs → ⊥
no_cons x xs e = cc

-- a last byte that both have
last_dropped : (xs ys : List ℕ) (b : ℕ) → xs ++ b ∷ [] ≡ ys ++ b ∷ [] → xs ≡ ys
last_dropped [] [] b e = refl
last_dropped [] (y ∷ []) b e = absurd (no_cons b [] (cons_same b y [] (b ∷ []) e).1)
last_dropped [] (y ∷ z ∷ ys) b e = absurd (no_cons z (ys ++ b ∷ []) (cons_same b y [] (z ∷ (ys ++ b ∷ [])) e).1)
last_dropped (x ∷ []) [] b e = absurd (no_cons b [] (sym (cons_same x b (b ∷ []) [] e).1))
last_dropped (x ∷ z ∷ xs) [] b e = absurd (no_cons z (xs ++ b ∷ []) (sym (cons_same x b (z ∷ (xs ++ b ∷ [])) [] e).1))
last_dropped (x ∷ xs) (y ∷ ys) b e =
    let p = cons_same x y (xs ++ b ∷ []) (ys ++ b ∷ []) e in
    ap (λ (z : ℕ). z ∷ xs) p.0 ∙ ap (λ (zs : List ℕ). y ∷ zs) (last_dropped xs ys b p.1)

module _ (w : Work) (e : Entry) (fits : IsSpelled w e) where
  -- the words of its line without the newline
  words_read : words_of (join_with_byte 32 (entry_words w e)) ≡ entry_words w e
  unfolding words_of
  words_read =
      ap words_of (sym (append-nil (join_with_byte 32 (entry_words w e))))
      ∙ words_of-joined (entry_words w e) [] (entry_are_words w e fits) refl
      ∙ append-nil (entry_words w e)

  pub line_read : (line : List ℕ) → entry_text w e ≡ line ++ 10 ∷ [] → entry_of w (words_of line) ≡ e
  line_read line text =
      let same : line ≡ join_with_byte 32 (entry_words w e) = last_dropped line (join_with_byte 32 (entry_words w e)) 10 (sym text ∙ entry_spelled w e) in
      ap (λ (l : List ℕ). entry_of w (words_of l)) same ∙ ap (entry_of w) words_read ∙ entry_back w e fits

-- entries with one line are one
pub one_line : (w : Work) (e f : Entry) → IsSpelled w e → IsSpelled w f → entry_text w e ≡ entry_text w f → e ≡ f
one_line w e f first second same =
    sym (line_read w e first (join_with_byte 32 (entry_words w f)) (same ∙ entry_spelled w f))
    ∙ line_read w f second (join_with_byte 32 (entry_words w f)) (entry_spelled w f)
