-- A journal determines its entries: the lines before `accounts` are theirs.
use Rattle.std.proofs.Common.{◌≡◌, ℕ, List, [], ◌∷◌, ◌++◌, map, refl, sym, ap, ap₂, ◌∙◌}
use Rattle.std.specs.Prelude.{codes}
use Rattle.std.specs.List.{All}
use Rattle.std.proofs.lemmas.List.Elements.{All-head, All-tail}
use Rattle.sd_types.specs.declared.events.Entry.{Entry}
use Rattle.sd_types.specs.declared.works.Work.{Work}
use Rattle.sd_text.specs.Lines.{lines_of}
use Rattle.sd_machine.specs.Texts.{journal}
use Rattle.sd_entries.specs.Fitting.{IsSpelled}
use Rattle.sd_audit.specs.Audits.{entry_line}
use Rattle.sd_audit.proofs.LineLemmas.{same_line, not_accounts, journal_lines}
use Rattle.sd_audit.proofs.ExactLemmas.{head_same}

module _ (w : Work) where
  -- the same lines before `accounts` are those of the same entries
  same_entries : (es fs : List Entry) (xs ys : List (List ℕ)) → All (IsSpelled w) es → All (IsSpelled w) fs
      → map (entry_line w) es ++ codes "accounts" ∷ xs ≡ map (entry_line w) fs ++ codes "accounts" ∷ ys → es ≡ fs
  same_entries [] [] xs ys p q same = refl
  same_entries [] (f ∷ fs) xs ys p q same =
      absurd (not_accounts w f (All-head (IsSpelled w) f fs q) (sym (head_same (codes "accounts") (entry_line w f) xs (map (entry_line w) fs ++ codes "accounts" ∷ ys) same).0))
  same_entries (e ∷ es) [] xs ys p q same =
      absurd (not_accounts w e (All-head (IsSpelled w) e es p) (head_same (entry_line w e) (codes "accounts") (map (entry_line w) es ++ codes "accounts" ∷ xs) ys same).0)
  same_entries (e ∷ es) (f ∷ fs) xs ys p q same =
      let h = head_same (entry_line w e) (entry_line w f) (map (entry_line w) es ++ codes "accounts" ∷ xs) (map (entry_line w) fs ++ codes "accounts" ∷ ys) same in
      ap₂ (λ (x : Entry) (l : List Entry). x ∷ l) (same_line w e f (All-head (IsSpelled w) e es p) (All-head (IsSpelled w) f fs q) h.0)
      (same_entries es fs xs ys (All-tail (IsSpelled w) e es p) (All-tail (IsSpelled w) f fs q) h.1)

pub one_journal : (w : Work) (es fs : List Entry) → All (IsSpelled w) es → All (IsSpelled w) fs → journal w es ≡ journal w fs → es ≡ fs
one_journal w es fs p q same =
    same_entries w es fs _ _ p q (sym (journal_lines w es p) ∙ ap lines_of same ∙ journal_lines w fs q)
