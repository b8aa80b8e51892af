-- A text has one verdict: what it tells up to its first fault is one list of entries.
use Rattle.std.proofs.Common.{◌≡◌, Bool, true, false, ℕ, ◌+◌, ◌<◌, ◌⊎◌, inl, inr, List, [], ◌∷◌, ◌++◌, length, map, append_assoc, None, Option, refl, sym, ap, subst, ◌∙◌, arith}
use Rattle.std.specs.Prelude.{Result, Ok, Err, IfErr, codes, IsSome, nat_lt}
use Rattle.std.proofs.lemmas.Bool.Decides.{nat_tests}
use Rattle.std.specs.List.{All}
use Rattle.std.proofs.lemmas.List.{append_cancel_left}
use Rattle.std.proofs.lemmas.List.Elements.{All-head, All-tail}
use Rattle.sd_types.specs.declared.numbers.CpuId.{CpuId}
use Rattle.sd_types.specs.declared.events.Event.{Event}
use Rattle.sd_types.specs.declared.events.Entry.{Entry}
use Rattle.sd_types.specs.declared.works.Work.{Work}
use Rattle.sd_state.specs.declared.states.State.{State}
use Rattle.sd_state.specs.Opening.{opening}
use Rattle.sd_text.specs.Lines.{lines_of}
use Rattle.sd_machine.specs.Events.{next}
use Rattle.sd_machine.specs.Runs.{final, IsRun, IsRunFrom, IsComplete}
use Rattle.sd_machine.specs.Texts.{entries_text, journal}
use Rattle.sd_machine.proofs.RunLemmas.{IsRun-from, from-IsRun, IsRunFrom-front}
use Rattle.sd_entries.specs.Fitting.{IsSpelled}
use Rattle.sd_audit.specs.declared.audits.AuditFault.{AuditFault}
use Rattle.sd_audit.specs.declared.audits.AuditFault.TheVariants.{NotAnEntry, Illegal, Incomplete, Tail, Memory}
use Rattle.sd_audit.specs.Audits.{entry_line, TellsRun, NoEntryNext, IsNotAnEntry, IsIllegal, IsIncomplete, IsOtherTail, IsFault, IsJournal, IsMemory, IsRunSoFar, tail_text, whole_lines, common_lines}
use Rattle.sd_audit.proofs.LineLemmas.{text_of, same_line, not_accounts, journal_lines}
use Rattle.sd_types.proofs.SameLemmas.{same_cpu}
use Rattle.sd_audit.proofs.CommonLemmas.{nil_cons}

pub head_same : (x y : List ℕ) (xs ys : List (List ℕ)) → x ∷ xs ≡ y ∷ ys → (x ≡ y) × (xs ≡ ys)
head_same x y xs ys e = (cc, cc)

-- the second list goes on where the first ends
record Longer (w : Work) (es fs : List Entry) (xs : List (List ℕ)) : Type 0 where
  more : Entry
  rest : List Entry
  left : List (List ℕ)
  longer : fs ≡ es ++ more ∷ rest
  lines : xs ≡ entry_line w more ∷ left
  spelled : IsSpelled w more

abbrev Cut : Work → List Entry → List Entry → List (List ℕ) → List (List ℕ) → Type 0
Cut w es fs xs ys = ((es ≡ fs) × (xs ≡ ys)) ⊎ (Longer w es fs xs ⊎ Longer w fs es ys)

longer_on : (w : Work) (e f : Entry) (es fs : List Entry) (xs : List (List ℕ)) → e ≡ f → Longer w es fs xs → Longer w (e ∷ es) (f ∷ fs) xs
longer_on w e f es fs xs same l = record {
  more = l.more;
  rest = l.rest;
  left = l.left;
  longer = ap (λ (x : Entry). x ∷ fs) (sym same) ∙ ap (λ (l : List Entry). e ∷ l) l.longer;
  lines = l.lines;
  spelled = l.spelled;
}

cut_on : (w : Work) (e f : Entry) (es fs : List Entry) (xs ys : List (List ℕ)) → e ≡ f → Cut w es fs xs ys → Cut w (e ∷ es) (f ∷ fs) xs ys
cut_on w e f es fs xs ys same (inl p) = inl (ap (λ (x : Entry). x ∷ es) same ∙ ap (λ (l : List Entry). f ∷ l) p.0, p.1)
cut_on w e f es fs xs ys same (inr (inl l)) = inr (inl (longer_on w e f es fs xs same l))
cut_on w e f es fs xs ys same (inr (inr l)) = inr (inr (longer_on w f e fs es ys (sym same) l))

compare : (w : Work) (es fs : List Entry) (xs ys : List (List ℕ)) → All (IsSpelled w) es → All (IsSpelled w) fs
    → map (entry_line w) es ++ xs ≡ map (entry_line w) fs ++ ys → Cut w es fs xs ys
compare w [] [] xs ys p q same = inl (refl, same)
compare w [] (f ∷ fs) xs ys p q same =
    inr (inl (record { more = f; rest = fs; left = map (entry_line w) fs ++ ys; longer = refl; lines = same; spelled = All-head (IsSpelled w) f fs q }))
compare w (e ∷ es) [] xs ys p q same =
    inr (inr (record { more = e; rest = es; left = map (entry_line w) es ++ xs; longer = refl; lines = sym same; spelled = All-head (IsSpelled w) e es p }))
compare w (e ∷ es) (f ∷ fs) xs ys p q same =
    let h = head_same (entry_line w e) (entry_line w f) (map (entry_line w) es ++ xs) (map (entry_line w) fs ++ ys) same in
    cut_on w e f es fs xs ys
    (same_line w e f (All-head (IsSpelled w) e es p) (All-head (IsSpelled w) f fs q) h.0)
    (compare w es fs xs ys (All-tail (IsSpelled w) e es p) (All-tail (IsSpelled w) f fs q) h.1)

-- the entry that the next line tells, where it tells one, is no step
abbrev EndsHere : Work → List Entry → List (List ℕ) → Type 0
EndsHere w es xs = (e : Entry) (left : List (List ℕ)) → xs ≡ entry_line w e ∷ left → IsSpelled w e → IsRun w (es ++ e ∷ []) → ⊥

-- what a text tells up to its first fault, or to the line `accounts`
record Told (w : Work) (text : List ℕ) (es : List Entry) (xs : List (List ℕ)) : Type 0 where
  told : TellsRun w text es xs
  ends : EndsHere w es xs

module _ (w : Work) where
  journal_is : (es : List Entry) → journal w es ≡ entries_text w es ++ tail_text w es (final w (opening w) es)
  unfolding journal
  journal_is es = refl

  no_longer : (es fs : List Entry) (xs : List (List ℕ)) → EndsHere w es xs → IsRun w fs → Longer w es fs xs → ⊥
  no_longer es fs xs ends run l =
      ends l.more l.left l.lines l.spelled
      (from-IsRun w (es ++ l.more ∷ [])
      (IsRunFrom-front w (opening w) 0 (es ++ l.more ∷ []) l.rest
      (subst (λ (x : List Entry). IsRunFrom w (opening w) 0 x) (l.longer ∙ sym (append_assoc es (l.more ∷ []) l.rest)) (IsRun-from w fs run))))

  one_told : (text : List ℕ) (es fs : List Entry) (xs ys : List (List ℕ)) → Told w text es xs → Told w text fs ys → (es ≡ fs) × (xs ≡ ys)
  one_told text es fs xs ys p q = by (compare w es fs xs ys p.told.spelled q.told.spelled (sym p.told.lines ∙ q.told.lines))
    where
      by : Cut w es fs xs ys → (es ≡ fs) × (xs ≡ ys)
      by (inl e) = e
      by (inr (inl l)) = absurd (no_longer es fs xs p.ends q.told.run l)
      by (inr (inr l)) = absurd (no_longer fs es ys q.ends p.told.run l)

  -- ---- where each verdict ends

  none_ends : (es : List Entry) (xs : List (List ℕ)) → NoEntryNext w xs → EndsHere w es xs
  none_ends es [] none e left same spelled run = nil_cons (entry_line w e) left same
  none_ends es (line ∷ rest) none e left same spelled run =
      let h = head_same line (entry_line w e) rest left same in
      none.1 e spelled (text_of w e ∙ ap (λ (l : List ℕ). l ++ 10 ∷ []) (sym h.0))

  illegal_ends : (es : List Entry) (f : Entry) (rest : List (List ℕ)) → IsSpelled w f → (IsRun w (es ++ f ∷ []) → ⊥) → EndsHere w es (entry_line w f ∷ rest)
  illegal_ends es f rest p illegal e left same spelled run =
      let h = head_same (entry_line w f) (entry_line w e) rest left same in
      illegal (subst (λ (x : Entry). IsRun w (es ++ x ∷ [])) (sym (same_line w f e p spelled h.0)) run)

  accounts_end : (es : List Entry) (rest : List (List ℕ)) → EndsHere w es (codes "accounts" ∷ rest)
  accounts_end es rest e left same spelled run =
      not_accounts w e spelled (sym (head_same (codes "accounts") (entry_line w e) rest left same).0)

  journal_told : (text : List ℕ) (s : State) (n : ℕ) (j : IsJournal w text s n) → (rest : List (List ℕ)) × Told w text j.entries (codes "accounts" ∷ rest)
  journal_told text s n j = (
    _,
    record {
      told = record { run = j.run; spelled = j.spelled; lines = ap lines_of j.whole ∙ journal_lines w j.entries j.spelled };
      ends = accounts_end j.entries _;
    },
  )

  -- the entries of a journal were read
  pub journal_read : (text : List ℕ) (s : State) (n : ℕ) → IsJournal w text s n → IsRunSoFar w text n
  journal_read text s n j =
      let t = journal_told text s n j in
      record { entries = j.entries; rest = codes "accounts" ∷ t.0; told = t.1.told; counted = sym j.many }

  told_none : (text : List ℕ) (n : ℕ) (f : IsNotAnEntry w text n) → Told w text f.entries f.rest
  told_none text n f = record { told = f.told; ends = none_ends f.entries f.rest f.none }

  told_illegal : (text : List ℕ) (n : ℕ) (f : IsIllegal w text n) → Told w text f.entries (entry_line w f.entry ∷ f.rest)
  told_illegal text n f = record { told = f.told; ends = illegal_ends f.entries f.entry f.rest f.spelled f.illegal }

  told_incomplete : (text : List ℕ) (c : CpuId) (f : IsIncomplete w text c) → Told w text f.entries (codes "accounts" ∷ f.rest)
  told_incomplete text c f = record { told = f.told; ends = accounts_end f.entries f.rest }

  told_tail : (text : List ℕ) (n : ℕ) (f : IsOtherTail w text n) → Told w text f.entries (codes "accounts" ∷ f.rest)
  told_tail text n f = record { told = f.told; ends = accounts_end f.entries f.rest }

  -- ---- two verdicts

  none_accounts : (xs rest : List (List ℕ)) → NoEntryNext w xs → xs ≡ codes "accounts" ∷ rest → ⊥
  none_accounts [] rest none same = nil_cons (codes "accounts") rest same
  none_accounts (line ∷ xs) rest none same = none.0 (head_same line (codes "accounts") xs rest same).0

  none_entry : (xs rest : List (List ℕ)) (e : Entry) → IsSpelled w e → NoEntryNext w xs → xs ≡ entry_line w e ∷ rest → ⊥
  none_entry [] rest e p none same = nil_cons (entry_line w e) rest same
  none_entry (line ∷ xs) rest e p none same =
      none.1 e p (text_of w e ∙ ap (λ (l : List ℕ). l ++ 10 ∷ []) (sym (head_same line (entry_line w e) xs rest same).0))

  entry_accounts : (e : Entry) (xs rest : List (List ℕ)) → IsSpelled w e → entry_line w e ∷ xs ≡ codes "accounts" ∷ rest → ⊥
  entry_accounts e xs rest p same = not_accounts w e p (head_same (entry_line w e) (codes "accounts") xs rest same).0

  some_none : (o : Option Event) → IsSome o → o ≡ None → ⊥
  some_none o some none = cc

  not_complete : (text : List ℕ) (c : CpuId) (f : IsIncomplete w text c) (es : List Entry) → f.entries ≡ es → IsComplete w (final w (opening w) es) → ⊥
  not_complete text c f es same complete =
      some_none _ f.has (subst (λ (x : List Entry). next w (final w (opening w) x) c f.hints ≡ None) (sym same) (complete c f.hints))

  pub no_fault : (text : List ℕ) (s : State) (n : ℕ) (fault : AuditFault) → IsJournal w text s n → IsFault w text fault → IsMemory fault
  no_fault text s n (NotAnEntry at) j f =
      let t = journal_told text s n j in
      absurd (none_accounts f.rest t.0 f.none (one_told text f.entries j.entries _ _ (told_none text at f) t.1).1)
  no_fault text s n (Illegal at) j f =
      let t = journal_told text s n j in
      absurd (entry_accounts f.entry f.rest t.0 f.spelled (one_told text f.entries j.entries _ _ (told_illegal text at f) t.1).1)
  no_fault text s n (Incomplete c) j f =
      let t = journal_told text s n j in
      absurd (not_complete text c f j.entries (one_told text f.entries j.entries _ _ (told_incomplete text c f) t.1).0 j.complete)
  no_fault text s n (Tail at) j f =
      let t = journal_told text s n j in
      let same = (one_told text f.entries j.entries _ _ (told_tail text at f) t.1).0 in
      absurd (f.differs (append_cancel_left (entries_text w f.entries) f.tail (tail_text w f.entries (final w (opening w) f.entries)) (sym f.parts ∙ j.whole ∙ ap (journal w) (sym same) ∙ journal_is f.entries)))
  no_fault text s n (Memory at) j f = tt

  -- the entries that were read are those of the journal
  pub entries_read : (text : List ℕ) (s : State) (n : ℕ) (es : List Entry) (rest : List (List ℕ)) → TellsRun w text es (codes "accounts" ∷ rest) → (j : IsJournal w text s n) → es ≡ j.entries
  entries_read text s n es rest told j =
      (one_told text es j.entries _ _ (record { told = told; ends = accounts_end es rest }) (journal_told text s n j).1).0

  pub one_run : (text : List ℕ) (s t : State) (n m : ℕ) → IsJournal w text s n → IsJournal w text t m → (s ≡ t) × (n ≡ m)
  one_run text s t n m j k =
      let same = (one_told text j.entries k.entries _ _ (journal_told text s n j).1 (journal_told text t m k).1).0 in
      (j.ends ∙ ap (final w (opening w)) same ∙ sym k.ends, sym j.many ∙ ap length same ∙ k.many)

  -- ---- one fault

  not_less : (text : List ℕ) (c d : CpuId) (f : IsIncomplete w text c) (g : IsIncomplete w text d) → f.entries ≡ g.entries → c.0 < d.0 → ⊥
  not_less text c d f g same less =
      some_none _ f.has (subst (λ (x : List Entry). next w (final w (opening w) x) c f.hints ≡ None) (sym same) (g.least c less f.hints))

  one_cpu : (text : List ℕ) (c d : CpuId) (f : IsIncomplete w text c) (g : IsIncomplete w text d) → f.entries ≡ g.entries → c ≡ d
  one_cpu text c d f g same = by (nat_lt c.0 d.0) refl (nat_lt d.0 c.0) refl
    where
      by : (a : Bool) → nat_lt c.0 d.0 ≡ a → (b : Bool) → nat_lt d.0 c.0 ≡ b → c ≡ d
      by true p b q = absurd (not_less text c d f g same (grind (arith, nat_tests)))
      by false p true q = absurd (not_less text d c g f (sym same) (grind (arith, nat_tests)))
      by false p false q = same_cpu c d (grind (arith, nat_tests))

  abbrev AtTail : List Entry → List ℕ → ℕ
  AtTail es tail = length es + common_lines (whole_lines tail) (whole_lines (tail_text w es (final w (opening w) es))) + 1

  one_tail : (text : List ℕ) (a b : ℕ) (f : IsOtherTail w text a) (g : IsOtherTail w text b) → f.entries ≡ g.entries → a ≡ b
  one_tail text a b f g same =
      let tails = append_cancel_left (entries_text w g.entries) f.tail g.tail (ap (λ (x : List Entry). entries_text w x ++ f.tail) (sym same) ∙ sym f.parts ∙ g.parts) in
      f.counted ∙ ap (λ (x : List Entry). AtTail x f.tail) same ∙ ap (AtTail g.entries) tails ∙ sym g.counted

  pub one_fault : (text : List ℕ) (f g : AuditFault) → IsFault w text f → IsFault w text g → (IsMemory f → ⊥) → (IsMemory g → ⊥) → f ≡ g
  one_fault text (Memory a) g p q mf mg = absurd (mf tt)
  one_fault text (NotAnEntry a) (Memory b) p q mf mg = absurd (mg tt)
  one_fault text (Illegal a) (Memory b) p q mf mg = absurd (mg tt)
  one_fault text (Incomplete a) (Memory b) p q mf mg = absurd (mg tt)
  one_fault text (Tail a) (Memory b) p q mf mg = absurd (mg tt)
  one_fault text (NotAnEntry a) (NotAnEntry b) p q mf mg =
      let same = (one_told text p.entries q.entries _ _ (told_none text a p) (told_none text b q)).0 in
      ap NotAnEntry (p.counted ∙ ap (λ (x : List Entry). length x + 1) same ∙ sym q.counted)
  one_fault text (NotAnEntry a) (Illegal b) p q mf mg =
      absurd (none_entry p.rest q.rest q.entry q.spelled p.none (one_told text p.entries q.entries _ _ (told_none text a p) (told_illegal text b q)).1)
  one_fault text (NotAnEntry a) (Incomplete b) p q mf mg =
      absurd (none_accounts p.rest q.rest p.none (one_told text p.entries q.entries _ _ (told_none text a p) (told_incomplete text b q)).1)
  one_fault text (NotAnEntry a) (Tail b) p q mf mg =
      absurd (none_accounts p.rest q.rest p.none (one_told text p.entries q.entries _ _ (told_none text a p) (told_tail text b q)).1)
  one_fault text (Illegal a) (NotAnEntry b) p q mf mg =
      absurd (none_entry q.rest p.rest p.entry p.spelled q.none (one_told text q.entries p.entries _ _ (told_none text b q) (told_illegal text a p)).1)
  one_fault text (Illegal a) (Illegal b) p q mf mg =
      let same = (one_told text p.entries q.entries _ _ (told_illegal text a p) (told_illegal text b q)).0 in
      ap Illegal (p.counted ∙ ap length same ∙ sym q.counted)
  one_fault text (Illegal a) (Incomplete b) p q mf mg =
      absurd (entry_accounts p.entry p.rest q.rest p.spelled (one_told text p.entries q.entries _ _ (told_illegal text a p) (told_incomplete text b q)).1)
  one_fault text (Illegal a) (Tail b) p q mf mg =
      absurd (entry_accounts p.entry p.rest q.rest p.spelled (one_told text p.entries q.entries _ _ (told_illegal text a p) (told_tail text b q)).1)
  one_fault text (Incomplete a) (NotAnEntry b) p q mf mg =
      absurd (none_accounts q.rest p.rest q.none (one_told text q.entries p.entries _ _ (told_none text b q) (told_incomplete text a p)).1)
  one_fault text (Incomplete a) (Illegal b) p q mf mg =
      absurd (entry_accounts q.entry q.rest p.rest q.spelled (one_told text q.entries p.entries _ _ (told_illegal text b q) (told_incomplete text a p)).1)
  one_fault text (Incomplete a) (Incomplete b) p q mf mg =
      ap Incomplete (one_cpu text a b p q (one_told text p.entries q.entries _ _ (told_incomplete text a p) (told_incomplete text b q)).0)
  one_fault text (Incomplete a) (Tail b) p q mf mg =
      absurd (not_complete text a p q.entries (one_told text p.entries q.entries _ _ (told_incomplete text a p) (told_tail text b q)).0 q.complete)
  one_fault text (Tail a) (NotAnEntry b) p q mf mg =
      absurd (none_accounts q.rest p.rest q.none (one_told text q.entries p.entries _ _ (told_none text b q) (told_tail text a p)).1)
  one_fault text (Tail a) (Illegal b) p q mf mg =
      absurd (entry_accounts q.entry q.rest p.rest q.spelled (one_told text q.entries p.entries _ _ (told_illegal text b q) (told_tail text a p)).1)
  one_fault text (Tail a) (Incomplete b) p q mf mg =
      absurd (not_complete text b q p.entries (one_told text q.entries p.entries _ _ (told_incomplete text b q) (told_tail text a p)).0 p.complete)
  one_fault text (Tail a) (Tail b) p q mf mg =
      ap Tail (one_tail text a b p q (one_told text p.entries q.entries _ _ (told_tail text a p) (told_tail text b q)).0)

  pub refused_rightly : {T : Type 0} (text : List ℕ) (r : Result T AuditFault) → IfErr r (IsFault w text)
      → IfErr r (λ fault. (s : State) (n : ℕ) → IsJournal w text s n → IsMemory fault)
  refused_rightly text (Ok x) h = tt
  refused_rightly text (Err fault) h = λ s n j. no_fault text s n fault j h
