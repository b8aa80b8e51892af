-- The audit while it reads, one line at a time.
use Rattle.std.proofs.Common.{◌≡◌, ℕ, ◌+◌, ◌-◌, ◌<◌, ◌≤◌, List, [], ◌∷◌, ◌++◌, length, map, take, drop, get_or, append_assoc, append-nil, refl, sym, ap, subst, ◌∙◌, arith, drop-drop}
use Rattle.std.specs.Prelude.{codes, flat_map}
use Rattle.std.proofs.lemmas.List.{map-append, take-append-drop, drop_more, length-append}
use Rattle.std.proofs.lemmas.List.Elements.{All-nil, All-push}
use Rattle.std.proofs.lemmas.Grind.{flat_map-append}
use Rattle.std.proofs.Math.Seq.{take-append_seam}
use Rattle.sd_types.specs.declared.events.Entry.{Entry}
use Rattle.sd_types.specs.declared.works.Work.{Work}
use Rattle.sd_state.specs.declared.states.State.{State}
use Rattle.sd_state.specs.Opening.{opening}
use Rattle.sd_text.specs.Lines.{lines_of}
use Rattle.sd_machine.specs.Events.{after}
use Rattle.sd_machine.specs.Runs.{final, IsRun, IsStep}
use Rattle.sd_machine.specs.Texts.{entry_text, entries_text}
use Rattle.sd_machine.proofs.RunLemmas.{IsRun-nil, IsRun-append, IsRun-from, IsRunFrom-one, final-nil, final-push, last_number, last_step}
use Rattle.sd_accounts.specs.declared.accounts.Accounts.{Accounts}
use Rattle.sd_accounts.specs.Counters.{HasTaken}
use Rattle.sd_entries.specs.Fitting.{IsSpelled}
use Rattle.sd_audit.specs.declared.audits.AuditFault.{AuditFault}
use Rattle.sd_audit.specs.declared.audits.AuditFault.TheVariants.{NotAnEntry, Illegal, Incomplete, Tail, Memory}
use Rattle.sd_audit.specs.Audits.{entry_line, IsTaken, IsLineFault, IsFault, IsRunSoFar}
use Rattle.sd_audit.specs.Collecting.{IsAfter, Takes}
use Rattle.sd_audit.specs.Reading.{HasRead, HasReadWith}

-- the line of an entry is its text without the newline
pub entry_line_is : (w : Work) (e : Entry) (line : List ℕ) → entry_text w e ≡ line ++ 10 ∷ [] → entry_line w e ≡ line
entry_line_is w e line text =
    let many : length (line ++ 10 ∷ []) - 1 ≡ length line = let n = length-append line (10 ∷ []) in omega (arith, n) in
    ap (λ (t : List ℕ). take (length t - 1) t) text ∙ ap (λ (n : ℕ). take n (line ++ 10 ∷ [])) many ∙ take-append_seam line (10 ∷ [])

pub read_start : (w : Work) (text : List ℕ) (s : State) (a : Accounts) → s ≡ opening w → HasTaken w [] a → HasRead w text s a 0 0
unfolding entries_text
read_start w text s a start none = record {
  entries = [];
  told = record { run = IsRun-nil w; spelled = All-nil (IsSpelled w); lines = refl };
  many = refl;
  ends = start ∙ sym (final-nil w (opening w));
  taken = none;
  parts = λ h. refl;
}

-- nothing was read
pub nothing_read : (w : Work) (text : List ℕ) → IsRunSoFar w text 0
nothing_read w text = record { entries = []; rest = lines_of text; told = record { run = IsRun-nil w; spelled = All-nil (IsSpelled w); lines = refl }; counted = refl }

pub after_read : (w : Work) (text : List ℕ) (s : State) (a : Accounts) (number from : ℕ) (Has : List Entry → Type 0) → HasReadWith w text s a number from Has → IsAfter w number s Has
after_read w text s a number from Has r = record { entries = r.0.entries; run = r.0.told.run; many = r.0.many; ends = r.0.ends; has = r.1 }

-- what stands from a line on is the line, its newline and the rest
rest_of : (text line : List ℕ) (from end : ℕ) → from ≤ end → end < length text → get_or text end 0 ≡ 10 → line ≡ take (end - from) (drop from text)
    → drop from text ≡ (line ++ 10 ∷ []) ++ drop (end + 1) text
rest_of text line from end within inside newline is =
    let there : end - from + from ≡ end = omega arith in
    let e : from + (end - from) ≡ end = omega arith in
    sym (take-append-drop (end - from) (drop from text))
    ∙ ap (λ (l : List ℕ). l ++ drop (end - from) (drop from text)) (sym is)
    ∙ ap (λ (l : List ℕ). line ++ l) (drop-drop (end - from) from text ∙ ap (λ (n : ℕ). drop n text) e ∙ drop_more text end 0 inside ∙ ap (λ (b : ℕ). b ∷ drop (end + 1) text) newline)
    ∙ sym (append_assoc line (10 ∷ []) (drop (end + 1) text))

entries_push : (w : Work) (es : List Entry) (e : Entry) → entries_text w (es ++ e ∷ []) ≡ entries_text w es ++ entry_text w e
unfolding entries_text
entries_push w es e = flat_map-append (entry_text w) es (e ∷ []) ∙ ap (λ (l : List ℕ). flat_map (entry_text w) es ++ l) (append-nil (entry_text w e))

module _ (w : Work) (text : List ℕ) (s : State) (a : Accounts) (number from : ℕ) (line : List ℕ) (rest : List (List ℕ))
    (r : HasRead w text s a number from) (next : lines_of (drop from text) ≡ line ∷ rest) where
  told_next : lines_of text ≡ map (entry_line w) r.entries ++ line ∷ rest
  told_next = r.told.lines ∙ ap (λ (ls : List (List ℕ)). map (entry_line w) r.entries ++ ls) next

  told_one : (e : Entry) → entry_text w e ≡ line ++ 10 ∷ [] → lines_of text ≡ map (entry_line w) (r.entries ++ e ∷ []) ++ rest
  told_one e is =
      told_next
      ∙ ap (λ (l : List ℕ). map (entry_line w) r.entries ++ l ∷ rest) (sym (entry_line_is w e line is))
      ∙ sym (append_assoc (map (entry_line w) r.entries) (entry_line w e ∷ []) rest)
      ∙ ap (λ (ls : List (List ℕ)). ls ++ rest) (sym (map-append (entry_line w) r.entries (e ∷ [])))

  run_one : (e : Entry) → e.number ≡ number → IsStep w s e → IsRun w (r.entries ++ e ∷ [])
  run_one e counted step =
      IsRun-append w r.entries (e ∷ []) r.told.run
      (IsRunFrom-one w (final w (opening w) r.entries) (length r.entries) e (counted ∙ sym r.many) (subst (λ x. IsStep w x e) r.ends step))

  no_run : (e : Entry) → (e.number ≡ number → IsStep w s e → ⊥) → IsRun w (r.entries ++ e ∷ []) → ⊥
  no_run e refused run =
      let q = IsRun-from w (r.entries ++ e ∷ []) run in
      let n = last_number w (opening w) 0 r.entries e q in
      let many = r.many in
      refused (omega (arith, n, many)) (subst (λ x. IsStep w x e) (sym r.ends) (last_step w (opening w) 0 r.entries e q))

  -- the fault of the line is that of the text
  pub fault_next : ¬ (line ≡ codes "accounts") → (fault : AuditFault) → IsLineFault w s number line fault → IsFault w text fault
  fault_next other (NotAnEntry at) f = record {
    entries = r.entries;
    rest = line ∷ rest;
    told = record { run = r.told.run; spelled = r.told.spelled; lines = told_next };
    counted = f.0 ∙ ap (λ (n : ℕ). n + 1) (sym r.many);
    none = (other, f.1);
  }
  fault_next other (Illegal at) f = record {
    entries = r.entries;
    entry = f.1.entry;
    rest = rest;
    told = record {
      run = r.told.run;
      spelled = r.told.spelled;
      lines = told_next ∙ ap (λ (l : List ℕ). map (entry_line w) r.entries ++ l ∷ rest) (sym (entry_line_is w f.1.entry line f.1.text));
    };
    spelled = f.1.spelled;
    counted = f.0 ∙ sym r.many;
    illegal = no_run f.1.entry f.1.illegal;
  }
  fault_next other (Incomplete cpu) f = absurd f
  fault_next other (Tail at) f = absurd f
  fault_next other (Memory at) f = record { entries = r.entries; rest = line ∷ rest; told = record { run = r.told.run; spelled = r.told.spelled; lines = told_next }; counted = f ∙ sym r.many }

-- one entry more
pub read_more : (w : Work) (text : List ℕ) (s s' : State) (a a' : Accounts) (number from end : ℕ) (line : List ℕ) (e : Entry)
    → (r : HasRead w text s a number from) → lines_of (drop from text) ≡ line ∷ lines_of (drop (end + 1) text)
    → from ≤ end → (end < length text → get_or text end 0 ≡ 10) → line ≡ take (end - from) (drop from text)
    → IsTaken w s number line e → s' ≡ after w s e.number e.cpu e.event → HasTaken w (r.entries ++ e ∷ []) a'
    → HasRead w text s' a' (number + 1) (end + 1)
read_more w text s s' a a' number from end line e r next within newline is t made taken = record {
  entries = r.entries ++ e ∷ [];
  told = record {
    run = run_one w text s a number from line (lines_of (drop (end + 1) text)) r next e t.counted t.step;
    spelled = All-push (IsSpelled w) r.entries e r.told.spelled t.spelled;
    lines = told_one w text s a number from line (lines_of (drop (end + 1) text)) r next e t.text;
  };
  many = let n = length-append r.entries (e ∷ []) in let m = r.many in omega (arith, n, m);
  ends = made ∙ ap (λ (x : State). after w x e.number e.cpu e.event) r.ends ∙ sym (final-push w (opening w) r.entries e);
  taken = taken;
  parts = λ h.
      r.parts (omega (arith, h, within))
      ∙ ap (λ (l : List ℕ). entries_text w r.entries ++ l) (rest_of text line from end within (omega (arith, h)) (newline (omega (arith, h))) is ∙ ap (λ (l : List ℕ). l ++ drop (end + 1) text) (sym t.text))
      ∙ sym (append_assoc (entries_text w r.entries) (entry_text w e) (drop (end + 1) text))
      ∙ ap (λ (l : List ℕ). l ++ drop (end + 1) text) (sym (entries_push w r.entries e));
}

-- what is kept goes with what was read

pub start_with : (w : Work) (text : List ℕ) (s : State) (a : Accounts) (Has : List Entry → Type 0) → s ≡ opening w → HasTaken w [] a → Has [] → HasReadWith w text s a 0 0 Has
unfolding read_start
start_with w text s a Has start none has = (read_start w text s a start none, has)

pub more_with : (w : Work) (text : List ℕ) (s s' : State) (a a' : Accounts) (number from end : ℕ) (line : List ℕ) (e : Entry) (Has Has' : List Entry → Type 0)
    → (r : HasReadWith w text s a number from Has) → lines_of (drop from text) ≡ line ∷ lines_of (drop (end + 1) text)
    → from ≤ end → (end < length text → get_or text end 0 ≡ 10) → line ≡ take (end - from) (drop from text)
    → IsTaken w s number line e → s' ≡ after w s e.number e.cpu e.event → HasTaken w (r.0.entries ++ e ∷ []) a'
    → Takes w s e Has Has' → HasReadWith w text s' a' (number + 1) (end + 1) Has'
unfolding read_more
more_with w text s s' a a' number from end line e Has Has' r next within newline is t made taken takes =
    (read_more w text s s' a a' number from end line e r.0 next within newline is t made taken, takes r.0.entries r.0.ends r.1)
