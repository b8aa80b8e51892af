-- An entry's line is its words with single spaces between them, and a newline.
use Rattle.std.proofs.Common.{◌≡◌, ℕ, List, [], ◌∷◌, ◌++◌, Option, Some, None, append_assoc, refl, sym, ap, ◌∙◌}
use Rattle.std.specs.Prelude.{codes}
use Rattle.std.specs.List.{flat_map, join_with_byte}
use Rattle.std.specs.Fmt.{decimal}
use Rattle.std.proofs.lemmas.List.{append-nil}
use Rattle.sd_types.specs.declared.events.Event.{Event}
use Rattle.sd_types.specs.declared.events.End.TheVariants.{Front, Back}
use Rattle.sd_types.specs.declared.events.Put.TheVariants.{Cpu, RealTime as OnRealTime}
use Rattle.sd_types.specs.declared.events.Hints.{Hints}
use Rattle.sd_types.specs.declared.events.PrioAnswer.TheVariants as prio
use Rattle.sd_types.specs.declared.events.BindAnswer.TheVariants as bind
use Rattle.sd_types.specs.declared.events.Entry.{Entry}
use Rattle.sd_types.specs.declared.works.Work.{Work}
use Rattle.sd_state.specs.Texts.{thread_name}
use Rattle.sd_machine.specs.Names.{Name, names, OfThread, AtEnd, At, AtIf, Whom, ByPrio, ByBind, Off}
use Rattle.sd_machine.specs.Texts.{cpu_text, with_name, text_with, event_text, hints_text, entry_text}
use Rattle.sd_entries.specs.EntryWords.{name_words, event_words, hint_words, entry_words}

-- a text with a name behind it is the text and the words of the name
name_spelled : (w : Work) (text : List ℕ) (x : Name) → with_name w text x ≡ join_with_byte 32 (text ∷ name_words w x)
name_spelled w text (OfThread t) = append_assoc text (codes " ") (thread_name w t.0)
name_spelled w text (AtEnd Front) = refl
name_spelled w text (AtEnd Back) = refl
name_spelled w text (At (Cpu x)) = refl
name_spelled w text (At (OnRealTime x)) = refl
name_spelled w text (AtIf None) = append-nil text
name_spelled w text (AtIf (Some (Cpu x))) = refl
name_spelled w text (AtIf (Some (OnRealTime x))) = refl
name_spelled w text (Whom (Some (s, (Cpu x)))) = append_assoc text (codes " ") _
name_spelled w text (ByPrio (prio.Changed p None)) = append_assoc text (codes " ") _ ∙ ap (λ (number : List ℕ). text ++ (codes " ok " ++ number)) (append-nil (decimal p))
name_spelled w text (ByPrio (prio.Changed p (Some (Cpu x)))) = append_assoc text (codes " ") _
name_spelled w text (ByPrio (prio.Changed p (Some (OnRealTime x)))) = append_assoc text (codes " ") _
name_spelled w text (ByBind (bind.Changed (Some (Cpu x)))) = append_assoc text (codes " ") _
name_spelled w text (Off d) = append_assoc text (codes " away ") (cpu_text d)
name_spelled w text x = append_assoc text (codes " ") _

join_joined : (t : List ℕ) (ws rest : List (List ℕ)) → join_with_byte 32 (join_with_byte 32 (t ∷ ws) ∷ rest) ≡ join_with_byte 32 (t ∷ (ws ++ rest))
join_joined t [] [] = refl
join_joined t [] (r ∷ rs) = refl
join_joined t (v ∷ vs) [] = ap (λ (zs : List (List ℕ)). join_with_byte 32 (t ∷ zs)) (sym (append-nil (v ∷ vs)))
join_joined t (v ∷ vs) (r ∷ rs) = append_assoc t (32 ∷ join_with_byte 32 (v ∷ vs)) (32 ∷ join_with_byte 32 (r ∷ rs)) ∙ ap (λ (text : List ℕ). t ++ (32 ∷ text)) (join_joined v vs (r ∷ rs))

names_spelled : (w : Work) (text : List ℕ) (xs : List Name) → text_with w text xs ≡ join_with_byte 32 (text ∷ flat_map (name_words w) xs)
names_spelled w text [] = refl
names_spelled w text (x ∷ xs) =
    let rest = flat_map (name_words w) xs in
    names_spelled w (with_name w text x) xs ∙ ap (λ (t : List ℕ). join_with_byte 32 (t ∷ rest)) (name_spelled w text x) ∙ join_joined text (name_words w x) rest

event_spelled : (w : Work) (e : Event) → event_text w e ≡ join_with_byte 32 (event_words w e)
event_spelled w e = names_spelled w (names e).0 (names e).1

-- hints behind words
join_hints : (x : List ℕ) (xs : List (List ℕ)) (hs : Option Hints) → join_with_byte 32 (x ∷ (xs ++ hint_words hs)) ≡ join_with_byte 32 (x ∷ xs) ++ hints_text hs
join_hints x [] None = sym (append-nil x)
join_hints x [] (Some h) = refl
join_hints x (y ∷ ys) hs =
    ap (λ (text : List ℕ). x ++ (32 ∷ text)) (join_hints y ys hs) ∙ sym (append_assoc x (32 ∷ join_with_byte 32 (y ∷ ys)) (hints_text hs))

pub entry_spelled : (w : Work) (e : Entry) → entry_text w e ≡ join_with_byte 32 (entry_words w e) ++ 10 ∷ []
unfolding entry_text entry_words
entry_spelled w e =
    let E = event_text w e.event in
    let H = hints_text e.hints in
    let J = join_with_byte 32 (event_words w e.event ++ hint_words e.hints) in
    let words : E ++ H ≡ J = ap (λ (text : List ℕ). text ++ H) (event_spelled w e.event) ∙ sym (join_hints _ _ e.hints) in
    pieces (decimal e.number) (decimal e.cpu.0) E H ∙ ap (λ (text : List ℕ). (decimal e.number ++ (32 ∷ ((99 ∷ decimal e.cpu.0) ++ (32 ∷ text)))) ++ 10 ∷ []) words
  where
    pieces : (n c E H : List ℕ) → n ++ codes " c" ++ c ++ codes " " ++ E ++ H ++ codes "\n" ≡ (n ++ (32 ∷ ((99 ∷ c) ++ (32 ∷ (E ++ H))))) ++ 10 ∷ []
    pieces n c E H = simp append_assoc
