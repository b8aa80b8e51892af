-- Texts written one after another.
use Rattle.std.proofs.Common.{◌≡◌, ℕ, suc, ◌+◌, ◌<◌, ◌≤◌, List, [], ◌∷◌, ◌++◌, length, get_or, take, drop, Option, Some, None, Ok, Err, Result, refl, sym, ap, subst, ◌∙◌, arith, inl, inr}
use Rattle.std.specs.List.{flat_map}
use Rattle.std.proofs.lemmas.List.FromFn.{length-range_with_len, get_or-range_with_len}
use Rattle.std.proofs.lemmas.Bool.{cases_lt}
use Rattle.std.proofs.lemmas.List.{take-append-drop, take-append-le, take_all, take_more, append-nil}
use Rattle.std.proofs.lemmas.List.Concat.{flat_map-append}
use Rattle.std.proofs.KnownBytes.{Appends-nil, Appends-trans}
use Rattle.std.proofs.lemmas.Result.{err_from_is_err_and}
use Rattle.std.specs.Result.{IsErrAnd, IsErrOf}
use Rattle.std.specs.Io.KnownBytes.{Appends, Keeps}
use Rattle.sd_text.specs.Faults.{HasRisen}
use Rattle.sd_answers.specs.declared.writing.Unwritten.{Unwritten}
use Rattle.sd_answers.specs.declared.writing.Unwritten.TheVariants.{Fault, Memory}
use Rattle.sd_answers.specs.StreamChanges.{StreamChange, AppendsPart, HandsOn, Puts, TellsLine}

-- the prefix of a text whose prefix is xs
take_past : (xs ys : List ℕ) (n : ℕ) → take (length xs + n) (xs ++ ys) ≡ xs ++ take n ys
take_past [] ys n = ap (λ k. take k ys) (let e : 0 + n ≡ n = omega arith in e)
take_past (x ∷ xs) ys n =
    ap (λ k. take k (x ∷ (xs ++ ys))) (let e : length (x ∷ xs) + n ≡ suc (length xs + n) = omega arith in e) ∙ ap (λ (zs : List ℕ). x ∷ zs) (take_past xs ys n)

module _ (a b c : Option (List ℕ)) where
  pub part_none : (text : List ℕ) → AppendsPart a a text
  part_none text = (0, Appends-nil a)

  pub part_after : (xs ys : List ℕ) → Appends a b xs → AppendsPart b c ys → AppendsPart a c (xs ++ ys)
  part_after xs ys p (n, q) = (length xs + n, subst (Appends a c) (sym (take_past xs ys n)) (Appends-trans a b c xs (take n ys) p q))

  pub part_more : (xs ys : List ℕ) → AppendsPart a b xs → AppendsPart a b (xs ++ ys)
  part_more xs ys (n, p) =
      elim (cases_lt n (length xs)) [
        | inl less ↦ (n, subst (Appends a b) (sym (take-append-le n xs ys (let l : n ≤ length xs = omega arith in l))) p)
        | inr more ↦ (length xs, subst (Appends a b) (take_all n xs more ∙ sym (append-nil xs) ∙ sym (take_past xs ys 0) ∙ ap (λ k. take k (xs ++ ys)) (let z : length xs + 0 ≡ length xs = omega arith in z)) p)
      ]

-- what rose later has risen
risen_later : (f g h : ℕ) → f ≤ g → HasRisen g h → HasRisen f h
risen_later f g h l r = omega arith

module _ (a b c : Option (List ℕ)) (f g h : ℕ) (xs ys : List ℕ) where
  after_ok : (r : Result (Unit {0}) Unwritten) → Puts a b f g xs (Ok tt) → Puts b c g h ys r → Puts a c f h (xs ++ ys) r
  after_ok (Ok u) p q = record {
    never_falls = let m = p.never_falls in let n = q.never_falls in omega arith;
    ok = Appends-trans a b c xs ys p.ok q.ok;
    fault = λ e. cc;
    no_fault = λ none. q.no_fault none ∙ p.no_fault (λ is. cc);
    part = tt;
  }
  after_ok (Err e) p q = record {
    never_falls = let m = p.never_falls in let n = q.never_falls in omega arith;
    ok = tt;
    fault = λ is. risen_later f g h p.never_falls (q.fault is);
    no_fault = λ none. q.no_fault none ∙ p.no_fault (λ is. cc);
    part = part_after a b c xs ys p.ok q.part;
  }

  -- a text written, and then another
  pub Puts-then : (r : Result (Unit {0}) Unwritten) → Puts a b f g xs (Ok tt) → Puts b c g h ys r → Puts a c f h (xs ++ ys) r
  Puts-then r p q = after_ok r p q

  -- a text that was not written whole
  pub Puts-err : (e : Unwritten) → Puts a b f g xs (Err e) → Puts a b f g (xs ++ ys) (Err e)
  Puts-err e p = record { never_falls = p.never_falls; ok = tt; fault = p.fault; no_fault = p.no_fault; part = part_more a b b xs ys p.part }

-- nothing was written
pub Puts-nil : (a : Option (List ℕ)) (f : ℕ) → Puts a a f f [] (Ok tt)
Puts-nil a f = record { never_falls = omega arith; ok = Appends-nil a; fault = λ e. cc; no_fault = λ none. refl; part = tt }

pub Puts-memory : (a : Option (List ℕ)) (f : ℕ) (text : List ℕ) → Puts a a f f text (Err Memory)
Puts-memory a f text = record { never_falls = omega arith; ok = tt; fault = λ e. cc; no_fault = λ none. refl; part = part_none a a a text }

-- what the exit of a `?` returns
pub Puts-exit : (a b : Option (List ℕ)) (f g : ℕ) (text : List ℕ) (r : Result (Unit {0}) Unwritten) (e : Unwritten)
    → IsErrAnd r (λ y. y ≡ e) → Puts a b f g text (Err e) → Puts a b f g text r
Puts-exit a b f g text r e exit p =
    let x = err_from_is_err_and r exit in
    subst (λ s. Puts a b f g text s) (sym (x.1 ∙ ap Err x.2)) p

module _ {X : Type 0} (line : X → List ℕ) where
  -- one line more of a list of them
  lines_more : (xs : List X) (i : ℕ) (d : X) → i < length xs → flat_map line (take (i + 1) xs) ≡ flat_map line (take i xs) ++ line (get_or xs i d)
  lines_more xs i d h =
      ap (flat_map line) (take_more xs i d h) ∙ flat_map-append line (take i xs) (get_or xs i d ∷ []) ∙ ap (λ (ys : List ℕ). flat_map line (take i xs) ++ ys) (append-nil (line (get_or xs i d)))

  lines_split : (xs : List X) (i : ℕ) → flat_map line xs ≡ flat_map line (take i xs) ++ flat_map line (drop i xs)
  lines_split xs i = ap (flat_map line) (sym (take-append-drop i xs)) ∙ flat_map-append line (take i xs) (drop i xs)

  module _ (a b c : Option (List ℕ)) (f g h : ℕ) (xs : List X) (i : ℕ) (d : X) where
    pub Puts-line : i < length xs → Puts a b f g (flat_map line (take i xs)) (Ok tt) → Puts b c g h (line (get_or xs i d)) (Ok tt)
        → Puts a c f h (flat_map line (take (i + 1) xs)) (Ok tt)
    Puts-line l p q =
        subst (λ t. Puts a c f h t (Ok tt)) (sym (lines_more xs i d l)) (Puts-then a b c f g h (flat_map line (take i xs)) (line (get_or xs i d)) (Ok tt) p q)

    pub Puts-line_err : (e : Unwritten) → i < length xs → Puts a b f g (flat_map line (take i xs)) (Ok tt) → Puts b c g h (line (get_or xs i d)) (Err e)
        → Puts a c f h (flat_map line xs) (Err e)
    Puts-line_err e l p q =
        let whole : (flat_map line (take i xs) ++ line (get_or xs i d)) ++ flat_map line (drop (i + 1) xs) ≡ flat_map line xs =
        ap (λ (ys : List ℕ). ys ++ flat_map line (drop (i + 1) xs)) (sym (lines_more xs i d l)) ∙ sym (lines_split xs (i + 1)) in
        subst (λ t. Puts a c f h t (Err e)) whole
        (Puts-err a c c f h h (flat_map line (take i xs) ++ line (get_or xs i d)) (flat_map line (drop (i + 1) xs)) e
        (Puts-then a b c f g h (flat_map line (take i xs)) (line (get_or xs i d)) (Err e) p q))

  -- the same of an element that was read
  module _ (a b c : Option (List ℕ)) (f g h : ℕ) (xs : List X) (i : ℕ) (x : X) (is : x ≡ get_or xs i x) where
    pub Puts-item : i < length xs → Puts a b f g (flat_map line (take i xs)) (Ok tt) → Puts b c g h (line x) (Ok tt)
        → Puts a c f h (flat_map line (take (i + 1) xs)) (Ok tt)
    Puts-item l p q = Puts-line a b c f g h xs i x l p (subst (λ (y : X). Puts b c g h (line y) (Ok tt)) is q)

    pub Puts-item_err : (e : Unwritten) → i < length xs → Puts a b f g (flat_map line (take i xs)) (Ok tt) → Puts b c g h (line x) (Err e)
        → Puts a c f h (flat_map line xs) (Err e)
    Puts-item_err e l p q = Puts-line_err a b c f g h xs i x e l p (subst (λ (y : X). Puts b c g h (line y) (Err e)) is q)

  pub Puts-all : (a b : Option (List ℕ)) (f g : ℕ) (xs : List X) (i : ℕ) → length xs ≤ i → Puts a b f g (flat_map line (take i xs)) (Ok tt) → Puts a b f g (flat_map line xs) (Ok tt)
  Puts-all a b f g xs i h p = subst (λ (ys : List X). Puts a b f g (flat_map line ys) (Ok tt)) (take_all i xs h) p

-- ---- the line on the error output

-- a line that wants no memory was told
pub tells_of : (err : StreamChange) (line : List ℕ) (r : Result (Unit {0}) Unwritten) → Puts err.before err.after err.faults_before err.faults_after line r
    → (IsErrOf r Memory → ⊥) → TellsLine err line
tells_of err line (Ok u) p none = record {
  part = (length line, subst (Appends err.before err.after) (sym (take_all (length line) line (let e : length line ≤ length line = omega arith in e))) p.ok);
  whole = λ sound. p.ok;
}
tells_of err line (Err Fault) p none = record { part = p.part; whole = λ sound. absurd (sound (p.fault refl)) }
tells_of err line (Err Memory) p none = absurd (none refl)

-- ---- what is handed on

-- what was appended is there where it is kept
kept_behind : (a b c : Option (List ℕ)) (xs : List ℕ) → Appends a b xs → Keeps b c → Appends a c xs
kept_behind None b c xs p k = tt
kept_behind (Some x) None c xs p k = absurd p
kept_behind (Some x) (Some y) None xs p k = absurd k
kept_behind (Some x) (Some y) (Some z) xs p k = k ∙ p

module _ (a b c : Option (List ℕ)) (f g h : ℕ) (text held : List ℕ) where
  whole_part : Appends a c text → AppendsPart a c text
  whole_part p = (length text, subst (Appends a c) (sym (take_all (length text) text (let e : length text ≤ length text = omega arith in e))) p)

  -- what is written and then handed on is written
  pub Puts-handed : (put r : Result (Unit {0}) Unwritten) → Puts a b f g text put → HandsOn put b c g h held r → Puts a c f h text r
  Puts-handed (Ok u) (Ok v) p q = record {
    never_falls = let m = p.never_falls in let n = q.never_falls in omega arith;
    ok = kept_behind a b c text p.ok q.same;
    fault = λ is. cc;
    no_fault = λ none. (q.no_fault none).1 ∙ p.no_fault (λ is. cc);
    part = tt;
  }
  Puts-handed (Ok u) (Err Fault) p q = record {
    never_falls = let m = p.never_falls in let n = q.never_falls in omega arith;
    ok = tt;
    fault = λ is. elim (q.fault is) [ inl was ↦ cc | inr rose ↦ risen_later f g h p.never_falls rose ];
    no_fault = λ none. absurd (none refl);
    part = whole_part (kept_behind a b c text p.ok q.same);
  }
  Puts-handed (Ok u) (Err Memory) p q = let same = (q.no_fault (λ is. cc)).0 in cc
  Puts-handed (Err Fault) (Ok v) p q = let same = (q.no_fault (λ is. cc)).0 in cc
  Puts-handed (Err Fault) (Err Fault) p q = record {
    never_falls = let m = p.never_falls in let n = q.never_falls in omega arith;
    ok = tt;
    fault = λ is. let rose = p.fault refl in let n = q.never_falls in omega arith;
    no_fault = λ none. absurd (none refl);
    part = (p.part.0, kept_behind a b c (take p.part.0 text) p.part.1 q.same);
  }
  Puts-handed (Err Fault) (Err Memory) p q = let same = (q.no_fault (λ is. cc)).0 in cc
  Puts-handed (Err Memory) (Ok v) p q = let same = (q.no_fault (λ is. cc)).0 in cc
  Puts-handed (Err Memory) (Err Fault) p q = record {
    never_falls = let m = p.never_falls in let n = q.never_falls in omega arith;
    ok = tt;
    fault = λ is. elim (q.fault is) [ inl was ↦ cc | inr rose ↦ risen_later f g h p.never_falls rose ];
    no_fault = λ none. absurd (none refl);
    part = (p.part.0, kept_behind a b c (take p.part.0 text) p.part.1 q.same);
  }
  Puts-handed (Err Memory) (Err Memory) p q = record {
    never_falls = let m = p.never_falls in let n = q.never_falls in omega arith;
    ok = tt;
    fault = λ is. cc;
    no_fault = λ none. (q.no_fault none).1 ∙ p.no_fault (λ is. cc);
    part = (p.part.0, kept_behind a b c (take p.part.0 text) p.part.1 q.same);
  }
