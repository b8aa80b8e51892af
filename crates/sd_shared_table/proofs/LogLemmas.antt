-- The logs of the processors, put together, are the run.
use Rattle.std.proofs.Common.{◌≡◌, ◌≢◌, ◌⊎◌, ℕ, zero, suc, ◌<◌, ◌≤◌, Bool, true, false, eqb, cond, List, [], ◌∷◌, ◌++◌, length, get_or, set, filter, Option, Some, refl, sym, ap, ◌∙◌, subst, inl, inr, ⊎_elim, arith, length-append}
use Rattle.std.specs.Prelude.{slice_get, Vec}
use Rattle.std.specs.List.{All, Contains}
use Rattle.std.specs.declared.alloc.Global.{Global}
use Rattle.std.proofs.lemmas.Bool.{cases_eq}
use Rattle.std.proofs.lemmas.Bool.Decides.{nat_tests}
use Rattle.std.proofs.lemmas.List.{get_or-set_same, get_or-set_other, length-set}
use Rattle.std.proofs.lemmas.List.Elements.{All-contains, All-filter, All-from_get_or, Contains-push, Contains-push_cases, Contains-append_left}
use Rattle.std.proofs.lemmas.Option.{get_or_from_slice_get, slice_get-get_or, slice_get_within}
use Rattle.sd_basics.proofs.Lists.{get_last, get_set}
use Rattle.sd_types.specs.declared.events.Entry.{Entry}
use Rattle.sd_shared_rule.specs.Ledgers.{by}
use Rattle.sd_shared_table.specs.Logs.{AreIn, AreLogsOf, HasPut, IsNumbered}

pub at_early : {X : Type 0} (xs : List X) (x y : X) (i : ℕ) → slice_get xs i ≡ Some y → slice_get (xs ++ x ∷ []) i ≡ Some y
at_early [] x y i e = absurd cc
at_early (z ∷ zs) x y zero e = e
at_early (z ∷ zs) x y (suc i) e = at_early zs x y i e

-- One place more is filled.

slice_set_other : {X : Type 0} (xs : List X) (i j : ℕ) (x y : X) → j ≢ i → slice_get xs j ≡ Some y → slice_get (set xs i x) j ≡ Some y
slice_set_other xs i j x y apart at =
    let inside = slice_get_within xs j y at in
    slice_get-get_or (set xs i x) j y (subst (λ m. j < m) (sym (length-set xs i x)) inside) ∙ ap Some (get_or-set_other xs i j x y apart ∙ get_or_from_slice_get xs j y y at)

some_same : {X : Type 0} (o : Option X) (x y : X) → o ≡ Some x → o ≡ Some y → x ≡ y
some_same o x y a b = let both : Some x ≡ Some y = sym a ∙ b in cc

-- each entry that was due lies in its place, or is still in the log
abbrev pub Due : List Entry → List Entry → List Entry → List Entry → List Entry → Type 0
Due h first es0 log es = (i : ℕ) (e : Entry) → slice_get h i ≡ Some e → (slice_get es0 i ≡ Some e) ⊎ Contains first e → (slice_get es i ≡ Some e) ⊎ Contains log e

pub record Putting (first es0 log es : List Entry) : Type 0 where
  pub many : length es ≡ length es0
  pub inside : All (λ (e : Entry). e.number < length es0) log
  pub among : (e : Entry) → Contains log e → Contains first e
  pub due : (h : List Entry) → IsNumbered h → AreIn h first → Due h first es0 log es

pub puts_first : (log es : List Entry) → All (λ (e : Entry). e.number < length es) log → Putting log es log es
puts_first log es inside = record { many = refl; inside = inside; among = λ e c. c; due = λ h numbered among i e at d. d }

pub put_inside : (first es0 log rest es : List Entry) (x : Entry) → Putting first es0 log es → log ≡ rest ++ x ∷ [] → x.number < length es
put_inside first es0 log rest es x p is =
    let small = All-contains (λ (e : Entry). e.number < length es0) log x p.inside (subst (λ l. Contains l x) (sym is) (Contains-push rest x)) in
    let many = p.many in
    omega (arith, small, many)

pub puts_next : (first es0 log rest es : List Entry) (x : Entry) → Putting first es0 log es → log ≡ rest ++ x ∷ [] → Putting first es0 rest (set es x.number x)
puts_next first es0 log rest es x p is = record {
  many = length-set es x.number x ∙ p.many;
  inside = λ k d below. subst (λ (y : Entry). y.number < length es0) (same k d below) (p.inside k d (there k below));
  among = λ e c. p.among e (subst (λ l. Contains l e) (sym is) (Contains-append_left rest (x ∷ []) e c));
  due = λ h numbered among i e at d. next h numbered among i e at (p.due h numbered among i e at d);
}
  where
    mine : Contains log x
    mine = subst (λ l. Contains l x) (sym is) (Contains-push rest x)

    number : x.number < length es
    number = put_inside first es0 log rest es x p is

    there : (k : ℕ) → k < length rest → k < length log
    there k below = let long = ap length is ∙ length-append rest (x ∷ []) in omega (arith, long, below)

    same : (k : ℕ) (d : Entry) → k < length rest → get_or log k d ≡ get_or rest k d
    same k d below = ap (λ l. get_or l k d) is ∙ Rattle.std.proofs.lemmas.List.get_or_append_left rest (x ∷ []) d k below

    put_at : (h : List Entry) → AreIn h first → (i : ℕ) (e : Entry) → slice_get h i ≡ Some e → slice_get es i ≡ Some e → (i ≡ x.number) ⊎ (i ≢ x.number) → slice_get (set es x.number x) i ≡ Some e
    put_at h among i e at old (inl same) =
        let here : slice_get h x.number ≡ Some x = among x (p.among x mine) in
        let is_e : e ≡ x = some_same (slice_get h i) e x at (ap (slice_get h) same ∙ here) in
        ap (slice_get (set es x.number x)) same ∙ (get_set es x.number x number ∙ ap Some (sym is_e))
    put_at h among i e at old (inr other) = slice_set_other es x.number i x e other old

    new_at : (h : List Entry) → IsNumbered h → (i : ℕ) (e : Entry) → slice_get h i ≡ Some e → x ≡ e → slice_get (set es x.number x) i ≡ Some e
    new_at h numbered i e at is_e =
        let place : x.number ≡ i = ap (λ (y : Entry). y.number) is_e ∙ numbered i e at in
        ap (slice_get (set es x.number x)) (sym place) ∙ (get_set es x.number x number ∙ ap Some is_e)

    next : (h : List Entry) → IsNumbered h → AreIn h first → (i : ℕ) (e : Entry) → slice_get h i ≡ Some e → (slice_get es i ≡ Some e) ⊎ Contains log e → (slice_get (set es x.number x) i ≡ Some e) ⊎ Contains rest e
    next h numbered among i e at (inl old) = inl (put_at h among i e at old (cases_eq i x.number))
    next h numbered among i e at (inr c) = ⊎_elim (λ r. inr r) (λ q. inl (new_at h numbered i e at q)) (Contains-push_cases rest x e (subst (λ l. Contains l e) is c))

none_in : {X : Type 0} (x : X) → Contains [] x → ⊥
none_in x (k, below, e) = absurd (omega arith)

pub puts_last : (first es0 log es : List Entry) → Putting first es0 log es → log ≡ [] → (h : List Entry) → IsNumbered h → AreIn h first → HasPut h first es0 es
puts_last first es0 log es p is h numbered among i e at d = ⊎_elim (λ q. q) (λ c. absurd (none_in e (subst (λ l. Contains l e) is c))) (p.due h numbered among i e at d)

pub empty_by : {X : Type 0} (xs : List X) → length xs ≡ 0 → xs ≡ []
empty_by [] e = refl
empty_by (x ∷ xs) e = absurd (omega arith)

-- All logs.

contains_there : {X : Type 0} (x y : X) (xs : List X) → Contains xs x → Contains (y ∷ xs) x
contains_there x y xs (k, below, e) = (suc k, (omega (arith, below)), e)

contains_here : {X : Type 0} (x : X) (xs : List X) → Contains (x ∷ xs) x
contains_here x xs = (0, (omega arith), refl)

by_has : (c : ℕ) (h : List Entry) (i : ℕ) (e : Entry) → slice_get h i ≡ Some e → e.cpu.0 ≡ c → Contains (by c h) e
unfolding by
by_has c [] i e at own = absurd cc
by_has c (x ∷ xs) zero e at own =
    let is : x ≡ e = cc in
    let t : eqb x.cpu.0 c ≡ true = (let q = ap (λ (y : Entry). y.cpu.0) is ∙ own in grind (arith, nat_tests)) in
    subst (λ b. Contains (cond b (x ∷ filter (λ (y : Entry). eqb y.cpu.0 c) xs) (filter (λ (y : Entry). eqb y.cpu.0 c) xs)) e) (sym t)
    (subst (λ y. Contains (y ∷ filter (λ (y : Entry). eqb y.cpu.0 c) xs) e) (sym is) (contains_here e (filter (λ (y : Entry). eqb y.cpu.0 c) xs)))
by_has c (x ∷ xs) (suc i) e at own = by_test (eqb x.cpu.0 c) (by_has c xs i e at own)
  where
    by_test : (b : Bool) → Contains (filter (λ (y : Entry). eqb y.cpu.0 c) xs) e → Contains (cond b (x ∷ filter (λ (y : Entry). eqb y.cpu.0 c) xs) (filter (λ (y : Entry). eqb y.cpu.0 c) xs)) e
    by_test true r = contains_there e x (filter (λ (y : Entry). eqb y.cpu.0 c) xs) r
    by_test false r = r

pub log_in : (c : ℕ) (h : List Entry) → IsNumbered h → AreIn h (by c h)
unfolding by
log_in c h numbered e c-in = All-contains (λ (x : Entry). slice_get h x.number ≡ Some x) (filter (λ (y : Entry). eqb y.cpu.0 c) h) e (All-filter (λ (y : Entry). eqb y.cpu.0 c) (λ (x : Entry). slice_get h x.number ≡ Some x) h all) c-in
  where
    all : All (λ (x : Entry). slice_get h x.number ≡ Some x) h
    all k d below =
        let at = slice_get-get_or h k d below in
        ap (slice_get h) (numbered k (get_or h k d) at) ∙ at

-- the logs that are left are the run's, and the entries of the others lie in their places
pub record Filling (h : List Entry) (left : List (Vec Entry Global)) (es : List Entry) : Type 0 where
  pub many : length es ≡ length h
  pub logs : (c : ℕ) (log : Vec Entry Global) → slice_get left c ≡ Some log → log.items ≡ by c h
  pub lie : (i : ℕ) (e : Entry) → slice_get h i ≡ Some e → length left ≤ e.cpu.0 → slice_get es i ≡ Some e

pub fills_first : (h : List Entry) (logs : List (Vec Entry Global)) (es : List Entry) → AreLogsOf h logs → length es ≡ length h → Filling h logs es
fills_first h logs es are many = record {
  many = many;
  logs = are.each;
  lie = λ i e at far. absurd (let near = are.within i e at in omega (arith, near, far));
}

module _ (h : List Entry) (left rest : List (Vec Entry Global)) (log : Vec Entry Global) (es : List Entry) (f : Filling h left es) (is : left ≡ rest ++ log ∷ []) (numbered : IsNumbered h) where
  log_is : log.items ≡ by (length rest) h
  log_is = f.logs (length rest) log (ap (λ l. slice_get l (length rest)) is ∙ get_last rest log)

  pub log_inside : AreIn h log.items
  log_inside = subst (AreIn h) (sym log_is) (log_in (length rest) h numbered)

  pub log_fits : All (λ (e : Entry). e.number < length es) log.items
  log_fits k d below =
      let e = get_or log.items k d in
      let at = log_inside e (Rattle.std.proofs.lemmas.List.Elements.Contains-get_or log.items k d below) in
      let inside = slice_get_within h e.number e at in
      let many = f.many in
      omega (arith, inside, many)

  pub fills_next : (new : List Entry) → length new ≡ length es → HasPut h log.items es new → Filling h rest new
  fills_next new many put = record {
    many = many ∙ f.many;
    logs = λ c l at. f.logs c l (ap (λ x. slice_get x c) is ∙ at_early rest log l c at);
    lie = λ i e at far. put i e at (by i e at far (cases_eq e.cpu.0 (length rest)));
  }
    where
      by : (i : ℕ) (e : Entry) → slice_get h i ≡ Some e → length rest ≤ e.cpu.0 → (e.cpu.0 ≡ length rest) ⊎ (e.cpu.0 ≢ length rest) → (slice_get es i ≡ Some e) ⊎ Contains log.items e
      by i e at far (inl own) = inr (subst (λ l. Contains l e) (sym log_is) (by_has (length rest) h i e at own))
      by i e at far (inr other) = inl (f.lie i e at (let long = ap length is ∙ length-append rest (log ∷ []) in omega (arith, long, far, other)))

pub fills_last : (h : List Entry) (left : List (Vec Entry Global)) (es : List Entry) → Filling h left es → length left ≡ 0 → es ≡ h
fills_last h left es f none = same es h f.many (λ i e at. f.lie i e at (omega (arith, none)))
  where
    same : (xs ys : List Entry) → length xs ≡ length ys → ((i : ℕ) (e : Entry) → slice_get ys i ≡ Some e → slice_get xs i ≡ Some e) → xs ≡ ys
    same [] [] many each = refl
    same [] (y ∷ ys) many each = absurd (omega arith)
    same (x ∷ xs) [] many each = absurd (omega arith)
    same (x ∷ xs) (y ∷ ys) many each =
        let first : Some x ≡ Some y = each 0 y refl in
        let here : x ≡ y = cc in
        let rest = same xs ys (omega arith) (λ i e at. each (suc i) e at) in
        λ j. here j ∷ rest j

-- the entry that comes next has the number of its place
pub number_next : (es done rest : List Entry) (x : Entry) → IsNumbered es → done ++ (x ∷ rest) ≡ es → x.number ≡ length done
number_next es done rest x numbered e = numbered (length done) x (ap (λ l. slice_get l (length done)) (sym e) ∙ there done)
  where
    there : (xs : List Entry) → slice_get (xs ++ (x ∷ rest)) (length xs) ≡ Some x
    there [] = refl
    there (y ∷ xs) = there xs
