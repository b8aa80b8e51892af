-- The lines of threads are taken in.
use Rattle.std.proofs.Common.{◌≡◌, ℕ, ℤ, zero, suc, ◌+◌, ◌≤◌, Bool, true, false, not, ◌&&◌, min, eqb, ltb, leb, List, [], ◌∷◌, ◌++◌, length, map, Option, Some, None, refl, sym, ap, ◌∙◌, subst, arith, append-nil, append_assoc, length-append, if◌then◌else◌}
use Rattle.std.specs.Prelude.{codes, nat_eq, int_le}
use Rattle.std.specs.Int.{int_min}
use Rattle.std.specs.Fmt.{decimal}
use Rattle.std.specs.List.{list_all, flat_map}
use Rattle.std.proofs.lemmas.Bool.{lt-ltb, le-leb, leb-true, and_parts}
use Rattle.std.proofs.lemmas.Bool.Decides.{nat_tests}
use Rattle.std.proofs.lemmas.Int.{ints}
use Rattle.std.proofs.lemmas.List.{length-map}
use Rattle.std.proofs.lemmas.List.Folds.{list_all-append}
use Rattle.sd_basics.proofs.Lists.{place-map}
use Rattle.sd_types.specs.declared.numbers.SetId.{SetId}
use Rattle.sd_types.specs.declared.classes.Quantum.{Quantum}
use Rattle.sd_types.specs.declared.classes.Quantum.TheVariants as quantum
use Rattle.sd_types.specs.declared.classes.ClassParms.{ClassParms}
use Rattle.sd_types.specs.declared.classes.ClassParms.TheVariants as parms
use Rattle.sd_types.specs.declared.works.ThreadDecl.{ThreadDecl}
use Rattle.sd_types.specs.declared.works.Work.{Work}
use Rattle.sd_types.specs.NameWords.{is_name}
use Rattle.sd_types.specs.Works.{same_bytes, is_distinct, quantum_fits, class_fits, upri_fits}
use Rattle.sd_lines.specs.Words.{Word, Line}
use Rattle.sd_lines.specs.Threads.{Thread as ThreadLine, thread}
use Rattle.sd_lines.specs.Statements.{Declare}
use Rattle.sd_machine.specs.Texts.{set_name}
use Rattle.sd_declare.specs.Declarations.{Thread, Declarations, place, set_place, set_number, is_set, thread_number}
use Rattle.sd_declare.specs.Kept.{set_kept, thread_kept}
use Rattle.sd_declare.specs.Statements.{is_quantum, is_class, quantum_of, parms_of, cpupri_of, thread_of, statement_causes, with_thread}
use Rattle.sd_workload.specs.Texts.{Outside}
use Rattle.sd_workload.proofs.ClearLemmas.{IsClear}
use Rattle.sd_canonical.specs.Lines.{class_words, quantum_word, priv_words, in_words, option_words}
use Rattle.sd_canonical.specs.Canonical.{line_text, thread_text}
use Rattle.sd_canonical.proofs.TextLemmas.{is_plain, are_plain, name-plain, number-plain, signed-plain, upri-short}
use Rattle.sd_canonical.proofs.TakesLemmas.{Takes, takes-nothing, takes-both, takes-line}
use Rattle.sd_canonical.proofs.FormLemmas.{class_said, quantum_said, quantum-small, set_words, is_name_if, options_said, thread-form}
use Rattle.sd_canonical.proofs.ListLemmas.{under, not-under, named-fresh, none-before}
use Rattle.sd_entries.proofs.NameLemmas.{name_at_name, place_of_name}

-- ---- the set of a thread

abbrev pub said_at : Work → ℕ → Option Word
said_at w n = if eqb n 0 then None else Some (set_name w n)

abbrev pub set_said : Work → SetId → Option Word
set_said w p = said_at w p.0

set-number_at : (w : Work) (d : Declarations) (n : ℕ) → d.sets ≡ map set_kept w.sets → n ≤ length w.sets → set_number d (said_at w n) ≡ n
unfolding set_place
set-number_at w d zero sets inside = refl
set-number_at w d (suc q) sets inside =
    let name = set_name w (suc q) in
    let other : eqb (suc q) 0 ≡ false = grind (arith, nat_tests) in
    let here : place name d.sets ≡ q = ap (place name) sets ∙ place-map (λ x. same_bytes x.0 name) set_kept w.sets ∙ place_of_name (λ s. s.0.text.items) w.sets q (omega arith) w.set_names in
    rw other (omega arith)

pub set-number : (w : Work) (d : Declarations) (p : SetId) → d.sets ≡ map set_kept w.sets → p.0 ≤ length w.sets → set_number d (set_said w p) ≡ p.0
set-number w d p sets inside = set-number_at w d p.0 sets inside

set-name_at : (w : Work) (n : ℕ) → n ≤ length w.sets → is_name_if (said_at w n) ≡ true
set-name_at w zero inside = refl
set-name_at w (suc q) inside =
    let other : eqb (suc q) 0 ≡ false = grind (arith, nat_tests) in
    rw other (name_at_name (λ s. s.0.text.items) (λ s. s.0.is_name) w.sets q (omega arith))

pub set-name : (w : Work) (p : SetId) → p.0 ≤ length w.sets → is_name_if (set_said w p) ≡ true
set-name w p inside = set-name_at w p.0 inside

in-set : (w : Work) (p : SetId) → in_words w p ≡ set_words (set_said w p)
in-set w p = by (eqb p.0 0)
  where
    by : (b : Bool) → (if b then [] else codes "in" ∷ set_name w p.0 ∷ []) ≡ set_words (if b then None else Some (set_name w p.0))
    by true = refl
    by false = refl

-- ---- classes

pub quantum-back : (q : Quantum) → quantum_of (quantum_said q) ≡ q
quantum-back quantum.Def = refl
quantum-back quantum.Inf = refl
quantum-back (quantum.Ticks n) = refl

pub is-quantum : (q : Quantum) → quantum_fits q ≡ true → is_quantum (quantum_said q) ≡ true
is-quantum quantum.Def h = refl
is-quantum quantum.Inf h = refl
is-quantum (quantum.Ticks n) h = h

pub quantum-plain : (q : Quantum) → quantum_fits q ≡ true → is_plain (quantum_word q) ≡ true
quantum-plain quantum.Def h = refl
quantum-plain quantum.Inf h = refl
quantum-plain (quantum.Ticks n) h = let small = quantum-small n h in number-plain n (omega arith)

least-upri : (upri limit : ℤ) → int_le upri limit ≡ true → int_min upri limit ≡ upri
least-upri upri limit h = grind (arith, nat_tests, ints)

class-back : (class : ClassParms) (cpupri : ℕ) → class_fits class cpupri ≡ true → parms_of (class_said class cpupri) ≡ class
class-back (parms.Ts limit upri) cpupri h =
    let p = and_parts (upri_fits limit && upri_fits upri && int_le upri limit) (leb cpupri 59) h in
    let q = and_parts (upri_fits limit && upri_fits upri) (int_le upri limit) p.0 in
    ap (λ (u : ℤ). parms.Ts limit u) (least-upri upri limit q.1)
class-back (parms.Fx limit pri q) cpupri h =
    let p = and_parts (leb limit 60 && leb pri limit && quantum_fits q) (nat_eq cpupri 0) h in
    let r = and_parts (leb limit 60 && leb pri limit) (quantum_fits q) p.0 in
    let least : min pri limit ≡ pri = grind (arith, nat_tests, r.0) in
    rw (least, quantum-back q) refl
class-back (parms.Sys pri) cpupri h = refl
class-back (parms.Rt pri q) cpupri h = rw (quantum-back q) refl

is-zero : (n : ℕ) → nat_eq n 0 ≡ true → 0 ≡ n
is-zero n h = grind (arith, nat_tests)

cpupri-back : (class : ClassParms) (cpupri : ℕ) → class_fits class cpupri ≡ true → cpupri_of (class_said class cpupri) ≡ cpupri
cpupri-back (parms.Ts limit upri) cpupri h = refl
cpupri-back (parms.Fx limit pri q) cpupri h = is-zero cpupri (and_parts (leb limit 60 && leb pri limit && quantum_fits q) (nat_eq cpupri 0) h).1
cpupri-back (parms.Sys pri) cpupri h = is-zero cpupri (and_parts (leb 60 pri && leb pri 99) (nat_eq cpupri 0) h).1
cpupri-back (parms.Rt pri q) cpupri h = is-zero cpupri (and_parts (leb pri 59 && quantum_fits q) (nat_eq cpupri 0) h).1

pub is-class : (class : ClassParms) (cpupri : ℕ) → class_fits class cpupri ≡ true → is_class (class_said class cpupri) ≡ true
is-class (parms.Ts limit upri) cpupri h =
    let p = and_parts (upri_fits limit && upri_fits upri && int_le upri limit) (leb cpupri 59) h in
    let q = and_parts (upri_fits limit && upri_fits upri) (int_le upri limit) p.0 in
    let r = and_parts (upri_fits limit) (upri_fits upri) q.0 in
    rw (p.1, r.0, r.1) refl
is-class (parms.Fx limit pri q) cpupri h =
    let p = and_parts (leb limit 60 && leb pri limit && quantum_fits q) (nat_eq cpupri 0) h in
    let r = and_parts (leb limit 60 && leb pri limit) (quantum_fits q) p.0 in
    let s = and_parts (leb limit 60) (leb pri limit) r.0 in
    let most : leb pri 60 ≡ true = grind (arith, nat_tests, s.0, s.1) in
    rw (s.0, most, is-quantum q r.1) refl
is-class (parms.Sys pri) cpupri h = (and_parts (leb 60 pri && leb pri 99) (nat_eq cpupri 0) h).0
is-class (parms.Rt pri q) cpupri h =
    let p = and_parts (leb pri 59 && quantum_fits q) (nat_eq cpupri 0) h in
    let r = and_parts (leb pri 59) (quantum_fits q) p.0 in
    rw (r.0, is-quantum q r.1) refl

pub class-plain : (class : ClassParms) (cpupri : ℕ) → class_fits class cpupri ≡ true → are_plain (class_words class cpupri) ≡ true
class-plain (parms.Ts limit upri) cpupri h =
    let p = and_parts (upri_fits limit && upri_fits upri && int_le upri limit) (leb cpupri 59) h in
    let q = and_parts (upri_fits limit && upri_fits upri) (int_le upri limit) p.0 in
    let r = and_parts (upri_fits limit) (upri_fits upri) q.0 in
    let small : cpupri ≤ 59 = grind (arith, nat_tests, p.1) in
    rw (number-plain cpupri (omega arith), signed-plain limit (upri-short limit r.0), signed-plain upri (upri-short upri r.1)) refl
class-plain (parms.Fx limit pri q) cpupri h =
    let p = and_parts (leb limit 60 && leb pri limit && quantum_fits q) (nat_eq cpupri 0) h in
    let r = and_parts (leb limit 60 && leb pri limit) (quantum_fits q) p.0 in
    let s = and_parts (leb limit 60) (leb pri limit) r.0 in
    let most : limit ≤ 60 = grind (arith, nat_tests, s.0) in
    let less : pri ≤ limit = grind (arith, nat_tests, s.1) in
    rw (number-plain limit (omega arith), number-plain pri (omega arith), quantum-plain q r.1) refl
class-plain (parms.Sys pri) cpupri h =
    let p = and_parts (leb 60 pri && leb pri 99) (nat_eq cpupri 0) h in
    let most : pri ≤ 99 = grind (arith, nat_tests, (and_parts (leb 60 pri) (leb pri 99) p.0).1) in
    rw (number-plain pri (omega arith)) refl
class-plain (parms.Rt pri q) cpupri h =
    let p = and_parts (leb pri 59 && quantum_fits q) (nat_eq cpupri 0) h in
    let r = and_parts (leb pri 59) (quantum_fits q) p.0 in
    let most : pri ≤ 59 = grind (arith, nat_tests, r.0) in
    rw (number-plain pri (omega arith), quantum-plain q r.1) refl

-- ---- the line of a thread

options-plain : (privileged : Bool) (set : Option Word) → is_name_if set ≡ true → are_plain (priv_words privileged ++ set_words set) ≡ true
options-plain true None h = refl
options-plain false None h = refl
options-plain true (Some name) h = rw (name-plain name h) refl
options-plain false (Some name) h = rw (name-plain name h) refl

line-plain : (name : Word) (class : ClassParms) (cpupri uid : ℕ) (privileged : Bool) (set : Option Word) → is_name name ≡ true → class_fits class cpupri ≡ true → uid ≤ 65535
    → is_name_if set ≡ true → are_plain (codes "thread" ∷ name ∷ (class_words class cpupri ++ (codes "uid" ∷ decimal uid ∷ (priv_words privileged ++ set_words set)))) ≡ true
line-plain name class cpupri uid privileged set named fits small known =
    let rest : are_plain (class_words class cpupri ++ (codes "uid" ∷ decimal uid ∷ (priv_words privileged ++ set_words set))) ≡ true =
    list_all-append is_plain (class_words class cpupri) (codes "uid" ∷ decimal uid ∷ (priv_words privileged ++ set_words set))
    ∙ rw (class-plain class cpupri fits, number-plain uid (omega arith), options-plain privileged set known) refl in
    rw (name-plain name named, rest) refl

-- what is kept of a thread before it is given its script
abbrev pub bare_kept : ThreadDecl → Thread
bare_kept t = record (thread_kept t) { ops = [] }

abbrev line_said : Work → ThreadDecl → ThreadLine
line_said w t = thread t.name.text.items (class_said t.class t.cpupri) (options_said t.uid t.privileged (set_said w t.set))

-- how many sets there are, and the users
pub record Fits (w : Work) (t : ThreadDecl) : Type 0 where
  pub class : class_fits t.class t.cpupri ≡ true
  pub set : t.set.0 ≤ length w.sets
  pub uid : t.uid ≤ 65535

thread-back : (w : Work) (d : Declarations) (t : ThreadDecl) → Fits w t → d.sets ≡ map set_kept w.sets → thread_of d (line_said w t) ≡ bare_kept t
thread-back w d t f sets = rw (class-back t.class t.cpupri f.class, cpupri-back t.class t.cpupri f.class, set-number w d t.set sets f.set) refl

-- so many threads, whose names differ
pub record IsThreads (all : List Thread) : Type 0 where
  pub names : is_distinct same_bytes (map (λ t. t.name) all) ≡ true
  pub few : length all ≤ 2048

known-set : (w : Work) (d : Declarations) (t : ThreadDecl) → Fits w t → d.sets ≡ map set_kept w.sets → not (is_set d (set_said w t.set)) ≡ false
known-set w d t f sets =
    let number = set-number w d t.set sets f.set in
    let count : length d.sets ≡ length w.sets = ap length sets ∙ length-map w.sets set_kept in
    let small = f.set in
    let inside : ltb (set_number d (set_said w t.set)) (length d.sets + 1) ≡ true = lt-ltb _ _ (omega arith) in
    ap not inside

thread-clear : (w : Work) (d : Declarations) (t : ThreadDecl) (rest : List Thread) → Fits w t → d.sets ≡ map set_kept w.sets → IsThreads (d.threads ++ bare_kept t ∷ rest)
    → IsClear (statement_causes d (Declare (line_said w t)))
unfolding thread_number
thread-clear w d t rest f sets s =
    let few = s.few in
    let long = length-append d.threads (bare_kept t ∷ rest) in
    let small : leb t.uid 65535 ≡ true = le-leb _ _ f.uid in
    record {
      syntax = refl;
      unknown = known-set w d t f sets;
      twice = not-under _ _ (none-before (λ (x : Thread). same_bytes x.name t.name.text.items) d.threads (named-fresh (λ (x : Thread). x.name) d.threads rest (bare_kept t) s.names));
      range = rw (is-class t.class t.cpupri f.class, small) refl;
      sets = refl;
      limits = under (length d.threads) 2048 (omega arith);
    }

takes-thread : (w : Work) (t : ThreadDecl) (rest : List Thread) (d : Declarations) → Fits w t → d.sets ≡ map set_kept w.sets → IsThreads (d.threads ++ bare_kept t ∷ rest)
    → Takes (thread_text w t) d Outside (record d { threads = d.threads ++ bare_kept t ∷ [] }) Outside
unfolding thread_text option_words
takes-thread w t rest d f sets s =
    let name = t.name.text.items in
    let tail = class_words t.class t.cpupri ++ (codes "uid" ∷ decimal t.uid ∷ (priv_words t.privileged ++ set_words (set_said w t.set))) in
    let known = set-name w t.set f.set in
    let plain = line-plain name t.class t.cpupri t.uid t.privileged (set_said w t.set) t.name.is_name f.class f.uid known in
    let form = thread-form name t.class t.cpupri t.uid t.privileged (set_said w t.set) t.name.is_name f.class f.uid known in
    let taken : Takes (line_text (codes "thread" ∷ name ∷ tail)) d Outside (with_thread d (line_said w t)) Outside =
    takes-line (codes "thread") (name ∷ tail) (Declare (line_said w t)) d plain form (thread-clear w d t rest f sets s) in
    let said : line_text (codes "thread" ∷ name ∷ tail) ≡ thread_text w t =
    ap (λ (l : Line). line_text (codes "thread" ∷ name ∷ (class_words t.class t.cpupri ++ (codes "uid" ∷ decimal t.uid ∷ (priv_words t.privileged ++ l))))) (sym (in-set w t.set)) in
    subst (λ (x : List ℕ). Takes x d Outside (record d { threads = d.threads ++ bare_kept t ∷ [] }) Outside) said
    (subst (λ (x : Thread). Takes (line_text (codes "thread" ∷ name ∷ tail)) d Outside (record d { threads = d.threads ++ x ∷ [] }) Outside) (thread-back w d t f sets) taken)

pub takes-threads : (w : Work) (ts : List ThreadDecl) (d : Declarations) (all : List Thread) → d.threads ++ map bare_kept ts ≡ all
    → list_all (λ t. class_fits t.class t.cpupri && leb t.set.0 (length w.sets)) ts ≡ true → list_all (λ t. leb t.uid 65535) ts ≡ true
    → d.sets ≡ map set_kept w.sets → IsThreads all
    → Takes (flat_map (thread_text w) ts) d Outside (record d { threads = all }) Outside
takes-threads w [] d all e fits uids sets s =
    subst (λ (x : List Thread). Takes [] d Outside (record d { threads = x }) Outside) (sym (append-nil d.threads) ∙ e) (takes-nothing d Outside)
takes-threads w (t ∷ ts) d all e fits uids sets s =
    let p = and_parts (class_fits t.class t.cpupri && leb t.set.0 (length w.sets)) (list_all (λ (x : ThreadDecl). class_fits x.class x.cpupri && leb x.set.0 (length w.sets)) ts) fits in
    let q = and_parts (class_fits t.class t.cpupri) (leb t.set.0 (length w.sets)) p.0 in
    let u = and_parts (leb t.uid 65535) (list_all (λ (x : ThreadDecl). leb x.uid 65535) ts) uids in
    let f : Fits w t = record { class = q.0; set = leb-true _ _ q.1; uid = leb-true _ _ u.0 } in
    let next : Declarations = record d { threads = d.threads ++ bare_kept t ∷ [] } in
    takes-both (thread_text w t) (flat_map (thread_text w) ts) d next (record d { threads = all }) Outside Outside Outside
    (takes-thread w t (map bare_kept ts) d f sets (subst IsThreads (sym e) s))
    (takes-threads w ts next all (append_assoc d.threads (bare_kept t ∷ []) (map bare_kept ts) ∙ e) p.1 u.1 sets s)
