-- The threads of generated workloads are taken in.
use Rattle.std.proofs.Common.{◌≡◌, ℕ, pos, zero, suc, ◌+◌, ◌%◌, ◌<◌, ◌≤◌, Bool, true, false, not, eqb, leb, List, [], ◌∷◌, ◌++◌, length, map, Option, Some, None, refl, sym, ap, ◌∙◌, subst, arith, append-nil, append_assoc, if◌then◌else◌}
use Rattle.std.specs.Prelude.{codes, nat_lt}
use Rattle.std.specs.Fmt.{digits}
use Rattle.std.specs.Fmt.{decimal}
use Rattle.std.specs.List.{list_all, list_any, position_or_len, range_with_len}
use Rattle.std.proofs.lemmas.Bool.{false≢true, le-leb}
use Rattle.std.proofs.lemmas.List.{length-map, map-append}
use Rattle.std.proofs.lemmas.List.FromFn.{length-range_with_len}
use Rattle.std.proofs.lemmas.List.Folds.{list_all-append}
use Rattle.std.proofs.lemmas.Grind.{flat_map-append}
use Rattle.sd_basics.proofs.Lists.{any-map, place-map}
use Rattle.sd_basics.proofs.Ranges.{range_suc}
use Rattle.rand_pcg.specs.Lcg.{Lcg}
use Rattle.sd_types.specs.declared.numbers.CpuId.{CpuId}
use Rattle.sd_types.specs.declared.classes.ClassParms.{ClassParms}
use Rattle.sd_types.specs.declared.classes.ClassParms.TheVariants as parms
use Rattle.sd_types.specs.declared.classes.Quantum.TheVariants.{Def}
use Rattle.sd_types.specs.NameWords.{is_name}
use Rattle.sd_types.specs.Works.{same_bytes, class_fits}
use Rattle.sd_lines.specs.Words.{Word, first, only_word, behind}
use Rattle.sd_lines.specs.Threads.{Thread as ThreadLine, thread, uid_option, priv_option, set_option, options, thread_line as thread_read}
use Rattle.sd_lines.specs.Statements.{Declare, statement_of, setting_statement, object_statement, thread_statement}
use Rattle.sd_declare.specs.Declarations.{Thread, Declarations, place, set_place, is_set, thread_number}
use Rattle.sd_declare.specs.Statements.{statement_causes, thread_of}
use Rattle.sd_workload.specs.Texts.{Outside}
use Rattle.sd_workload.proofs.ClearLemmas.{IsClear}
use Rattle.sd_gen.specs.Generated.{drawn, drawn_from, priorities, class_text, set_text, thread_text, thread_line}
use Rattle.sd_canonical.specs.Lines.{class_words}
use Rattle.sd_canonical.specs.Canonical.{spaced, line_text}
use Rattle.sd_canonical.proofs.TextLemmas.{is_plain, are_plain, name-plain}
use Rattle.sd_canonical.proofs.TakesLemmas.{Takes, takes-nothing, takes-both, takes-line}
use Rattle.sd_canonical.proofs.FormLemmas.{class_said, class-form, set_words, is_name_if, options_said}
use Rattle.sd_canonical.proofs.ThreadLemmas.{is-class, class-plain}
use Rattle.sd_canonical.proofs.ListLemmas.{under, not-under, none-before}
use Rattle.sd_gen.proofs.AcceptedLemmas.{numbered, numbered-name, other-number, the-sets}
use Rattle.sd_types.proofs.SameLemmas.{bytes_same_itself}

-- ---- the names of the first threads

unfoldable pub names-to : ℕ → List Word
names-to n = map (numbered 116) (range_with_len 0 n)

names-push : (n : ℕ) → names-to (n + 1) ≡ names-to n ++ numbered 116 n ∷ []
unfolding names-to
names-push n =
    let e : n + 1 ≡ suc n = omega arith in
    let z : 0 + n ≡ n = omega arith in
    ap (λ k. map (numbered 116) (range_with_len 0 k)) e ∙ ap (map (numbered 116)) (range_suc 0 n) ∙ map-append (numbered 116) (range_with_len 0 n) ((0 + n) ∷ [])
    ∙ ap (λ k. map (numbered 116) (range_with_len 0 n) ++ numbered 116 k ∷ []) z

pub names-count : (n : ℕ) → length (names-to n) ≡ n
unfolding names-to
names-count n = length-map (range_with_len 0 n) (numbered 116) ∙ length-range_with_len 0 n

any-below : (p : ℕ → Bool) (a n : ℕ) → ((j : ℕ) → a ≤ j → j < a + n → p j ≡ false) → list_any p (range_with_len a n) ≡ false
any-below p a zero each = refl
any-below p a (suc n) each = rw (each a (omega arith) (omega arith)) (any-below p (a + 1) n (λ j h l. each j (omega arith) (omega arith)))

other-name : (i j : ℕ) → i < 200 → j < 200 → (j ≡ i → ⊥) → same_bytes (numbered 116 j) (numbered 116 i) ≡ false
other-name i j p q differ = other-number j i (omega arith) (omega arith) differ

name-new : (i : ℕ) → i < 200 → list_any (λ m. same_bytes m (numbered 116 i)) (names-to i) ≡ false
unfolding names-to
name-new i h =
    any-map (λ m. same_bytes m (numbered 116 i)) (numbered 116) (range_with_len 0 i)
    ∙ any-below (λ j. same_bytes (numbered 116 j) (numbered 116 i)) 0 i (λ j a b. other-name i j h (omega arith) (λ e. omega arith))

place-range : (p : ℕ → Bool) (a n i : ℕ) → i < n → ((j : ℕ) → j < i → p (a + j) ≡ false) → p (a + i) ≡ true → position_or_len p (range_with_len a n) ≡ i
place-range p a zero i inside before here = absurd (omega arith)
place-range p a (suc n) zero inside before here =
    let e : a + 0 ≡ a = omega arith in
    let found : p a ≡ true = sym (ap p e) ∙ here in
    rw found refl
place-range p a (suc n) (suc i) inside before here =
    let e : a + 0 ≡ a = omega arith in
    let no : p a ≡ false = sym (ap p e) ∙ before 0 (omega arith) in
    let s : 1 + i ≡ suc i = omega arith in
    let shift : (j : ℕ) → a + 1 + j ≡ a + suc j = λ j. omega arith in
    rw no (ap (λ k. 1 + k) (place-range p (a + 1) n i (omega arith) (λ j h. ap p (shift j) ∙ before (suc j) (omega arith)) (ap p (shift i) ∙ here)) ∙ s)

place-in : (i n : ℕ) → i < 200 → i < n → n ≤ 200 → position_or_len (λ m. same_bytes m (numbered 116 i)) (names-to n) ≡ i
unfolding names-to
place-in i n h inside most =
    place-map (λ m. same_bytes m (numbered 116 i)) (numbered 116) (range_with_len 0 n)
    ∙ place-range (λ j. same_bytes (numbered 116 j) (numbered 116 i)) 0 n i inside
    (λ j l. other-name i (0 + j) h (omega arith) (λ e. omega arith))
    (let e : 0 + i ≡ i = omega arith in ap (λ k. same_bytes (numbered 116 k) (numbered 116 i)) e ∙ bytes_same_itself (numbered 116 i))

pub name-place : (i : ℕ) → i < 200 → position_or_len (λ m. same_bytes m (numbered 116 i)) (names-to 200) ≡ i
name-place i h = place-in i 200 h h (omega arith)

-- the first threads are declared, with scripts of at most 18 operations each
pub record Threads (n : ℕ) (ts : List Thread) : Type 0 where
  pub names : map (λ t. t.name) ts ≡ names-to n
  pub short : list_all (λ t. leb (length t.ops) 18) ts ≡ true

pub threads-count : (n : ℕ) (ts : List Thread) → Threads n ts → length ts ≡ n
threads-count n ts t = sym (length-map ts (λ (x : Thread). x.name)) ∙ ap length t.names ∙ names-count n

-- ---- the line of a thread

options-form : (set : Option Word) → is_name_if set ≡ true → options (set_words set) ≡ Some (options_said 0 false set)
unfolding options uid_option priv_option set_option behind first only_word
options-form None h = refl
options-form (Some name) h = rw h refl

thread-form : (name : Word) (class : ClassParms) (cpupri : ℕ) (set : Option Word) → is_name name ≡ true → class_fits class cpupri ≡ true → is_name_if set ≡ true
    → statement_of (codes "thread" ∷ name ∷ (class_words class cpupri ++ set_words set)) ≡ Some (Declare (thread name (class_said class cpupri) (options_said 0 false set)))
unfolding statement_of setting_statement object_statement thread_statement thread_read first
thread-form name class cpupri set named fits known = rw (named, class-form class cpupri (set_words set) fits, options-form set known) refl

-- what the drawn numbers of a thread say
record IsClass (text : List ℕ) : Type 0 where
  class : ClassParms
  cpupri : ℕ
  fits : class_fits class cpupri ≡ true
  spelled : text ≡ spaced (class_words class cpupri)

class-drawn : (a b c : Bool) (p : ℕ) → p < 60 → (c ≡ true → p < 40)
    → IsClass (if a then codes " ts " ++ decimal p ++ codes " 0 0" else if b then codes " fx 60 " ++ decimal p ++ codes " def" else if c then codes " sys " ++ decimal (60 + p) else codes " rt " ++ decimal p ++ codes " def")
unfolding digits
class-drawn true b c p h less =
    let small : leb p 59 ≡ true = le-leb _ _ (omega arith) in
    record { class = parms.Ts (pos 0) (pos 0); cpupri = p; fits = rw small refl; spelled = refl }
class-drawn false true c p h less =
    let small : leb p 60 ≡ true = le-leb _ _ (omega arith) in
    record { class = parms.Fx 60 p Def; cpupri = 0; fits = rw small refl; spelled = refl }
class-drawn false false true p h less =
    let low = less refl in
    let least : leb 60 (60 + p) ≡ true = le-leb _ _ (omega arith) in
    let most : leb (60 + p) 99 ≡ true = le-leb _ _ (omega arith) in
    record { class = parms.Sys (60 + p); cpupri = 0; fits = rw (least, most) refl; spelled = sym (append-nil (codes " sys " ++ decimal (60 + p))) }
class-drawn false false false p h less =
    let small : leb p 59 ≡ true = le-leb _ _ (omega arith) in
    record { class = parms.Rt p Def; cpupri = 0; fits = rw small refl; spelled = refl }

record IsSet (text : List ℕ) (d : Declarations) : Type 0 where
  set : Option Word
  named : is_name_if set ≡ true
  known : not (is_set d set) ≡ false
  spelled : text ≡ spaced (set_words set)

set-drawn : (b : Bool) (d : Declarations) → d.sets ≡ the-sets → IsSet (if b then codes " in s" else []) d
unfolding set_place
set-drawn true d e = record { set = Some (codes "s"); named = refl; known = ap (λ ss. not (nat_lt (place (codes "s") ss + 1) (length ss + 1))) e; spelled = refl }
set-drawn false d e = record { set = None; named = refl; known = ap (λ (ss : List (Word × List CpuId)). not (nat_lt 0 (length ss + 1))) e; spelled = refl }

set-plain : (set : Option Word) → is_name_if set ≡ true → are_plain (set_words set) ≡ true
set-plain None h = refl
set-plain (Some name) h = rw (name-plain name h) refl

-- the text of these declarations, and one thread more
record More (text : List ℕ) (i : ℕ) (d : Declarations) : Type 0 where
  ts : List Thread
  takes : Takes text d Outside (record d { threads = ts }) Outside
  threads : Threads i ts

line-spelled : (name c s x y : List ℕ) → x ≡ c → y ≡ s → (name ++ (c ++ s)) ++ 10 ∷ [] ≡ name ++ (x ++ (y ++ 10 ∷ []))
line-spelled name c s x y e f = ap (λ l. l ++ 10 ∷ []) (ap (λ l. name ++ (l ++ s)) (sym e) ∙ ap (λ l. name ++ (x ++ l)) (sym f)) ∙ append_assoc name (x ++ y) (10 ∷ []) ∙ ap (λ l. name ++ l) (append_assoc x y (10 ∷ []))

takes-drawn : (i class p e : ℕ) (d : Declarations) → i < 200 → p < 60 → (eqb class 8 ≡ true → p < 40) → d.sets ≡ the-sets → Threads i d.threads
    → More (thread_text i class p e) (i + 1) d
unfolding thread_number
takes-drawn i class p e d inside small less sets ts =
    let c = class-drawn (nat_lt class 6) (nat_lt class 8) (eqb class 8) p small less in
    let s = set-drawn (eqb e 0) d sets in
    let name = numbered 116 i in
    let named = numbered-name 116 i refl (omega arith) in
    let words = class_words c.class c.cpupri ++ set_words s.set in
    let said : ThreadLine = thread name (class_said c.class c.cpupri) (options_said 0 false s.set) in
    let plain : are_plain (codes "thread" ∷ name ∷ words) ≡ true =
    (let rest : are_plain words ≡ true = list_all-append is_plain (class_words c.class c.cpupri) (set_words s.set) ∙ rw (class-plain c.class c.cpupri c.fits, set-plain s.set s.named) refl in
    rw (name-plain name named, rest) refl) in
    let count = threads-count i d.threads ts in
    let new : list_any (λ (x : Thread). same_bytes x.name name) d.threads ≡ false =
    sym (any-map (λ m. same_bytes m name) (λ (x : Thread). x.name) d.threads) ∙ ap (list_any (λ m. same_bytes m name)) ts.names ∙ name-new i inside in
    let clear : IsClear (statement_causes d (Declare said)) = record {
      syntax = refl;
      unknown = s.known;
      twice = not-under _ _ (none-before (λ (x : Thread). same_bytes x.name name) d.threads new);
      range = rw (is-class c.class c.cpupri c.fits) refl;
      sets = refl;
      limits = under (length d.threads) 2048 (omega arith);
    } in
    let next = d.threads ++ thread_of d said ∷ [] in
    let spelled : line_text (codes "thread" ∷ name ∷ words) ≡ thread_text i class p e =
    ap (λ (l : List ℕ). (codes "thread t" ++ (decimal i ++ l)) ++ 10 ∷ []) (flat_map-append (λ word. 32 ∷ word) (class_words c.class c.cpupri) (set_words s.set))
    ∙ ap (λ (l : List ℕ). codes "thread t" ++ l)
    (line-spelled (decimal i) (spaced (class_words c.class c.cpupri)) (spaced (set_words s.set)) (class_text class p) (set_text e) c.spelled s.spelled) in
    record {
      ts = next;
      takes = subst (λ (text : List ℕ). Takes text d Outside (record d { threads = next }) Outside) spelled
          (takes-line (codes "thread") (name ∷ words) (Declare said) d plain (thread-form name c.class c.cpupri s.set named c.fits s.named) clear);
      threads = record {
        names = map-append (λ (x : Thread). x.name) d.threads (thread_of d said ∷ []) ∙ ap (λ l. l ++ name ∷ []) ts.names ∙ sym (names-push i);
        short = list_all-append (λ (x : Thread). leb (length x.ops) 18) d.threads (thread_of d said ∷ []) ∙ rw (ts.short) refl;
      };
    }

-- ---- all threads

below : (x : ℕ) (b : Bool) → (x % (if b then 40 else 60) < 60) × (b ≡ true → x % (if b then 40 else 60) < 40)
below x true = (omega arith, λ e. omega arith)
below x false = (omega arith, λ e. absurd (false≢true e))

takes-drawn_line : (i : ℕ) (g : Lcg) (d : Declarations) → i < 200 → d.sets ≡ the-sets → Threads i d.threads → More (thread_line i g).0 (i + 1) d
unfolding thread_line
takes-drawn_line i g d inside sets ts =
    let class = (drawn 10 g).0 in
    let number = drawn (priorities class) (drawn 10 g).1 in
    let small = below _ (eqb class 8) in
    takes-drawn i class number.0 (drawn 8 number.1).0 d inside small.0 small.1 sets ts

pub record Declared (text : List ℕ) (d : Declarations) : Type 0 where
  pub ts : List Thread
  pub takes : Takes text d Outside (record d { threads = ts }) Outside
  pub threads : Threads 200 ts

pub takes-drawn_threads : (k i : ℕ) (g : Lcg) (d : Declarations) → i + k ≡ 200 → d.sets ≡ the-sets → Threads i d.threads → Declared (drawn_from thread_line k i g).0 d
unfolding drawn_from
takes-drawn_threads zero i g d e sets ts =
    let all : i ≡ 200 = omega arith in
    record { ts = d.threads; takes = takes-nothing d Outside; threads = subst (λ (n : ℕ). Threads n d.threads) all ts }
takes-drawn_threads (suc k) i g d e sets ts =
    let here = takes-drawn_line i g d (omega arith) sets ts in
    let next : Declarations = record d { threads = here.ts } in
    let rest = takes-drawn_threads k (i + 1) (thread_line i g).1 next (omega arith) sets here.threads in
    record {
      ts = rest.ts;
      takes = takes-both _ _ d next (record d { threads = rest.ts }) Outside Outside Outside here.takes rest.takes;
      threads = rest.threads;
    }
