-- The words of lines that are not at fault are printable.
use Rattle.std.proofs.Common.{◌≡◌, ℕ, pos, Bool, true, false, ◌&&◌, cond, eqb, ltb, leb, List, [], ◌∷◌, length, Option, Some, None, refl, ap, ◌∙◌, arith, if◌then◌else◌}
use Rattle.std.specs.Prelude.{codes, neg_ℤ}
use Rattle.std.specs.Option.{option_map, option_and_then}
use Rattle.std.specs.Char.{is_ascii_digit}
use Rattle.std.specs.Str.{all_ascii_digits}
use Rattle.std.specs.Str.Parse.{digits_value}
use Rattle.std.specs.List.{list_all}
use Rattle.std.proofs.lemmas.Bool.{false≢true, and_parts}
use Rattle.std.proofs.lemmas.Bool.Decides.{nat_tests}
use Rattle.std.proofs.lemmas.Option.{none-some, same_Some}
use Rattle.sd_types.specs.declared.works.LockKind.TheVariants.{Mutex, Rwlock}
use Rattle.sd_types.specs.NameWords.{is_name_byte, is_name, begins_with_letter}
use Rattle.sd_types.specs.Works.{same_bytes}
use Rattle.sd_text.specs.Numbers.{is_number, number_of, signed_of}
use Rattle.sd_lines.specs.Words.{Word, Line, name_of, quantum_of, unless_dash, first, only_word, only, behind, is_done, all_numbers}
use Rattle.sd_lines.specs.Threads.{ts_words, fx_words, sys_words, rt_words, class_words, uid_words, uid_option, priv_words, priv_option, set_words, set_option, options, thread_line}
use Rattle.sd_lines.specs.Statements.{Cpus, Hz, Limit, Table, Lock, Chan, Declare, Script, table_class, set_line, sema_line, thread_statement, object_statement, setting_statement, statement_of}
use Rattle.sd_canonical.proofs.BlockLemmas.{same-word}
use Rattle.sd_text.specs.Words.{is_printable}

abbrev pub plain : Word → Bool
plain word = list_all is_printable word

abbrev pub plains : Line → Bool
plains words = list_all plain words

-- where something is read, this holds
abbrev pub Reads : {X : Type 0} → Option X → Type 0 → Type 0
Reads None P = Unit {0}
Reads (Some x) P = P

-- where something is read and words are left, it is plain where they are
abbrev pub Leaves : {X : Type 0} → Option (X × Line) → Line → Type 0
Leaves None words = Unit {0}
Leaves (Some p) words = plains p.1 ≡ true → plains words ≡ true

pub read-always : {X : Type 0} (o : Option X) (P : Type 0) → P → Reads o P
read-always None P h = tt
read-always (Some x) P h = h

pub read-chosen : {X : Type 0} (b : Bool) (x y : Option X) (P : Type 0) → (b ≡ true → Reads x P) → Reads y P → Reads (cond b x y) P
read-chosen true x y P h g = h refl
read-chosen false x y P h g = g

pub read-mapped : {X Y : Type 0} (f : X → Y) (o : Option X) (P : Type 0) → Reads o P → Reads (option_map f o) P
read-mapped f None P h = tt
read-mapped f (Some x) P h = h

pub read-weaker : {X : Type 0} (o : Option X) (P Q : Type 0) → (P → Q) → Reads o P → Reads o Q
read-weaker None P Q f h = tt
read-weaker (Some x) P Q f h = f h

-- ---- words

pub keyword : (word key : Word) → plain key ≡ true → same_bytes word key ≡ true → plain word ≡ true
keyword word key h e = ap plain (same-word word key e) ∙ h

digit-printable : (b : ℕ) → is_ascii_digit b ≡ true → is_printable b ≡ true
digit-printable b h = grind (arith, nat_tests)

digits-plain : (word : Word) → all_ascii_digits word ≡ true → plain word ≡ true
digits-plain [] h = refl
digits-plain (b ∷ bs) h =
    let p = and_parts (is_ascii_digit b) (all_ascii_digits bs) h in
    rw (digit-printable b p.0, digits-plain bs p.1) refl

pub is-number-plain : (word : Word) → is_number word ≡ true → plain word ≡ true
is-number-plain word h = digits-plain word (and_parts (ltb 0 (length word) && leb (length word) 10) (all_ascii_digits word) h).1

number-if : (word : Word) (b : Bool) (n : ℕ) → is_number word ≡ b → Reads (if b then Some n else None) (plain word ≡ true)
number-if word true n e = is-number-plain word e
number-if word false n e = tt

pub number-plain : (word : Word) → Reads (number_of word) (plain word ≡ true)
unfolding number_of
number-plain word = number-if word (is_number word) (digits_value 10 word) refl

signed-if : (b : ℕ) (bs : Word) (c : Bool) → eqb b 45 ≡ c
    → Reads (if c then option_map (λ n. neg_ℤ (pos n)) (number_of bs) else option_map pos (number_of (b ∷ bs))) (plain (b ∷ bs) ≡ true)
signed-if b bs true e =
    let dash : is_printable b ≡ true = grind (arith, nat_tests) in
    read-mapped (λ n. neg_ℤ (pos n)) (number_of bs) (plain (b ∷ bs) ≡ true) (read-weaker (number_of bs) (plain bs ≡ true) (plain (b ∷ bs) ≡ true) (λ h. rw (dash, h) refl) (number-plain bs))
signed-if b bs false e = read-mapped pos (number_of (b ∷ bs)) (plain (b ∷ bs) ≡ true) (number-plain (b ∷ bs))

pub signed-plain : (word : Word) → Reads (signed_of word) (plain word ≡ true)
unfolding signed_of
signed-plain [] = read-always (signed_of []) (true ≡ true) refl
signed-plain (b ∷ bs) = signed-if b bs (eqb b 45) refl

pub quantum-plain : (word : Word) → Reads (quantum_of word) (plain word ≡ true)
unfolding quantum_of
quantum-plain word =
    read-chosen (same_bytes word (codes "def")) _ _ (plain word ≡ true) (keyword word (codes "def") refl)
    (read-chosen (same_bytes word (codes "inf")) _ _ (plain word ≡ true) (keyword word (codes "inf") refl) (read-mapped _ (number_of word) (plain word ≡ true) (number-plain word)))

bytes-plain : (word : Word) → list_all is_name_byte word ≡ true → plain word ≡ true
bytes-plain [] h = refl
bytes-plain (b ∷ bs) h =
    let p = and_parts (is_name_byte b) (list_all is_name_byte bs) h in
    let here : is_printable b ≡ true = grind (arith, nat_tests, p.0) in
    rw (here, bytes-plain bs p.1) refl

pub name-plain : (word : Word) → Reads (name_of word) (plain word ≡ true)
name-plain word =
    read-chosen (is_name word) (Some word) None (plain word ≡ true)
    (λ h. bytes-plain word (and_parts (begins_with_letter word && leb (length word) 16) (list_all is_name_byte word) h).1) tt

pub dash-plain : {X : Type 0} (of : Word → Option X) → ((word : Word) → Reads (of word) (plain word ≡ true)) → (word : Word) → Reads (unless_dash of word) (plain word ≡ true)
dash-plain of each word = read-chosen (same_bytes word (codes "-")) _ _ (plain word ≡ true) (keyword word (codes "-") refl) (read-mapped _ (of word) (plain word ≡ true) (each word))

class-plain : (word : Word) → Reads (table_class word) (plain word ≡ true)
unfolding table_class
class-plain word =
    read-chosen (same_bytes word (codes "ts")) _ _ (plain word ≡ true) (keyword word (codes "ts") refl)
    (read-chosen (same_bytes word (codes "fx")) _ _ (plain word ≡ true) (keyword word (codes "fx") refl)
    (read-chosen (same_bytes word (codes "rt")) _ _ (plain word ≡ true) (keyword word (codes "rt") refl) tt))

-- ---- words of a line

first-if : {X : Type 0} (word : Word) (rest : Line) (o : Option X) → Reads o (plain word ≡ true) → Leaves (option_map (λ x. (x, rest)) o) (word ∷ rest)
first-if word rest None h = tt
first-if word rest (Some x) h = λ g. rw (h, g) refl

pub first-leaves : {X : Type 0} (of : Word → Option X) → ((word : Word) → Reads (of word) (plain word ≡ true)) → (words : Line) → Leaves (first of words) words
unfolding first
first-leaves of each [] = tt
first-leaves of each (word ∷ words) = first-if word words (of word) (each word)

only-if : {X : Type 0} (word : Word) (o : Option X) → Reads o (plain word ≡ true) → Reads o (plains (word ∷ []) ≡ true)
only-if word o h = read-weaker o (plain word ≡ true) (plains (word ∷ []) ≡ true) (λ g. rw g refl) h

pub only-plain : {X : Type 0} (of : Word → Option X) → ((word : Word) → Reads (of word) (plain word ≡ true)) → (words : Line) → Reads (only of words) (plains words ≡ true)
unfolding only_word
only-plain of each [] = tt
only-plain of each (word ∷ []) = only-if word (of word) (each word)
only-plain of each (word ∷ other ∷ words) = tt

pub leaves-then : {A B : Type 0} (o : Option (A × Line)) (words : Line) (f : A × Line → Option B) → Leaves o words → ((a : A × Line) → Reads (f a) (plains a.1 ≡ true)) → Reads (option_and_then f o) (plains words ≡ true)
leaves-then None words f h each = tt
leaves-then (Some a) words f h each = read-weaker (f a) (plains a.1 ≡ true) (plains words ≡ true) h (each a)

leaves-more : {B : Type 0} (o : Option (B × Line)) (mid words : Line) → (plains mid ≡ true → plains words ≡ true) → Leaves o mid → Leaves o words
leaves-more None mid words f h = tt
leaves-more (Some b) mid words f h = λ g. f (h g)

leaves-on : {A B : Type 0} (o : Option (A × Line)) (words : Line) (f : A × Line → Option (B × Line)) → Leaves o words → ((a : A × Line) → Leaves (f a) a.1) → Leaves (option_and_then f o) words
leaves-on None words f h each = tt
leaves-on (Some a) words f h each = leaves-more (f a) a.1 words h (each a)

leaves-mapped : {A B : Type 0} (o : Option (A × Line)) (words : Line) (make : A × Line → B) → Leaves o words → Leaves (option_map (λ a. (make a, a.1)) o) words
leaves-mapped None words make h = tt
leaves-mapped (Some a) words make h = h

behind-if : (key word : Word) (words : Line) (b : Bool) → same_bytes word key ≡ b → plain key ≡ true
    → (rest : Line) → cond b (Some words) None ≡ Some rest → plains rest ≡ true → plains (word ∷ words) ≡ true
behind-if key word words true e h rest is g =
    let same : words ≡ rest = same_Some words rest is in
    rw (keyword word key h e, ap plains same ∙ g) refl
behind-if key word words false e h rest is g = absurd (none-some rest is)

behind-plain : (key : Word) (words rest : Line) → plain key ≡ true → behind key words ≡ Some rest → plains rest ≡ true → plains words ≡ true
unfolding behind
behind-plain key [] rest h is g = absurd (none-some rest is)
behind-plain key (word ∷ words) rest h is g = behind-if key word words (same_bytes word key) refl h rest is g

all-plain : (words : Line) → Reads (all_numbers words) (plains words ≡ true)
unfolding all_numbers
all-plain [] = refl
all-plain (word ∷ words) = both-read (number_of word) (all_numbers words) (number-plain word) (all-plain words)
  where
    both-read : (o : Option ℕ) (p : Option (List ℕ)) → Reads o (plain word ≡ true) → Reads p (plains words ≡ true)
        → Reads (option_and_then (λ n. option_map (λ ns. n ∷ ns) p) o) (plains (word ∷ words) ≡ true)
    both-read None p h g = tt
    both-read (Some n) None h g = tt
    both-read (Some n) (Some ns) h g = rw (h, g) refl

-- ---- threads

ts-leaves : (words : Line) → Leaves (ts_words words) words
unfolding ts_words
ts-leaves words =
    leaves-on (first number_of words) words _ (first-leaves number_of number-plain words)
    (λ a. leaves-on (first signed_of a.1) a.1 _ (first-leaves signed_of signed-plain a.1)
    (λ b. leaves-mapped (first signed_of b.1) b.1 _ (first-leaves signed_of signed-plain b.1)))

fx-leaves : (words : Line) → Leaves (fx_words words) words
unfolding fx_words
fx-leaves words =
    leaves-on (first number_of words) words _ (first-leaves number_of number-plain words)
    (λ a. leaves-on (first number_of a.1) a.1 _ (first-leaves number_of number-plain a.1)
    (λ b. leaves-mapped (first quantum_of b.1) b.1 _ (first-leaves quantum_of quantum-plain b.1)))

sys-leaves : (words : Line) → Leaves (sys_words words) words
unfolding sys_words
sys-leaves words = leaves-mapped (first number_of words) words _ (first-leaves number_of number-plain words)

rt-leaves : (words : Line) → Leaves (rt_words words) words
unfolding rt_words
rt-leaves words =
    leaves-on (first number_of words) words _ (first-leaves number_of number-plain words)
    (λ a. leaves-mapped (first quantum_of a.1) a.1 _ (first-leaves quantum_of quantum-plain a.1))

pub leaves-chosen : {X : Type 0} (key word : Word) (words : Line) (x y : Option (X × Line)) → plain key ≡ true → Leaves x words → Leaves y (word ∷ words)
    → Leaves (cond (same_bytes word key) x y) (word ∷ words)
leaves-chosen {X} key word words x y h l m = by (same_bytes word key) refl
  where
    by : (b : Bool) → same_bytes word key ≡ b → Leaves (cond b x y) (word ∷ words)
    by true e = leaves-more x words (word ∷ words) (λ g. rw (keyword word key h e, g) refl) l
    by false e = m

class-leaves : (words : Line) → Leaves (class_words words) words
unfolding class_words
class-leaves [] = tt
class-leaves (word ∷ words) =
    leaves-chosen (codes "ts") word words _ _ refl (ts-leaves words)
    (leaves-chosen (codes "fx") word words _ _ refl (fx-leaves words)
    (leaves-chosen (codes "sys") word words _ _ refl (sys-leaves words)
    (leaves-chosen (codes "rt") word words _ None refl (rt-leaves words) tt)))

uid-leaves : (words : Line) → Leaves (uid_option words) words
unfolding uid_option
uid-leaves words = by (behind (codes "uid") words) refl
  where
    by : (o : Option Line) → behind (codes "uid") words ≡ o → Leaves (uid_words words o) words
    by None e = λ g. g
    by (Some rest) e = leaves-more (first number_of rest) rest words (behind-plain (codes "uid") words rest refl e) (first-leaves number_of number-plain rest)

priv-leaves : (words : Line) → plains (priv_option words).1 ≡ true → plains words ≡ true
unfolding priv_option
priv-leaves words = by (behind (codes "priv") words) refl
  where
    by : (o : Option Line) → behind (codes "priv") words ≡ o → plains (priv_words words o).1 ≡ true → plains words ≡ true
    by None e = λ g. g
    by (Some rest) e = behind-plain (codes "priv") words rest refl e

done-plain : (words : Line) → is_done words ≡ true → plains words ≡ true
done-plain [] h = refl
done-plain (word ∷ words) h = absurd (false≢true h)

set-option-plain : (words : Line) → Reads (set_option words) (plains words ≡ true)
unfolding set_option
set-option-plain words = by (behind (codes "in") words) refl
  where
    by : (o : Option Line) → behind (codes "in") words ≡ o → Reads (set_words words o) (plains words ≡ true)
    by None e = read-chosen (is_done words) _ None (plains words ≡ true) (done-plain words) tt
    by (Some rest) e =
        read-mapped _ (only name_of rest) (plains words ≡ true)
        (read-weaker (only name_of rest) (plains rest ≡ true) (plains words ≡ true) (behind-plain (codes "in") words rest refl e) (only-plain name_of name-plain rest))

options-plain : (words : Line) → Reads (options words) (plains words ≡ true)
unfolding options
options-plain words =
    leaves-then (uid_option words) words _ (uid-leaves words)
    (λ a. read-mapped _ (set_option (priv_option a.1).1) (plains a.1 ≡ true)
    (read-weaker (set_option (priv_option a.1).1) (plains (priv_option a.1).1 ≡ true) (plains a.1 ≡ true) (priv-leaves a.1) (set-option-plain (priv_option a.1).1)))

thread-plain : (words : Line) → Reads (thread_line words) (plains words ≡ true)
unfolding thread_line
thread-plain words =
    leaves-then (first name_of words) words _ (first-leaves name_of name-plain words)
    (λ a. leaves-then (class_words a.1) a.1 _ (class-leaves a.1)
    (λ b. read-mapped _ (options b.1) (plains b.1 ≡ true) (options-plain b.1)))

-- ---- statements

-- the line of a keyword, or another
pub read-keyword : {X : Type 0} (key word : Word) (words : Line) (x y : Option X) → plain key ≡ true → Reads x (plains words ≡ true) → Reads y (plains (word ∷ words) ≡ true)
    → Reads (cond (same_bytes word key) x y) (plains (word ∷ words) ≡ true)
read-keyword key word words x y h p q =
    read-chosen (same_bytes word key) x y (plains (word ∷ words) ≡ true)
    (λ e. read-weaker x (plains words ≡ true) (plains (word ∷ words) ≡ true) (λ g. rw (keyword word key h e, g) refl) p) q

set-plain : (words : Line) → Reads (set_line words) (plains words ≡ true)
unfolding set_line
set-plain words =
    leaves-then (first name_of words) words _ (first-leaves name_of name-plain words) (λ a. read-mapped _ (all_numbers a.1) (plains a.1 ≡ true) (all-plain a.1))

sema-plain : (words : Line) → Reads (sema_line words) (plains words ≡ true)
unfolding sema_line
sema-plain words =
    leaves-then (first name_of words) words _ (first-leaves name_of name-plain words)
    (λ a. read-mapped _ (only number_of a.1) (plains a.1 ≡ true) (only-plain number_of number-plain a.1))

one : {X : Type 0} (make : Word → X) (words : Line) → Reads (option_map make (only name_of words)) (plains words ≡ true)
one make words = read-mapped make (only name_of words) (plains words ≡ true) (only-plain name_of name-plain words)

one-number : {X : Type 0} (make : ℕ → X) (words : Line) → Reads (option_map make (only number_of words)) (plains words ≡ true)
one-number make words = read-mapped make (only number_of words) (plains words ≡ true) (only-plain number_of number-plain words)

pub statement-plain : (line : Line) → Reads (statement_of line) (plains line ≡ true)
unfolding statement_of setting_statement object_statement thread_statement
statement-plain [] = tt
statement-plain (word ∷ words) =
    read-keyword (codes "set") word words _ _ refl (set-plain words)
    (read-keyword (codes "cpus") word words _ _ refl (one-number Cpus words)
    (read-keyword (codes "hz") word words _ _ refl (one-number Hz words)
    (read-keyword (codes "limit") word words _ _ refl (one-number Limit words)
    (read-keyword (codes "table") word words _ _ refl (read-mapped Table (only table_class words) (plains words ≡ true) (only-plain table_class class-plain words))
    (read-keyword (codes "mutex") word words _ _ refl (one (Lock Mutex) words)
    (read-keyword (codes "rwlock") word words _ _ refl (one (Lock Rwlock) words)
    (read-keyword (codes "chan") word words _ _ refl (one Chan words)
    (read-keyword (codes "sema") word words _ _ refl (sema-plain words)
    (read-keyword (codes "thread") word words _ _ refl (read-mapped Declare (thread_line words) (plains words ≡ true) (thread-plain words))
    (read-keyword (codes "script") word words _ None refl (one Script words) tt))))))))))
