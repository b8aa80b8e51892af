-- What the lines outside blocks say: each form is read as its statement.
use Rattle.std.proofs.Common.{◌≡◌, ℕ, ◌<◌, ◌≤◌, ◌^◌, Bool, true, false, ◌&&◌, eqb, ltb, leb, List, [], ◌∷◌, ◌++◌, map, Option, Some, None, refl, ap, arith}
use Rattle.std.proofs.lemmas.Bool.{and_parts}
use Rattle.std.specs.Prelude.{codes, nat_eq, int_le}
use Rattle.std.specs.Option.{option_map}
use Rattle.std.specs.Char.{is_ascii_digit}
use Rattle.std.specs.Str.{all_ascii_digits}
use Rattle.std.specs.Fmt.{decimal}
use Rattle.std.specs.List.{list_all}
use Rattle.std.proofs.lemmas.Bool.Decides.{nat_tests}
use Rattle.std.proofs.lemmas.Fmt.{digits_decimal}
use Rattle.sd_types.specs.declared.numbers.CpuId.{CpuId}
use Rattle.sd_types.specs.declared.classes.Quantum.{Quantum}
use Rattle.sd_types.specs.declared.classes.Quantum.TheVariants as quantum
use Rattle.sd_types.specs.declared.classes.ClassParms.{ClassParms}
use Rattle.sd_types.specs.declared.classes.ClassParms.TheVariants as parms
use Rattle.sd_types.specs.declared.works.LockKind.{LockKind}
use Rattle.sd_types.specs.declared.works.LockKind.TheVariants.{Mutex, Rwlock}
use Rattle.sd_types.specs.NameWords.{is_name}
use Rattle.sd_types.specs.Works.{same_bytes, quantum_fits, class_fits, upri_fits}
use Rattle.sd_text.proofs.NumberLemmas.{number_of-decimal, own}
use Rattle.sd_lines.specs.declared.statements.TableClass.TheVariants as table
use Rattle.sd_lines.specs.declared.threads.ThreadClass.{ThreadClass}
use Rattle.sd_lines.specs.declared.threads.ThreadClass.TheVariants.{Ts, Fx, Sys, Rt}
use Rattle.sd_lines.specs.declared.words.QuantumWord.{QuantumWord}
use Rattle.sd_lines.specs.declared.words.QuantumWord.TheVariants.{Def, Inf, Ticks}
use Rattle.sd_lines.specs.Words.{Word, Line, quantum_of, first, only_word, behind, all_numbers}
use Rattle.sd_lines.specs.Threads.{Options, thread, ts_words, fx_words, sys_words, rt_words, class_words as class_read, uid_option, priv_option, set_option, options, thread_line}
use Rattle.sd_lines.specs.Statements.{Cpus, Hz, Limit, Set, Table, Lock, Chan, Sema, Declare, Script, table_class, set_line, sema_line, thread_statement, object_statement, setting_statement, statement_of}
use Rattle.sd_canonical.specs.Lines.{setting_line, cpu_words, lock_word, quantum_word, class_words, priv_words}
use Rattle.sd_canonical.proofs.TextLemmas.{signed-again, upri-short}

-- ---- settings

pub cpus-form : (n : ℕ) → n < 10 ^ 10 → statement_of (setting_line (codes "cpus") n) ≡ Some (Cpus n)
unfolding statement_of setting_statement only_word
cpus-form n h = ap (option_map Cpus) (number_of-decimal n h)

pub hz-form : (n : ℕ) → n < 10 ^ 10 → statement_of (setting_line (codes "hz") n) ≡ Some (Hz n)
unfolding statement_of setting_statement only_word
hz-form n h = ap (option_map Hz) (number_of-decimal n h)

pub limit-form : (n : ℕ) → n < 10 ^ 10 → statement_of (setting_line (codes "limit") n) ≡ Some (Limit n)
unfolding statement_of setting_statement only_word
limit-form n h = ap (option_map Limit) (number_of-decimal n h)

-- ---- sets

-- numbers of processors
abbrev pub are_cpus : List CpuId → Bool
are_cpus cs = list_all (λ c. ltb c.0 64) cs

numbers-again : (cs : List CpuId) → are_cpus cs ≡ true → all_numbers (cpu_words cs) ≡ Some (map (λ c. c.0) cs)
unfolding all_numbers
numbers-again [] h = refl
numbers-again (c ∷ cs) h =
    let p = and_parts (ltb c.0 64) (are_cpus cs) h in
    let few : c.0 < 64 = grind (arith, nat_tests, p.0) in
    rw (number_of-decimal c.0 (omega arith), numbers-again cs p.1) refl

pub set-form : (name : Word) (cs : List CpuId) → is_name name ≡ true → are_cpus cs ≡ true
    → statement_of (codes "set" ∷ name ∷ cpu_words cs) ≡ Some (Set name (map (λ c. c.0) cs))
unfolding statement_of set_line first
set-form name cs named few = rw (named, numbers-again cs few) refl

-- ---- tables, locks, channels and scripts

pub table_ts-form : statement_of (codes "table" ∷ codes "ts" ∷ []) ≡ Some (Table table.Ts)
unfolding statement_of setting_statement only_word table_class
table_ts-form = refl

pub table_fx-form : statement_of (codes "table" ∷ codes "fx" ∷ []) ≡ Some (Table table.Fx)
unfolding statement_of setting_statement only_word table_class
table_fx-form = refl

pub table_rt-form : statement_of (codes "table" ∷ codes "rt" ∷ []) ≡ Some (Table table.Rt)
unfolding statement_of setting_statement only_word table_class
table_rt-form = refl

pub lock-form : (kind : LockKind) (name : Word) → is_name name ≡ true → statement_of (lock_word kind ∷ name ∷ []) ≡ Some (Lock kind name)
unfolding statement_of setting_statement object_statement only_word
lock-form Mutex name h = rw h refl
lock-form Rwlock name h = rw h refl

pub chan-form : (name : Word) → is_name name ≡ true → statement_of (codes "chan" ∷ name ∷ []) ≡ Some (Chan name)
unfolding statement_of setting_statement object_statement only_word
chan-form name h = rw h refl

pub sema-form : (name : Word) (n : ℕ) → is_name name ≡ true → n < 10 ^ 10 → statement_of (codes "sema" ∷ name ∷ decimal n ∷ []) ≡ Some (Sema name n)
unfolding statement_of setting_statement object_statement sema_line first only_word
sema-form name n h small = rw (h, number_of-decimal n small) refl

pub script-form : (name : Word) → is_name name ≡ true → statement_of (codes "script" ∷ name ∷ []) ≡ Some (Script name)
unfolding statement_of setting_statement object_statement thread_statement only_word
script-form name h = rw h refl

-- ---- quanta

-- digits are no word that begins with a letter
no-digits : (letter : ℕ) (word rest : Word) → 58 ≤ letter → all_ascii_digits word ≡ true → same_bytes word (letter ∷ rest) ≡ false
no-digits letter [] rest h digits = refl
no-digits letter (b ∷ bs) rest h digits =
    let digit : is_ascii_digit b ≡ true = (and_parts (is_ascii_digit b) _ digits).0 in
    let other : eqb b letter ≡ false = grind (arith, nat_tests) in
    rw other refl

abbrev pub quantum_said : Quantum → QuantumWord
quantum_said quantum.Def = Def
quantum_said quantum.Inf = Inf
quantum_said (quantum.Ticks n) = Ticks n

pub quantum-small : (n : ℕ) → quantum_fits (quantum.Ticks n) ≡ true → n ≤ 1000000
quantum-small n h = grind (arith, nat_tests)

pub quantum-again : (q : Quantum) → quantum_fits q ≡ true → quantum_of (quantum_word q) ≡ Some (quantum_said q)
unfolding quantum_of
quantum-again quantum.Def h = refl
quantum-again quantum.Inf h = refl
quantum-again (quantum.Ticks n) h =
    let small = quantum-small n h in
    let digits = digits_decimal own n (omega arith) in
    rw (no-digits 100 (decimal n) (101 ∷ 102 ∷ []) (omega arith) digits, no-digits 105 (decimal n) (110 ∷ 102 ∷ []) (omega arith) digits, number_of-decimal n (omega arith)) refl

-- ---- threads

abbrev pub class_said : ClassParms → ℕ → ThreadClass
class_said (parms.Ts limit upri) cpupri = Ts cpupri limit upri
class_said (parms.Fx limit pri quantum) cpupri = Fx limit pri (quantum_said quantum)
class_said (parms.Sys pri) cpupri = Sys pri
class_said (parms.Rt pri quantum) cpupri = Rt pri (quantum_said quantum)

pub class-form : (class : ClassParms) (cpupri : ℕ) (rest : Line) → class_fits class cpupri ≡ true
    → class_read (class_words class cpupri ++ rest) ≡ Some (class_said class cpupri, rest)
unfolding class_read ts_words fx_words sys_words rt_words first
class-form (parms.Ts limit upri) cpupri rest h =
    let p = and_parts (upri_fits limit && upri_fits upri && int_le upri limit) (leb cpupri 59) h in
    let q = and_parts (upri_fits limit && upri_fits upri) (int_le upri limit) p.0 in
    let r = and_parts (upri_fits limit) (upri_fits upri) q.0 in
    let small : cpupri ≤ 59 = grind (arith, nat_tests, p.1) in
    rw (number_of-decimal cpupri (omega arith), signed-again limit (upri-short limit r.0), signed-again upri (upri-short upri r.1)) refl
class-form (parms.Fx limit pri quantum) cpupri rest h =
    let p = and_parts (leb limit 60 && leb pri limit && quantum_fits quantum) (nat_eq cpupri 0) h in
    let q = and_parts (leb limit 60 && leb pri limit) (quantum_fits quantum) p.0 in
    let small : (limit ≤ 60) × (pri ≤ 60) = (grind (arith, nat_tests, q.0), grind (arith, nat_tests, q.0)) in
    rw (number_of-decimal limit (omega (arith, small.0)), number_of-decimal pri (omega (arith, small.1)), quantum-again quantum q.1) refl
class-form (parms.Sys pri) cpupri rest h =
    let small : pri ≤ 99 = grind (arith, nat_tests, h) in
    rw (number_of-decimal pri (omega arith)) refl
class-form (parms.Rt pri quantum) cpupri rest h =
    let p = and_parts (leb pri 59 && quantum_fits quantum) (nat_eq cpupri 0) h in
    let q = and_parts (leb pri 59) (quantum_fits quantum) p.0 in
    let small : pri ≤ 59 = grind (arith, nat_tests, q.0) in
    rw (number_of-decimal pri (omega arith), quantum-again quantum q.1) refl

-- the words of the set of a thread
abbrev pub set_words : Option Word → Line
set_words None = []
set_words (Some name) = codes "in" ∷ name ∷ []

abbrev pub is_name_if : Option Word → Bool
is_name_if None = true
is_name_if (Some name) = is_name name

abbrev pub options_said : ℕ → Bool → Option Word → Options
options_said uid privileged set = record { uid = uid; privileged = privileged; set = set }

pub options-form : (uid : ℕ) (privileged : Bool) (set : Option Word) → uid ≤ 65535 → is_name_if set ≡ true
    → options (codes "uid" ∷ decimal uid ∷ (priv_words privileged ++ set_words set)) ≡ Some (options_said uid privileged set)
unfolding options uid_option priv_option set_option behind first only_word
options-form uid true None small h = rw (number_of-decimal uid (omega arith)) refl
options-form uid false None small h = rw (number_of-decimal uid (omega arith)) refl
options-form uid true (Some name) small h = rw (number_of-decimal uid (omega arith), h) refl
options-form uid false (Some name) small h = rw (number_of-decimal uid (omega arith), h) refl

pub thread-form : (name : Word) (class : ClassParms) (cpupri uid : ℕ) (privileged : Bool) (set : Option Word)
    → is_name name ≡ true → class_fits class cpupri ≡ true → uid ≤ 65535 → is_name_if set ≡ true
    → statement_of (codes "thread" ∷ name ∷ (class_words class cpupri ++ (codes "uid" ∷ decimal uid ∷ (priv_words privileged ++ set_words set))))
    ≡ Some (Declare (thread name (class_said class cpupri) (options_said uid privileged set)))
unfolding statement_of setting_statement object_statement thread_statement thread_line first
thread-form name class cpupri uid privileged set named fits small known =
    rw (named, class-form class cpupri (codes "uid" ∷ decimal uid ∷ (priv_words privileged ++ set_words set)) fits, options-form uid privileged set small known) refl
