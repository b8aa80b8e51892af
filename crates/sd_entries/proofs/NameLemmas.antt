-- Names and numbers as words: each is one word, and is read again.
use Rattle.std.proofs.Common.{◌≡◌, ℕ, zero, suc, ◌+◌, ◌<◌, ◌≤◌, ◌^◌, Bool, true, false, not, ◌&&◌, min, eqb, ltb, leb, List, [], ◌∷◌, length, map, slice_get, option_map, refl, ap, ◌∙◌, arith}
use Rattle.std.specs.Prelude.{codes, unwrap_or}
use Rattle.std.specs.List.{list_all, list_any, position_or_len}
use Rattle.std.specs.Fmt.{decimal}
use Rattle.std.specs.Str.Parse.{digits_value}
use Rattle.std.proofs.lemmas.Bool.{false≢true, lt-ltb, le-leb, and_parts, or_parts}
use Rattle.std.proofs.lemmas.Bool.Decides.{nat_tests}
use Rattle.std.proofs.lemmas.Fmt.{length-decimal-le, digits_decimal, digits_value-decimal}
use Rattle.sd_types.specs.declared.numbers.CpuId.{CpuId}
use Rattle.sd_types.specs.declared.numbers.ThreadId.{ThreadId}
use Rattle.sd_types.specs.declared.numbers.LockId.{LockId}
use Rattle.sd_types.specs.declared.numbers.ChanId.{ChanId}
use Rattle.sd_types.specs.declared.numbers.SetId.{SetId}
use Rattle.sd_types.specs.declared.works.Work.{Work}
use Rattle.sd_types.specs.NameWords.{is_letter, is_name_byte, is_name}
use Rattle.sd_types.specs.Works.{same_bytes, is_distinct}
use Rattle.sd_text.specs.Words.{ends_word, is_word}
use Rattle.sd_text.proofs.NumberLemmas.{is_word-decimal, own}
use Rattle.sd_state.specs.Texts.{thread_name, lock_name, chan_name}
use Rattle.sd_machine.specs.Texts.{set_name, cpu_text}
use Rattle.sd_entries.specs.Fitting.{has_cpu, has_thread, has_lock, has_chan, has_set, is_byte}
use Rattle.sd_entries.specs.Reading.{digits_of, number_in, thread_in, lock_in, chan_in, set_in, cpu_in, byte_in, count_in}
use Rattle.sd_types.proofs.SameLemmas.{bytes_same_itself}

-- ---- what is a word

byte_plain : (b : ℕ) → is_name_byte b ≡ true → not (ends_word b) ≡ true
byte_plain b h = grind (arith, nat_tests)

bytes_plain : (bs : List ℕ) → list_all is_name_byte bs ≡ true → list_all (λ b. not (ends_word b)) bs ≡ true
bytes_plain [] h = refl
bytes_plain (b ∷ bs) h = let p = and_parts _ _ h in rw (byte_plain b p.0) (bytes_plain bs p.1)

name_word : (name : List ℕ) → is_name name ≡ true → is_word name ≡ true
name_word [] h = absurd (false≢true h)
name_word (b ∷ bs) h =
    let p = and_parts (is_letter b && leb (length (b ∷ bs)) 16) (list_all is_name_byte (b ∷ bs)) h in
    let some : ltb 0 (length (b ∷ bs)) ≡ true = lt-ltb _ _ (omega arith) in
    rw some (bytes_plain (b ∷ bs) p.1)

-- ---- names of a list of things

abbrev pub name_at : {X : Type 0} → (X → List ℕ) → List X → ℕ → List ℕ
name_at name xs t = unwrap_or (option_map name (slice_get xs t)) []

module _ {X : Type 0} (name : X → List ℕ) where
  name_at_word : ((x : X) → is_name (name x) ≡ true) → (xs : List X) (t : ℕ) → t < length xs → is_word (name_at name xs t) ≡ true
  name_at_word named [] t inside = absurd (omega arith)
  name_at_word named (x ∷ xs) zero inside = name_word (name x) (named x)
  name_at_word named (x ∷ xs) (suc t) inside = name_at_word named xs t (omega arith)

  pub name_at_name : ((x : X) → is_name (name x) ≡ true) → (xs : List X) (t : ℕ) → t < length xs → is_name (name_at name xs t) ≡ true
  name_at_name named [] t inside = absurd (omega arith)
  name_at_name named (x ∷ xs) zero inside = named x
  name_at_name named (x ∷ xs) (suc t) inside = name_at_name named xs t (omega arith)

  pub none_passes : (p : List ℕ → Bool) (xs : List X) (t : ℕ) → t < length xs → list_any p (map name xs) ≡ false → p (name_at name xs t) ≡ false
  none_passes p [] t inside none = absurd (omega arith)
  none_passes p (x ∷ xs) zero inside none = (or_parts _ _ none).0
  none_passes p (x ∷ xs) (suc t) inside none = none_passes p xs t (omega arith) (or_parts _ _ none).1

  not_true : (a : Bool) → not a ≡ true → a ≡ false
  not_true true h = absurd (false≢true h)
  not_true false h = refl

  -- where names differ, the first thing of a name is the one that it names
  pub place_of_name : (xs : List X) (t : ℕ) → t < length xs → is_distinct same_bytes (map name xs) ≡ true
      → position_or_len (λ x. same_bytes (name x) (name_at name xs t)) xs ≡ t
  place_of_name [] t inside distinct = absurd (omega arith)
  place_of_name (x ∷ xs) zero inside distinct = rw (bytes_same_itself (name x)) refl
  place_of_name (x ∷ xs) (suc t) inside distinct =
      let p = and_parts _ _ distinct in
      let other : same_bytes (name x) (name_at name xs t) ≡ false = none_passes (same_bytes (name x)) xs t (omega arith) (not_true _ p.0) in
      let rest : position_or_len (λ y. same_bytes (name y) (name_at name xs t)) xs ≡ t = place_of_name xs t (omega arith) p.1 in
      rw other (ap (λ k. 1 + k) rest ∙ (let e : 1 + t ≡ suc t = omega arith in e))

-- ---- numbers

pub number_read : (n : ℕ) → n < 2 ^ 64 → number_in (decimal n) ≡ n
unfolding number_in digits_of
number_read n h =
    let short : leb (length (decimal n)) 20 ≡ true = le-leb _ _ (length-decimal-le 20 n (omega arith) (omega arith) h) in
    let value : digits_value 10 (decimal n) ≡ n = digits_value-decimal own n h in
    let small : ltb n (2 ^ 64) ≡ true = lt-ltb _ _ h in
    rw (short, digits_decimal own n h, value, small) refl

pub byte_word : (p : ℕ) → is_byte p ≡ true → is_word (decimal p) ≡ true
byte_word p h = let small : p < 2 ^ 64 = grind (arith, nat_tests) in is_word-decimal p small

pub byte_read : (p : ℕ) → is_byte p ≡ true → byte_in (decimal p) ≡ p
unfolding byte_in
byte_read p h =
    let less : p < 256 = grind (arith, nat_tests) in
    rw (number_read p (omega arith)) (omega arith)

pub count_word : (n : ℕ) → ltb n (2 ^ 32) ≡ true → is_word (decimal n) ≡ true
count_word n h = let less : n < 2 ^ 32 = grind (arith, nat_tests) in is_word-decimal n (omega arith)

pub count_read : (n : ℕ) → ltb n (2 ^ 32) ≡ true → count_in (decimal n) ≡ n
unfolding count_in
count_read n h =
    let less : n < 2 ^ 32 = grind (arith, nat_tests) in
    rw (number_read n (omega arith)) (omega arith)

-- ---- of a workload

module _ (w : Work) where
  pub thread_word : (t : ThreadId) → has_thread w t ≡ true → is_word (thread_name w t.0) ≡ true
  thread_word t h = let inside : t.0 < length w.threads = grind (arith, nat_tests) in name_at_word (λ d. d.name.text.items) (λ d. d.name.is_name) w.threads t.0 inside

  pub lock_word : (l : LockId) → has_lock w l ≡ true → is_word (lock_name w l.0) ≡ true
  lock_word l h = let inside : l.0 < length w.locks = grind (arith, nat_tests) in name_at_word (λ d. d.0.text.items) (λ d. d.0.is_name) w.locks l.0 inside

  pub chan_word : (k : ChanId) → has_chan w k ≡ true → is_word (chan_name w k.0) ≡ true
  chan_word k h = let inside : k.0 < length w.chans = grind (arith, nat_tests) in name_at_word (λ d. d.0.text.items) (λ d. d.0.is_name) w.chans k.0 inside

  set_word_at : (p : ℕ) → p ≤ length w.sets → is_word (set_name w p) ≡ true
  set_word_at zero inside = refl
  set_word_at (suc p) inside = name_at_word (λ d. d.0.text.items) (λ d. d.0.is_name) w.sets p (omega arith)

  pub set_word : (p : SetId) → has_set w p ≡ true → is_word (set_name w p.0) ≡ true
  set_word p h = let inside : p.0 ≤ length w.sets = grind (arith, nat_tests) in set_word_at p.0 inside

  pub cpu_small : (c : CpuId) → has_cpu w c ≡ true → c.0 < 64
  cpu_small c h = let less : c.0 < w.cpus = grind (arith, nat_tests) in let most = w.most_cpus in omega arith

  pub cpu_word : (c : CpuId) → has_cpu w c ≡ true → is_word (cpu_text c) ≡ true
  cpu_word c h =
      let few : c.0 < 64 = cpu_small c h in
      let digits = and_parts (ltb 0 (length (decimal c.0))) (list_all (λ b. not (ends_word b)) (decimal c.0)) (is_word-decimal c.0 (omega arith)) in
      let some : ltb 0 (length (cpu_text c)) ≡ true = lt-ltb _ _ (omega arith) in
      rw some digits.1

  pub thread_read : (t : ThreadId) → has_thread w t ≡ true → thread_in w (thread_name w t.0) ≡ t
  unfolding thread_in
  thread_read t h =
      let inside : t.0 < length w.threads = grind (arith, nat_tests) in
      rw (place_of_name (λ d. d.name.text.items) w.threads t.0 inside w.thread_names) refl

  pub lock_read : (l : LockId) → has_lock w l ≡ true → lock_in w (lock_name w l.0) ≡ l
  unfolding lock_in
  lock_read l h =
      let inside : l.0 < length w.locks = grind (arith, nat_tests) in
      rw (place_of_name (λ d. d.0.text.items) w.locks l.0 inside w.lock_names) refl

  pub chan_read : (k : ChanId) → has_chan w k ≡ true → chan_in w (chan_name w k.0) ≡ k
  unfolding chan_in
  chan_read k h =
      let inside : k.0 < length w.chans = grind (arith, nat_tests) in
      rw (place_of_name (λ d. d.0.text.items) w.chans k.0 inside w.chan_names) refl

  -- a name is no `-`
  no_dash : (name : List ℕ) → is_name name ≡ true → same_bytes name (codes "-") ≡ false
  no_dash [] h = absurd (false≢true h)
  no_dash (b ∷ bs) h =
      let p = and_parts (is_letter b && leb (length (b ∷ bs)) 16) (list_all is_name_byte (b ∷ bs)) h in
      let letter = (and_parts (is_letter b) (leb (length (b ∷ bs)) 16) p.0).0 in
      let other : eqb b 45 ≡ false = grind (arith, nat_tests) in
      rw other refl

  set_read_at : (p : ℕ) → p ≤ length w.sets → (set_in w (set_name w p)).0 ≡ p
  unfolding set_in
  set_read_at zero inside = refl
  set_read_at (suc p) inside =
      let less : p < length w.sets = omega arith in
      rw (
        no_dash (name_at (λ d. d.0.text.items) w.sets p) (name_at_name (λ d. d.0.text.items) (λ d. d.0.is_name) w.sets p less),
        place_of_name (λ d. d.0.text.items) w.sets p less w.set_names,
      ) (omega arith)

  pub set_read : (p : SetId) → has_set w p ≡ true → set_in w (set_name w p.0) ≡ p
  set_read p h =
      let inside : p.0 ≤ length w.sets = grind (arith, nat_tests) in
      ap set_id (set_read_at p.0 inside)
    where
      set_id : ℕ → SetId
      set_id n = record { 0 = n }

  pub cpu_read : (c : CpuId) → has_cpu w c ≡ true → cpu_in (cpu_text c) ≡ c
  unfolding cpu_in
  cpu_read c h =
      let few : c.0 < 64 = cpu_small c h in
      let least : min c.0 65535 ≡ c.0 = omega arith in
      rw (number_read c.0 (omega arith), least) refl
