-- Names and numbers are words, and stand in one line.
use Rattle.std.proofs.Common.{◌≡◌, ℕ, zero, suc, ◌<◌, ◌≤◌, ◌^◌, true, not, ◌&&◌, ltb, leb, List, [], ◌∷◌, length, slice_get, option_map, refl, arith}
use Rattle.std.specs.Prelude.{unwrap_or}
use Rattle.std.specs.List.{list_all}
use Rattle.std.specs.Fmt.{decimal}
use Rattle.std.proofs.lemmas.Bool.{false≢true, and_parts}
use Rattle.std.proofs.lemmas.Bool.Decides.{nat_tests}
use Rattle.sd_types.specs.declared.numbers.CpuId.{CpuId}
use Rattle.sd_types.specs.declared.numbers.ThreadId.{ThreadId}
use Rattle.sd_types.specs.declared.numbers.LockId.{LockId}
use Rattle.sd_types.specs.declared.numbers.ChanId.{ChanId}
use Rattle.sd_types.specs.declared.numbers.SetId.{SetId}
use Rattle.sd_types.specs.declared.works.Work.{Work}
use Rattle.sd_types.specs.NameWords.{is_letter, is_name_byte, is_name}
use Rattle.sd_text.specs.Lines.{is_newline, is_line}
use Rattle.sd_text.specs.Words.{is_word}
use Rattle.sd_text.proofs.NumberLemmas.{is_line-decimal, is_word-decimal}
use Rattle.sd_state.specs.Texts.{thread_name, lock_name, chan_name}
use Rattle.sd_machine.specs.Texts.{set_name, cpu_text}
use Rattle.sd_entries.specs.Fitting.{has_cpu, has_thread, has_lock, has_chan, has_set, is_byte}
use Rattle.sd_entries.proofs.NameLemmas.{thread_word, lock_word, chan_word, set_word, cpu_word, cpu_small, byte_word, count_word}

-- one word, in one line
abbrev pub IsPlain : List ℕ → Type 0
IsPlain x = (is_word x ≡ true) × (is_line x ≡ true)

pub number_plain : (n : ℕ) → n < 2 ^ 64 → IsPlain (decimal n)
number_plain n h = (is_word-decimal n h, is_line-decimal n h)

pub byte_plain : (p : ℕ) → is_byte p ≡ true → IsPlain (decimal p)
byte_plain p h = let small : p < 2 ^ 64 = grind (arith, nat_tests) in (byte_word p h, is_line-decimal p small)

pub count_plain : (n : ℕ) → ltb n (2 ^ 32) ≡ true → IsPlain (decimal n)
count_plain n h = let less : n < 2 ^ 32 = grind (arith, nat_tests) in (count_word n h, is_line-decimal n (omega arith))

no_newline : (b : ℕ) → is_name_byte b ≡ true → not (is_newline b) ≡ true
no_newline b h = grind (arith, nat_tests)

pub no_newlines : (bs : List ℕ) → list_all is_name_byte bs ≡ true → is_line bs ≡ true
no_newlines [] h = refl
no_newlines (b ∷ bs) h = let p = and_parts _ _ h in rw (no_newline b p.0) (no_newlines bs p.1)

name_line : (name : List ℕ) → is_name name ≡ true → is_line name ≡ true
name_line [] h = absurd (false≢true h)
name_line (b ∷ bs) h = no_newlines (b ∷ bs) (and_parts (is_letter b && leb (length (b ∷ bs)) 16) (list_all is_name_byte (b ∷ bs)) h).1

module _ {X : Type 0} (name : X → List ℕ) where
  name_at_line : ((x : X) → is_name (name x) ≡ true) → (xs : List X) (t : ℕ) → t < length xs → is_line (unwrap_or (option_map name (slice_get xs t)) []) ≡ true
  name_at_line named [] t inside = absurd (omega arith)
  name_at_line named (x ∷ xs) zero inside = name_line (name x) (named x)
  name_at_line named (x ∷ xs) (suc t) inside = name_at_line named xs t (omega arith)

module _ (w : Work) where
  pub thread_plain : (t : ThreadId) → has_thread w t ≡ true → IsPlain (thread_name w t.0)
  thread_plain t h = let inside : t.0 < length w.threads = grind (arith, nat_tests) in (thread_word w t h, name_at_line (λ d. d.name.text.items) (λ d. d.name.is_name) w.threads t.0 inside)

  pub lock_plain : (l : LockId) → has_lock w l ≡ true → IsPlain (lock_name w l.0)
  lock_plain l h = let inside : l.0 < length w.locks = grind (arith, nat_tests) in (lock_word w l h, name_at_line (λ d. d.0.text.items) (λ d. d.0.is_name) w.locks l.0 inside)

  pub chan_plain : (k : ChanId) → has_chan w k ≡ true → IsPlain (chan_name w k.0)
  chan_plain k h = let inside : k.0 < length w.chans = grind (arith, nat_tests) in (chan_word w k h, name_at_line (λ d. d.0.text.items) (λ d. d.0.is_name) w.chans k.0 inside)

  set_line_at : (p : ℕ) → p ≤ length w.sets → is_line (set_name w p) ≡ true
  set_line_at zero inside = refl
  set_line_at (suc p) inside = name_at_line (λ d. d.0.text.items) (λ d. d.0.is_name) w.sets p (omega arith)

  pub set_plain : (p : SetId) → has_set w p ≡ true → IsPlain (set_name w p.0)
  set_plain p h = let inside : p.0 ≤ length w.sets = grind (arith, nat_tests) in (set_word w p h, set_line_at p.0 inside)

  pub cpu_plain : (c : CpuId) → has_cpu w c ≡ true → IsPlain (cpu_text c)
  cpu_plain c h = let few : c.0 < 64 = cpu_small w c h in (cpu_word w c h, is_line-decimal c.0 (omega arith))
