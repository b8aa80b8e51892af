-- Which texts need no escaping.
use Rattle.std.proofs.Common.{◌≡◌, ℕ, zero, suc, ◌/◌, ◌%◌, ◌<◌, Bool, true, false, ◌&&◌, cond, eqb, List, [], ◌∷◌, ◌++◌, length, leb, Option, Some, None, refl, ◌∙◌, arith}
use Rattle.std.proofs.lemmas.Bool.{and_parts}
use Rattle.std.specs.Prelude.{codes, option_map, unwrap_or, slice_get}
use Rattle.std.specs.Fmt.{decimal, digits, digits_onto, digit_glyph}
use Rattle.std.specs.List.{list_all}
use Rattle.std.proofs.lemmas.Bool.Decides.{nat_tests}
use Rattle.std.proofs.lemmas.List.Folds.{list_all-append}
use Rattle.sd_types.specs.declared.names.Name.{Name}
use Rattle.sd_types.specs.declared.works.Work.{Work}
use Rattle.sd_types.specs.NameWords.{is_name_byte, begins_with_letter}
use Rattle.sd_machine.specs.Texts.{set_name}
use Rattle.sd_state.specs.Texts.{chan_name, lock_name, thread_name}
use Rattle.sd_stretches.specs.declared.sights.Doing.{Doing}
use Rattle.sd_stretches.specs.declared.sights.Doing.TheVariants.{Running, Spinning, Runnable, Waiting, Asleep, Napping, Ended}
use Rattle.sd_stretches.specs.Doings.{doing_text, spinning_text}
use Rattle.sd_stretches.specs.Plain.{is_plain_byte, IsPlain, HasPlainNames}

-- ---- names

name-byte : (b : ℕ) → is_name_byte b ≡ true → is_plain_byte b ≡ true
name-byte b h = grind (arith, nat_tests)

name-bytes : (bs : List ℕ) → list_all is_name_byte bs ≡ true → IsPlain bs
name-bytes [] h = refl
name-bytes (b ∷ bs) h =
    let p = and_parts (is_name_byte b) (list_all is_name_byte bs) h in
    rw (name-byte b p.0) (name-bytes bs p.1)

name : (x : Name) → IsPlain x.text.items
name x = name-bytes x.text.items (and_parts (begins_with_letter x.text.items && leb (length x.text.items) 16) (list_all is_name_byte x.text.items) x.is_name).1

-- the name of what stands there, if anything does
named : {X : Type 0} (of : X → Name) (o : Option X) → IsPlain (unwrap_or (option_map (λ x. (of x).text.items) o) [])
named of None = refl
named of (Some x) = name (of x)

pub thread-plain : (w : Work) (t : ℕ) → IsPlain (thread_name w t)
thread-plain w t = named (λ d. d.name) (slice_get w.threads t)

pub lock-plain : (w : Work) (l : ℕ) → IsPlain (lock_name w l)
lock-plain w l = named (λ d. d.0) (slice_get w.locks l)

pub chan-plain : (w : Work) (k : ℕ) → IsPlain (chan_name w k)
chan-plain w k = named (λ d. d.0) (slice_get w.chans k)

pub set-plain : (w : Work) (p : ℕ) → IsPlain (set_name w p)
set-plain w zero = refl
set-plain w (suc p) = named (λ d. d.0) (slice_get w.sets p)

-- ---- numbers

digit : (d : ℕ) → d < 10 → is_plain_byte (digit_glyph false d) ≡ true
digit d h = grind (arith, nat_tests)

one-of : (b : Bool) (x y : List ℕ) → IsPlain x → IsPlain y → IsPlain (cond b x y)
one-of true x y p q = p
one-of false x y p q = q

digits-onto : (k n : ℕ) (acc : List ℕ) → IsPlain acc → IsPlain (digits_onto k 10 false n acc)
digits-onto zero n acc h = h
digits-onto (suc k) n acc h =
    let here : is_plain_byte (digit_glyph false (n % 10)) ≡ true = digit (n % 10) (omega arith) in
    let more : IsPlain (digit_glyph false (n % 10) ∷ acc) = rw here h in
    one-of (eqb (n / 10) 0) _ _ more (digits-onto k (n / 10) (digit_glyph false (n % 10) ∷ acc) more)

pub decimal-plain : (n : ℕ) → IsPlain (decimal n)
unfolding digits
decimal-plain n = digits-onto 64 n [] refl

-- ---- labels

joined : (a b : List ℕ) → IsPlain a → IsPlain b → IsPlain (a ++ b)
joined a b p q = list_all-append is_plain_byte a b ∙ rw p q

spinning-plain : (c : ℕ) (lock : List ℕ) → IsPlain lock → IsPlain (spinning_text c lock)
unfolding spinning_text
spinning-plain c lock plain =
    joined (codes "spins on processor " ++ decimal c) (codes " for " ++ lock)
    (joined (codes "spins on processor ") (decimal c) refl (decimal-plain c)) (joined (codes " for ") lock refl plain)

pub doing-plain : (w : Work) (d : Doing) → IsPlain (doing_text w d)
doing-plain w (Running c) = joined (codes "runs on processor ") (decimal c.0) refl (decimal-plain c.0)
doing-plain w (Spinning c l) = spinning-plain c.0 (lock_name w l.0) (lock-plain w l.0)
doing-plain w Runnable = refl
doing-plain w (Waiting l) = joined (codes "waits for ") (lock_name w l.0) refl (lock-plain w l.0)
doing-plain w (Asleep k) = joined (codes "asleep on ") (chan_name w k.0) refl (chan-plain w k.0)
doing-plain w Napping = refl
doing-plain w Ended = refl

pub plain_names : (w : Work) → HasPlainNames w
plain_names w = record { threads = thread-plain w; locks = lock-plain w; chans = chan-plain w; sets = set-plain w; doings = doing-plain w }
