-- The pieces of pictures and traces that stand in and_parts.
use Rattle.std.proofs.Common.{◌≡◌, ℕ, Bool, true, false, cond, List, [], ◌∷◌, ◌++◌, refl, ◌∙◌, arith}
use Rattle.std.proofs.lemmas.Bool.{and_parts}
use Rattle.std.specs.Fmt.{decimal}
use Rattle.std.specs.List.{list_all, flat_map}
use Rattle.std.proofs.lemmas.Bool.Decides.{nat_tests}
use Rattle.std.proofs.lemmas.List.Folds.{list_all-append}
use Rattle.sd_types.specs.declared.works.Work.{Work}
use Rattle.sd_machine.specs.Texts.{set_name}
use Rattle.sd_state.specs.Texts.{chan_name, lock_name, thread_name}
use Rattle.sd_stretches.specs.declared.sights.Doing.{Doing}
use Rattle.sd_stretches.specs.Doings.{doing_text}
use Rattle.sd_stretches.specs.Plain.{is_plain_byte, is_text_byte, IsPlain, IsText}
use Rattle.sd_stretches.proofs.PlainLemmas.{thread-plain, lock-plain, chan-plain, set-plain, doing-plain, decimal-plain}

plain-byte : (b : ℕ) → is_plain_byte b ≡ true → is_text_byte b ≡ true
plain-byte b h = grind (arith, nat_tests)

pub plain-text : (bs : List ℕ) → IsPlain bs → IsText bs
plain-text [] h = refl
plain-text (b ∷ bs) h =
    let p = and_parts (is_plain_byte b) (list_all is_plain_byte bs) h in
    rw (plain-byte b p.0) (plain-text bs p.1)

pub append-text : (a b : List ℕ) → IsText a → IsText b → IsText (a ++ b)
append-text a b p q = list_all-append is_text_byte a b ∙ rw p q

pub flat-text : {X : Type 0} (f : X → List ℕ) → ((x : X) → IsText (f x)) → (xs : List X) → IsText (flat_map f xs)
flat-text f h [] = refl
flat-text f h (x ∷ xs) = append-text (f x) (flat_map f xs) (h x) (flat-text f h xs)

pub either-text : (b : Bool) (x y : List ℕ) → IsText x → IsText y → IsText (cond b x y)
either-text true x y p q = p
either-text false x y p q = q

pub decimal-text : (n : ℕ) → IsText (decimal n)
decimal-text n = plain-text (decimal n) (decimal-plain n)

pub thread-text : (w : Work) (t : ℕ) → IsText (thread_name w t)
thread-text w t = plain-text (thread_name w t) (thread-plain w t)

pub lock-text : (w : Work) (l : ℕ) → IsText (lock_name w l)
lock-text w l = plain-text (lock_name w l) (lock-plain w l)

pub chan-text : (w : Work) (k : ℕ) → IsText (chan_name w k)
chan-text w k = plain-text (chan_name w k) (chan-plain w k)

pub set-text : (w : Work) (p : ℕ) → IsText (set_name w p)
set-text w p = plain-text (set_name w p) (set-plain w p)

pub doing-text : (w : Work) (d : Doing) → IsText (doing_text w d)
doing-text w d = plain-text (doing_text w d) (doing-plain w d)
