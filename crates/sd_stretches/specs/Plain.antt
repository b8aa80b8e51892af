-- Which bytes mean only themselves in a JSON string, and in a text and an attribute of XML, and which whole texts are made of.
-- Source: RFC 8259, section 7 (strings); XML 1.0, section 2.4 (character data and markup).
use Rattle.std.specs.Prelude.{ℕ, Bool, not, ◌&&◌, ◌||◌, ◌==◌, List, IsTrue}
use Rattle.std.specs.List.{list_all}
use Rattle.sd_types.specs.declared.works.Work.{Work}
use Rattle.sd_text.specs.Words.{is_printable}
use Rattle.sd_machine.specs.Texts.{set_name}
use Rattle.sd_state.specs.Texts.{chan_name, lock_name, thread_name}
use Rattle.sd_stretches.specs.declared.sights.Doing.{Doing}
use Rattle.sd_stretches.specs.Doings.{doing_text}

-- " & ' < > and the backslash
abbrev pub is_mark : ℕ → Bool
is_mark b = b == 34 || b == 38 || b == 39 || b == 60 || b == 62 || b == 92

-- printable, and none of these
abbrev pub is_plain_byte : ℕ → Bool
is_plain_byte b = is_printable b && not (is_mark b)

abbrev pub IsPlain : List ℕ → Type 0
IsPlain text = IsTrue (list_all is_plain_byte text)

-- a newline, or printable, but no backslash
abbrev pub is_text_byte : ℕ → Bool
is_text_byte b = b == 10 || (is_printable b && not (b == 92))

abbrev pub IsText : List ℕ → Type 0
IsText text = IsTrue (list_all is_text_byte text)

-- all that pictures and traces take from a workload
pub record HasPlainNames (w : Work) : Type 0 where
  pub threads : (t : ℕ) → IsPlain (thread_name w t)
  pub locks : (l : ℕ) → IsPlain (lock_name w l)
  pub chans : (k : ℕ) → IsPlain (chan_name w k)
  pub sets : (p : ℕ) → IsPlain (set_name w p)
  pub doings : (d : Doing) → IsPlain (doing_text w d)

abbrev pub NamesNeedNoEscaping : Type 0
NamesNeedNoEscaping = (w : Work) → HasPlainNames w
