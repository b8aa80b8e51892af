-- What is held back where a search has ended.
use Rattle.std.proofs.Common.{◌≡◌, ◌≢◌, ℕ, Bool, true, List, [], ◌∷◌, Result, Ok, Err, refl, sym, subst, ◌∙◌, inl, inr}
use Rattle.std.specs.Prelude.{◌⊎◌}
use Rattle.std.specs.Result.{IsErrAnd}
use Rattle.std.proofs.lemmas.Result.{err_from_is_err_and}
use Rattle.std.proofs.Common.{ap}
use Rattle.sd_types.specs.declared.works.Work.{Work}
use Rattle.sd_answers.specs.declared.answers.Answer.{Answer}
use Rattle.sd_answers.specs.Handing.{IsHandedOn, LeavesHeldBy}
use Rattle.sd_answers.proofs.HandingLemmas.{handed_of}
use Rattle.sd_search_answers.specs.declared.forms.Aim.{Aim}
use Rattle.sd_search_answers.specs.declared.verdicts.Told.{Told}
use Rattle.sd_search_answers.specs.declared.verdicts.Verdict.{Verdict}
use Rattle.sd_search_answers.specs.declared.verdicts.Verdict.TheVariants.{Done, Found, Never, More, NoThread}
use Rattle.sd_search_answers.specs.Answered.{IsTold}
use Rattle.sd_find.specs.Seeking.{LeavesHeldAtEnd, ended_status}
use Rattle.sd_find.proofs.TextLemmas.{silent_verdict}

-- how a call ended, and its status
pub handed_at_end : (r : Result Verdict Answer) (before after : List ℕ) → LeavesHeldAtEnd r before after → IsHandedOn (ended_status r) before after
handed_at_end (Ok Done) before after left = record { printed = λ is. left; others = λ other. inr left }
handed_at_end (Ok Found) before after left = record { printed = λ is. left; others = λ other. inr left }
handed_at_end (Ok Never) before after left = record { printed = λ is. left; others = λ other. inr left }
handed_at_end (Ok More) before after left = record { printed = λ is. left; others = λ other. inr left }
handed_at_end (Ok NoThread) before after left = record { printed = λ is. cc; others = λ other. left }
handed_at_end (Err answer) before after left = handed_of answer before after left

-- a verdict whose text was handed on
said : (verdict : Verdict) (before after : List ℕ) → after ≡ [] → LeavesHeldAtEnd (Ok verdict) before after
said Done before after none = none
said Found before after none = none
said Never before after none = none
said More before after none = none
said NoThread before after none = inr none

-- what was said was handed on, and where nothing was said the output was left alone
pub leaves_told : (w : Work) (aim : Aim) (most : ℕ) (told : Told) (before after : List ℕ) → IsTold w aim most told → (told.text.items ≢ [] → after ≡ []) → (told.text.items ≡ [] → after ≡ before)
    → LeavesHeldAtEnd (Ok told.verdict) before after
leaves_told w aim most told before after is some none = by told.text.items refl
  where
    by : (text : List ℕ) → told.text.items ≡ text → LeavesHeldAtEnd (Ok told.verdict) before after
    by [] e = subst (λ (v : Verdict). LeavesHeldAtEnd (Ok v) before after) (sym (silent_verdict w aim most told is e)) (inl (none e))
    by (x ∷ xs) e = said told.verdict before after (some (λ empty. cc))

-- what the exit of a `?` returns
pub leaves_exit : (r : Result Verdict Answer) (a : Answer) (before after : List ℕ) → IsErrAnd r (λ y. y ≡ a) → LeavesHeldBy a before after → LeavesHeldAtEnd r before after
leaves_exit r a before after exit left =
    let x = err_from_is_err_and r exit in
    subst (λ s. LeavesHeldAtEnd s before after) (sym (x.1 ∙ ap Err x.2)) left
