-- What a text spells in the language of task sets.
use Rattle.std.proofs.Common.{◌≡◌, ℕ, ◌≤◌, List, Option, length, refl, sym, ap, subst, ◌∙◌, inl, inr, arith}
use Rattle.sd_types.specs.declared.works.Work.{Work}
use Rattle.sd_types.specs.Limits.{most_workload_bytes}
use Rattle.sd_declare.specs.declared.causes.WorkCause.{WorkCause}
use Rattle.sd_workload.specs.Accepted.{Accepted}
use Rattle.sd_workload.proofs.OneLemmas.{one-work}
use Rattle.sd_tasks.specs.SetTasks.{NamedTask}
use Rattle.sd_tasks.specs.Written.{Written, text_of}
use Rattle.sd_releases.specs.Verdicts.{SetVerdict, Expands, RefusesSet, set_verdict}
use Rattle.sd_releases.proofs.VerdictLemmas.{set-short}
use Rattle.sd_answers.specs.Inputs.{IsCertificate}
use Rattle.sd_answers.specs.Languages.{IsSound}
use Rattle.sd_answers.specs.StreamChanges.{StreamChange}
use Rattle.sd_set_inputs.specs.Sets.{RefusesSetAt, SpellsSet, StandsFor, sets}
use Rattle.sd_set_inputs.specs.ToldTasks.{IsSetCertificate}

-- one verdict expands to one text
one_expansion : (v : SetVerdict) (xs ys : List Written) → v ≡ Expands xs → v ≡ Expands ys → text_of xs ≡ text_of ys
one_expansion v xs ys a b = let same : xs ≡ ys = cc in ap text_of same

pub one_base : (text a b : List ℕ) → StandsFor text a → StandsFor text b → a ≡ b
one_base text a b (inl x) (inl y) = x.1 ∙ sym y.1
one_base text a b (inl x) (inr y) = absurd (y.not_plain x.0)
one_base text a b (inr x) (inl y) = absurd (x.not_plain y.0)
one_base text a b (inr x) (inr y) = x.base_is ∙ one_expansion (set_verdict text) x.lines y.lines x.expands y.expands ∙ sym y.base_is

-- what a text stands for has no more bytes than a workload may have
pub base_short : (text base : List ℕ) → StandsFor text base → length text ≤ most_workload_bytes → length base ≤ most_workload_bytes
base_short text base (inl x) few = omega (arith, few, ap length x.1)
base_short text base (inr x) few = omega (arith, set-short text x.lines x.expands, ap length x.base_is)

one_spelled : (text : List ℕ) (w v : Work) → SpellsSet text w → SpellsSet text v → w ≡ v
one_spelled text w v x y = one-work y.base w v (subst (λ bs. Accepted bs w) (one_base text x.base y.base x.stands y.stands) x.accepted) y.accepted

-- a verdict does not both expand and refuse
never_both : (v : SetVerdict) (xs : List Written) (line : ℕ) (cause : WorkCause) → v ≡ Expands xs → v ≡ RefusesSet line cause → ⊥
never_both v xs line cause a b = cc

unrefused : (text : List ℕ) (w : Work) (line : ℕ) (cause : WorkCause) → SpellsSet text w → RefusesSetAt text line cause → ⊥
unrefused text w line cause x refused = by x.stands
  where
    by : StandsFor text x.base → ⊥
    by (inl plain) = refused.not_plain plain.0
    by (inr e) = never_both (set_verdict text) e.lines line cause e.expands refused.first

pub sets_sound : IsSound sets
sets_sound = record { one = one_spelled; not_both = unrefused }

-- a workload spells itself
pub plain_spells : (text : List ℕ) (w : Work) → Accepted text w → SpellsSet text w
plain_spells text w accepted = record { base = text; stands = inl ((w, accepted), refl); accepted = accepted }

-- and stands for nothing else
pub alone_of : (text base : List ℕ) (w : Work) → Accepted text w → StandsFor text base → base ≡ text
alone_of text base w accepted (inl x) = x.1
alone_of text base w accepted (inr x) = absurd (x.not_plain (w, accepted))

-- a certificate with the tasks that its input tells is one
pub certificate_of : (input : StreamChange) (w : Work) (tasks : Option (List NamedTask)) (text : List ℕ) → IsSetCertificate input w tasks text → IsCertificate sets input w text
certificate_of input w tasks text is = record { before = is.before; parts = is.parts; bound = is.bound; accepted = is.accepted }
