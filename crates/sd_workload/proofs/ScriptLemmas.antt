-- The verdict on the lines of a script's block.
use Rattle.std.proofs.Common.{◌≡◌, ℕ, ◌+◌, ◌<◌, true, false, List, [], ◌∷◌, ◌++◌, append-nil, length, map, set, get_or, Option, None, refl, sym, ap, ◌∙◌, subst}
use Rattle.std.specs.Option.{option_map}
use Rattle.std.proofs.lemmas.Bool.{false≢true}
use Rattle.std.proofs.lemmas.List.{map-set, get_or-map}
use Rattle.sd_types.specs.declared.numbers.ThreadId.{ThreadId}
use Rattle.sd_types.specs.declared.scripts.Op.{Op}
use Rattle.sd_types.specs.declared.works.ThreadDecl.{ThreadDecl}
use Rattle.sd_lines.specs.Words.{Line, is_end, only_word}
use Rattle.sd_lines.specs.Operations.{operation_of}
use Rattle.sd_declare.specs.declared.causes.WorkCause.{WorkCause}
use Rattle.sd_declare.specs.declared.causes.WorkCause.TheVariants.{Syntax, Script}
use Rattle.sd_declare.specs.Declarations.{Thread, Declarations}
use Rattle.sd_declare.specs.Kept.{thread_kept}
use Rattle.sd_workload.specs.declared.fault.WorkFault.{WorkFault}
use Rattle.sd_workload.specs.LineStarts.{IsFault, IsFaultAt}
use Rattle.sd_workload.specs.Scripts.{end_fault}
use Rattle.sd_workload.specs.Texts.{Outside, InScript, unless_done, operation_cause, ops_of, with_script, no_thread, cause_of, declared_after, block_after, end_cause, Refuses, judged}
use Rattle.sd_workload.proofs.JudgedLemmas.{judged-end, judged-on, fault-at}

op-cause : (d : Declarations) (t : ThreadId) (ops : List Op) (line : Line) → is_end line ≡ false
    → cause_of d (InScript t ops) line ≡ unless_done line (operation_cause d ops (operation_of line))
unfolding cause_of
op-cause d t ops line h = rw h refl

-- a line without words
pub script-blank : (n m : ℕ) (d : Declarations) (t : ThreadId) (ops : List Op) (lines below : List Line) (line : Line) → lines ≡ line ∷ below → line ≡ []
    → m ≡ n + 1 → judged n d (InScript t ops) lines ≡ judged m d (InScript t ops) below
unfolding cause_of declared_after block_after operation_of only_word
script-blank n m d t ops lines below line is blank next =
    judged-on n m d d (InScript t ops) (InScript t ops) lines below [] (is ∙ ap (λ l. l ∷ below) blank) refl next refl (ap (InScript t) (sym (append-nil ops)))

-- a line inside the block
pub script-on : (n m : ℕ) (d : Declarations) (t : ThreadId) (ops new : List Op) (lines below : List Line) (line : Line) → lines ≡ line ∷ below → is_end line ≡ false
    → unless_done line (operation_cause d ops (operation_of line)) ≡ None → m ≡ n + 1 → new ≡ ops ++ ops_of d (operation_of line)
    → judged n d (InScript t ops) lines ≡ judged m d (InScript t new) below
unfolding declared_after block_after
script-on n m d t ops new lines below line is inside none next push =
    judged-on n m d d (InScript t ops) (InScript t new) lines below line is (op-cause d t ops line inside ∙ none) next (rw inside refl) (rw (inside, push) refl)

pub script-stop : (n : ℕ) (d : Declarations) (t : ThreadId) (ops : List Op) (lines below : List Line) (line : Line) (f : WorkFault) → lines ≡ line ∷ below → is_end line ≡ false
    → IsFaultAt n (unless_done line (operation_cause d ops (operation_of line))) f → IsFault (judged n d (InScript t ops) lines) f
script-stop n d t ops lines below line f is inside h =
    fault-at n d (InScript t ops) lines below line f is (subst (λ (o : Option WorkCause). IsFaultAt n o f) (sym (op-cause d t ops line inside)) h)

close-cause : (d : Declarations) (t : ThreadId) (ops : List Op) (line : Line) → is_end line ≡ true → cause_of d (InScript t ops) line ≡ option_map Script (end_fault ops)
unfolding cause_of only_word
close-cause d t ops [] h = absurd (false≢true h)
close-cause d t ops (word ∷ words) h = rw h refl

-- the line that closes the block
pub script-close : (n m : ℕ) (d : Declarations) (t : ThreadId) (ops new : List Op) (lines below : List Line) (line : Line) → lines ≡ line ∷ below → is_end line ≡ true
    → end_fault ops ≡ None → m ≡ n + 1 → new ≡ ops → judged n d (InScript t ops) lines ≡ judged m (with_script d t new) Outside below
unfolding declared_after block_after
script-close n m d t ops new lines below line is close none next same =
    judged-on n m d (with_script d t new) (InScript t ops) Outside lines below line is
    (close-cause d t ops line close ∙ ap (option_map Script) none) next (rw (close, same) refl) (rw close refl)

pub script-held : (n : ℕ) (d : Declarations) (t : ThreadId) (ops : List Op) (lines below : List Line) (line : Line) (f : WorkFault) → lines ≡ line ∷ below → is_end line ≡ true
    → IsFaultAt n (option_map Script (end_fault ops)) f → IsFault (judged n d (InScript t ops) lines) f
script-held n d t ops lines below line f is close h =
    fault-at n d (InScript t ops) lines below line f is (subst (λ (o : Option WorkCause). IsFaultAt n o f) (sym (close-cause d t ops line close)) h)

-- the end of the input
pub script-open : (n : ℕ) (d : Declarations) (t : ThreadId) (ops : List Op) (lines : List Line) → lines ≡ [] → judged n d (InScript t ops) lines ≡ Refuses n Syntax
unfolding end_cause
script-open n d t ops lines is = judged-end n d (InScript t ops) lines is

-- the threads, of which one was given these operations
pub script-kept : (ts : List ThreadDecl) (i : ℕ) (x y : ThreadDecl) (ops : List Op) → i < length ts → x ≡ get_or ts i x
    → thread_kept y ≡ record (thread_kept x) { ops = ops }
    → map thread_kept (set ts i y) ≡ set (map thread_kept ts) i (record (get_or (map thread_kept ts) i no_thread) { ops = ops })
script-kept ts i x y ops h is same =
    map-set thread_kept ts i y
    ∙ ap (set (map thread_kept ts) i) (same ∙ ap (λ (z : Thread). record z { ops = ops }) (ap thread_kept is ∙ sym (get_or-map thread_kept ts i x no_thread h)))
