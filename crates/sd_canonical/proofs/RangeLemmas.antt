-- What is declared by lines of which none is at fault has numbers of users and counts of 16 bits.
use Rattle.std.proofs.Common.{◌≡◌, ℕ, zero, suc, ◌+◌, Bool, true, leb, set, get_or, List, [], ◌∷◌, Option, Some, None, refl, sym, ap, ◌∙◌, subst}
use Rattle.std.proofs.lemmas.Bool.{and_parts, not-false}
use Rattle.std.specs.List.{list_all}
use Rattle.std.proofs.lemmas.Option.{none-some}
use Rattle.std.proofs.lemmas.List.Folds.{list_all-map}
use Rattle.sd_basics.proofs.Truths.{either}
use Rattle.sd_types.specs.declared.numbers.ThreadId.{ThreadId}
use Rattle.sd_types.specs.declared.scripts.Op.{Op}
use Rattle.sd_types.specs.declared.works.ChanKind.{ChanKind}
use Rattle.sd_types.specs.declared.works.ChanKind.TheVariants as kind
use Rattle.sd_types.specs.declared.works.Work.{Work}
use Rattle.sd_dispadmin.specs.TableText.{word_lines}
use Rattle.sd_lines.specs.declared.statements.TableClass.{TableClass}
use Rattle.sd_lines.specs.declared.statements.TableClass.TheVariants as table
use Rattle.sd_lines.specs.Words.{Word, Line, is_end}
use Rattle.sd_lines.specs.Threads.{Thread as ThreadLine}
use Rattle.sd_lines.specs.Statements.{Statement, Table, Chan, Sema, Declare, Script, statement_of}
use Rattle.sd_declare.specs.declared.causes.WorkCause.{WorkCause}
use Rattle.sd_declare.specs.declared.causes.WorkCause.TheVariants.{Syntax}
use Rattle.sd_declare.specs.Causes.{least}
use Rattle.sd_declare.specs.Declarations.{Thread, Declarations, nothing}
use Rattle.sd_declare.specs.Kept.{chan_kept, thread_kept}
use Rattle.sd_declare.specs.Statements.{is_class, statement_causes, thread_causes, sema_causes, thread_of, with_statement}
use Rattle.sd_workload.specs.Accepted.{Accepted}
use Rattle.sd_workload.specs.Texts.{Block, Outside, InTable, InScript, stated_cause, stated, unless_done, with_table, with_script, no_thread, cause_of, declared_after, block_after, end_cause, Verdict, Accepts, unless_refused, judged}
use Rattle.sd_workload.proofs.ClearLemmas.{clear}
use Rattle.sd_workload.proofs.FirstLemmas.{apart, same-accepted}
use Rattle.sd_workload.proofs.LineLemmas.{all-push}
use Rattle.sd_types.specs.Works.{has_small_count}
use Rattle.sd_canonical.specs.Valid.{IsValid}

abbrev user-fits : Thread → Bool
user-fits t = leb t.uid 65535

abbrev kind-fits : Word × ChanKind → Bool
kind-fits k = has_small_count k.1

record InRange (d : Declarations) : Type 0 where
  uids : list_all user-fits d.threads ≡ true
  counts : list_all kind-fits d.chans ≡ true

-- ---- statements

thread-kept : (d : Declarations) (t : ThreadLine) → least (thread_causes d t) ≡ None → leb t.uid 65535 ≡ true
thread-kept d t h = (and_parts (is_class t.class) (leb t.uid 65535) (not-false _ (clear (thread_causes d t) h).range)).1

sema-kept : (d : Declarations) (name : Word) (n : ℕ) → least (sema_causes d name n) ≡ None → leb n 65535 ≡ true
sema-kept d name n h = not-false _ (clear (sema_causes d name n) h).range

statement-kept : (d : Declarations) (s : Statement) → least (statement_causes d s) ≡ None → InRange d → InRange (with_statement d s)
statement-kept d (Table class) h r = r
statement-kept d (Chan name) h r = record { uids = r.uids; counts = all-push kind-fits d.chans (name, kind.Chan) r.counts refl }
statement-kept d (Sema name n) h r = record { uids = r.uids; counts = all-push kind-fits d.chans (name, kind.Sema n) r.counts (sema-kept d name n h) }
statement-kept d (Declare t) h r = record { uids = all-push user-fits d.threads (thread_of d t) r.uids (thread-kept d t h); counts = r.counts }
statement-kept d (Script name) h r = r
statement-kept d s h r = record { uids = r.uids; counts = r.counts }

stated-kept : (d : Declarations) (o : Option Statement) → stated_cause d o ≡ None → InRange d → InRange (stated d o)
stated-kept d None h r = absurd (none-some Syntax (sym h))
stated-kept d (Some s) h r = statement-kept d s h r

outside-kept : (d : Declarations) (line : Line) → unless_done line (stated_cause d (statement_of line)) ≡ None → InRange d → InRange (stated d (statement_of line))
unfolding statement_of
outside-kept d [] h r = r
outside-kept d (word ∷ words) h r = stated-kept d (statement_of (word ∷ words)) h r

-- ---- blocks

table-kept : (d : Declarations) (class : TableClass) (lines : List Line) → InRange d → InRange (with_table d class lines)
table-kept d table.Ts lines r = record { uids = r.uids; counts = r.counts }
table-kept d table.Fx lines r = record { uids = r.uids; counts = r.counts }
table-kept d table.Rt lines r = record { uids = r.uids; counts = r.counts }

pub all-set : {X : Type 0} (p : X → Bool) (xs : List X) (i : ℕ) (y : X) → list_all p xs ≡ true → p y ≡ true → list_all p (set xs i y) ≡ true
all-set p [] i y h here = refl
all-set p (x ∷ xs) zero y h here = rw (here, (and_parts (p x) (list_all p xs) h).1) refl
all-set p (x ∷ xs) (suc i) y h here = let q = and_parts (p x) (list_all p xs) h in rw (q.0, all-set p xs i y q.1 here) refl

all-get : {X : Type 0} (p : X → Bool) (xs : List X) (i : ℕ) (d : X) → list_all p xs ≡ true → p d ≡ true → p (get_or xs i d) ≡ true
all-get p [] i d h here = here
all-get p (x ∷ xs) zero d h here = (and_parts (p x) (list_all p xs) h).0
all-get p (x ∷ xs) (suc i) d h here = all-get p xs i d (and_parts (p x) (list_all p xs) h).1 here

script-kept : (d : Declarations) (t : ThreadId) (ops : List Op) → InRange d → InRange (with_script d t ops)
script-kept d t ops r = record {
  uids = all-set user-fits d.threads t.0 (record (get_or d.threads t.0 no_thread) { ops = ops }) r.uids (all-get user-fits d.threads t.0 no_thread r.uids refl);
  counts = r.counts;
}

line-kept : (d : Declarations) (b : Block) (line : Line) → cause_of d b line ≡ None → InRange d → InRange (declared_after d b line)
unfolding cause_of declared_after
line-kept d Outside line h r = outside-kept d line h r
line-kept d (InTable class above) line h r = either InRange (is_end line) (with_table d class above) d (table-kept d class above r) r
line-kept d (InScript t ops) line h r = either InRange (is_end line) (with_script d t ops) d (script-kept d t ops r) r

-- ---- texts

pub unrefused : (n : ℕ) (c : Option WorkCause) (v : Verdict) (e : Declarations) → unless_refused n c v ≡ Accepts e → (c ≡ None) × (v ≡ Accepts e)
unrefused n None v e h = (refl, h)
unrefused n (Some cause) v e h = absurd (apart e n cause (sym h))

lines-kept : (lines : List Line) (n : ℕ) (d e : Declarations) (b : Block) → judged n d b lines ≡ Accepts e → InRange d → InRange e
unfolding judged
lines-kept [] n d e b h r = subst InRange (same-accepted d e (unrefused n (end_cause d b) (Accepts d) e h).1) r
lines-kept (line ∷ lines) n d e b h r =
    let p = unrefused n (cause_of d b line) (judged (n + 1) (declared_after d b line) (block_after d b line) lines) e h in
    lines-kept lines (n + 1) (declared_after d b line) e (block_after d b line) p.1 (line-kept d b line p.0 r)

pub accepted-valid : (text : List ℕ) (w : Work) → Accepted text w → IsValid w
accepted-valid text w a =
    let r = lines-kept (word_lines text) 1 nothing a.declares Outside a.accepted (record { uids = refl; counts = refl }) in
    record {
      uids = sym (list_all-map user-fits thread_kept w.threads) ∙ ap (list_all user-fits) a.work.threads ∙ r.uids;
      counts = sym (list_all-map kind-fits chan_kept w.chans) ∙ ap (list_all kind-fits) a.work.chans ∙ r.counts;
    }
