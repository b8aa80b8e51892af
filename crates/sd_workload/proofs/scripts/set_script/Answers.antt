use Rattle.std.proofs.Common.{List, ℕ, map, set, get_or, refl, sym, ap, ◌∙◌, arith}
use Rattle.std.proofs.Math.Seq.{map-set_same}
use Rattle.std.proofs.Math.ListN.{length-set}
use Rattle.sd_types.specs.declared.works.ThreadDecl.{ThreadDecl}
use Rattle.sd_types.specs.declared.numbers.ThreadId.{ThreadId}
use Rattle.sd_declare.specs.Declarations.{Thread}
use Rattle.sd_declare.specs.Kept.{declarations, thread_kept}
use Rattle.sd_workload.specs.Texts.{no_thread}
use Rattle.sd_workload.proofs.ScriptLemmas.{script-kept}
use Rattle.sd_workload.proofs.scripts.set_script.Goals as goal

pub returns : goal.returns
returns c =
    let items = c.args.d.now.threads.items in
    let old : List Thread = map thread_kept items in
    let given : ℕ → List Thread = λ n. set old n (record (get_or old n no_thread) { ops = c.args.script.ops }) in
    let kept = script-kept items c.from.result c.index_mut.result.now (record c.index_mut.result.now { script = c.args.script }) c.args.script.ops
    (omega (arith, c.from.ensures, c.requires)) c.index_mut.ensures.value refl in
    ap (λ (ts : List Thread). record (declarations c.args.d.now) { threads = ts; scripted = c.push.new.self }) (kept ∙ ap given c.from.ensures)
    ∙ ap (λ (ss : List ThreadId). record (declarations c.args.d.now) { threads = given c.args.thread.0; scripted = ss }) c.in_ok-push.ensures.ok

pub invariant_of-d-2-clause-threads_named : goal.invariant_of-d-2-clause-threads_named
invariant_of-d-2-clause-threads_named c =
    let items = c.args.d.now.threads.items in
    let x = c.index_mut.result.now in
    c.args.d.now.threads_named
    ∙ sym (map-set_same (λ (t : ThreadDecl). t.name.text.items) items c.from.result (record x { script = c.args.script }) x
    (ap (λ (t : ThreadDecl). t.name.text.items) c.index_mut.ensures.value))

pub invariant_of-d-2-clause-most_threads : goal.invariant_of-d-2-clause-most_threads
invariant_of-d-2-clause-most_threads c =
    let items = c.args.d.now.threads.items in
    let x = c.index_mut.result.now in
    let many = length-set items c.from.result (record x { script = c.args.script }) in
    let most = c.args.d.now.most_threads in
    omega (arith, many, most)
