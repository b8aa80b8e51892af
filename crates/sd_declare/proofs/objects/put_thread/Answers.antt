use Rattle.std.proofs.Common.{◌≡◌, ℕ, List, false, sym, subst}
use Rattle.std.specs.List.{list_any}
use Rattle.sd_types.specs.Works.{same_bytes}
use Rattle.sd_lines.specs.Words.{Word}
use Rattle.sd_lines.specs.Said.{word_of}
use Rattle.sd_declare.specs.Declarations.{Thread, thread_number}
use Rattle.sd_declare.specs.Kept.{thread_kept}
use Rattle.sd_declare.proofs.PlaceLemmas.{not-named}
use Rattle.sd_declare.proofs.objects.put_thread.Goals as goal

pub push-requires-clause-new : goal.push-requires-clause-new
unfolding thread_number
push-requires-clause-new c =
    let word = word_of c.args.thread.name in
    let new = not-named thread_kept (λ (x : Thread). x.name) c.args.d.now.threads.items word c.requires.new in
    let listed = subst (λ (names : List Word). list_any (λ n. same_bytes n word) names ≡ false) (sym c.args.d.now.threads_named) new in
    subst (λ (w : List ℕ). list_any (λ n. same_bytes n w) c.args.d.now.thread_names ≡ false) (sym c.bytes.ensures) listed
