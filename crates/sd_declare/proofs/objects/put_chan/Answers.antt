use Rattle.std.proofs.Common.{◌≡◌, ℕ, List, false, sym, subst}
use Rattle.std.specs.List.{list_any}
use Rattle.sd_types.specs.Works.{same_bytes}
use Rattle.sd_types.specs.declared.works.ChanKind.{ChanKind}
use Rattle.sd_lines.specs.Words.{Word}
use Rattle.sd_lines.specs.Said.{word_of}
use Rattle.sd_declare.specs.Declarations.{chan_number}
use Rattle.sd_declare.specs.Kept.{chan_kept}
use Rattle.sd_declare.proofs.PlaceLemmas.{not-named}
use Rattle.sd_declare.proofs.objects.put_chan.Goals as goal

pub push-requires-clause-new : goal.push-requires-clause-new
unfolding chan_number
push-requires-clause-new c =
    let word = word_of c.args.name in
    let new = not-named chan_kept (λ (x : Word × ChanKind). x.0) c.args.d.now.chans.items word c.requires.new in
    let listed = subst (λ (names : List Word). list_any (λ n. same_bytes n word) names ≡ false) (sym c.args.d.now.chans_named) new in
    subst (λ (w : List ℕ). list_any (λ n. same_bytes n w) c.args.d.now.chan_names ≡ false) (sym c.bytes.ensures) listed
