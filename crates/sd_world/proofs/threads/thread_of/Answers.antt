use mir.Val.{SFits}
use Rattle.std.proofs.Common.{w64, rules, sym, ap, ◌∙◌, subst}
use Rattle.std.proofs.lemmas.Bool.{false≢true}
use Rattle.std.proofs.lemmas.Int.{to_z-of_z}
use Rattle.std.specs.Option.{option_copied}
use Rattle.sd_record.specs.declared.record.Kept.{Kept}
use Rattle.sd_record.specs.Records.{ThreadRecord}
use Rattle.sd_world.specs.Told.{IsDue}
use Rattle.sd_world.proofs.ThreadLemmas.{found_there, is_due, is_thread, stands_somewhere}
use Rattle.sd_world.proofs.threads.thread_of.Goals as goal

pub unreachable-requires : goal.unreachable-requires
unreachable-requires c = let (s, told, inside) = c.requires in false≢true (sym c.in-Err.ensures.1 ∙ stands_somewhere c.args.hand.now.slots s c.args.t.0 told inside)

pub unreachable-requires-in-None : goal.unreachable-requires-in-None
unreachable-requires-in-None c =
    let (s, told, inside) = c.requires in
    found_there c.args.hand.now.slots s c.args.t.0 told c.in-Ok.at c.in-Ok.ensures (ap option_copied (sym c.in-None.is) ∙ c.find.ensures)

pub place_at-requires : goal.place_at-requires
place_at-requires c =
    let (s, told, inside) = c.requires in
    let fits : SFits w64 c.deref-in-Some.result.now.key = search rules in
    let key = sym (ap (λ (r : ThreadRecord). r.key) c.thread.view_is) ∙ ap (λ (k : Kept). k.key) (sym c.deref-in-Some.ensures) ∙ sym (to_z-of_z w64 c.deref-in-Some.result.now.key fits) in
    subst (IsDue c.in-Ok.at) key
    (is_due c.args.hand.now.slots s c.args.t.0 told c.in-Ok.at c.in-Ok.ensures c.in-Some.thread.now (ap option_copied (sym c.in-Some.is) ∙ c.find.ensures))

pub returns : goal.returns
returns c s told inside =
    let fits : SFits w64 c.deref-in-Some.result.now.key = search rules in
    let key = sym (ap (λ (r : ThreadRecord). r.key) c.thread.view_is) ∙ ap (λ (k : Kept). k.key) (sym c.deref-in-Some.ensures) ∙ sym (to_z-of_z w64 c.deref-in-Some.result.now.key fits) in
    is_thread c.args.hand.now.slots s c.args.t.0 told c.in-Ok.at c.in-Ok.ensures c.in-Some.thread.now (ap option_copied (sym c.in-Some.is) ∙ c.find.ensures)
    c.copied_body.result c.place_at.result
    (c.copied_body.ensures ∙ (ap (λ (k : Kept). k.body) c.deref.ensures ∙ ap (λ (r : ThreadRecord). r.body) c.thread.view_is))
    (λ last p e f. c.place_at.ensures last p e (f ∙ key))
