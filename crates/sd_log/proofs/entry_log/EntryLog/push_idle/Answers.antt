use Rattle.std.proofs.Common.{◌≡◌, ◌+◌, ◌++◌, ◌∷◌, [], length, sym, ap, ◌∙◌, subst, zero-add, arith}
use Rattle.std.proofs.lemmas.List.Elements.{All-append, All-cons, All-nil}
use Rattle.sd_types.specs.declared.events.Entry.{Entry}
use Rattle.sd_types.specs.declared.events.Event.TheVariants.{Idle}
use Rattle.sd_log.specs.Logged.{AreWithin, Logged, entries_from}
use Rattle.sd_log.specs.Parts.{zeros_read}
use Rattle.sd_log.specs.Short.{IsWithin, entry_at}
use Rattle.sd_log.proofs.LogLemmas.{entries-length, entries-push}
use Rattle.sd_log.proofs.entry_log.EntryLog.push_idle.Goals as goal

pub invariant_of-self : goal.invariant_of-self
invariant_of-self c =
    let bytes = c.self.inside.bytes.items in
    let xs = c.self.inside.short.items in
    let within = IsWithin (length bytes) in
    let items =
    subst (AreWithin (length bytes)) (sym c.push_reserved.ensures.items)
    (All-append within xs (c.idle.result ∷ []) c.self.invariant.0 (All-cons within c.idle.result [] (c.idle.ensures.within (length bytes)) (All-nil within))) in
    (items, grind (arith, c.self.invariant.1))

pub returns : goal.returns
returns c =
    let bytes = c.self.inside.bytes.items in
    let xs = c.self.inside.short.items in
    let x = c.idle.result in
    let same = ap (λ (v : Logged). v.items) c.self.view_is in
    let number : 0 + length xs ≡ length c.args.self.now.items = zero-add (length xs) ∙ sym (entries-length bytes 0 xs) ∙ ap length same in
    let last =
    c.idle.ensures.entry bytes (0 + length xs)
    ∙ ap (λ k. let e : Entry = record { number = k; cpu = c.args.cpu; event = Idle; hints = zeros_read c.args.count } in e) number in
    record {
      items =
          ap (entries_from bytes 0) c.push_reserved.ensures.items ∙ entries-push bytes 0 xs x
          ∙ ap (λ es. es ++ entry_at bytes (0 + length xs) x ∷ []) same ∙ ap (λ e. c.args.self.now.items ++ e ∷ []) last;
    }
