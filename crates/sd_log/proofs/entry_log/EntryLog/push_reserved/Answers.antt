use Rattle.std.proofs.Common.{◌≡◌, ◌+◌, ◌++◌, ◌∷◌, [], length, sym, ap, ◌∙◌, zero-add}
use Rattle.sd_types.specs.declared.events.Entry.{Entry}
use Rattle.sd_log.specs.Logged.{Logged, entries_from}
use Rattle.sd_log.specs.Parts.{numbers_of}
use Rattle.sd_log.specs.Short.{entry_at}
use Rattle.sd_log.proofs.LogLemmas.{entries-grow, entries-length, entries-push}
use Rattle.sd_log.proofs.entry_log.EntryLog.push_reserved.Goals as goal

pub returns : goal.returns
returns c =
    let bytes = c.self.inside.bytes.items in
    let more = c.shorten-short.new.bytes.items in
    let xs = c.self.inside.short.items in
    let x = c.shorten-short.result in
    let same = ap (λ (v : Logged). v.items) c.self.view_is in
    let number : 0 + length xs ≡ length c.args.self.now.items = zero-add (length xs) ∙ sym (entries-length bytes 0 xs) ∙ ap length same in
    let before = ap (λ b. entries_from b 0 xs) c.shorten-short.ensures.bytes ∙ entries-grow bytes (numbers_of c.args.hints.now) 0 xs c.self.invariant.0 ∙ same in
    let last =
    c.shorten-short.ensures.entry (0 + length xs)
    ∙ ap (λ k. let e : Entry = record { number = k; cpu = c.args.cpu; event = c.args.event; hints = c.args.hints.now } in e) number in
    record {
      items =
          ap (entries_from more 0) c.push_reserved.ensures.items ∙ entries-push more 0 xs x
          ∙ ap (λ es. es ++ entry_at more (0 + length xs) x ∷ []) before ∙ ap (λ e. c.args.self.now.items ++ e ∷ []) last;
    }
