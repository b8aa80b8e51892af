use Rattle.std.proofs.Common.{sym, ap, ◌∙◌}
use Rattle.std.proofs.lemmas.Bool.{false≢true}
use Rattle.sd_machine.specs.Texts.{entry_text}
use Rattle.sd_entries.specs.Fitting.{entry_fits}
use Rattle.sd_entries.specs.Reading.{entry_of}
use Rattle.sd_entries.proofs.SpellingLemmas.{line_read}
use Rattle.sd_entry_reader.proofs.read.read_entry.Goals as goal
use Rattle.sd_entry_reader.proofs.read.read_entry.Goals.{else-entry_fits-via-then-entry_fits+else-is_line_of, else-entry_fits-via-else-entry_fits}

pub returns-else-entry_fits-clause-none : goal.returns-else-entry_fits-clause-none
returns-else-entry_fits-clause-none c e spelled text =
    let same = c.entry_of-entry.ensures ∙ ap (entry_of c.args.names.now.work.now) c.at-words.ensures ∙ line_read c.args.names.now.work.now e spelled c.args.line.now text in
    elim c.else-entry_fits.branch [
      | else-entry_fits-via-then-entry_fits+else-is_line_of w ↦ false≢true (sym w.if-is_line_of.false ∙ w.is_line_of.ensures.1 (ap (entry_text c.args.names.now.work.now) same ∙ text))
      | else-entry_fits-via-else-entry_fits w ↦ false≢true (sym w.if-entry_fits.false ∙ c.entry_fits.ensures ∙ ap (entry_fits c.args.names.now.work.now) same ∙ spelled.fits)
    ]
