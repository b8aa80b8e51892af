-- What `dispview` promises of a call, for each of its exit statuses. What is said of bytes is said of streams that tell
-- them (`before` and `after` are Some); the counts of faults are always told.
-- Source: this project's own.
use Rattle.std.specs.Prelude.{◌≡◌, ℕ, List, Some, None, ◌↔◌, ◌⊎◌}
use Rattle.sd_answers.specs.Certificates.{CompletesCertificate, RefusesCertificate, RefusesFaulty, RefusesJournal}
use Rattle.sd_answers.specs.Starts.{WritesHelp}
use Rattle.sd_answers.specs.StreamChanges.{StreamChange, TellsLine}
use Rattle.sd_set_inputs.specs.Sets.{sets}
use Rattle.sd_viewer.specs.declared.drawings.Drawing.{Drawing}
use Rattle.sd_viewer.specs.declared.forms.Request.TheVariants.{Help, Draw}
use Rattle.sd_viewer.specs.Forms.{request_of}
use Rattle.sd_viewer.specs.Viewing.{Draws, IsViewed, help_text}

-- the drawing was written whole, and its line was told
abbrev pub TellsDrawing : Drawing → StreamChange → StreamChange → StreamChange → Type 0
TellsDrawing drawing input out err = (line : List ℕ) × Draws drawing input out line × TellsLine err line

-- All that is promised of a call, from what it did to its streams: there is an answer with its cause, its status and its
-- line; status 0 says that the drawing of the complete legal run whose journal the input holds was written, and status 7
-- what is first at fault in the text behind the workload, of which nothing is written. The other sides, where a drawing is
-- asked for: the journal of a complete run is drawn; an input that is too large, has no journal or spells no workload is
-- refused with 2; a text that is no such journal is refused with 7; faults aside, and out of memory but where the input is too large.
-- Where the forms are asked for they are written, and nothing is read; the status is 0, or 4 where a write failed. And status 1
-- comes exactly where the arguments are of none of the forms.
pub record ShowsAsPromised (arguments : List (List ℕ)) (input out err : StreamChange) (status : ℕ) : Type 0 where
  pub answered : IsViewed arguments input out err status
  pub draws : (drawing : Drawing) → request_of arguments ≡ Some (Draw drawing) → status ≡ 0 → TellsDrawing drawing input out err
  pub faults : status ≡ 7 → RefusesJournal sets input out
  pub completes : (drawing : Drawing) → request_of arguments ≡ Some (Draw drawing) → CompletesCertificate sets input out status
  pub refuses : (drawing : Drawing) → request_of arguments ≡ Some (Draw drawing) → RefusesCertificate sets input status
  pub refuses_faulty : (drawing : Drawing) → request_of arguments ≡ Some (Draw drawing) → RefusesFaulty sets input status
  pub helps : request_of arguments ≡ Some Help → WritesHelp help_text input out status
  pub usage : (status ≡ 1) ↔ (request_of arguments ≡ None)
