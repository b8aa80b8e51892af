-- What was read of an input, and what the reading of a workload or of a certificate returns, in the language in which the text of the
-- workload is written.
-- Source: this project's own.
use Rattle.std.specs.Prelude.{◌≡◌, ℕ, ◌+◌, ◌<◌, ◌≤◌, List, length, take, drop, Result, Ok, Err}
use Rattle.std.specs.Io.KnownBytes.{Consumes, IsAtEnd}
use Rattle.std.specs.declared.vec.Vec.{Vec}
use Rattle.std.specs.declared.alloc.Global.{Global}
use Rattle.sd_types.specs.declared.works.Work.{Work}
use Rattle.sd_types.specs.Limits.{most_workload_bytes, most_certificate_bytes}
use Rattle.sd_declare.specs.declared.causes.WorkCause.{WorkCause}
use Rattle.sd_answers.specs.Cuts.{HasNoJournal, IsCut}
use Rattle.sd_answers.specs.Languages.{Language}
use Rattle.sd_answers.specs.declared.cuts.Cut.{Cut}
use Rattle.sd_answers.specs.declared.answers.Answer.{Answer}
use Rattle.sd_answers.specs.declared.answers.Answer.TheVariants.{TooLarge, TooLargeToAudit, NoJournal, Refused, ReadFault, OutOfMemory}
use Rattle.sd_answers.specs.declared.inputs.Certificate.{Certificate}
use Rattle.sd_answers.specs.declared.inputs.Parts.{Parts}
use Rattle.sd_answers.specs.StreamChanges.{StreamChange, HasFault, HasNoFault}

-- the input was read to its end, without a fault, and has no more bytes than this
pub record HasAtMost (most : ℕ) (input : StreamChange) : Type 0 where
  pub bytes : List ℕ
  pub took : Consumes input.before input.after bytes
  pub to_end : IsAtEnd input.after
  pub bound : length bytes ≤ most
  pub no_fault : HasNoFault input

-- the input was read to its end, without a fault, and these are its bytes
pub record HasRead (most : ℕ) (input : StreamChange) (bytes : List ℕ) : Type 0 where
  pub took : Consumes input.before input.after bytes
  pub to_end : IsAtEnd input.after
  pub bound : length bytes ≤ most
  pub no_fault : HasNoFault input

-- one byte more than that was read, without a fault
pub record HasTooMany (most : ℕ) (input : StreamChange) : Type 0 where
  pub bytes : List ℕ
  pub took : Consumes input.before input.after bytes
  pub many : length bytes ≡ most + 1
  pub no_fault : HasNoFault input

-- ---- the text of a workload

-- what has been read, or why it was not
abbrev pub IsReadingText : StreamChange → Result (Vec ℕ Global) Answer → Type 0
IsReadingText input (Ok bytes) = HasRead most_workload_bytes input bytes.items
IsReadingText input (Err TooLarge) = HasTooMany most_workload_bytes input
IsReadingText input (Err ReadFault) = HasFault input
IsReadingText input (Err OutOfMemory) = HasAtMost most_workload_bytes input
IsReadingText input (Err _) = ⊥

-- ---- a workload

-- the input spells a workload
pub record IsWorkload (L : Language) (input : StreamChange) (w : Work) : Type 0 where
  pub bytes : List ℕ
  pub read : HasRead most_workload_bytes input bytes
  pub accepted : L.Spells bytes w

-- the input spells none: this is the first line at fault, from 1, and the least of its causes
pub record IsNoWorkload (L : Language) (input : StreamChange) (line : ℕ) (cause : WorkCause) : Type 0 where
  pub bytes : List ℕ
  pub read : HasRead most_workload_bytes input bytes
  pub first : L.RefusesAt bytes line cause

-- why an input is no workload
abbrev pub IsRefused : Language → StreamChange → Answer → Type 0
IsRefused L input TooLarge = HasTooMany most_workload_bytes input
IsRefused L input (Refused line cause) = IsNoWorkload L input line cause
IsRefused L input ReadFault = HasFault input
IsRefused L input OutOfMemory = HasAtMost most_workload_bytes input
IsRefused L input _ = ⊥

abbrev pub IsReading : Language → StreamChange → Result Work Answer → Type 0
IsReading L input (Ok w) = IsWorkload L input w
IsReading L input (Err a) = IsRefused L input a

-- ---- a certificate

-- the input was read to its end, and has a line `journal`: what stands before it and behind it
pub record HasParts (input : StreamChange) (before text : List ℕ) : Type 0 where
  pub bytes : List ℕ
  pub read : HasRead most_certificate_bytes input bytes
  pub cut : IsCut bytes before text

-- the input was read to its end, and this is where it is cut: before the line `journal` stands no more than a workload may have
pub record AreParts (input : StreamChange) (bytes : List ℕ) (cut : Cut) : Type 0 where
  pub parts : HasParts input (take cut.workload_end bytes) (drop cut.journal_start bytes)
  pub workload_within : cut.workload_end ≤ length bytes
  pub journal_within : cut.journal_start ≤ length bytes
  pub bound : length (take cut.workload_end bytes) ≤ most_workload_bytes

-- the input is the text of a workload, the line `journal` and this text
pub record IsCertificate (L : Language) (input : StreamChange) (w : Work) (text : List ℕ) : Type 0 where
  pub before : List ℕ
  pub parts : HasParts input before text
  pub bound : length before ≤ most_workload_bytes
  pub accepted : L.Spells before w

-- the input was read to its end, and no line is `journal`
pub record LacksJournal (input : StreamChange) : Type 0 where
  pub bytes : List ℕ
  pub read : HasRead most_certificate_bytes input bytes
  pub none : HasNoJournal bytes

-- what stands before the line `journal` is more than a workload may have
pub record HasLargeWorkload (input : StreamChange) : Type 0 where
  pub before : List ℕ
  pub text : List ℕ
  pub parts : HasParts input before text
  pub many : most_workload_bytes < length before

-- what stands before the line `journal` spells no workload
pub record HasNoWorkload (L : Language) (input : StreamChange) (line : ℕ) (cause : WorkCause) : Type 0 where
  pub before : List ℕ
  pub text : List ℕ
  pub parts : HasParts input before text
  pub bound : length before ≤ most_workload_bytes
  pub first : L.RefusesAt before line cause

-- why an input is no certificate
abbrev pub IsNoCertificate : Language → StreamChange → Answer → Type 0
IsNoCertificate L input TooLargeToAudit = HasTooMany most_certificate_bytes input
IsNoCertificate L input NoJournal = LacksJournal input
IsNoCertificate L input TooLarge = HasLargeWorkload input
IsNoCertificate L input (Refused line cause) = HasNoWorkload L input line cause
IsNoCertificate L input ReadFault = HasFault input
IsNoCertificate L input OutOfMemory = HasAtMost most_certificate_bytes input
IsNoCertificate L input _ = ⊥

abbrev pub IsReadingCertificate : Language → StreamChange → Result Certificate Answer → Type 0
IsReadingCertificate L input (Ok found) = IsCertificate L input found.work found.journal.items
IsReadingCertificate L input (Err a) = IsNoCertificate L input a

-- the bytes of a certificate
abbrev pub IsReadingBytes : StreamChange → Result (Vec ℕ Global) Answer → Type 0
IsReadingBytes input (Ok bytes) = HasRead most_certificate_bytes input bytes.items
IsReadingBytes input (Err TooLargeToAudit) = HasTooMany most_certificate_bytes input
IsReadingBytes input (Err ReadFault) = HasFault input
IsReadingBytes input (Err OutOfMemory) = HasAtMost most_certificate_bytes input
IsReadingBytes input (Err _) = ⊥

-- the parts of a certificate, or why there are none
abbrev pub IsReadingParts : StreamChange → Result Parts Answer → Type 0
IsReadingParts input (Ok found) = AreParts input found.bytes.items found.cut
IsReadingParts input (Err TooLargeToAudit) = HasTooMany most_certificate_bytes input
IsReadingParts input (Err NoJournal) = LacksJournal input
IsReadingParts input (Err TooLarge) = HasLargeWorkload input
IsReadingParts input (Err ReadFault) = HasFault input
IsReadingParts input (Err OutOfMemory) = HasAtMost most_certificate_bytes input
IsReadingParts input (Err _) = ⊥
