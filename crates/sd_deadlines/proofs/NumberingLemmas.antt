-- The place of the first with a name, or behind the last.
use Rattle.std.proofs.Common.{◌≡◌, ℕ, List, length, unwrap_or}
use Rattle.std.specs.List.{position}
use Rattle.sd_text.proofs.LineLemmas.{index_or_length}
use Rattle.sd_types.specs.declared.works.Work.{Work}
use Rattle.sd_types.specs.Works.{same_bytes}
use Rattle.sd_deadlines.specs.Numbering.{chan_number, thread_number}

pub thread_placed : (w : Work) (name : List ℕ) → unwrap_or (position (λ d. same_bytes d.name.text.items name) w.threads) (length w.threads) ≡ thread_number w name
unfolding thread_number
thread_placed w name = index_or_length (λ d. same_bytes d.name.text.items name) w.threads

pub chan_placed : (w : Work) (name : List ℕ) → unwrap_or (position (λ k. same_bytes k.0.text.items name) w.chans) (length w.chans) ≡ chan_number w name
unfolding chan_number
chan_placed w name = index_or_length (λ k. same_bytes k.0.text.items name) w.chans
