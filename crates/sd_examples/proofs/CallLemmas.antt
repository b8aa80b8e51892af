-- What a call did to streams in memory.
use Rattle.std.proofs.Common.{◌≡◌, ℕ, List, [], Some, refl, ap, subst}
use Rattle.sd_text.specs.Memory.{SourceState, SinkState}
use Rattle.sd_answers.specs.StreamChanges.{StreamChange, change_of}
use Rattle.sd_examples.specs.Calls.{Writes}

-- what a call did to a source and to a sink in memory
abbrev pub source_change : SourceState → SourceState → StreamChange
source_change old new = change_of (Some old.left) (Some new.left) old.faults new.faults

abbrev pub sink_change : SinkState → SinkState → StreamChange
sink_change old new = change_of (Some old.held) (Some new.held) old.faults new.faults

-- a call with these arguments wrote what its output holds
pub writes-of : (P : List (List ℕ) → StreamChange → StreamChange → StreamChange → ℕ → Type 0) (arguments words : List (List ℕ)) (bytes : List ℕ)
    (input input' : SourceState) (out out' err err' : SinkState) (status : ℕ)
    → arguments ≡ words → (input.left ≡ bytes) × (input.faults ≡ 0) → (out.held ≡ []) × (out.faults ≡ 0)
    → P arguments (source_change input input') (sink_change out out') (sink_change err err') status
    → Writes (P words) bytes out'.held status
writes-of P arguments words bytes input input' out out' err err' status are given empty promised = record {
  input = source_change input input';
  out = sink_change out out';
  err = sink_change err err';
  reads = ap Some given.0;
  empty = ap Some empty.0;
  written = refl;
  no_read_fault = given.1;
  no_write_fault = empty.1;
  promised = subst (λ (ws : List (List ℕ)). P ws (source_change input input') (sink_change out out') (sink_change err err') status) are promised;
}
