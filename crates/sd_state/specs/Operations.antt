-- The operation at which a thread stands, and what remains of the thread when it is over.
-- Source: this project's own (scripts).
use Rattle.std.specs.Prelude.{ℕ, ◌+◌, ◌-◌, List, slice_get, nat_le, Option, Some, if◌then◌else◌}
use Rattle.sd_types.specs.declared.scripts.Op.{Op}
use Rattle.sd_types.specs.declared.scripts.Op.TheVariants.{Run}
use Rattle.sd_types.specs.declared.bodies.ThreadBody.{ThreadBody}
use Rattle.sd_types.specs.declared.works.Work.{Work}
use Rattle.std.specs.Prelude.{option_map, unwrap_or, []}

-- the operations of a thread; a number that no thread has stands for none
abbrev pub script_of : Work → ℕ → List Op
script_of w t = unwrap_or (option_map (λ d. d.script.ops) (slice_get w.threads t)) []

-- the operation at which a thread stands, None after the last
abbrev pub op_of : Work → ℕ → ThreadBody → Option Op
op_of w t b = slice_get (script_of w t) b.op

-- the ticks that an operation has when it begins
abbrev pub ticks_at : Option Op → ℕ
ticks_at (Some (Run n)) = n
ticks_at _ = 0

-- the operation is over
abbrev pub op_over : List Op → ThreadBody → ThreadBody
op_over ops b = record b { op = b.op + 1; run_left = ticks_at (slice_get ops (b.op + 1)) }

-- a tick of a run operation
abbrev pub ran : List Op → ThreadBody → ThreadBody
ran ops b = if nat_le b.run_left 1 then op_over ops b else record b { run_left = b.run_left - 1 }
