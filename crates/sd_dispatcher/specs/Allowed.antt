-- The processors on which a thread may run, and where it is put by them.
-- Source: this project's own.
use Rattle.std.specs.Prelude.{ℕ, Bool, List, Option, Some, None, if◌then◌else◌}
use Rattle.sd_types.specs.declared.numbers.CpuId.{CpuId}
use Rattle.sd_types.specs.declared.events.Put.{Put}
use Rattle.sd_rules.specs.ChoiceFunctions.{chosen}
use Rattle.sd_machine.specs.Choosing.{is_settled, numbers_read, put_on}
use Rattle.sd_dispatcher.specs.declared.choosing.Allowed.{Allowed}
use Rattle.sd_dispatcher.specs.declared.choosing.Allowed.TheVariants.{Bound, Open}

-- the list of them
abbrev pub allowed : Allowed → List CpuId
allowed (Open cpus) = cpus.now
allowed (Bound one) = one

-- where a thread of priority p is put by these processors, the one to which it is bound, its last one and whether it is warm there, where that
-- is settled before anything is read
abbrev pub settled_put : List CpuId → Option CpuId → CpuId → Bool → ℕ → Option Put
settled_put cpus bound last warm p =
    if is_settled cpus last warm then Some (put_on p bound (chosen cpus (numbers_read cpus None) last warm)) else None
