-- A thread's record as contracts see it.
use Rattle.std.specs.Prelude.{ℕ, ℤ}
use Rattle.sd_types.specs.declared.numbers.LockId.{LockId}
use Rattle.sd_types.specs.declared.numbers.ThreadId.{ThreadId}
use Rattle.sd_types.specs.declared.bodies.ThreadBody.{ThreadBody}
use Rattle.sd_types.specs.Willed.{with_number, without_number, with_willed, with_lock, released}

-- the number of the thread, the thread without its place, and the key of its place
pub record ThreadRecord : Type 0 where
  pub id : ThreadId
  pub body : ThreadBody
  pub key : ℤ

-- the record with this number for a lock
abbrev pub inherited : ThreadRecord → LockId → ℕ → ThreadRecord
inherited r l n = record r { body = with_willed (with_number l n r.body.willed.items) r.body }

-- the record without a number for a lock
abbrev pub waived : ThreadRecord → LockId → ThreadRecord
waived r l = record r { body = with_willed (without_number l r.body.willed.items) r.body }

-- the record with the lock at the end of those that the thread holds
abbrev pub lock_taken : ThreadRecord → LockId → ThreadRecord
lock_taken r l = record r { body = with_lock l r.body }

-- the record without the lock and without a number for it
abbrev pub lock_released : ThreadRecord → LockId → ThreadRecord
lock_released r l = record r { body = released l r.body }
