-- Locks that readers hold. Source: Solaris Internals (rw_enter, rw_exit).
use Rattle.std.specs.Prelude.{◌≡◌, ℕ, ◌≤◌}
use Rattle.sd_state.specs.declared.states.LockState.TheVariants.{ReadHeld}
use Rattle.sd_state.specs.declared.states.State.{State}
use Rattle.sd_machine.specs.Threads.{lock_of}

-- a lock that n readers hold has one of them
abbrev pub ReadersAreSome : State → Type 0
ReadersAreSome s = (l n : ℕ) → lock_of s l ≡ ReadHeld n → 1 ≤ n
