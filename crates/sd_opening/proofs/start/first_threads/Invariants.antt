use Rattle.std.proofs.Common.{◌≡◌, ◌++◌, drop}
use Rattle.sd_state.specs.Opening.{first_threads}
use Rattle.sd_opening.specs.Dealt.{AreDealt}
use Rattle.sd_opening.proofs.start.first_threads.Given as goal

-- what was made, and what the rest of the declarations makes
abbrev pub invariant-loop-t : goal.invariant-loop-t
invariant-loop-t l = (l.threads.items ++ first_threads l.work l.t (drop l.t l.decls) ≡ first_threads l.work 0 l.decls) × AreDealt l.work l.t l.dealing.dealt
