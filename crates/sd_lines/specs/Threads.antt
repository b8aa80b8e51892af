-- The line that declares a thread, behind its first word: `NAME ts CPUPRI LIMIT UPRI`, `NAME fx LIMIT PRI Q`,
-- `NAME sys PRI` or `NAME rt PRI Q`, and then the options `uid N`, `priv` and `in SET`, in this order, each at most once.
-- Source: priocntl(2), psrset(1M); the options are this project's own.
use Rattle.std.specs.Prelude.{ℕ, Bool, true, false, [], ◌∷◌, cond, codes, Option, Some, None, option_map, option_and_then}
use Rattle.sd_types.specs.Works.{same_bytes}
use Rattle.sd_text.specs.Numbers.{number_of, signed_of}
use Rattle.sd_lines.specs.declared.threads.ThreadClass.{ThreadClass}
use Rattle.sd_lines.specs.declared.threads.ThreadClass.TheVariants.{Ts, Fx, Sys, Rt}
use Rattle.sd_lines.specs.Words.{Word, Line, name_of, quantum_of, first, only, behind, is_done}

-- ---- the class, and the words behind it

-- `CPUPRI LIMIT UPRI`
unfoldable pub ts_words : Line → Option (ThreadClass × Line)
ts_words words =
    option_and_then (λ cpupri. option_and_then (λ limit. option_map (λ upri. (Ts cpupri.0 limit.0 upri.0, upri.1))
    (first signed_of limit.1)) (first signed_of cpupri.1)) (first number_of words)

-- `LIMIT PRI Q`
unfoldable pub fx_words : Line → Option (ThreadClass × Line)
fx_words words =
    option_and_then (λ limit. option_and_then (λ pri. option_map (λ quantum. (Fx limit.0 pri.0 quantum.0, quantum.1))
    (first quantum_of pri.1)) (first number_of limit.1)) (first number_of words)

-- `PRI`
unfoldable pub sys_words : Line → Option (ThreadClass × Line)
sys_words words = option_map (λ pri. (Sys pri.0, pri.1)) (first number_of words)

-- `PRI Q`
unfoldable pub rt_words : Line → Option (ThreadClass × Line)
rt_words words =
    option_and_then (λ pri. option_map (λ quantum. (Rt pri.0 quantum.0, quantum.1)) (first quantum_of pri.1)) (first number_of words)

-- the name of the class and its numbers
unfoldable pub class_words : Line → Option (ThreadClass × Line)
class_words [] = None
class_words (word ∷ words) =
    cond (same_bytes word (codes "ts")) (ts_words words)
    (cond (same_bytes word (codes "fx")) (fx_words words)
    (cond (same_bytes word (codes "sys")) (sys_words words)
    (cond (same_bytes word (codes "rt")) (rt_words words) None)))

-- ---- the options

pub record Options : Type 0 where
  pub uid : ℕ
  pub privileged : Bool
  pub set : Option Word

abbrev pub uid_words : Line → Option Line → Option (ℕ × Line)
uid_words words None = Some (0, words)
uid_words words (Some rest) = first number_of rest

-- `uid N`, or 0 where the words do not begin with it
unfoldable pub uid_option : Line → Option (ℕ × Line)
uid_option words = uid_words words (behind (codes "uid") words)

abbrev pub priv_words : Line → Option Line → Bool × Line
priv_words words None = (false, words)
priv_words words (Some rest) = (true, rest)

-- `priv`, or not
unfoldable pub priv_option : Line → Bool × Line
priv_option words = priv_words words (behind (codes "priv") words)

abbrev pub set_words : Line → Option Line → Option (Option Word)
set_words words None = cond (is_done words) (Some None) None
set_words words (Some rest) = option_map Some (only name_of rest)

-- `in SET`, or nothing more
unfoldable pub set_option : Line → Option (Option Word)
set_option words = set_words words (behind (codes "in") words)

unfoldable pub options : Line → Option Options
options words =
    option_and_then (λ uid. option_map (λ set. record { uid = uid.0; privileged = (priv_option uid.1).0; set = set })
    (set_option (priv_option uid.1).1)) (uid_option words)

-- ---- the line

pub record Thread : Type 0 where
  pub name : Word
  pub class : ThreadClass
  pub uid : ℕ
  pub privileged : Bool
  -- the name of its set
  pub set : Option Word

abbrev pub thread : Word → ThreadClass → Options → Thread
thread name class o = record { name = name; class = class; uid = o.uid; privileged = o.privileged; set = o.set }

unfoldable pub thread_line : Line → Option Thread
thread_line words =
    option_and_then (λ name. option_and_then (λ class. option_map (λ o. thread name.0 class.0 o)
    (options class.1)) (class_words name.1)) (first name_of words)
