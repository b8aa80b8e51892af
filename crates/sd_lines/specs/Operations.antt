-- What a line of a script says, by its first word. A line that has none of these forms says nothing; the line that
-- closes the script is none of them.
-- Source: priocntl(2), psrset(1M); the words are this project's own.
use Rattle.std.specs.Prelude.{ℕ, [], ◌∷◌, cond, codes, Option, Some, None, option_map, option_and_then}
use Rattle.sd_types.specs.Works.{same_bytes}
use Rattle.sd_text.specs.Numbers.{number_of, signed_of}
use Rattle.sd_lines.specs.declared.operations.RequestLine.{RequestLine}
use Rattle.sd_lines.specs.declared.operations.RequestLine.TheVariants.{Ts, Fx, Sys, Rt}
use Rattle.sd_lines.specs.Words.{Word, Line, name_of, quantum_of, unless_dash, first, only, is_done}

pub data Operation : Type 0 where
  -- ticks
  Run : ℕ → Operation
  Yield : Operation
  -- ticks
  Nap : ℕ → Operation
  -- a channel
  Sleep : Word → Operation
  Wake : Word → Operation
  WakeAll : Word → Operation
  -- a mutex
  Enter : Word → Operation
  -- a rwlock
  Read : Word → Operation
  Write : Word → Operation
  -- a lock
  Exit : Word → Operation
  -- a thread
  Prio : Word → RequestLine → Operation
  -- a channel and a mutex
  CvWait : Word → Word → Operation
  -- a semaphore
  SemaP : Word → Operation
  SemaV : Word → Operation
  -- a processor and a set, or the default partition
  Assign : ℕ → Option Word → Operation
  -- a thread and a processor, or none
  Pbind : Word → Option ℕ → Operation

-- ---- requests of priocntl

-- `LIMIT PRI`
unfoldable pub ts_request : Line → Option RequestLine
ts_request words = option_and_then (λ limit. option_map (λ pri. Ts limit.0 pri) (only signed_of limit.1)) (first signed_of words)

-- `LIMIT PRI Q`
unfoldable pub fx_request : Line → Option RequestLine
fx_request words =
    option_and_then (λ limit. option_and_then (λ pri. option_map (λ quantum. Fx limit.0 pri.0 quantum)
    (only quantum_of pri.1)) (first signed_of limit.1)) (first signed_of words)

-- `PRI`
unfoldable pub sys_request : Line → Option RequestLine
sys_request words = option_map (λ pri. Sys pri) (only signed_of words)

-- `PRI Q`
unfoldable pub rt_request : Line → Option RequestLine
rt_request words = option_and_then (λ pri. option_map (λ quantum. Rt pri.0 quantum) (only quantum_of pri.1)) (first signed_of words)

unfoldable pub request_of : Line → Option RequestLine
request_of [] = None
request_of (word ∷ words) =
    cond (same_bytes word (codes "ts")) (ts_request words)
    (cond (same_bytes word (codes "fx")) (fx_request words)
    (cond (same_bytes word (codes "sys")) (sys_request words)
    (cond (same_bytes word (codes "rt")) (rt_request words) None)))

-- ---- lines, behind their first words

-- `THREAD CLASS ..`
unfoldable pub priocntl_line : Line → Option Operation
priocntl_line words = option_and_then (λ name. option_map (λ r. Prio name.0 r) (request_of name.1)) (first name_of words)

-- `CHAN MUTEX`
unfoldable pub cvwait_line : Line → Option Operation
cvwait_line words = option_and_then (λ name. option_map (λ mutex. CvWait name.0 mutex) (only name_of name.1)) (first name_of words)

-- `CPU SET`, where `-` is the default partition
unfoldable pub assign_line : Line → Option Operation
assign_line words = option_and_then (λ cpu. option_map (λ set. Assign cpu.0 set) (only (unless_dash name_of) cpu.1)) (first number_of words)

-- `THREAD CPU`, where `-` is none
unfoldable pub pbind_line : Line → Option Operation
pbind_line words = option_and_then (λ name. option_map (λ cpu. Pbind name.0 cpu) (only (unless_dash number_of) name.1)) (first name_of words)

-- ---- lines, by their first words

unfoldable pub thread_operation : Word → Line → Option Operation
thread_operation word words =
    cond (same_bytes word (codes "priocntl")) (priocntl_line words)
    (cond (same_bytes word (codes "assign")) (assign_line words)
    (cond (same_bytes word (codes "pbind")) (pbind_line words) None))

unfoldable pub chan_operation : Word → Line → Option Operation
chan_operation word words =
    cond (same_bytes word (codes "sleep")) (option_map Sleep (only name_of words))
    (cond (same_bytes word (codes "wake")) (option_map Wake (only name_of words))
    (cond (same_bytes word (codes "wakeall")) (option_map WakeAll (only name_of words))
    (cond (same_bytes word (codes "semap")) (option_map SemaP (only name_of words))
    (cond (same_bytes word (codes "semav")) (option_map SemaV (only name_of words))
    (thread_operation word words)))))

unfoldable pub lock_operation : Word → Line → Option Operation
lock_operation word words =
    cond (same_bytes word (codes "enter")) (option_map Enter (only name_of words))
    (cond (same_bytes word (codes "read")) (option_map Read (only name_of words))
    (cond (same_bytes word (codes "write")) (option_map Write (only name_of words))
    (cond (same_bytes word (codes "exit")) (option_map Exit (only name_of words))
    (cond (same_bytes word (codes "cvwait")) (cvwait_line words)
    (chan_operation word words)))))

unfoldable pub operation_of : Line → Option Operation
operation_of [] = None
operation_of (word ∷ words) =
    cond (same_bytes word (codes "run")) (option_map Run (only number_of words))
    (cond (same_bytes word (codes "yield")) (cond (is_done words) (Some Yield) None)
    (cond (same_bytes word (codes "nap")) (option_map Nap (only number_of words))
    (lock_operation word words)))
