-- The generated workload of a number: 200 threads of all classes on 8 processors, which run, take locks and nap, drawn by a
-- generator that begins with the number. A text that is drawn comes with the generator after it.
-- Source: this project's own; O'Neill, "PCG" (the generator).
use Rattle.std.specs.Prelude.{ℕ, zero, suc, ◌+◌, ◌-◌, ◌%◌, List, [], ◌++◌, flat_map, codes, decimal, nat_lt, ◌==◌, if◌then◌else◌}
use Rattle.std.specs.List.{range_with_len}
use Rattle.rand_pcg.specs.Lcg.{Lcg, started, increment_of}
use Rattle.rand_pcg.specs.Pcg.{multiplier_64, pcg32}

-- a text, and the generator after it was drawn
abbrev pub Drawn : Type 0
Drawn = List ℕ × Lcg

-- the same behind another text, and followed by another that is drawn
abbrev pub behind : List ℕ → Drawn → Drawn
behind front d = (front ++ d.0, d.1)

abbrev pub then_drawn : Drawn → (Lcg → Drawn) → Drawn
then_drawn d more = behind d.0 (more d.1)

-- a number below k
abbrev pub drawn : ℕ → Lcg → ℕ × Lcg
drawn k g = ((pcg32 g).0 % k, (pcg32 g).1)

-- the texts of so many things from number i on, drawn one after another
unfoldable pub drawn_from : (ℕ → Lcg → Drawn) → ℕ → ℕ → Lcg → Drawn
drawn_from text zero i g = ([], g)
drawn_from text (suc k) i g = then_drawn (text i g) (drawn_from text k (i + 1))

-- a word and a number, as one line
abbrev pub number_line : List ℕ → ℕ → List ℕ
number_line word n = word ++ decimal n ++ codes "\n"

-- Processors, the set of two of them, and locks.

abbrev pub head_text : List ℕ
head_text = codes "cpus 8\nlimit 10000\nset s 6 7\n"

abbrev pub locks_text : List ℕ
locks_text = flat_map (number_line (codes "mutex m")) (range_with_len 0 16) ++ flat_map (number_line (codes "rwlock w")) (range_with_len 0 4)

-- Threads: six of ten are time-sharing ones, two have a fixed priority, one is of the system, one is a real-time one; one
-- of eight is in the set.

-- from how many priorities the one of a class is drawn: of a system thread from 60 to 99, else from 0 to 59
abbrev pub priorities : ℕ → ℕ
priorities class = if class == 8 then 40 else 60

abbrev pub class_text : ℕ → ℕ → List ℕ
class_text class p =
    if nat_lt class 6 then codes " ts " ++ decimal p ++ codes " 0 0"
    else if nat_lt class 8 then codes " fx 60 " ++ decimal p ++ codes " def"
    else if class == 8 then codes " sys " ++ decimal (60 + p)
    else codes " rt " ++ decimal p ++ codes " def"

abbrev pub set_text : ℕ → List ℕ
set_text one_of_eight = if one_of_eight == 0 then codes " in s" else []

abbrev pub thread_text : ℕ → ℕ → ℕ → ℕ → List ℕ
thread_text i class p one_of_eight =
    codes "thread t" ++ decimal i ++ (class_text class p ++ (set_text one_of_eight ++ codes "\n"))

-- from the class, then the priority, then whether it is in the set
abbrev pub set_drawn : ℕ → ℕ → ℕ → Lcg → Drawn
set_drawn i class p g = (thread_text i class p (drawn 8 g).0, (drawn 8 g).1)

abbrev pub priority_drawn : ℕ → ℕ → Lcg → Drawn
priority_drawn i class g = set_drawn i class (drawn (priorities class) g).0 (drawn (priorities class) g).1

unfoldable pub thread_line : ℕ → Lcg → Drawn
thread_line i g = priority_drawn i (drawn 10 g).0 (drawn 10 g).1

-- Scripts: three rounds, each a run and one of five things.

-- a word, and the name of a lock
abbrev pub lock_line : List ℕ → List ℕ → ℕ → List ℕ
lock_line word lock a = word ++ (lock ++ (decimal a ++ codes "\n"))

abbrev pub locked_text : List ℕ → List ℕ → ℕ → List ℕ
locked_text take lock a = lock_line take lock a ++ (codes "run 1\n" ++ lock_line (codes "exit ") lock a)

-- two mutexes, one inside the other
abbrev pub nested_text : ℕ → ℕ → List ℕ
nested_text a b =
    lock_line (codes "enter ") (codes "m") a ++ (lock_line (codes "enter ") (codes "m") b ++ (codes "run 2\n"
    ++ (lock_line (codes "exit ") (codes "m") b ++ lock_line (codes "exit ") (codes "m") a)))

-- a mutex
abbrev pub mutex_part : Lcg → Drawn
mutex_part g = (locked_text (codes "enter ") (codes "m") (drawn 16 g).0, (drawn 16 g).1)

-- a mutex, and one with a greater number inside
abbrev pub inner_drawn : ℕ → Lcg → Drawn
inner_drawn a g = (nested_text a (a + 1 + (drawn (15 - a) g).0), (drawn (15 - a) g).1)

abbrev pub nested_part : Lcg → Drawn
nested_part g = inner_drawn (drawn 15 g).0 (drawn 15 g).1

-- a rwlock, read or written
abbrev pub read_part : Lcg → Drawn
read_part g = (locked_text (codes "read ") (codes "w") (drawn 4 g).0, (drawn 4 g).1)

abbrev pub write_part : Lcg → Drawn
write_part g = (locked_text (codes "write ") (codes "w") (drawn 4 g).0, (drawn 4 g).1)

abbrev pub nap_part : Lcg → Drawn
nap_part g = (number_line (codes "nap ") ((drawn 50 g).0 + 1), (drawn 50 g).1)

unfoldable pub part : ℕ → Lcg → Drawn
part kind g =
    if kind == 0 then mutex_part g else if kind == 1 then nested_part g else if kind == 2 then read_part g
    else if kind == 3 then write_part g else nap_part g

-- a run, and one of the five
abbrev pub part_drawn : Lcg → Drawn
part_drawn g = part (drawn 5 g).0 (drawn 5 g).1

unfoldable pub round_text : Lcg → Drawn
round_text g = behind (number_line (codes "run ") ((drawn 100 g).0 + 1)) (part_drawn (drawn 100 g).1)

abbrev pub end_text : Lcg → Drawn
end_text g = (codes "end\n", g)

unfoldable pub script_text : ℕ → Lcg → Drawn
script_text i g =
    behind (number_line (codes "script t") i)
    (then_drawn (round_text g) (λ h. then_drawn (round_text h) (λ k. then_drawn (round_text k) end_text)))

-- the whole text
abbrev pub first_generator : ℕ → Lcg
first_generator n = started 64 multiplier_64 n (increment_of 64 2)

abbrev pub drawn_text : Lcg → Drawn
drawn_text g = then_drawn (drawn_from thread_line 200 0 g) (drawn_from script_text 200 0)

unfoldable pub generated : ℕ → List ℕ
generated n = head_text ++ (locks_text ++ (drawn_text (first_generator n)).0)
