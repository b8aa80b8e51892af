-- Processors between two stints.
use Rattle.std.proofs.Common.{◌≡◌, ℕ, zero, suc, ◌+◌, ◌^◌, ◌<◌, ◌≤◌, Bool, true, false, length-append, Ok, List, [], ◌∷◌, ◌++◌, length, get_or, slice_get, Some, Result, Err, refl, sym, ap, ◌∙◌, subst, arith}
use Rattle.std.specs.Prelude.{◌-◌, min, nat_lt, slice_index_or}
use Rattle.std.proofs.Math.Nat.{le-min}
use Rattle.std.proofs.lemmas.Bool.Decides.{nat_tests}
use Rattle.std.proofs.lemmas.List.{get_or_default}
use Rattle.atomic_table.specs.Seated.{TableId}
use Rattle.sd_types.specs.declared.numbers.CpuId.{CpuId}
use Rattle.sd_types.specs.declared.events.Entry.{Entry}
use Rattle.sd_types.specs.declared.events.Stop.{Stop}
use Rattle.sd_types.specs.declared.events.Stop.TheVariants.{Full, Memory}
use Rattle.sd_types.specs.declared.works.Work.{Work}
use Rattle.sd_world.specs.Worlds.{Meaning, entry_of}
use Rattle.sd_cpu.specs.Attempts.{IsEmpty, IsSameWorld, MakesOne, Refuses}
use Rattle.sd_cpu.specs.declared.attempts.Turned.{Turned}
use Rattle.sd_cpu.specs.declared.attempts.Turned.TheVariants.{Acted, Ticked, Behind, Finished}
use Rattle.sd_cpu.specs.declared.phases.Phased.{Phased}
use Rattle.sd_cpu.specs.Phases.{ActsOften, Ends, PhaseAnswers, Stops, raised}
use Rattle.sd_shared_rule.specs.Ledgers.{by}
use Rattle.sd_shared_table.specs.declared.seat.Seat.{Seat}
use Rattle.sd_shared_table.specs.Seats.{Fits, desk, id_of, work_of}
use Rattle.sd_shared_table.specs.Whole.{AreSeats, IsSeatOf}
use Rattle.sd_threads.specs.declared.world.TableWorld.{TableWorld}
use Rattle.sd_threads.specs.Tables.{IsTable, world_meaning}
use Rattle.sd_threads.specs.declared.jobs.Job.{Job}
use Rattle.sd_rounds.specs.Rounds.{IsLongRun}
use Rattle.sd_threads.specs.Jobs.{AreJobs, HavePhased, IsEmptyHanded, MadeAsLogged, WasStopped, seats_in}
use Rattle.std.proofs.lemmas.Option.{same_Some}

-- ---- a phase of one processor
by_short : (c : ℕ) (h : List Entry) → length (by c h) ≤ length h
unfolding by
by_short c [] = omega arith
by_short c (e ∷ es) = let r = by_short c es in grind (arith, nat_tests)

long_by : (t : TableId) (w : Work) (s : Seat) → Fits t w s → 2 ^ 40 ≤ length s.log.items → IsLongRun w
long_by t w s f long =
    let short = by_short (desk s).cpu (desk s).seen in
    let many = ap length f.log in
    record { entries = (desk s).seen; run = f.run; long = omega (arith, short, many, long) }

-- so many entries more
one_more : (m m' : Meaning) (n : ℕ) (b : Bool) → MakesOne m m' n b → length m'.log ≡ length m.log + 1
one_more m m' n b one = let e = ap length one.made.log in let many = length-append m.log (entry_of m n one.event one.hints ∷ []) in omega (arith, e, many)

some_more : (k : ℕ) (m m' : Meaning) → ActsOften k m m' → length m'.log ≡ length m.log + k
some_more zero m m' e = let same = ap (λ (x : Meaning). length x.log) e in omega (arith, same)
some_more (suc k) m m' (between, n, acts, one) = let before = some_more k m between acts in let after = one_more between m' n false one in omega (arith, before, after)

more_than : (n k : ℕ) → nat_lt 0 k ≡ nat_lt n (n + k)
more_than n zero = grind (arith, nat_tests)
more_than n (suc k) = grind (arith, nat_tests)

less_is : (a b : ℕ) → a < b → true ≡ nat_lt a b
less_is a b less = grind (arith, nat_tests)

-- what counts entries is above 0 exactly where some were made
some_raised : (k : ℕ) → nat_lt 0 (raised 0 (suc k)) ≡ true
some_raised k =
    let one : 1 ≤ raised 0 k + 1 = omega arith in
    let most : 1 ≤ 2 ^ 64 - 1 = omega arith in
    let least : 1 ≤ min (raised 0 k + 1) (2 ^ 64 - 1) = le-min one most in
    grind (arith, nat_tests)

as_raised : (k : ℕ) → nat_lt 0 (raised 0 k) ≡ nat_lt 0 k
as_raised zero = refl
as_raised (suc k) = some_raised k ∙ (let z : true ≡ nat_lt 0 (suc k) = grind (arith, nat_tests) in z)

pub made_as_logged : {n n' : ℕ} (m m' : Meaning) (r : Result Phased Stop) → PhaseAnswers m m' n n' r → MadeAsLogged (length m.log) (length m'.log) r
made_as_logged m m' (Err stop) a = tt
made_as_logged m m' (Ok p) a = ends p.entries p.end a.stops
  where
    acted : length a.last.log ≡ length m.log + a.count
    acted = some_more a.count m a.last a.acts

    idle : (entries : ℕ) → m'.log ≡ a.last.log → entries ≡ raised 0 a.count → nat_lt 0 entries ≡ nat_lt (length m.log) (length m'.log)
    idle entries same is = ap (nat_lt 0) is ∙ (as_raised a.count ∙ (more_than (length m.log) a.count ∙ ap (nat_lt (length m.log)) (sym (ap length same ∙ acted))))

    ends : (entries : ℕ) (t : Turned) → Ends a.last m' a.count entries t → nat_lt 0 entries ≡ nat_lt (length m.log) (length m'.log)
    ends entries (Acted n) is = absurd is
    ends entries (Ticked n) is = let one = one_more a.last m' n true is.0 in ap (nat_lt 0) is.1 ∙ (some_raised a.count ∙ less_is (length m.log) (length m'.log) (omega (arith, one, acted)))
    ends entries (Behind c n) is = idle entries is.0.0.idles.log is.1
    ends entries Finished is = idle entries is.0.0.idles.log is.1

-- a phase takes nothing from the log
pub log_grows : {n n' : ℕ} (m m' : Meaning) (r : Result Phased Stop) → PhaseAnswers m m' n n' r → length m.log ≤ length m'.log
log_grows m m' r a = by r a.stops
  where
    acted : length a.last.log ≡ length m.log + a.count
    acted = some_more a.count m a.last a.acts

    same : a.last.log ≡ m'.log → length m.log ≤ length m'.log
    same is = let long = ap length is in omega (arith, acted, long)

    ends : (entries : ℕ) (t : Turned) → Ends a.last m' a.count entries t → length m.log ≤ length m'.log
    ends entries (Acted n) is = absurd is
    ends entries (Ticked n) is = let one = one_more a.last m' n true is.0 in omega (arith, acted, one)
    ends entries (Behind c n) is = same (sym is.0.0.idles.log)
    ends entries Finished is = same (sym is.0.0.idles.log)

    by : (r : Result Phased Stop) → Stops a.last m' a.count r → length m.log ≤ length m'.log
    by (Ok p) is = ends p.entries p.end is
    by (Err Memory) is = same (sym is.0.log)
    by (Err Full) is = same (sym is.0.log)

pub outcome_is : (a b : Result Phased Stop) → Some a ≡ Some b → a ≡ b
outcome_is a b e = cc

-- x is the world before the phase, and y after it
module _ (t : TableId) (w : Work) (x y : TableWorld) (table : id_of x.shared.now ≡ t) (work : work_of x.shared.now ≡ w) (before : IsTable x) (after : IsTable y) (same : IsSameWorld (world_meaning x) (world_meaning y)) where
  pub fits_back : Fits t w y.seat
  fits_back =
      let ids : id_of y.shared.now ≡ t = sym after.table ∙ (same_Some y.seat.place.table_id x.seat.place.table_id same.table ∙ (before.table ∙ table)) in
      subst (λ v. Fits t v y.seat) (same.work ∙ work) (subst (λ i. Fits i (work_of y.shared.now) y.seat) ids after)

  pub free_back : IsEmpty (world_meaning y) → IsEmptyHanded t w y.seat
  free_back empty = record { fits = fits_back; free = empty refl }

  pub full_long : {n n' : ℕ} (r : Result Phased Stop) → r ≡ Err Full → PhaseAnswers (world_meaning x) (world_meaning y) n n' r → IsLongRun w
  full_long r e answers =
      let refused : Refuses answers.last (world_meaning y) Full = subst (Stops answers.last (world_meaning y) answers.count) e answers.stops in
      let log = ap length refused.0.log in
      let long = refused.1 in
      long_by t w y.seat fits_back (omega (arith, log, long))

-- ---- stints of all
module _ (t : TableId) (w : Work) (js js' : List Job) (many : length js' ≡ length js) (phased : HavePhased t w js js') where
  pub jobs_phased : AreJobs t w js → AreJobs t w js'
  jobs_phased are = record {
    many = many ∙ are.many;
    free = λ i d inside. (phased i d (let z : i < length js = omega (arith, inside, many) in z)).free;
    cpus = λ i d inside. (let z : i < length js = omega (arith, inside, many) in ap (λ (c : CpuId). c.0) (phased i d z).cpu ∙ are.cpus i d z);
  }

  pub long_of : WasStopped js' Full → IsLongRun w
  long_of was = (phased was.index was.job (let i = was.inside in let z : was.index < length js = omega (arith, i, many) in z)).full (ap (λ (j : Job). j.outcome) (was.at was.job) ∙ was.stopped)

-- the outcome of one of them says that it was refused
pub stopped_at : (js : List Job) (i : ℕ) (d : Job) (stop : Stop) → i < length js → (get_or js i d).outcome ≡ Some (Err stop) → WasStopped js stop
stopped_at js i d stop inside is = record {
  index = i;
  inside = inside;
  job = get_or js i d;
  at = λ e. get_or_default js i e d inside;
  stopped = is;
}

-- ---- seats and jobs
at_map : (js : List Job) (i : ℕ) (d : Job) → i < length js → slice_get (seats_in js) i ≡ Some (slice_index_or js i d).seat
at_map [] i d inside = absurd (omega (arith, inside))
at_map (j ∷ js) zero d inside = refl
at_map (j ∷ js) (suc i) d inside = at_map js i d (omega (arith, inside))

record IsOf (js : List Job) (c : ℕ) (s : Seat) : Type 0 where
  pub job : Job
  pub inside : c < length js
  pub seat : job.seat ≡ s

of_map : (js : List Job) (c : ℕ) (s : Seat) → slice_get (seats_in js) c ≡ Some s → IsOf js c s
of_map [] c s e = absurd cc
of_map (j ∷ js) zero s e = record { job = j; inside = (let z : 0 < length (j ∷ js) = omega arith in z); seat = cc }
of_map (j ∷ js) (suc c) s e = let x = of_map js c s e in let i = x.inside in record { job = x.job; inside = omega (arith, i); seat = x.seat }

length_seats : (js : List Job) → length (seats_in js) ≡ length js
length_seats [] = refl
length_seats (j ∷ js) = ap suc (length_seats js)

pub seats_more : (js : List Job) (j : Job) → seats_in (js ++ j ∷ []) ≡ seats_in js ++ j.seat ∷ []
seats_more [] j = refl
seats_more (x ∷ js) j = ap (λ l. x.seat ∷ l) (seats_more js j)

same_seat : (a b : Seat) → Some a ≡ Some b → a ≡ b
same_seat a b e = cc

pub jobs_begin : (t : TableId) (w : Work) (seats : List Seat) (js : List Job) → seats_in js ≡ seats → AreSeats t w seats → AreJobs t w js
jobs_begin t w seats js e are = record {
  many = sym (length_seats js) ∙ (ap length e ∙ are.many);
  free = λ i d inside. let of = is i d inside in record { fits = of.fits; free = of.free };
  cpus = λ i d inside. (is i d inside).cpu;
}
  where
    is : (i : ℕ) (d : Job) → i < length js → IsSeatOf t w i (slice_index_or js i d).seat
    is i d inside = are.each i (slice_index_or js i d).seat (ap (λ l. slice_get l i) (sym e) ∙ at_map js i d inside)

pub seats_end : (t : TableId) (w : Work) (js : List Job) → AreJobs t w js → AreSeats t w (seats_in js)
seats_end t w js are = record {
  many = length_seats js ∙ are.many;
  each = λ c s e.
      let of = of_map js c s e in
      let same : (slice_index_or js c of.job).seat ≡ s = same_seat (slice_index_or js c of.job).seat s (sym (at_map js c of.job of.inside) ∙ e) in
      let free = are.free c of.job of.inside in
      subst (IsSeatOf t w c) same (record { fits = free.fits; cpu = are.cpus c of.job of.inside; free = free.free });
}
