-- A stint: phases of one processor in a row.
use Rattle.std.proofs.Common.{◌≡◌, ℕ, ◌+◌, ◌-◌, ◌^◌, ◌≤◌, length, Some, Result, Ok, Err, refl, sym, ap, ◌∙◌, subst, arith}
use Rattle.std.specs.Prelude.{min, nat_lt}
use Rattle.std.proofs.lemmas.Bool.Decides.{nat_tests}
use Rattle.atomic_table.specs.Seated.{TableId}
use Rattle.sd_types.specs.declared.events.Stop.{Stop}
use Rattle.sd_types.specs.declared.events.Stop.TheVariants.{Full}
use Rattle.sd_types.specs.declared.works.Work.{Work}
use Rattle.sd_cpu.specs.declared.attempts.Turned.{Turned}
use Rattle.sd_cpu.specs.declared.phases.Phased.{Phased}
use Rattle.sd_shared_table.specs.declared.seat.Seat.{Seat}
use Rattle.sd_threads.specs.declared.jobs.Job.{Job}
use Rattle.sd_threads.specs.Jobs.{HasPhased, IsEmptyHanded, MadeAsLogged}

-- phases in a row led from one job to another and made so many entries, a number that stays at the greatest u64
pub record Leads (t : TableId) (w : Work) (j j' : Job) (entries : ℕ) : Type 0 where
  pub free : IsEmptyHanded t w j'.seat
  pub cpu : j'.seat.acting.actor.cpu ≡ j.seat.acting.actor.cpu
  pub made : nat_lt 0 entries ≡ nat_lt (length j.seat.log.items) (length j'.seat.log.items)
  pub grows : length j.seat.log.items ≤ length j'.seat.log.items

none_made : (n : ℕ) → nat_lt 0 0 ≡ nat_lt n n
none_made n = grind (arith, nat_tests)

pub leads_nowhere : (t : TableId) (w : Work) (j : Job) → IsEmptyHanded t w j.seat → Leads t w j j 0
leads_nowhere t w j free = record { free = free; cpu = refl; made = none_made (length j.seat.log.items); grows = omega arith }

-- what two stints made together
both_made : (a b c n m : ℕ) → nat_lt 0 n ≡ nat_lt a b → nat_lt 0 m ≡ nat_lt b c → a ≤ b → b ≤ c → nat_lt 0 (min (n + m) (2 ^ 64 - 1)) ≡ nat_lt a c
both_made a b c n m one other up on = grind (arith, nat_tests)

same_outcome : (a b : Result Phased Stop) → Some a ≡ Some b → a ≡ b
same_outcome a b e = cc

module _ (t : TableId) (w : Work) (j k d : Job) (n : ℕ) (led : Leads t w j k n) (phased : HasPhased t w k d) where
  pub leads_on : (p : Phased) → d.outcome ≡ Some (Ok p) → Leads t w j d (min (n + p.entries) (2 ^ 64 - 1))
  leads_on p is =
      let made : MadeAsLogged (length k.seat.log.items) (length d.seat.log.items) (Ok p) = subst (MadeAsLogged (length k.seat.log.items) (length d.seat.log.items)) (same_outcome phased.answer (Ok p) (sym phased.answered ∙ is)) phased.made in
      record {
        free = phased.free;
        cpu = phased.cpu ∙ led.cpu;
        made = both_made (length j.seat.log.items) (length k.seat.log.items) (length d.seat.log.items) n p.entries led.made made led.grows phased.grows;
        grows = let up = led.grows in let on = phased.grows in omega (arith, up, on);
      }

  -- a stint whose last phase was refused
  pub refused : (stop : Stop) → d.outcome ≡ Some (Err stop) → HasPhased t w j d
  refused stop is = record {
    free = phased.free;
    cpu = phased.cpu ∙ led.cpu;
    answer = Err stop;
    answered = is;
    full = phased.full;
    made = tt;
    grows = let up = led.grows in let on = phased.grows in omega (arith, up, on);
  }

not_refused : (p : Phased) (stop : Stop) → {A : Type 0} → Some (Ok p) ≡ Some (Err stop) → A
not_refused p stop e = absurd cc

-- a stint that came to rest
pub rested : (t : TableId) (w : Work) (j d r : Job) (n : ℕ) (end : Turned) → Leads t w j d n → r.seat ≡ d.seat → r.outcome ≡ Some (Ok (record { entries = n; end = end })) → HasPhased t w j r
rested t w j d r n end led seat is = record {
  free = subst (IsEmptyHanded t w) (sym seat) led.free;
  cpu = ap (λ (s : Seat). s.acting.actor.cpu) seat ∙ led.cpu;
  answer = Ok (record { entries = n; end = end });
  answered = is;
  full = λ full. not_refused (record { entries = n; end = end }) Full (sym is ∙ full);
  made = led.made ∙ ap (λ (s : Seat). nat_lt (length j.seat.log.items) (length s.log.items)) (sym seat);
  grows = let up = led.grows in let same = ap (λ (s : Seat). length s.log.items) seat in omega (arith, up, same);
}
