use Rattle.std.proofs.Common.{◌≡◌, Some, option_map, slice_get, inl, inr, refl, sym, ap, ◌∙◌}
use Rattle.sd_types.specs.declared.numbers.HomeId.TheVariants.{Cpu, RealTime}
use Rattle.sd_types.specs.declared.numbers.SetId.{SetId}
use Rattle.sd_state.specs.States.{cpu_of}
use Rattle.sd_machine.specs.Threads.{best_ready}
use Rattle.sd_store.specs.Parts.{number, ready_parts, real_time_part, view_of}
use Rattle.sd_homes.specs.declared.list_id.ListId.TheVariants.{Queues, Urgent}
use Rattle.sd_homes.specs.Standing.{better, id_of}
use Rattle.sd_homes.specs.Families.{list_in}
use Rattle.sd_hand.proofs.FoundLemmas.{better_there}
use Rattle.sd_hand.proofs.ShownLemmas.{finds_two, lacks_two, names_two}
use Rattle.sd_hand.proofs.TellLemmas.{ready_told, view_told}
use Rattle.sd_hand.proofs.look.ActingLook.best_ready.Goals as goal

pub returns-clause-value : goal.returns-clause-value
returns-clause-value c =
    let p : SetId = c.in-Ok.view.set in
    let a = c.in-Ok.ensures in
    names_two c.args.self.now (Cpu c.args.c) (RealTime p) (λ h g. option_map id_of (better (slice_get (list_in h (Queues c.args.c)) 0) (slice_get (list_in g (Urgent p)) 0)))
    (λ s. best_ready s c.args.c.0) c.better.result c.better.ensures
    (λ n s h g sh e f.
    let same : Some c.in-Ok.view ≡ Some (view_of (cpu_of s c.args.c.0)) = a.2 ∙ view_told c.args.self.now n s a.0 sh c.args.c a.1 in
    let view : c.in-Ok.view ≡ view_of (cpu_of s c.args.c.0) = cc in
    ready_told c.args.self.now n s h sh c.args.c p g e f (sym (ap (λ v. v.set) view)))

pub returns-clause-lack : goal.returns-clause-lack
returns-clause-lack c =
    let p : SetId = c.in-Ok.view.set in
    let a = c.in-Ok.ensures in
    lacks_two c.args.self.now (Cpu c.args.c) (RealTime p) (option_map number) (λ h g. option_map id_of (better (slice_get (list_in h (Queues c.args.c)) 0) (slice_get (list_in g (Urgent p)) 0)))
    (λ s. ready_parts s c.args.c) c.better.result c.better.ensures (λ n s sh. inl refl)
    (λ n s sh.
    let same : Some c.in-Ok.view ≡ Some (view_of (cpu_of s c.args.c.0)) = a.2 ∙ view_told c.args.self.now n s a.0 sh c.args.c a.1 in
    let view : c.in-Ok.view ≡ view_of (cpu_of s c.args.c.0) = cc in
    inr (inl (ap (λ v. real_time_part v.set) view)))

pub returns-clause-found : goal.returns-clause-found
returns-clause-found c =
    let p : SetId = c.in-Ok.view.set in
    finds_two c.args.self.now (Cpu c.args.c) (RealTime p) (λ h g. option_map id_of (better (slice_get (list_in h (Queues c.args.c)) 0) (slice_get (list_in g (Urgent p)) 0)))
    c.better.result c.better.ensures (λ h g t e. better_there (Queues c.args.c) (Urgent p) h g t e)
