use Rattle.std.proofs.Common.{option_map, slice_get, sym, ap, ◌∙◌}
use Rattle.sd_types.specs.declared.numbers.HomeId.TheVariants.{Cpu}
use Rattle.sd_state.specs.States.{cpu_of}
use Rattle.sd_machine.specs.Threads.{first_due}
use Rattle.sd_homes.specs.declared.list_id.ListId.TheVariants.{Naps}
use Rattle.sd_homes.specs.Standing.{due_of_first, id_of}
use Rattle.sd_homes.specs.Families.{list_in}
use Rattle.sd_hand.proofs.FoundLemmas.{due_there}
use Rattle.sd_hand.proofs.ShownLemmas.{finds_by, names_by}
use Rattle.sd_hand.proofs.TellLemmas.{due_told}
use Rattle.sd_hand.proofs.look.ActingLook.first_due.Goals as goal

pub returns-clause-value : goal.returns-clause-value
returns-clause-value c =
    let count = c.args.self.now.actor.count in
    names_by c.args.self.now (Cpu c.args.c) (λ h. option_map id_of (due_of_first count (slice_get (list_in h (Naps c.args.c)) 0))) (λ s. first_due s c.args.c.0) c.first_due.result c.first_due.ensures
    (λ n s h sh e. due_told c.args.self.now n s h sh c.args.c count e (ap (λ d. (cpu_of s d).count) c.if-c-self.false ∙ sym sh.count))

pub returns-clause-found : goal.returns-clause-found
returns-clause-found c =
    let count = c.args.self.now.actor.count in
    finds_by c.args.self.now (Cpu c.args.c) (λ h. option_map id_of (due_of_first count (slice_get (list_in h (Naps c.args.c)) 0))) c.first_due.result c.first_due.ensures
    (λ h t e. due_there (Naps c.args.c) count h t e)
