use Rattle.std.proofs.Common.{ℕ, ◌-◌, Bor, take, drop, length, sym, ap, ◌∙◌, arith, rules}
use Rattle.std.proofs.lemmas.Bool.{false≢true}
use Rattle.sd_types.specs.declared.works.Work.{Work}
use Rattle.sd_state.specs.Opening.{opening}
use Rattle.sd_machine.specs.Runs.{final}
use Rattle.sd_machine.proofs.RunLemmas.{final-nil}
use Rattle.sd_world.specs.Plain.{told}
use Rattle.sd_audit.proofs.ReadLemmas.{start_with, more_with, after_read, fault_next}
use Rattle.sd_audit.proofs.entries.take_entries.Goals as goal

pub lines-init : goal.lines-init
lines-init g c = record {
  stands = c.requires.stands;
  work = c.requires.work;
  counted = sym (ap length c.requires.start);
  read = start_with c.args.names.now.work.now c.args.text.now (told c.args.names.now.work.now c.args.world.now) c.args.accounts.now
      (λ es. g.C.Collector.became c.args.names.now.work.now es c.args.collector.now c.args.collector.now)
      (let w = c.args.names.now.work.now in ap (final w (opening w)) c.requires.start ∙ final-nil w (opening w)) c.requires.none c.requires.empty;
  within = omega arith;
  bound = omega arith;
}

pub take_line-requires-clause-follows : goal.take_line-requires-clause-follows
take_line-requires-clause-follows g c =
    let l = c.lines in
    let w = c.args.names.now.work.now in
    after_read w c.args.text.now (told w l.world) l.accounts l.at.number l.at.from (λ es. (first : _) × g.C.Collector.became w es first l.collector) (l.invariant.read.0, (c.args.collector.now, l.invariant.read.1))

pub returns-in_err-entry-clause-fault : goal.returns-in_err-entry-clause-fault
returns-in_err-entry-clause-fault g c =
    let l = c.lines in
    let w = c.args.names.now.work.now in
    let fault = fault_next w c.args.text.now (told w l.world) l.accounts l.at.number l.at.from _ _ l.invariant.read.0 c.in-Some.ensures.line
    (λ same. false≢true (sym c.if-is_accounts.false ∙ c.is_accounts.ensures.1 same)) _ c.in_err-entry.ensures.fault in
    search rules

pub lines-preserved : goal.lines-preserved
lines-preserved g c =
    let l = c.lines in
    let w = c.args.names.now.work.now in
    let r = l.invariant.read.0 in
    let bound = l.invariant.bound in
    let start = c.in-Some.ensures.start in
    let within = c.in-Some.ensures.within in
    let text = c.requires.text in
    record {
      stands = c.in_ok-entry.ensures.stands;
      work = ap (λ (r : Bor Work). r.now) c.in_ok-entry.ensures.work ∙ l.invariant.work;
      counted = sym c.in_ok-entry.ensures.more;
      read = more_with w c.args.text.now (told w l.world) (told w c.take_line.new.world) l.accounts c.add.new.self l.at.number l.at.from c.in-Some.end _ c.in_ok-entry.entry
          (λ es. g.C.Collector.became w es c.args.collector.now l.collector) (λ es. g.C.Collector.became w es c.args.collector.now c.take_line.new.collector) l.invariant.read c.in-Some.ensures.line
          within.0 c.in-Some.ensures.newline (ap (λ (n : ℕ). take (c.in-Some.end - n) (drop n c.args.text.now)) start) c.in_ok-entry.ensures.taken c.in_ok-entry.ensures.state
          (c.add.ensures w r.entries (let many = r.many in omega (arith, many, bound, within.0, within.1, text)) r.taken) (c.in_ok-entry.ensures.takes c.args.collector.now);
      within = omega (arith, within.1);
      bound = omega (arith, bound, within.0);
    }
