use Rattle.std.proofs.Common.{ℕ, ◌^◌, ◌<◌, List, drop, ap, arith, rules, ◌∙◌}
use Rattle.std.specs.Prelude.{codes, decimal}
use Rattle.sd_log.specs.Parts.{hints_of, listed}
use Rattle.sd_machine.specs.Texts.{event_text, hints_text, entry_text}
use Rattle.sd_entries.proofs.CountingLemmas.{room_before}
use Rattle.sd_entries.proofs.LineLemmas.{ends_behind, kept_before, line_between, first_before}
use Rattle.sd_entries.proofs.entries.EntryLine.put_parts.Goals as goal

pub invariant_of-self : goal.invariant_of-self
invariant_of-self c =
    let digits = c.put_entry_number-self in
    let behind = c.put_behind_number in
    let small : c.args.parts.now.number < 2 ^ 64 = search rules in
    let room = room_before digits.new.line digits.result c.args.parts.now.number small digits.ensures.begin digits.ensures.stand in
    record {
      begin = digits.ensures.begin;
      stand = ap (λ (xs : List ℕ). drop digits.result xs) (kept_before digits.new.line behind.new.line _ 20 behind.result room behind.ensures.text) ∙ digits.ensures.stand;
    }

pub returns-clause-within : goal.returns-clause-within
returns-clause-within c =
    let digits = c.put_entry_number-self in
    let behind = c.put_behind_number in
    let small : c.args.parts.now.number < 2 ^ 64 = search rules in
    let room = room_before digits.new.line digits.result c.args.parts.now.number small digits.ensures.begin digits.ensures.stand in
    let start = digits.ensures.begin in
    let after = ends_behind digits.new.line behind.new.line _ 20 behind.result room behind.ensures.text in
    (omega (arith, start, after), omega (arith, behind.ensures.within))

pub returns-clause-text : goal.returns-clause-text
unfolding entry_text
returns-clause-text c =
    let digits = c.put_entry_number-self in
    let behind = c.put_behind_number in
    let small : c.args.parts.now.number < 2 ^ 64 = search rules in
    let room = room_before digits.new.line digits.result c.args.parts.now.number small digits.ensures.begin digits.ensures.stand in
    line_between digits.new.line behind.new.line _ _ digits.result 20 behind.result digits.ensures.begin room digits.ensures.stand behind.ensures.text
    ∙ first_before (decimal c.args.parts.now.number) (codes " c") (decimal c.args.parts.now.cpu.0) (codes " ") (event_text c.args.work.now c.args.parts.now.event.now) (hints_text (hints_of c.args.parts.now.which (listed c.args.parts.now.numbers))) (codes "\n")
