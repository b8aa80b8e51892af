use Rattle.std.proofs.Common.{List, arith, get_or, sym, subst}
use Rattle.std.proofs.lemmas.Option.{slice_get-get_or}
use Rattle.std.specs.List.Sorted.{IsNonDecreasingBy}
use Rattle.sd_longest.specs.declared.edges.Effect.TheVariants.{Opens}
use Rattle.sd_longest.specs.declared.openings.Opening.{Opening}
use Rattle.sd_longest.specs.Edges.{rows_of}
use Rattle.sd_longest.specs.Openings.{AreOpenings}
use Rattle.sd_longest.proofs.ListLemmas.{contains_at}
use Rattle.sd_longest.proofs.SettledLemmas.{labelling_of, later, settled_first, settled_more}
use Rattle.sd_longest.proofs.marking.labels.Goals as goal

no_opening : Opening
no_opening = record { from = 0; edge = record { cpu = record { 0 = 0 }; tick = 0; effect = Opens; to = 0 } }

pub loop-opening-init : goal.loop-opening-init
loop-opening-init c = settled_first (rows_of c.args.rows.now) c.as_slice-openings.result.now c.in_ok-marking.marking c.in_ok-marking.ensures.marking c.in_ok-marking.ensures.all

pub open-requires-clause-marking : goal.open-requires-clause-marking
unfolding no_opening
open-requires-clause-marking c =
    let os = c.as_slice-openings.result.now in
    let q = c.loop-opening.opening-index in
    let o = get_or os q no_opening in
    let s = c.loop-opening.invariant in
    later (rows_of c.args.rows.now) s.least o.edge.tick c.loop-opening.marking (s.rising q o (omega arith) (slice_get-get_or os q no_opening c.loop-opening-test.true)) s.all s.marking

pub open-requires-clause-edge : goal.open-requires-clause-edge
unfolding no_opening
open-requires-clause-edge c =
    let os = c.as_slice-openings.result.now in
    let q = c.loop-opening.opening-index in
    let are = subst (λ (xs : List Opening). AreOpenings (rows_of c.args.rows.now) xs) (sym c.as_slice-openings.ensures.value) c.in_ok-rising.ensures.all in
    (are.are (get_or os q no_opening) (contains_at os q (get_or os q no_opening) (slice_get-get_or os q no_opening c.loop-opening-test.true))).edge

pub open-requires-clause-opens : goal.open-requires-clause-opens
unfolding no_opening
open-requires-clause-opens c =
    let os = c.as_slice-openings.result.now in
    let q = c.loop-opening.opening-index in
    let are = subst (λ (xs : List Opening). AreOpenings (rows_of c.args.rows.now) xs) (sym c.as_slice-openings.ensures.value) c.in_ok-rising.ensures.all in
    (are.are (get_or os q no_opening) (contains_at os q (get_or os q no_opening) (slice_get-get_or os q no_opening c.loop-opening-test.true))).opens

pub open-requires-clause-all : goal.open-requires-clause-all
open-requires-clause-all c = c.loop-opening.invariant.all

pub loop-opening-preserved : goal.loop-opening-preserved
unfolding no_opening
loop-opening-preserved c =
    let os = c.as_slice-openings.result.now in
    let q = c.loop-opening.opening-index in
    let sorted = subst (λ (xs : List Opening). IsNonDecreasingBy (λ (x : Opening). x.edge.tick) xs) (sym c.as_slice-openings.ensures.value) c.in_ok-rising.ensures.rising in
    let e = c.in_ok-open.ensures in
    settled_more (rows_of c.args.rows.now) os q (get_or os q no_opening) c.loop-opening.marking c.open.new.self sorted (slice_get-get_or os q no_opening c.loop-opening-test.true) e.marking e.kept e.all e.has c.loop-opening.invariant

pub returns : goal.returns
returns c =
    let are = subst (λ (xs : List Opening). AreOpenings (rows_of c.args.rows.now) xs) (sym c.as_slice-openings.ensures.value) c.in_ok-rising.ensures.all in
    labelling_of (rows_of c.args.rows.now) c.as_slice-openings.result.now c.loop-opening.opening-index c.loop-opening.marking are c.loop-opening-test.false c.loop-opening.invariant
