use Rattle.std.proofs.Common.{length, subst}
use Rattle.sd_search.specs.declared.questions.Answer.{Answer}
use Rattle.sd_search.specs.declared.questions.Answer.TheVariants.{Found}
use Rattle.sd_search.specs.Finals.{IsAnswer, IsFirst, IsOpenAnswer}
use Rattle.sd_search.specs.Graphs.{packed, steps_of}
use Rattle.sd_search.proofs.DepthLemmas.{none_shorter}
use Rattle.sd_search.proofs.FinalLemmas.{found_witness}
use Rattle.sd_search.proofs.TellLemmas.{inside_at}
use Rattle.sd_search.proofs.graph.Graph.finding.Goals as goal

pub run_to-requires-clause-inside : goal.run_to-requires-clause-inside
run_to-requires-clause-inside c =
    let found : IsAnswer c.args.work.now c.args.question (packed c.args.self.now) (Found c.in-Found.index) =
    subst (λ (a : Answer). IsAnswer c.args.work.now c.args.question (packed c.args.self.now) a) c.in-Found.is c.in_ok-index.ensures.answer in
    inside_at (packed c.args.self.now) c.in-Found.index found.0 found.1

pub returns-in_ok-entries-in-Found-clause-finding : goal.returns-in_ok-entries-in-Found-clause-finding
returns-in_ok-entries-in-Found-clause-finding c =
    let found : IsAnswer c.args.work.now c.args.question (packed c.args.self.now) (Found c.in-Found.index) =
    subst (λ (a : Answer). IsAnswer c.args.work.now c.args.question (packed c.args.self.now) a) c.in-Found.is c.in_ok-index.ensures.answer in
    let way = c.in_ok-entries-in-Found.ensures.spelled found.0 found.1 in
    found_witness c.args.work.now c.args.question way.0 c.in_ok-entries-in-Found.entries.items found.0 (c.requires.gathered.fits c.in-Found.index found.0 found.1) found.2 way.1 way.2

pub returns-in_ok-entries-in-Found-clause-shortest : goal.returns-in_ok-entries-in-Found-clause-shortest
returns-in_ok-entries-in-Found-clause-shortest c =
    let g = c.args.self.now in
    let w = c.args.work.now in
    let first : IsFirst w c.args.question (packed g) (Found c.in-Found.index) = subst (λ (a : Answer). IsFirst w c.args.question (packed g) a) c.in-Found.is c.in_ok-index.ensures.first in
    none_shorter w (packed g) (steps_of g) g.done c.requires.gathered c.args.question c.in-Found.index (length c.in_ok-entries-in-Found.entries.items) c.in_ok-entries-in-Found.ensures.deep first

pub returns-in-More-clause-fair : goal.returns-in-More-clause-fair
returns-in-More-clause-fair c =
    let g = c.args.self.now in (
      subst (λ (a : Answer). IsOpenAnswer g a) c.in-More.is c.in_ok-index.ensures.open,
      subst (λ (a : Answer). IsAnswer c.args.work.now c.args.question (packed g) a) c.in-More.is c.in_ok-index.ensures.answer,
    )
