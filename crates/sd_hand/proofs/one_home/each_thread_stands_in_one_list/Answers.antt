use Rattle.sd_hand.proofs.OneLemmas.{stands_nowhere, stands_once}
use Rattle.sd_hand.proofs.one_home.each_thread_stands_in_one_list.Goals as goal

pub returns-clause-once : goal.returns-clause-once
returns-clause-once c n s homes t all inside there = stands_once n s homes t all inside there

pub returns-clause-nobody : goal.returns-clause-nobody
returns-clause-nobody c n s homes t all past = stands_nowhere n s homes t all past
