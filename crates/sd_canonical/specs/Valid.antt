-- What a workload is beyond what its type keeps: the numbers of users and the first counts of semaphores are those of 16
-- bits. All else that makes a workload valid is a part of the type. Source: this project's own.
use Rattle.std.specs.Prelude.{nat_le, IsTrue}
use Rattle.std.specs.List.{list_all}
use Rattle.sd_types.specs.Works.{has_small_count}
use Rattle.sd_types.specs.declared.works.Work.{Work}

pub record IsValid (w : Work) : Type 0 where
  pub uids : IsTrue (list_all (λ t. nat_le t.uid 65535) w.threads)
  pub counts : IsTrue (list_all (λ k. has_small_count k.1) w.chans)
