use Rattle.net_dev.proofs.Arriving.{first_wait}
use Rattle.net_dev.proofs.law.the_first_64_wait.Goals as goal

pub returns-clause-wait : goal.returns-clause-wait
returns-clause-wait c = λ now nic b fs h. (first_wait now nic b fs h).wait

pub returns-clause-lost : goal.returns-clause-lost
returns-clause-lost c = λ now nic b fs h. (first_wait now nic b fs h).lost
