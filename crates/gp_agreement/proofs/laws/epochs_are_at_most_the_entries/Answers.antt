use Rattle.gp_agreement.proofs.EpochCounts.{all_counted, message_counted}
use Rattle.gp_agreement.proofs.laws.epochs_are_at_most_the_entries.Goals as goal

pub returns-clause-coordinators : goal.returns-clause-coordinators
returns-clause-coordinators g = λ config es legal c. (all_counted config es legal).coordinators c

pub returns-clause-acceptors : goal.returns-clause-acceptors
returns-clause-acceptors g = λ config es legal a. (all_counted config es legal).acceptors a

pub returns-clause-learners : goal.returns-clause-learners
returns-clause-learners g = λ config es legal l. (all_counted config es legal).learners l

pub returns-clause-messages : goal.returns-clause-messages
returns-clause-messages g = message_counted
