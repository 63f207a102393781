-- What a line can say in a configuration.
use Rattle.std.specs.Prelude.{◌<◌, ◌^◌, IsTrue}
use Rattle.gp_command.specs.declared.command.TheConstants.{PROPOSERS}
use Rattle.gp_round.specs.Counts.{Counts}
use Rattle.gp_round.specs.Configs.{is_owner}
use Rattle.gp_msg.specs.Nodes.{is_present, may_keep}
use Rattle.gp_service.specs.Languages.{Language, IsSpoken}
use Rattle.gp_script.specs.declared.items.Item.{Item}
use Rattle.gp_script.specs.declared.items.Item.TheVariants.{Offer, Begin, Take, Fall, Show}

-- the nodes are of the configuration, a round that is begun is its coordinator's own, and a crash is one that the node can have
abbrev pub IsInPlace : Counts → Item → Type 0
IsInPlace c (Offer proposer draft) = proposer < PROPOSERS
IsInPlace c (Begin coordinator round) = IsTrue (is_owner c.coordinators coordinator round)
IsInPlace c (Take node message) = IsTrue (is_present c node) × (message < 2 ^ 64)
IsInPlace c (Fall node what) = IsTrue (is_present c node) × IsTrue (may_keep c (2 ^ 64) node what)
IsInPlace c (Show learner) = learner < c.learners

-- the same, and an offered draft is that of an operation of the language
abbrev pub IsAdmitted : Language → Counts → Item → Type 0
IsAdmitted language c (Offer proposer draft) = (proposer < PROPOSERS) × IsSpoken language draft
IsAdmitted language c (Begin coordinator round) = IsInPlace c (Begin coordinator round)
IsAdmitted language c (Take node message) = IsInPlace c (Take node message)
IsAdmitted language c (Fall node what) = IsInPlace c (Fall node what)
IsAdmitted language c (Show learner) = IsInPlace c (Show learner)
