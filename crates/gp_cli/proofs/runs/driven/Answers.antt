use Rattle.std.proofs.Common.{subst, ap, arith}
use Rattle.gp_round.specs.Counts.{Counts}
use Rattle.gp_world.specs.State.{entries_of}
use Rattle.gp_cli.specs.Machines.{IsInAgreementOfAll}
use Rattle.gp_cli.proofs.Machines.{all_agree}
use Rattle.gp_cli.proofs.runs.driven.Goals as goal

pub returns-clause-agreement : goal.returns-clause-agreement
returns-clause-agreement g c =
    let world = c.in_ok-world.world in
    subst (λ (config : Counts). IsInAgreementOfAll config (entries_of world)) c.in_ok-world.ensures.config
    (all_agree world.config (let some = c.acceptors-some.ensures.least in let is = c.acceptors-some.ensures.value in let at = ap (λ (n : Counts). n.acceptors) c.config.ensures in omega (arith, some, is, at)) (entries_of world) c.records-legal.ensures.legal)
