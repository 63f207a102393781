-- A legal run is in agreement for the replicas of each machine.
use Rattle.std.proofs.Common.{ℕ, ◌<◌, List, arith}
use Rattle.gp_round.specs.Counts.{Counts}
use Rattle.gp_msg.specs.Messages.{Entry}
use Rattle.gp_msg.specs.declared.event.Event.{Event}
use Rattle.gp_run.specs.Legal.{Legal}
use Rattle.gp_run.specs.Runs.{run_of}
use Rattle.gp_replica.specs.Machines.{AreIndependent}
use Rattle.gp_store.specs.Commuting.{independent as store_independent}
use Rattle.gp_bank.specs.Commuting.{independent as bank_independent}
use Rattle.gp_service.specs.Languages.{IsLanguage}
use Rattle.gp_service.specs.StoreLaws.{store_spelled}
use Rattle.gp_service.specs.BankLaws.{bank_spelled}
use Rattle.gp_report.specs.Replicas.{IsInAgreementUnder}
use Rattle.gp_report.proofs.Agreeing.{in_agreement_under}
use Rattle.gp_text.specs.Limits.{IsLegalScriptFor, SaysLegallyFor}
use Rattle.gp_text.proofs.SaidLegally.{said_legal}
use Rattle.gp_cli.specs.declared.subcommand.Operations.{Operations}
use Rattle.gp_cli.specs.declared.subcommand.Operations.TheVariants.{Store, Bank}
use Rattle.gp_cli.specs.Machines.{profile_of, reading_of, IsInAgreementOfAll}

-- commands of a machine that do not conflict commute
independence_of : (operations : Operations) → AreIndependent (profile_of operations).rules
independence_of Store = store_independent
independence_of Bank = bank_independent

-- an operation of a machine has one spelling
spelled_of : (operations : Operations) → IsLanguage (profile_of operations).language
spelled_of Store = store_spelled
spelled_of Bank = bank_spelled

-- a legal run is in agreement
pub all_agree : (config : Counts) → 0 < config.acceptors → (run : List Entry) → Legal config run → IsInAgreementOfAll config run
all_agree config some run legal =
    let of : (operations : Operations) → IsInAgreementUnder (profile_of operations).rules config run = λ operations. in_agreement_under (profile_of operations).rules (independence_of operations) config some run legal in record {
      legal = legal;
      agrees = (of Store).agrees;
      replicas = λ operations. (of operations).replicas;
    }

-- and so is the run of a script, whatever machine it is for
pub script_agrees : (operations : Operations) (config : Counts) (events : List Event) → IsLegalScriptFor (profile_of operations) config events → IsInAgreementOfAll config (run_of config events)
script_agrees operations config events said =
    let range = said.range in
    let three = range.three_acceptors in
    let agreement = said.agreement in
    all_agree config (omega (arith, three)) (run_of config events) agreement.legal

-- what a script says is legal
pub script_legal : (operations : Operations) (bytes : List ℕ) → SaysLegallyFor (profile_of operations) (reading_of operations bytes)
script_legal operations bytes = said_legal (profile_of operations) (spelled_of operations) (independence_of operations) bytes
