-- The machines that the operations of a script are for.
use Rattle.std.specs.Prelude.{ℕ, List}
use Rattle.gp_round.specs.Counts.{Counts}
use Rattle.gp_msg.specs.Messages.{Entry}
use Rattle.gp_run.specs.Legal.{Legal}
use Rattle.gp_run.specs.Agreement.{Agrees}
use Rattle.gp_store.specs.Pairs.{Pairs}
use Rattle.gp_bank.specs.Accounts.{Accounts}
use Rattle.gp_service.specs.Profiles.{Profile}
use Rattle.gp_service.specs.Stores.{store_profile}
use Rattle.gp_service.specs.Banks.{bank_profile}
use Rattle.gp_report.specs.Replicas.{ReplicasAgreeUnder}
use Rattle.gp_text.specs.Reading.{Reading, reading_in}
use Rattle.gp_cli.specs.declared.subcommand.Operations.{Operations}
use Rattle.gp_cli.specs.declared.subcommand.Operations.TheVariants.{Store, Bank}

-- what a contract sees of the machine's state
abbrev pub StateOf : Operations → Type 0
StateOf Store = Pairs
StateOf Bank = Accounts

-- what words say to the machine, what it does, and what reports show of it
abbrev pub profile_of : (operations : Operations) → Profile (StateOf operations)
profile_of Store = store_profile
profile_of Bank = bank_profile

-- what a script says if its operations are for the machine
abbrev pub reading_of : Operations → List ℕ → Reading
reading_of operations bytes = reading_in (profile_of operations).language bytes

-- the run is a legal one of the configuration, what learners show in it agrees, and so do replicas of each machine
pub record IsInAgreementOfAll (config : Counts) (es : List Entry) : Type 0 where
  pub legal : Legal config es
  pub agrees : Agrees config es
  pub replicas : (operations : Operations) → ReplicasAgreeUnder (profile_of operations).rules config es
