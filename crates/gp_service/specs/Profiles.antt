-- What scripts and reports use of a service.
use Rattle.std.specs.Prelude.{◌≡◌, ℕ, List}
use Rattle.gp_command.specs.declared.command.Command.{Command}
use Rattle.gp_replica.specs.Machines.{Rules}
use Rattle.gp_store.specs.Pairs.{Pairs}
use Rattle.gp_service.specs.Languages.{Language, IsLanguage}

-- what words mean, what the machine does, the pairs that its state shows, and the lines after the replies of a learner whose replica ran these commands
pub record Profile (S : Type 0) : Type 0 where
  pub language : Language
  pub rules : Rules S
  pub pairs : S → Pairs
  pub totals : ℕ → List Command → List ℕ

-- the rules are those of the machine, and an operation has one spelling
pub record IsProfileOf {S : Type 0} (rules : Rules S) (profile : Profile S) : Type 0 where
  pub same_rules : profile.rules ≡ rules
  pub spelled : IsLanguage profile.language
