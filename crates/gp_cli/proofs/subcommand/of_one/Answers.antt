use Rattle.std.proofs.Common.{rules}
use Rattle.gp_cli.proofs.subcommand.of_one.Goals as goal

pub returns-in-adapt : goal.returns-in-adapt
returns-in-adapt c = search rules
