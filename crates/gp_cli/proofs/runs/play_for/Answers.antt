-- What a machine's own call says, said of the machine by its name.
use Rattle.std.proofs.Common.{sym, subst}
use Rattle.gp_text.specs.Playing.{PlaysFor}
use Rattle.gp_text.specs.Limits.{SaysLegallyFor}
use Rattle.gp_cli.specs.declared.subcommand.Operations.{Operations}
use Rattle.gp_cli.specs.Machines.{profile_of, reading_of}
use Rattle.gp_cli.proofs.runs.play_for.Goals as goal

pub returns-in-Store-clause-plays : goal.returns-in-Store-clause-plays
returns-in-Store-clause-plays c = subst (λ (o : Operations). PlaysFor (profile_of o) (reading_of o c.args.script.now) c.play.result) (sym c.in-Store.is) c.play.ensures.plays

pub returns-in-Store-clause-legal : goal.returns-in-Store-clause-legal
returns-in-Store-clause-legal c = subst (λ (o : Operations). SaysLegallyFor (profile_of o) (reading_of o c.args.script.now)) (sym c.in-Store.is) c.play.ensures.legal

pub returns-in-Bank-clause-plays : goal.returns-in-Bank-clause-plays
returns-in-Bank-clause-plays c = subst (λ (o : Operations). PlaysFor (profile_of o) (reading_of o c.args.script.now) c.play_bank.result) (sym c.in-Bank.is) c.play_bank.ensures.plays

pub returns-in-Bank-clause-legal : goal.returns-in-Bank-clause-legal
returns-in-Bank-clause-legal c = subst (λ (o : Operations). SaysLegallyFor (profile_of o) (reading_of o c.args.script.now)) (sym c.in-Bank.is) c.play_bank.ensures.legal
