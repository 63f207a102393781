use Rattle.gp_history.proofs.Next.{next_is, is_next}
use Rattle.gp_history.proofs.laws.the_next_command_is_the_least_that_is_ready.Goals as goal

pub returns-clause-next : goal.returns-clause-next
returns-clause-next g = λ h t c w e. next_is h t w c e

pub returns-clause-found : goal.returns-clause-found
returns-clause-found g = λ h t c w n. is_next h t w c n
