use Rattle.gp_bank.proofs.RunLemmas.{same_state, same_reply}
use Rattle.gp_bank.proofs.laws.replicas_of_one_history_agree.Goals as goal

pub returns-clause-accounts : goal.returns-clause-accounts
returns-clause-accounts c = λ cs ds one. same_state cs ds one.0 one.1 one.2

pub returns-clause-replies : goal.returns-clause-replies
returns-clause-replies c = λ cs ds d one. same_reply cs ds d one.0 one.1 one.2
