use Rattle.gp_text.proofs.played.play_bank.Goals as goal

pub returns-clause-plays : goal.returns-clause-plays
returns-clause-plays c = c.play_for.ensures.plays

pub returns-clause-agreement : goal.returns-clause-agreement
returns-clause-agreement c = c.play_for.ensures.agreement

pub returns-clause-legal : goal.returns-clause-legal
returns-clause-legal c = c.play_for.ensures.legal
