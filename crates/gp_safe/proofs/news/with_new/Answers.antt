use Rattle.std.proofs.Common.{rules}
use Rattle.gp_safe.proofs.news.with_new.Goals as goal

pub returns-in_ok-join-in-None-Some-clause-joined : goal.returns-in_ok-join-in-None-Some-clause-joined
returns-in_ok-join-in-None-Some-clause-joined c = search rules
