use Rattle.std.proofs.Common.{sym, ap}
use Rattle.gp_text.specs.Playing.{stopped_at}
use Rattle.gp_text.proofs.played.Unplayed.at.Goals as goal

pub returns-in-Refused : goal.returns-in-Refused
returns-in-Refused c = ap (λ why. stopped_at c.args.line why c.args.records) (sym c.in-Refused.is)
