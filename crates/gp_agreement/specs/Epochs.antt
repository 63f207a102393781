-- The epochs of messages.
use Rattle.std.specs.Prelude.{ℕ, suc}
use Rattle.gp_msg.specs.Messages.{Stamped, Offered, InEpoch, Final}

-- the epoch to which a message leads a node: of a Final the next one, and otherwise its own
abbrev pub leads_to : Stamped → ℕ
leads_to (Offered c) = 0
leads_to (InEpoch e m) = e
leads_to (Final e l v) = suc e
