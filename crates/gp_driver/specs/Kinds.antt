-- The kinds of the messages of a run.
use Rattle.std.specs.Prelude.{ℕ}
use Rattle.gp_msg.specs.declared.message.MsgKind.{MsgKind}
use Rattle.gp_msg.specs.declared.message.MsgKind.TheVariants as Kind
use Rattle.gp_msg.specs.Messages.{Message, Proposed, Asked, Answered, Sent, Voted, Stamped, Offered, InEpoch, Final}

-- the kind of a message within an epoch
abbrev pub kind_in : Message → MsgKind
kind_in (Proposed c) = Kind.Propose
kind_in (Asked r) = Kind.P1a
kind_in (Answered r a q v) = Kind.P1b
kind_in (Sent r c v) = Kind.P2a
kind_in (Voted r a v) = Kind.P2b

-- the kind of a message
abbrev pub kind_of : Stamped → MsgKind
kind_of (Offered c) = Kind.Propose
kind_of (InEpoch e m) = kind_in m
kind_of (Final e l v) = Kind.Final

-- the number of a kind, in the order in which messages are sent
abbrev pub kind_number : MsgKind → ℕ
kind_number Kind.Propose = 0
kind_number Kind.P1a = 1
kind_number Kind.P1b = 2
kind_number Kind.P2a = 3
kind_number Kind.P2b = 4
kind_number Kind.Final = 5
