-- The tables over any c-structs, with rounds of three modes, for given numbers of acceptors and coordinators.
use Rattle.std.specs.Prelude.{ℕ, Bool, not, cond, nat_lt, List, [], Option, None}
use Rattle.gp_round.specs.declared.round.Mode.{Mode}
use Rattle.gp_round.specs.declared.round.Mode.TheVariants.{Single, Multi, Fast}
use Rattle.gp_round.specs.declared.round.Round.{Round}
use Rattle.gp_round.specs.Rounds.{earlier, same_round, round_zero, is_fast, is_multi}
use Rattle.gp_round.specs.Configs.{majority, quorum_size, is_owner}
use Rattle.gp_round.specs.Sets.{members, masks}
use Rattle.gp_cstructs.specs.CStructs.{Operations}
use Rattle.gp_cstructs.specs.Tables.{Tables}
use Rattle.gp_cstructs.specs.Lawful.{answers_by}
use Rattle.gp_cstructs.specs.Meets.{add_meet, quorum_meets, everyone}
use Rattle.gp_cstructs.specs.Choice.{safe_choice}

abbrev pub coordinator_meets_by : {V : Type 0} → (V → V → V) → ℕ → Mode → ℕ → (ℕ → Option V) → List V
coordinator_meets_by meet c Single lead f = add_meet (cond (nat_lt lead c) (f lead) None) []
coordinator_meets_by meet c Multi lead f = quorum_meets meet f everyone c (masks c (majority c))
coordinator_meets_by meet c Fast lead f = add_meet (cond (nat_lt lead c) (f lead) None) []

-- the meets of the values of the quorums of c coordinators, of the least size, whose members all have a value
abbrev pub coordinator_meets : {V : Type 0} → (V → V → V) → ℕ → Round → (ℕ → Option V) → List V
coordinator_meets meet c r f = coordinator_meets_by meet c r.mode r.lead f

-- the meets of the votes of the quorums of a acceptors, of the least size, whose members all have a vote
abbrev pub acceptor_meets : {V : Type 0} → (V → V → V) → ℕ → Round → (ℕ → Option V) → List V
acceptor_meets meet a r f = quorum_meets meet f everyone a (masks a (quorum_size a r.mode))

-- the answers are those of a quorum of phase 1
abbrev pub is_enough : {V : Type 0} → ℕ → (ℕ → Option (Round × V)) → Bool
is_enough a f = not (nat_lt (members (answers_by f) a) (majority a))

-- the tables for a acceptors and c coordinators
abbrev pub protocol : {V C D : Type 0} → Operations V C D → ℕ → ℕ → Tables
protocol {V} {C} {D} o a c = record {
  Value = V;
  prefix = o.prefix;
  empty = o.empty;
  meet = o.meet;
  join = o.join;
  Command = C;
  push = o.push;
  has = o.has;
  size = o.size;
  Draft = D;
  numbered = o.numbered;
  proposer_of = o.proposer_of;
  number_of = o.number_of;
  Round = Round;
  zero = round_zero;
  earlier = earlier;
  same = same_round;
  fast = λ r. is_fast r.mode;
  multi = λ r. is_multi r.mode;
  owns = is_owner c;
  acceptors = a;
  coordinators = c;
  first_quorum = majority a;
  quorum = λ r. quorum_size a r.mode;
  coordinator_meets = coordinator_meets o.meet c;
  acceptor_meets = acceptor_meets o.meet a;
  is_enough = is_enough a;
  safe_choice = safe_choice o.empty o.meet o.join a;
}
