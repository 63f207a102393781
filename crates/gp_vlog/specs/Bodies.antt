-- The body of an entry: what it means after another entry, and what is written for a durable part.
use Rattle.std.specs.Prelude.{◌≡◌, ℕ, zero, suc, ◌+◌, Bool, true, false, not, ◌&&◌, ◌||◌, List, [], ◌∷◌, ◌++◌, length, drop, Option, Some, None, Result, Ok, Err, nat_lt, nat_le, nat_eq, if◌then◌else◌}
use Rattle.std.specs.Int.{w32, to_le_bytes, from_le_bytes}
use Rattle.std.specs.List.{flat_map}
use Rattle.gp_command.specs.declared.command.Command.{Command}
use Rattle.gp_command.specs.declared.reading.ReadRefused.{ReadRefused}
use Rattle.gp_command.specs.Spelling.{spelling}
use Rattle.gp_command.specs.Reading.{command_reading, when}
use Rattle.gp_history.specs.History.{History, empty, size, pushes}
use Rattle.gp_round.specs.declared.round.Mode.{Mode}
use Rattle.gp_round.specs.declared.round.Mode.TheVariants.{Single, Multi, Fast}
use Rattle.gp_round.specs.declared.round.Round.{Round}
use Rattle.gp_round.specs.declared.config.TheConstants.{LAST_COUNT}
use Rattle.gp_round.specs.Rounds.{mode_number, earlier}
use Rattle.gp_msg.specs.Messages.{Part, Acceptors, Coordinators, EpochPart}
use Rattle.gp_vlog.specs.declared.reading.Kind.{Kind}
use Rattle.gp_vlog.specs.declared.reading.Kind.TheVariants.{Whole, Coordinating, Adding}
use Rattle.gp_vlog.specs.Prefixes.{is_prefix, additions, adds}

-- a durable part, and whether its entry is of version 1
pub record LogEntry : Type 0 where
  pub old : Bool
  pub part : EpochPart

-- the part of an acceptor in an epoch
abbrev pub acceptors : ℕ → Round → Round → History → EpochPart
acceptors epoch round voted vote = record { epoch = epoch; part = Acceptors round voted vote }

-- the part of a coordinator in an epoch
abbrev pub coordinators : ℕ → Round → EpochPart
coordinators epoch round = record { epoch = epoch; part = Coordinators round }

-- ---- rounds

-- the greatest lead of a round of this mode: 4, or 0 in a multi round
abbrev pub most_lead : Mode → ℕ
most_lead Single = 4
most_lead Multi = 0
most_lead Fast = 4

abbrev pub is_zero : Round → Bool
is_zero r = nat_eq r.count 0 && (nat_eq (mode_number r.mode) 0 && nat_eq r.lead 0)

-- round zero, or one that a coordinator may begin
abbrev pub is_round : Round → Bool
is_round r = is_zero r || (nat_le 1 r.count && (nat_le r.count LAST_COUNT && nat_le r.lead (most_lead r.mode)))

-- the count in four bytes, the mode, and the lead in four bytes
abbrev pub round_spelling : Round → List ℕ
round_spelling r = to_le_bytes w32 r.count ++ (mode_number r.mode ∷ to_le_bytes w32 r.lead)

-- ---- what a body means: each field is read, with the bytes that remain after it

infixl 10 ◌>>=◌
abbrev pub ◌>>=◌ : {A B : Type 0} → Option A → (A → Option B) → Option B
(Some x) >>= f = f x
None >>= f = None

abbrev pub is_end : List ℕ → Bool
is_end bytes = nat_eq (length bytes) 0

abbrev pub number_at : List ℕ → Option (ℕ × List ℕ)
number_at (a ∷ b ∷ c ∷ d ∷ rest) = Some (from_le_bytes w32 (a ∷ b ∷ c ∷ d ∷ []), rest)
number_at rest = None

abbrev pub mode_at : List ℕ → Option (Mode × List ℕ)
mode_at [] = None
mode_at (zero ∷ rest) = Some (Single, rest)
mode_at (suc zero ∷ rest) = Some (Multi, rest)
mode_at (suc (suc zero) ∷ rest) = Some (Fast, rest)
mode_at (suc (suc (suc n)) ∷ rest) = None

abbrev pub round_of : ℕ → Mode → ℕ → Round
round_of count mode lead = record { count = count; mode = mode; lead = lead }

unfoldable pub round_at : List ℕ → Option (Round × List ℕ)
round_at bytes = do
  count ← number_at bytes
  mode ← mode_at count.1
  lead ← number_at mode.1
  when (is_round (round_of count.0 mode.0 lead.0)) (round_of count.0 mode.0 lead.0, lead.1)

abbrev pub found : List ℕ → Result (Command × ℕ) ReadRefused → Option (Command × List ℕ)
found bytes (Ok x) = Some (x.0, drop x.1 bytes)
found bytes (Err e) = None

unfoldable pub command_at : List ℕ → Option (Command × List ℕ)
command_at bytes = found bytes (command_reading bytes)

-- this number of commands, one after another
unfoldable pub commands_at : ℕ → List ℕ → Option (List Command × List ℕ)
commands_at zero bytes = Some ([], bytes)
commands_at (suc n) bytes = do
  first ← command_at bytes
  others ← commands_at n first.1
  Some (first.0 ∷ others.0, others.1)

-- the vote with these commands, which are what it adds to the vote before
abbrev pub vote_with : History → List Command → Option History
vote_with base commands = when (adds base commands) (pushes base commands)

-- round, voted round, and the commands that the vote has and `base` lacks
unfoldable pub acceptor_at : ℕ → History → List ℕ → Option EpochPart
acceptor_at epoch base bytes = do
  round ← round_at bytes
  voted ← round_at round.1
  count ← number_at voted.1
  commands ← commands_at count.0 count.1
  when (is_end commands.1 && (not (earlier round.0 voted.0) && adds base commands.0)) (acceptors epoch round.0 voted.0 (pushes base commands.0))

unfoldable pub coordinator_at : ℕ → List ℕ → Option EpochPart
coordinator_at epoch bytes = do
  round ← round_at bytes
  when (is_end round.1) (coordinators epoch round.0)

-- whether the first byte is of version 1, and the kind
abbrev pub kind_of : ℕ → Option (Bool × Kind)
kind_of first =
    if nat_eq first 1 then Some (true, Whole)
    else if nat_eq first 2 then Some (true, Coordinating)
    else if nat_eq first 3 then Some (true, Adding)
    else if nat_eq first 17 then Some (false, Whole)
    else if nat_eq first 18 then Some (false, Coordinating)
    else if nat_eq first 19 then Some (false, Adding)
    else None

-- version 1 has only epoch 0
abbrev pub epoch_at : Bool → List ℕ → Option (ℕ × List ℕ)
epoch_at true bytes = Some (0, bytes)
epoch_at false bytes = number_at bytes

-- the vote of an acceptor's part of this epoch, if it is not empty
abbrev pub vote_of : Part → Bool → Option History
vote_of (Acceptors r q u) is_same = when (is_same && nat_lt 0 (size u)) u
vote_of (Coordinators r) is_same = None

abbrev pub vote_before : Option EpochPart → ℕ → Option History
vote_before None epoch = None
vote_before (Some before) epoch = vote_of before.part (nat_eq before.epoch epoch)

abbrev pub part_at : Kind → Option EpochPart → ℕ → List ℕ → Option EpochPart
part_at Whole before epoch bytes = acceptor_at epoch empty bytes
part_at Coordinating before epoch bytes = coordinator_at epoch bytes
part_at Adding before epoch bytes = vote_before before epoch >>= λ base. acceptor_at epoch base bytes

abbrev pub part_before : Option LogEntry → Option EpochPart
part_before None = None
part_before (Some before) = Some before.part

-- all entries of an area are of one version
abbrev pub fits_version : Option LogEntry → Bool → Bool
fits_version None old = true
fits_version (Some before) true = before.old
fits_version (Some before) false = not before.old

abbrev pub entry_with : Bool → EpochPart → LogEntry
entry_with old part = record { old = old; part = part }

-- the entry that a body means after another one, if it keeps the rules
unfoldable pub entry_of : Option LogEntry → List ℕ → Option LogEntry
entry_of before [] = None
entry_of before (first ∷ bytes) = do
  kind ← kind_of first
  epoch ← epoch_at kind.0 bytes
  part ← part_at kind.1 (part_before before) epoch.0 epoch.1
  when (fits_version before kind.0) (entry_with kind.0 part)

-- what was written for a command is read again, whatever bytes follow
abbrev pub IsReadAgain : Command → Type 0
IsReadAgain c = (rest : List ℕ) → command_reading (spelling c ++ rest) ≡ Ok (c, length (spelling c))

-- ---- what is written, which is of version 2

-- the vote before, if the new one only adds to it
abbrev pub base_for : Option EpochPart → ℕ → History → Option History
base_for before epoch vote = vote_before before epoch >>= λ base. when (is_prefix base vote) base

abbrev pub vote_spelling : List Command → List ℕ
vote_spelling commands = to_le_bytes w32 (length commands) ++ flat_map spelling commands

abbrev pub acceptor_body : ℕ → ℕ → Round → Round → List Command → List ℕ
acceptor_body first epoch round voted commands = first ∷ (to_le_bytes w32 epoch ++ (round_spelling round ++ (round_spelling voted ++ vote_spelling commands)))

-- without a base the whole vote is added to the empty one
abbrev pub base_or_empty : Option History → History
base_or_empty None = empty
base_or_empty (Some base) = base

abbrev pub first_byte : Option History → ℕ
first_byte None = 17
first_byte (Some base) = 19

abbrev pub votes_body : ℕ → Round → Round → History → Option History → List ℕ
votes_body epoch round voted vote base = acceptor_body (first_byte base) epoch round voted (additions (base_or_empty base) vote)

abbrev pub coordinator_body : ℕ → Round → List ℕ
coordinator_body epoch round = 18 ∷ (to_le_bytes w32 epoch ++ round_spelling round)

-- the body for a part in an epoch, after another part
abbrev pub body_in : Option EpochPart → ℕ → Part → List ℕ
body_in before epoch (Acceptors round voted vote) = votes_body epoch round voted vote (base_for before epoch vote)
body_in before epoch (Coordinators round) = coordinator_body epoch round

-- the body for a durable part after another one
unfoldable pub body_of : Option EpochPart → EpochPart → List ℕ
body_of before entry = body_in before entry.epoch entry.part

-- the number of bytes of the length, the body and the next gate
unfoldable pub need : Option EpochPart → EpochPart → ℕ
need before part = 5 + length (body_of before part)
