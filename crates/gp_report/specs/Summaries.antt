-- The summary of a run of two learners whose events were drawn.
use Rattle.std.specs.Prelude.{◌≡◌, ℕ, ◌+◌, ◌%◌, ◌^◌, Bool, ◌&&◌, nat_eq, List, ◌++◌, length, map, codes, decimal, sum, if◌then◌else◌}
use Rattle.std.specs.FinMap.{entries}
use Rattle.std.specs.Str.{bytes_eq}
use Rattle.std.specs.Cmp.Lexicographic.{pointwise}
use Rattle.gp_command.specs.declared.command.Command.{Command}
use Rattle.gp_command.specs.declared.command.CommandId.{CommandId}
use Rattle.gp_history.specs.Sequence.{history_of}
use Rattle.gp_history.specs.Canonical.{canonical}
use Rattle.gp_round.specs.Counts.{Counts}
use Rattle.gp_msg.specs.Messages.{Entry}
use Rattle.gp_run.specs.Messages.{messages}
use Rattle.gp_run.specs.Learned.{learned_at}
use Rattle.gp_replica.specs.declared.reply.Reply.{Reply}
use Rattle.gp_replica.specs.declared.reply.Reply.TheVariants.{Done, Absent, Yes, No, Value}
use Rattle.gp_replica.specs.Machines.{state_of, replies_to, is_same_id}
use Rattle.gp_replica.specs.Runs.{by_identity}
use Rattle.gp_store.specs.Pairs.{Pairs}
use Rattle.gp_store.specs.Effects.{store_rules}
use Rattle.gp_report.specs.Texts.{totals_line}

-- ---- what two key stores hold and replied

-- the state of a key store that ran a sequence
abbrev pub held_after : List Command → Pairs
held_after ran = state_of store_rules (history_of ran)

-- its replies, each under the identity of its command
abbrev pub replied_to : List Command → List (CommandId × Reply)
replied_to ran = by_identity (replies_to store_rules ran)

-- a number for each reply
abbrev pub reply_number : Reply → ℕ
reply_number Done = 0
reply_number Absent = 1
reply_number Yes = 2
reply_number No = 3
reply_number (Value value) = 4 + value

-- the keys are the same, and the values
abbrev pub is_same_pair : List ℕ × ℕ → List ℕ × ℕ → Bool
is_same_pair pair other = bytes_eq pair.0 other.0 && nat_eq pair.1 other.1

-- the identities are the same, and the replies
abbrev pub is_same_item : CommandId × Reply → CommandId × Reply → Bool
is_same_item item other = is_same_id item.0 other.0 && nat_eq (reply_number item.1) (reply_number other.1)

-- whether key stores that ran the two sequences hold and replied the same
unfoldable pub are_alike : List Command → List Command → Bool
are_alike ran other = pointwise is_same_pair (entries (held_after ran)) (entries (held_after other)) && pointwise is_same_item (replied_to ran) (replied_to other)

-- key stores that ran the two sequences have equal states, and gave equal replies under equal identities, in the same order
pub record AreAlike (ran other : List Command) : Type 0 where
  pub state : held_after ran ≡ held_after other
  pub replies : replied_to ran ≡ replied_to other

-- ---- the lines of a summary

-- the sum of the values of these pairs, modulo 2^64
abbrev pub sum_of_values : List (List ℕ × ℕ) → ℕ
sum_of_values pairs = sum (map (λ pair. pair.1) pairs) % 2 ^ 64

-- what was asked for
abbrev pub asked_line : ℕ → ℕ → List ℕ
asked_line seed commands = codes "sim " ++ decimal seed ++ codes " " ++ decimal commands ++ codes "\n"

-- how many commands each of two replicas ran
abbrev pub counts_line : ℕ → ℕ → List ℕ
counts_line ran other = codes "learned " ++ decimal ran ++ codes " " ++ decimal other ++ codes "\n"

-- whether they hold and replied the same
abbrev pub same_line : Bool → List ℕ
same_line alike = if alike then codes "same yes\n" else codes "same no\n"

-- a sum of values
abbrev pub sum_line : ℕ → List ℕ
sum_line sum = codes "sum " ++ decimal sum ++ codes "\n"

-- how many commands each of two replicas ran, whether their key stores hold and replied the same, and the sum of the values of the first
abbrev pub replicas_summary : List Command → List Command → List ℕ
replicas_summary ran other =
    counts_line (length ran) (length other) ++ same_line (are_alike ran other) ++ sum_line (sum_of_values (entries (held_after ran)))

-- what was asked for, these lines of replicas that ran what learners 0 and 1 learned, in canonical order, and the totals
unfoldable pub summary : ℕ → ℕ → Counts → List Entry → List ℕ
summary seed commands config run =
    asked_line seed commands ++ replicas_summary (canonical (learned_at config 0 run)) (canonical (learned_at config 1 run)) ++ totals_line (length run) (length (messages run))
