-- The words that name a subcommand.
use Rattle.std.specs.Prelude.{◌≡◌, ◌≤◌, ◌<◌, ℕ, List, [], ◌∷◌, Option, Some, None, map, codes, if◌then◌else◌, String, string_bytes}
use Rattle.std.specs.Option.{option_and_then, option_map}
use Rattle.std.specs.Str.{bytes_eq}
use Rattle.std.specs.declared.alloc.Global.{Global}
use Rattle.gp_round.specs.Configs.{is_between, bad_count}
use Rattle.gp_words.specs.Numbers.{number_of}
use Rattle.gp_random.specs.declared.workload.TheConstants.{MOST_COMMANDS}
use Rattle.gp_sim.specs.declared.driving.TheConstants.{MOST_DRIVEN}
use Rattle.gp_command.specs.Key.{is_key}
use Rattle.gp_cluster.specs.declared.policy.RoundPolicy.TheVariants.{Multi, Adaptive}
use Rattle.gp_cli.specs.declared.subcommand.Operations.TheVariants.{Store, Bank}
use Rattle.gp_vlog.specs.declared.header.TheConstants.{LEAST_LIMIT, MOST_LIMIT}
use Rattle.gp_cli.specs.declared.subcommand.Subcommand.{Subcommand}
use Rattle.gp_cli.specs.declared.subcommand.Subcommand.TheVariants.{Play, Run, Sim, Drive, Log, Upgrade, Audit}

-- the words, each as its bytes
abbrev pub texts_of : List (String Global) → List (List ℕ)
texts_of words = map (λ word. string_bytes word) words

-- the number that a word spells, if it is in the range
abbrev pub number_within : ℕ → ℕ → List ℕ → Option ℕ
number_within least most word = option_and_then (λ n. if is_between least most n then Some n else None) (number_of word)

-- the numbers of acceptors, of learners and of commands
abbrev pub drive_named : List ℕ → List ℕ → List ℕ → Option Subcommand
drive_named acceptors learners commands =
    option_and_then (λ a. option_and_then (λ l. option_map (λ n. Drive a l n) (number_within 1 MOST_DRIVEN commands)) (number_within 1 4 learners)) (number_within 3 7 acceptors)

-- the seed and the number of commands
abbrev pub sim_named : List ℕ → List ℕ → Option Subcommand
sim_named seed commands = option_and_then (λ s. option_map (λ n. Sim s n) (number_within 1 MOST_COMMANDS commands)) (number_of seed)

-- `play` and `bank`, which play a script of the key store and one of accounts, `run` and `adapt` with the greatest limit, and `audit`
abbrev pub named_by_one : List ℕ → Option Subcommand
named_by_one word =
    if bytes_eq word (codes "play") then Some (Play Store)
    else if bytes_eq word (codes "bank") then Some (Play Bank)
    else if bytes_eq word (codes "run") then Some (Run Multi MOST_LIMIT None)
    else if bytes_eq word (codes "adapt") then Some (Run Adaptive MOST_LIMIT None)
    else if bytes_eq word (codes "audit") then Some Audit else None

-- the limit of each log of nodes that run
abbrev pub run_named : List ℕ → Option Subcommand
run_named limit = option_map (λ n. Run Multi n None) (number_within LEAST_LIMIT MOST_LIMIT limit)

-- the key that readers view while nodes run with the greatest limit
abbrev pub views_named : List ℕ → Option Subcommand
views_named key = if is_key key then Some (Run Multi MOST_LIMIT (Some key)) else None

-- the number of a disk
abbrev pub disk_named : List ℕ → Option ℕ
disk_named = number_within 0 11

-- what is done with the log of a disk
abbrev pub log_named : List ℕ → ℕ → Option Subcommand
log_named word k = if bytes_eq word (codes "log") then Some (Log k) else if bytes_eq word (codes "upgrade") then Some (Upgrade k) else None

-- `log K` and `upgrade K`
abbrev pub logged_disk : List ℕ → List ℕ → Option Subcommand
logged_disk word number = option_and_then (log_named word) (disk_named number)

-- `run LIMIT`, `views KEY`, `log K` and `upgrade K`
abbrev pub named_by_two : List ℕ → List ℕ → Option Subcommand
named_by_two word other =
    if bytes_eq word (codes "run") then run_named other
    else if bytes_eq word (codes "views") then views_named other else logged_disk word other

-- the subcommand that the words name
abbrev pub named : List (List ℕ) → Option Subcommand
named [] = None
named (word ∷ []) = named_by_one word
named (word ∷ x ∷ []) = named_by_two word x
named (word ∷ x ∷ y ∷ []) = if bytes_eq word (codes "sim") then sim_named x y else None
named (word ∷ x ∷ y ∷ z ∷ []) = if bytes_eq word (codes "drive") then drive_named x y z else None
named (word ∷ x ∷ y ∷ z ∷ other ∷ others) = None

-- the numbers of a subcommand are in range
abbrev pub IsWithin : Subcommand → Type 0
IsWithin (Play operations) = Unit {0}
IsWithin (Run policy limit viewed) = (LEAST_LIMIT ≤ limit) × (limit ≤ MOST_LIMIT)
IsWithin (Sim seed commands) = (1 ≤ commands) × (commands ≤ MOST_COMMANDS)
IsWithin (Drive acceptors learners commands) = (bad_count acceptors 3 learners ≡ None) × (commands ≤ MOST_DRIVEN)
IsWithin (Log disk) = disk < 12
IsWithin (Upgrade disk) = disk < 12
IsWithin Audit = Unit {0}
