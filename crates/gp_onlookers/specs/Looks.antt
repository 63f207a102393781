-- What is seen of a key along an order of commands.
use Rattle.std.specs.Prelude.{◌≡◌, ◌≤◌, ℕ, true, cond, nat_lt, List, [], ◌∷◌, ◌++◌, length, map, take}
use Rattle.std.specs.List.{All}
use Rattle.std.specs.List.Sorted.{IsNonDecreasingBy}
use Rattle.gp_command.specs.declared.command.Command.{Command}
use Rattle.gp_history.specs.History.{History}
use Rattle.gp_history.specs.Sequence.{history_of, no_repeat}
use Rattle.gp_replica.specs.Machines.{state_after}
use Rattle.gp_store.specs.Effects.{store_rules}
use Rattle.gp_store.specs.Pairs.{value_at}
use Rattle.gp_onlookers.specs.declared.looks.Look.{Look}
use Rattle.gp_onlookers.specs.declared.looks.Looks.{Looks}

-- what is seen of the key after these commands
abbrev pub look_after : List ℕ → List Command → Look
look_after key cs = record { seen = length cs; value = value_at (state_after store_rules cs) key }

-- the look has seen a number of commands of the order, and the value of the key after that many first commands
pub record IsLook (key : List ℕ) (order : List Command) (look : Look) : Type 0 where
  pub within : look.seen ≤ length order
  pub value : look.value ≡ value_at (state_after store_rules (take look.seen order)) key

-- each is a look along the order, and none has seen fewer commands than one before it
pub record HasLooked (key : List ℕ) (order : List Command) (looks : List Look) : Type 0 where
  pub each : All (IsLook key order) looks
  pub ascending : IsNonDecreasingBy (λ (look : Look). look.seen) looks

-- the first look replaces one that has seen more
abbrev pub cut_at : Look → Look → Look
cut_at end look = cond (nat_lt end.seen look.seen) end look

-- these looks, cut at the end of the order, and a last one that has seen the whole order
abbrev pub looks_to_end : List ℕ → List Command → List Look → List Look
looks_to_end key order before = map (cut_at (look_after key order)) before ++ look_after key order ∷ []

-- all looks of a reader, which are along the order: those before, and the last one
pub record AreLooks (key : List ℕ) (order : List Command) (before looks : List Look) : Type 0 where
  pub along : HasLooked key order looks
  pub all : looks ≡ looks_to_end key order before

-- the commands of the history were run in one order, none of them twice, and both readers, with these looks before, looked along that order
pub record AreSeen (key : List ℕ) (h : History) (first_before second_before : List Look) (looks : Looks) : Type 0 where
  pub order : List Command
  pub history : history_of order ≡ h
  pub distinct : no_repeat order ≡ true
  pub identities : looks.order.items ≡ map (λ (c : Command). c.id) order
  pub first : AreLooks key order first_before looks.first.items
  pub second : AreLooks key order second_before looks.second.items
