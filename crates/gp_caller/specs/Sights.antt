-- What a watch saw of the messages of a list.
use Rattle.std.proofs.Common.{◌≡◌, ◌≤◌, ℕ, List, ◌++◌, length, take, sym, ap, ◌∙◌, arith, length-append}
use Rattle.std.proofs.lemmas.List.{take-append-le}
use Rattle.gp_msg.specs.declared.record.Record.{Record}
use Rattle.gp_run.specs.Messages.{messages}
use Rattle.gp_run.specs.Runs.{newest_first}
use Rattle.gp_run.proofs.Telling.{messages-append}
use Rattle.gp_cell.specs.Still.{entries_append}
use Rattle.gp_collide.specs.Watched.{Watched, watched}

-- a watch, and how many messages of a list it saw
pub record SightState : Type 0 where
  pub watch : Watched
  pub looked : ℕ

-- it saw the first messages of these records
pub record Saw (s : SightState) (seen : List Record) : Type 0 where
  pub within : s.looked ≤ length (messages (newest_first seen))
  pub watch_is : s.watch ≡ watched s.watch.round (take s.looked (messages (newest_first seen)))

-- it saw them all
abbrev pub SawAll : SightState → List Record → Type 0
SawAll s seen = s.watch ≡ watched s.watch.round (messages (newest_first seen))

messages_more : (seen more : List Record) → messages (newest_first (seen ++ more)) ≡ messages (newest_first seen) ++ messages (newest_first more)
messages_more seen more = ap messages (entries_append seen more) ∙ messages-append (newest_first more) (newest_first seen)

-- the messages of a list stay first if the list grows
pub saw_lasts : (s : SightState) (seen more : List Record) → Saw s seen → Saw s (seen ++ more)
saw_lasts s seen more h = record {
  within = let e = ap length (messages_more seen more) in let l = length-append (messages (newest_first seen)) (messages (newest_first more)) in let w = h.within in omega arith;
  watch_is = h.watch_is ∙ ap (watched s.watch.round) (sym (ap (take s.looked) (messages_more seen more) ∙ take-append-le s.looked (messages (newest_first seen)) (messages (newest_first more)) h.within));
}
