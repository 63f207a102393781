-- A plan that a sound cell made.
use Rattle.std.proofs.Common.{◌≡◌, ℕ, List, map, refl, sym, ap, ◌∙◌, subst, Option, Some, None, Result, Ok, Err}
use Rattle.std.specs.Prelude.{IfOk, slice_get}
use Rattle.std.specs.Option.{option_map, option_to_list}
use Rattle.gp_memory.specs.declared.memory.NoMemory.{NoMemory}
use Rattle.gp_round.specs.Counts.{Counts}
use Rattle.gp_msg.specs.declared.node.Node.{Node}
use Rattle.gp_msg.specs.declared.message.Msg.{Msg}
use Rattle.gp_msg.specs.declared.record.Record.{Record}
use Rattle.gp_msg.specs.Messages.{Stamped, message_of}
use Rattle.gp_run.specs.Messages.{messages}
use Rattle.gp_run.specs.Runs.{newest_first}
use Rattle.gp_run.proofs.Telling.{message-entries}
use Rattle.gp_vlog.specs.Logs.{LogState}
use Rattle.gp_msg.specs.Records.{messages_in}
use Rattle.gp_wire.specs.Known.{PassState, records}
use Rattle.gp_work.specs.declared.moves.Move.{Move}
use Rattle.gp_work.specs.declared.moves.Move.TheVariants.{Offer, Begin, Take}
use Rattle.gp_work.specs.Moves.{event_of, Fits}
use Rattle.gp_cell.specs.declared.roles.Core.{Core}
use Rattle.gp_cell.specs.declared.planning.Plan.{Plan}
use Rattle.gp_cell.specs.Plans.{planned, named, IsNamed, Names}
use Rattle.gp_cell.specs.Cells.{IsSound, IsPlan, IsThoughtAt}
use Rattle.gp_cell.proofs.Stepping.{plan_lawful, plan_next, plan_role}

named_is : (rs : List Record) (k : ℕ) (m : Msg) → slice_get (messages_in rs) k ≡ Some m → slice_get (messages (newest_first rs)) k ≡ Some (message_of m)
named_is rs k m h = message-entries rs k ∙ ap (option_map message_of) h

stands : (rs : List Record) (mv : Move) (m : Option Msg) → Names (messages_in rs) mv m → IsNamed mv (named (messages (newest_first rs)) mv)
stands rs (Offer d) m h = tt
stands rs (Begin r) m h = tt
stands rs (Take k) None h = absurd h
stands rs (Take k) (Some m) h = subst (IsNamed (Take k)) (sym (named_is rs k m h)) tt

planned_named : (rs : List Record) (core : Core) (mv : Move) (m : Option Msg) → Names (messages_in rs) mv m → planned core mv (option_map message_of m) ≡ planned core mv (named (messages (newest_first rs)) mv)
planned_named rs core (Offer d) m h = refl
planned_named rs core (Begin r) m h = refl
planned_named rs core (Take k) None h = absurd h
planned_named rs core (Take k) (Some m) h = ap (planned core (Take k)) (sym (named_is rs k m h))

pub thinks : {D : Type 0} (config : Counts) (n : Node) (core : Core) (log : Option (LogState D)) (p : PassState) (posted : ℕ) (down : Option Move) (mv : Move) (m : Option Msg) (r : Result Plan NoMemory)
    → IsSound config n core log p posted down → Fits config n mv → Names (messages_in (records p)) mv m
    → IfOk r (λ q. q.next ≡ (planned core mv (option_map message_of m)).0) → IfOk r (λ q. map message_of q.made.out ≡ option_to_list (planned core mv (option_map message_of m)).1)
    → IfOk r (λ q. q.made.node ≡ n) → IfOk r (λ q. q.made.event ≡ event_of n mv) → IfOk r (IsThoughtAt config n core (records p) mv)
thinks config n core log p posted down mv m (Err e) s f h next sent node event = tt
thinks config n core log p posted down mv m (Ok q) s f h next sent node event =
    let same = planned_named (records p) core mv m h in
    let plan : IsPlan n core (messages (newest_first (records p))) mv q = record {
      next = next ∙ ap (λ (x : Core × Option Stamped). x.0) same;
      sent = sent ∙ ap (λ (x : Core × Option Stamped). option_to_list x.1) same;
      node_is = node;
      event_is = event;
      stands = stands (records p) mv m h;
    } in record {
      plan = plan;
      lawful = plan_lawful config n core log p posted down mv q s f plan;
      next = plan_next config n core log p posted down mv q s f plan;
      role = plan_role config n core log p posted down mv q s f plan;
    }
