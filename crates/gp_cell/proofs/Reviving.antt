-- A node that comes up again.
use Rattle.std.proofs.Common.{◌≡◌, List, [], ◌++◌, sym, ap, ◌∙◌, subst, Option, Some}
use Rattle.gp_round.specs.Counts.{Counts}
use Rattle.gp_msg.specs.declared.node.Node.{Node}
use Rattle.gp_msg.specs.declared.event.Event.TheVariants.{Fall}
use Rattle.gp_msg.specs.declared.event.Kept.{Kept}
use Rattle.gp_msg.specs.declared.record.Record.{Record}
use Rattle.gp_msg.specs.Messages.{Stamped, EpochPart}
use Rattle.gp_run.specs.Messages.{messages}
use Rattle.gp_run.specs.Runs.{newest_first}
use Rattle.gp_run.proofs.Telling.{messages-append}
use Rattle.gp_vlog.specs.Logs.{LogState}
use Rattle.gp_wire.specs.Known.{PassState, records}
use Rattle.gp_work.specs.declared.moves.Move.{Move}
use Rattle.gp_work.specs.Moves.{event_of}
use Rattle.gp_wire.specs.Own.{own}
use Rattle.gp_cell.specs.declared.roles.Core.{Core}
use Rattle.gp_cell.specs.Cores.{opening, acts, part_in}
use Rattle.gp_cell.specs.Still.{entries_append}
use Rattle.gp_cell.specs.declared.planning.Plan.{Plan}
use Rattle.gp_cell.specs.Cells.{CellState, cell_of, IsThoughtAt, Keeps, PostsOne}
use Rattle.gp_cell.specs.Passing.{Later}
use Rattle.gp_cell.specs.Falls.{fell, KeepsMove, IsFallAt, IsRevival, Rises}
use Rattle.gp_cell.proofs.Going.{posts_after}

-- the next core is what the event of the move makes of the core
pub next_core : (config : Counts) (n : Node) (core : Core) (seen : List Record) (mv : Move) (plan : Plan) → IsThoughtAt config n core seen mv plan → (more : List Stamped) → plan.next ≡ (acts n core (messages (newest_first seen) ++ more) (event_of n mv)).0
next_core config n core seen mv plan t more = t.next more ∙ ap (λ e. (acts n core (messages (newest_first seen) ++ more) e).0) t.plan.event_is

-- the record of a fall, and the core that it leaves
pub revives : {D : Type 0} (c : CellState D) (mv : Move) (x : Record) (next : Core) (part : EpochPart) (what : Option Kept) → IsFallAt c.config c.node c.core (records c.pass) mv part what
    → x.node ≡ c.node → x.event ≡ Fall c.node what → x.out ≡ [] → next ≡ fell c.core part → Keeps (part_in (opening c.config c.node)) (Some part) c.log → IsRevival c mv x next
revives c mv x next part what f at event out e kept = record {
  node_is = at;
  what = what;
  part = part;
  event_is = event;
  lawful = f.lawful x at event out;
  next_is = λ more. e ∙ f.next more ∙ ap (λ y. (acts c.node c.core (messages (newest_first (records c.pass)) ++ more) y).0) (sym event);
  keeps = f.keeps;
  after = ap part_in e ∙ f.after;
  kept = subst (λ o. Keeps (part_in (opening c.config c.node)) o c.log) (sym (ap part_in e ∙ f.after)) kept;
}

-- ---- the fall is posted

pub rises : {D : Type 0} (config : Counts) (n : Node) (core : Core) (log mid : Option (LogState D)) (p q : PassState) (down : Option Move) (new : CellState D) (mv : Move) (x : Record) (next : Core)
    → down ≡ Some mv → Later p q → own n (records q) ≡ own n (records p) → IsRevival (cell_of config n core mid q down) mv x next
    → PostsOne config n (records q) (records new.pass) x.event → new.core ≡ next → new.log ≡ mid → Rises (cell_of config n core log p down) new
rises config n core log mid p q down new mv x next went later same rev posts core_is log_is = record {
  mv = mv;
  went = went;
  what = rev.what;
  part = rev.part;
  posts = posts_after config n p q new.pass x.event (Fall n rev.what) later same rev.event_is posts;
  keeps = subst (λ ms. KeepsMove core (acts n core ms (event_of n mv)).0 mv rev.part rev.what) (sym ahead_sent) (rev.keeps (messages (newest_first posts.more)));
  found = subst (λ l. Keeps (part_in (opening config n)) (Some rev.part) l) (sym log_is) (subst (λ o. Keeps (part_in (opening config n)) o mid) rev.after rev.kept);
  after = ap part_in core_is ∙ rev.after;
}
  where
    ahead_sent : messages (newest_first posts.ahead) ≡ messages (newest_first (records q)) ++ messages (newest_first posts.more)
    ahead_sent = ap (λ l. messages (newest_first l)) posts.begins ∙ ap messages (entries_append (records q) posts.more) ∙ messages-append (newest_first posts.more) (newest_first (records q))
