-- A cell as the node of a worker.
use Rattle.std.proofs.Common.{◌≡◌, ℕ, ◌≤◌, false, List, [], ◌∷◌, ◌++◌, map, refl, sym, ap, ◌∙◌, subst, arith, Option, Some, None, Result, Ok, Err}
use Rattle.std.specs.Prelude.{IfOk, IfErr, OnOk, OnErr, IsSome}
use Rattle.std.proofs.lemmas.List.{append-nil, map-append}
use Rattle.gp_vlog.specs.Logs.{LogState}
use Rattle.gp_msg.specs.declared.event.Event.{Event}
use Rattle.gp_msg.specs.declared.event.Event.TheVariants.{Fall}
use Rattle.gp_wire.specs.Lists.{Has}
use Rattle.gp_wire.specs.Known.{WireState, records}
use Rattle.gp_work.specs.declared.moves.Move.{Move}
use Rattle.gp_work.specs.declared.faults.StepFault.{StepFault}
use Rattle.gp_work.specs.declared.faults.StepFault.TheVariants.{Waiting, NoMemory, Disk, Full}
use Rattle.gp_work.specs.declared.faults.RiseFault.{RiseFault}
use Rattle.gp_work.specs.declared.faults.RiseFault.TheVariants as rise
use Rattle.gp_work.specs.Doing.{Goes, Posted}
use Rattle.gp_work.specs.Causes as work
use Rattle.gp_work.specs.Moves.{event_of}
use Rattle.gp_wire.specs.Own.{own, own_events, event_in}
use Rattle.gp_cell.specs.declared.rules.PaxosRules.{PaxosRules}
use Rattle.gp_cell.specs.Cells.{CellState, PostsOne}
use Rattle.gp_cell.specs.Passing.{GoesOn}
use Rattle.gp_cell.specs.Crashes.{HoldsSame}
use Rattle.gp_cell.specs.Falls.{Rises}
use Rattle.gp_cell.specs.Downs.{IsOfLog, HidesLog}
use Rattle.gp_cell.proofs.Downs.{hides_same}
use Rattle.gp_cell.specs.Founds.{BreaksWhere, LogBreaksWhere, IsNotRisen}
use Rattle.gp_cell.specs.Refusals.{CountsFaults, CountsRiseFaults, IsTooGreat, StepCause, faults_of, limit_of}
use Rattle.gp_cell.specs.Working.{process_of, causes_of, is_up, IsAt}

-- a log whose disk has the same content breaks the format at the same place
breaks_same : {D : Type 0} (content : D → Option (List ℕ)) (old new : Option (LogState D)) (at : ℕ) → HoldsSame content old new → limit_of new ≡ limit_of old
    → LogBreaksWhere content old (rise.NotLog at) → LogBreaksWhere content new (rise.NotLog at)
breaks_same content None None at same limit b = b
breaks_same content None (Some new) at same limit b = absurd same
breaks_same content (Some old) None at same limit b = absurd same
breaks_same content (Some old) (Some new) at same limit b =
    subst (λ n. BreaksWhere n (content new.disk) (rise.NotLog at)) (was new.limit old.limit limit) (subst (λ s. BreaksWhere old.limit s (rise.NotLog at)) (sym same) b)
  where
    was : (m n : ℕ) → ◌≡◌ {A = Option ℕ} (Some m) (Some n) → n ≡ m
    was m n e = cc

module _ {D : Type 0} (faults : D → ℕ) (o r : CellState D) (config : r.config ≡ o.config) (node : r.node ≡ o.node) where
  pub goes : GoesOn o.pass r.pass → faults_of faults o.log ≤ faults_of faults r.log → limit_of r.log ≡ limit_of o.log → Goes (process_of faults o) (process_of faults r)
  goes g f l = record { node = node; config = config; more = g.more; grown = g.grown; turn = g.turn; faults = f; limit = l }

  pub at_same : (w : WireState PaxosRules) → GoesOn o.pass r.pass → IsAt o w → IsAt r w
  at_same w g a = record {
    own = g.wire ∙ a.own;
    all = g.all ∙ a.all;
    config = config ∙ a.config;
    holds = subst (Has r.pass.node) (sym g.holds) (subst (λ n. Has n o.pass.holds) (sym g.node) a.holds);
  }

  posted_one : (e : Event) → PostsOne o.config o.node (records o.pass) (records r.pass) e → Posted (process_of faults o) (process_of faults r) (e ∷ [])
  posted_one e x =
      ap (λ n. own_events n (records r.pass)) node
      ∙ ap (map event_in) x.one
      ∙ map-append event_in (own o.node (records o.pass)) (x.item ∷ [])
      ∙ ap (λ y. own_events o.node (records o.pass) ++ y ∷ []) x.event_is

  pub posted_none : own o.node (records r.pass) ≡ own o.node (records o.pass) → Posted (process_of faults o) (process_of faults r) []
  posted_none same = ap (λ n. own_events n (records r.pass)) node ∙ ap (map event_in) same ∙ sym (append-nil (own_events o.node (records o.pass)))

  pub step_posted : (e : Event) (t : Result ℕ StepFault) → OnOk t (PostsOne o.config o.node (records o.pass) (records r.pass) e) → IfOk t (λ n. Posted (process_of faults o) (process_of faults r) (e ∷ []))
  step_posted e (Ok n) x = posted_one e x
  step_posted e (Err f) x = tt

  pub step_nothing : {E : Type 0} (t : Result ℕ E) → OnErr t (own o.node (records r.pass) ≡ own o.node (records o.pass)) → OnErr t (Posted (process_of faults o) (process_of faults r) [])
  step_nothing (Ok n) x = tt
  step_nothing (Err f) x = posted_none x

  pub is_up_again : {E : Type 0} (t : Result ℕ E) → OnOk t (r.down ≡ None) → IfOk t (λ n. ◌≡◌ (process_of faults r).up (is_up None))
  is_up_again (Ok n) x = ap is_up x
  is_up_again (Err f) x = tt

  pub is_still_down : {E : Type 0} (t : Result ℕ E) → OnErr t (r.down ≡ o.down) → (process_of faults o).up ≡ false → OnErr t ((process_of faults r).up ≡ false)
  is_still_down (Ok n) x down = tt
  is_still_down (Err f) x down = ap is_up x ∙ down

  step_fault : (mv : Move) (f : StepFault) → CountsFaults {T = ℕ} (faults_of faults o.log) (faults_of faults r.log) (Err f) → StepCause o r mv f
      → work.StepCause mv (process_of faults o) (process_of faults r) (IsTooGreat r (event_of o.node mv)) f
  step_fault mv Waiting c h = (ap is_up h.1, h.0)
  step_fault mv NoMemory c h = tt
  step_fault mv Disk c h = (ap is_up h.0, c.failed tt)
  step_fault mv (Full size needed) c h = subst (λ n. IsTooGreat r (event_of n mv) size needed) node h.1

  pub step_fault_if : (mv : Move) (t : Result ℕ StepFault) → CountsFaults (faults_of faults o.log) (faults_of faults r.log) t → IfErr t (StepCause o r mv)
      → IfErr t (work.StepCause mv (process_of faults o) (process_of faults r) (IsTooGreat r (event_of o.node mv)))
  step_fault_if mv (Ok n) c h = tt
  step_fault_if mv (Err f) c h = step_fault mv f c h

  pub rise_posted : (t : Result ℕ RiseFault) → OnOk t (Rises o r) → IfOk t (λ n. work.Falls (process_of faults o) (process_of faults r))
  rise_posted (Ok n) x = (x.what, posted_one (Fall o.node x.what) x.posts)
  rise_posted (Err f) x = tt

  module _ (content : D → Option (List ℕ)) (holds : HoldsSame content o.log r.log) (limit : limit_of r.log ≡ limit_of o.log) where
    rise_fault : (f : RiseFault) → r.down ≡ o.down → CountsRiseFaults {T = ℕ} (faults_of faults o.log) (faults_of faults r.log) (Err f) → IsNotRisen content o r f → (IsOfLog f → HidesLog content o.log)
        → work.RiseCause (process_of faults o) (process_of faults r) (causes_of content r).not_risen f
    rise_fault rise.NoMemory down c h hide = tt
    rise_fault rise.Disk down c h hide = c.failed tt
    rise_fault (rise.NotLog at) down c h hide = (breaks_same content o.log r.log at holds limit h.2, hides_same content o.log r.log holds (hide tt))
    rise_fault (rise.Changed found) down c h hide = (h.0, down ∙ h.1, h.2.0, h.2.1, hides_same content o.log r.log holds (hide tt))

    pub rise_fault_if : (t : Result ℕ RiseFault) → OnErr t (r.down ≡ o.down) → CountsRiseFaults (faults_of faults o.log) (faults_of faults r.log) t → IfErr t (IsNotRisen content o r) → IfErr t (λ e. IsOfLog e → HidesLog content o.log)
        → IfErr t (work.RiseCause (process_of faults o) (process_of faults r) (causes_of content r).not_risen)
    rise_fault_if (Ok n) down c h hide = tt
    rise_fault_if (Err f) down c h hide = rise_fault f down c h hide

-- a node that is up went down in no move
pub up_is : (down : Option Move) → is_up down ≡ is_up None → down ≡ None
up_is None e = refl
up_is (Some mv) e = cc

-- and one that is down went down in one
pub is_down_now : (down : Option Move) → is_up down ≡ false → IsSome down
is_down_now None e = absurd cc
is_down_now (Some mv) e = refl

pub same_faults : {D : Type 0} (faults : D → ℕ) (o r : CellState D) → r.log ≡ o.log → faults_of faults o.log ≤ faults_of faults r.log
same_faults faults o r e = let h = ap (faults_of faults) e in omega arith
