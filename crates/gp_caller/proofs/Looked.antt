-- A cell after a look, whose node only saw more of the wire.
use Rattle.std.proofs.Common.{map, ◌≡◌, ◌≤◌, ℕ, [], true, sym, ap, ◌∙◌, subst}
use Rattle.std.proofs.Math.Nat.{le_refl}
use Rattle.std.proofs.lemmas.List.{append-nil}
use Rattle.gp_wire.specs.Known.{WireState, records}
use Rattle.gp_wire.specs.Lists.{Has}
use Rattle.gp_wire.specs.Own.{own, own_events, event_in}
use Rattle.gp_cell.specs.declared.rules.PaxosRules.{PaxosRules}
use Rattle.gp_cell.specs.Cells.{CellState, IsSameBut}
use Rattle.gp_cell.specs.Passing.{GoesOn}
use Rattle.gp_cell.specs.Refusals.{faults_of, limit_of}
use Rattle.gp_cell.specs.Working.{IsAt, is_up, process_of}
use Rattle.gp_work.specs.Doing.{Goes, Posted}

module _ {D : Type 0} (a b : CellState D) (same : IsSameBut a b) (seen : GoesOn a.pass b.pass) where
  pub still_at : (w : WireState PaxosRules) → IsAt a w → IsAt b w
  still_at w at = record {
    own = seen.wire ∙ at.own;
    all = seen.all ∙ at.all;
    config = same.0 ∙ at.config;
    holds = subst (λ n. Has n b.pass.holds) (sym seen.node) (subst (λ h. Has a.pass.node h) (sym seen.holds) at.holds);
  }

  pub goes : (faults : D → ℕ) → Goes (process_of faults a) (process_of faults b)
  goes faults = record {
    node = same.1;
    config = same.0;
    more = seen.more;
    grown = seen.grown;
    turn = seen.turn;
    faults = subst (λ l. faults_of faults a.log ≤ faults_of faults l) (sym same.3) (le_refl (faults_of faults a.log));
    limit = ap limit_of same.3;
  }

  pub still_up : is_up a.down ≡ true → is_up b.down ≡ true
  still_up up = ap is_up same.4 ∙ up

  pub nothing_posted : (faults : D → ℕ) → own b.node (records b.pass) ≡ own a.node (records a.pass) → Posted (process_of faults a) (process_of faults b) []
  nothing_posted faults e = ap (λ rs. map event_in rs) e ∙ sym (append-nil (own_events a.node (records a.pass)))
