-- Where a coordinator stands, by its log.
use Rattle.std.proofs.Common.{◌≡◌, ℕ, suc, ◌-◌, List, [], ◌∷◌, length, Option, Some, None, refl, sym, ap, ◌∙◌, subst, arith}
use Rattle.std.specs.Prelude.{slice_get}
use Rattle.gp_round.specs.Counts.{Counts}
use Rattle.gp_round.specs.Rounds.{round_zero}
use Rattle.gp_round.specs.declared.round.Round.{Round}
use Rattle.gp_msg.specs.declared.durable.Durable.{Durable}
use Rattle.gp_msg.specs.declared.node.Node.{Node}
use Rattle.gp_msg.specs.declared.node.Node.TheVariants as node
use Rattle.gp_msg.specs.Messages.{EpochPart, Coordinators, Entry, part_of}
use Rattle.gp_coordinator.specs.Epochs as coordinator
use Rattle.gp_vlog.specs.Logs.{LogState, last}
use Rattle.gp_cell.specs.declared.roles.Core.{Core}
use Rattle.gp_cell.specs.declared.roles.Core.TheVariants.{Proposer, Coordinator, Acceptor, Learner}
use Rattle.gp_cell.specs.Cores.{opening, core_at, part_in}
use Rattle.gp_cell.specs.Cells.{Keeps, last_or, last_entry}
use Rattle.gp_cell.specs.Plans.{HasRole}
use Rattle.gp_cell.proofs.Acting.{core_role}
use Rattle.gp_cell.proofs.Lasting.{last_there}

-- the durable part of a coordinator to which nothing has happened
abbrev opening_part : EpochPart
opening_part = record { epoch = 0; part = Coordinators round_zero }

last_none : (first : EpochPart) (ds : List Durable) → last ds ≡ None → last_or first ds ≡ first
last_none first [] e = refl
last_none first (x ∷ []) e = absurd (cc)
last_none first (x ∷ y ∷ ds) e =
    let more : length (x ∷ y ∷ ds) - 1 ≡ suc (length (y ∷ ds) - 1) = omega arith in
    absurd (some_last x y ds (ap (λ (i : ℕ). slice_get (x ∷ y ∷ ds) i) (sym more) ∙ e))
  where
    some_last : (x y : Durable) (ds : List Durable) → last (y ∷ ds) ≡ None → ⊥
    some_last x y [] e = cc
    some_last x y (z ∷ ds) e =
        let more : length (y ∷ z ∷ ds) - 1 ≡ suc (length (z ∷ ds) - 1) = omega arith in
        some_last y z ds (ap (λ (i : ℕ). slice_get (y ∷ z ∷ ds) i) (sym more) ∙ e)

-- the durable part of a coordinator, and what the last entry of its log says of it
pub record Stands {D : Type 0} (part : Option EpochPart) (log : Option (LogState D)) : Type 0 where
  pub epoch : ℕ
  pub round : Round
  pub part_is : part ≡ Some (record { epoch = epoch; part = Coordinators round })
  pub none : last_entry log ≡ None → (epoch ≡ 0) × (round ≡ round_zero)
  pub some : (d : Durable) → last_entry log ≡ Some d → part_of d ≡ record { epoch = epoch; part = Coordinators round }

module _ {D : Type 0} (config : Counts) (c : ℕ) (log : Option (LogState D)) where
  of_core : (core : Core) → HasRole (node.Coordinator c) core → Keeps (part_in (opening config (node.Coordinator c))) (part_in core) log → Stands (part_in core) log
  of_core (Proposer s) h k = absurd h
  of_core (Acceptor s) h k = absurd h
  of_core (Learner s) h k = absurd h
  of_core (Coordinator s) h k = by_log log k
    where
      by_log : (l : Option (LogState D)) → Keeps (part_in (opening config (node.Coordinator c))) (Some (coordinator.durable s)) l → Stands (Some (coordinator.durable s)) l
      by_log None k = absurd k
      by_log (Some l) k = record {
        epoch = s.epoch;
        round = s.state.round;
        part_is = refl;
        none = λ e. let same : opening_part ≡ coordinator.durable s = sym (last_none opening_part l.entries e) ∙ k.1 in (
          sym (ap (λ (p : EpochPart). p.epoch) same),
          let parts : Coordinators round_zero ≡ Coordinators s.state.round = ap (λ (p : EpochPart). p.part) same in sym (let is : round_zero ≡ s.state.round = cc in is),
        );
        some = λ d e. sym (last_there opening_part l.entries d e) ∙ k.1;
      }

  pub stands : (n : Node) (core : Core) (es : List Entry) → n ≡ node.Coordinator c → core ≡ core_at config n es → Keeps (part_in (opening config n)) (part_in core) log → Stands (part_in (core_at config n es)) log
  stands n core es is core_is kept =
      subst (λ m. Stands (part_in (core_at config m es)) log) (sym is)
      (of_core (core_at config (node.Coordinator c) es) (core_role config (node.Coordinator c) es)
      (subst (λ m. Keeps (part_in (opening config m)) (part_in (core_at config m es)) log) is (subst (λ x. Keeps (part_in (opening config n)) (part_in x) log) core_is kept)))
