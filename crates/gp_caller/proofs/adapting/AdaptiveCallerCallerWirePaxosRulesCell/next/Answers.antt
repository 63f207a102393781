use Rattle.gp_caller.proofs.Looked as looked
use Rattle.std.specs.Option.{option_to_list}
use Rattle.std.proofs.lemmas.Result.{IfOk-from_err}
use Rattle.std.proofs.lemmas.List.{append-nil}
use Rattle.gp_caller.specs.Sights.{Saw}
use Rattle.gp_caller.specs.Adapting.{or_zero, last_for}
use Rattle.std.proofs.Common.{◌≡◌, ◌++◌, refl, List, sym, ap, ◌∙◌, subst}
use Rattle.std.specs.Prelude.{IfOk}
use Rattle.gp_round.specs.Counts.{Counts}
use Rattle.gp_adapt.specs.Courses.{CourseState}
use Rattle.gp_collide.specs.Watched.{EpochRound}
use Rattle.gp_msg.specs.declared.node.Node.{Node}
use Rattle.gp_msg.specs.declared.node.Node.TheVariants.{Coordinator}
use Rattle.gp_wire.specs.Known.{records}
use Rattle.gp_wire.specs.Own.{own}
use Rattle.gp_phase.specs.declared.caller.Call.{Call}
use Rattle.gp_caller.specs.declared.policy.TheConstants.{LEADER}
use Rattle.gp_caller.specs.Standing.{StandsIn}
use Rattle.gp_caller.specs.Sights.{SightState}
use Rattle.gp_caller.specs.Adapting.{Follows, IsOneLook, course_at}
use Rattle.gp_caller.proofs.Deciding.{stands_still}
use Rattle.gp_caller.proofs.Adapted.{adapted}
use Rattle.gp_caller.proofs.adapting.AdaptiveCallerCallerWirePaxosRulesCell.next.Goals as goal

pub returns-clause-may : goal.returns-clause-may
returns-clause-may g c =
    let cell = c.args.cell.now in let after = c.look.new.cell in let looked = c.in_ok-look.ensures in
    let e = c.standing-epoch.result.0 in let own_round = c.standing-epoch.result.1 in
    let config = c.args.self.now.adapt.config in let calls = c.args.self.now.calls.items in
    let before : StandsIn config (Coordinator LEADER) (records cell.pass) e own_round =
    subst (λ (n : Node). StandsIn config n (records cell.pass) e own_round) c.requires.node (subst (λ (x : Counts). StandsIn x cell.node (records cell.pass) e own_round) c.requires.config c.standing-epoch.ensures) in
    let same : own (Coordinator LEADER) (records after.pass) ≡ own (Coordinator LEADER) (records cell.pass) =
    subst (λ (n : Node). own n (records after.pass) ≡ own n (records cell.pass)) c.requires.node (ap (λ (n : Node). own n (records after.pass)) (sym looked.rest.1) ∙ looked.own) in
    let stands = stands_still config (Coordinator LEADER) (records cell.pass) looked.pass.more (records after.pass) e own_round looked.pass.grown same before in
    let follows = subst (λ (cs : List Call). IfOk c.decide.result (Follows c.look.new.self.watch cs)) c.in_ok-enter.ensures.rest.1 c.decide.ensures.call in
    adapted config calls (records after.pass) e own_round c.look.new.self stands (looked.round ∙ c.in_ok-enter.ensures.over) looked.all c.decide.result follows

pub returns-clause-look : goal.returns-clause-look
returns-clause-look g c =
    let old = c.args.self.now in
    let epoch_is = ap (λ (r : EpochRound). r.0) (c.in_ok-look.ensures.round ∙ c.in_ok-enter.ensures.over) in
    let start : c.enter.new.self.adapt.course ≡ course_at old.sight.watch.round.0 c.look.new.self.watch.round.0 old.adapt.course =
    c.in_ok-enter.ensures.course ∙ ap (λ n. course_at old.sight.watch.round.0 n old.adapt.course) (sym epoch_is) in
    let look = subst (λ (s : CourseState). IfOk c.decide.result (IsOneLook s c.look.new.self.watch c.decide.new.self.adapt.course)) start c.decide.ensures.look in
    subst (λ (s : SightState). IfOk c.decide.result (IsOneLook (course_at old.sight.watch.round.0 s.watch.round.0 old.adapt.course) s.watch c.decide.new.self.adapt.course)) (sym c.decide.ensures.rest.1) look

pub returns-in_err-enter-clause-node : goal.returns-in_err-enter-clause-node
returns-in_err-enter-clause-node g c = refl

pub returns-in_err-look-clause-node : goal.returns-in_err-look-clause-node
returns-in_err-look-clause-node g c = refl

pub returns-clause-node : goal.returns-clause-node
returns-clause-node g c = refl

pub returns-in_err-enter-clause-config : goal.returns-in_err-enter-clause-config
returns-in_err-enter-clause-config g c = c.in_err-enter.ensures.rest.0

pub returns-in_err-look-clause-config : goal.returns-in_err-look-clause-config
returns-in_err-look-clause-config g c = c.in_ok-enter.ensures.rest.0

pub returns-clause-config : goal.returns-clause-config
returns-clause-config g c = c.decide.ensures.rest.0 ∙ c.in_ok-enter.ensures.rest.0

pub returns-in_err-enter-clause-knows : goal.returns-in_err-enter-clause-knows
returns-in_err-enter-clause-knows g c = c.in_err-enter.ensures.saw (records c.args.cell.now.pass) c.requires.knows

pub returns-in_err-look-clause-knows : goal.returns-in_err-look-clause-knows
returns-in_err-look-clause-knows g c = c.in_err-look.ensures.saw

pub returns-clause-knows : goal.returns-clause-knows
returns-clause-knows g c = subst (λ (s : SightState). Saw s (records c.look.new.cell.pass)) (sym c.decide.ensures.rest.1) c.in_ok-look.ensures.saw

pub returns-in_err-enter-clause-own : goal.returns-in_err-enter-clause-own
returns-in_err-enter-clause-own g c = c.requires.own

pub returns-in_err-enter-clause-up : goal.returns-in_err-enter-clause-up
returns-in_err-enter-clause-up g c = c.requires.up

pub returns-in_err-enter-clause-posts : goal.returns-in_err-enter-clause-posts
returns-in_err-enter-clause-posts g c = sym (append-nil _)

pub returns-in_err-enter-clause-called : goal.returns-in_err-enter-clause-called
returns-in_err-enter-clause-called g c = IfOk-from_err c.from_residual.result _ c.from_residual.ensures.0

pub returns-in_err-look-clause-called : goal.returns-in_err-look-clause-called
returns-in_err-look-clause-called g c = IfOk-from_err c.from_residual-in_err-look.result _ c.from_residual-in_err-look.ensures.0

pub returns-clause-called : goal.returns-clause-called
returns-clause-called g c = subst (λ (cs : List Call). IfOk c.decide.result (λ x. c.decide.new.self.calls.items ≡ cs ++ option_to_list x)) c.in_ok-enter.ensures.rest.1 c.decide.ensures.calls

pub returns-in_err-enter-clause-look : goal.returns-in_err-enter-clause-look
returns-in_err-enter-clause-look g c = IfOk-from_err c.from_residual.result _ c.from_residual.ensures.0

pub returns-in_err-look-clause-look : goal.returns-in_err-look-clause-look
returns-in_err-look-clause-look g c = IfOk-from_err c.from_residual-in_err-look.result _ c.from_residual-in_err-look.ensures.0

pub returns-in_err-enter-clause-may : goal.returns-in_err-enter-clause-may
returns-in_err-enter-clause-may g c = IfOk-from_err c.from_residual.result _ c.from_residual.ensures.0

pub returns-in_err-look-clause-may : goal.returns-in_err-look-clause-may
returns-in_err-look-clause-may g c = IfOk-from_err c.from_residual-in_err-look.result _ c.from_residual-in_err-look.ensures.0

pub returns-in_err-enter-clause-fits : goal.returns-in_err-enter-clause-fits
returns-in_err-enter-clause-fits g c = IfOk-from_err c.from_residual.result _ c.from_residual.ensures.0

pub returns-in_err-look-clause-fits : goal.returns-in_err-look-clause-fits
returns-in_err-look-clause-fits g c = IfOk-from_err c.from_residual-in_err-look.result _ c.from_residual-in_err-look.ensures.0

pub decide-requires : goal.decide-requires
decide-requires g c =
    let is = c.in_ok-look.ensures.round ∙ c.in_ok-enter.ensures.over in record {
      over = ap (λ (r : EpochRound). r.1) is ∙ (λ i. or_zero (last_for (sym (ap (λ (r : EpochRound). r.0) is) i) (sym c.in_ok-enter.ensures.rest.1 i)));
    }

pub returns-in_err-look-clause-own : goal.returns-in_err-look-clause-own
returns-in_err-look-clause-own g c = let e = c.in_err-look.ensures in looked.still_at c.args.cell.now c.look.new.cell e.rest e.pass c.args.net.now c.requires.own

pub returns-clause-own : goal.returns-clause-own
returns-clause-own g c = let e = c.in_ok-look.ensures in looked.still_at c.args.cell.now c.look.new.cell e.rest e.pass c.args.net.now c.requires.own

pub returns-in_err-look-clause-goes : goal.returns-in_err-look-clause-goes
returns-in_err-look-clause-goes g c = let e = c.in_err-look.ensures in looked.goes c.args.cell.now c.look.new.cell e.rest e.pass g.D.Disk.faults

pub returns-clause-goes : goal.returns-clause-goes
returns-clause-goes g c = let e = c.in_ok-look.ensures in looked.goes c.args.cell.now c.look.new.cell e.rest e.pass g.D.Disk.faults

pub returns-in_err-look-clause-up : goal.returns-in_err-look-clause-up
returns-in_err-look-clause-up g c = let e = c.in_err-look.ensures in looked.still_up c.args.cell.now c.look.new.cell e.rest e.pass c.requires.up

pub returns-clause-up : goal.returns-clause-up
returns-clause-up g c = let e = c.in_ok-look.ensures in looked.still_up c.args.cell.now c.look.new.cell e.rest e.pass c.requires.up

pub returns-in_err-look-clause-posts : goal.returns-in_err-look-clause-posts
returns-in_err-look-clause-posts g c = let e = c.in_err-look.ensures in looked.nothing_posted c.args.cell.now c.look.new.cell e.rest e.pass g.D.Disk.faults e.own

pub returns-clause-posts : goal.returns-clause-posts
returns-clause-posts g c = let e = c.in_ok-look.ensures in looked.nothing_posted c.args.cell.now c.look.new.cell e.rest e.pass g.D.Disk.faults e.own
