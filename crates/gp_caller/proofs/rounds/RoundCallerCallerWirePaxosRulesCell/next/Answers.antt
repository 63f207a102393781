use Rattle.std.proofs.Common.{◌++◌, List}
use Rattle.std.specs.Option.{option_to_list}
use Rattle.gp_phase.specs.declared.caller.Call.{Call}
use Rattle.gp_caller.proofs.Looked as looked
use Rattle.std.specs.Prelude.{IfOk}
use Rattle.std.proofs.Common.{Result, Ok, Err}
use Rattle.std.proofs.lemmas.Result.{IfOk-from_err}
use Rattle.std.proofs.lemmas.List.{append-nil}
use Rattle.gp_caller.specs.Sights.{Saw, SightState}
use Rattle.std.proofs.Common.{◌≡◌, refl, sym, ap, ◌∙◌, subst}
use Rattle.gp_round.specs.Counts.{Counts}
use Rattle.gp_msg.specs.declared.node.Node.{Node}
use Rattle.gp_msg.specs.declared.node.Node.TheVariants.{Coordinator}
use Rattle.gp_wire.specs.Known.{records}
use Rattle.gp_caller.specs.declared.policy.TheConstants.{LEADER}
use Rattle.gp_wire.specs.Own.{own}
use Rattle.gp_caller.specs.Calling.{CallerState}
use Rattle.gp_caller.specs.Standing.{StandsIn}
use Rattle.gp_caller.proofs.Deciding.{stands_still, entered_epoch, round_of, decided}
use Rattle.gp_caller.proofs.rounds.RoundCallerCallerWirePaxosRulesCell.next.Goals as goal

any_ok : {T E : Type 0} (r : Result T E) → IfOk r (λ x. Unit {0})
any_ok (Ok x) = tt
any_ok (Err e) = tt

pub returns-clause-may : goal.returns-clause-may
returns-clause-may g c =
    let cell = c.args.cell.now in let after = c.look.new.cell in let looked = c.in_ok-look.ensures in
    let e = c.standing-epoch.result.0 in let own_round = c.standing-epoch.result.1 in
    let config = c.args.self.now.config in
    let before : StandsIn config (Coordinator LEADER) (records cell.pass) e own_round =
    subst (λ (n : Node). StandsIn config n (records cell.pass) e own_round) c.requires.node (subst (λ (x : Counts). StandsIn x cell.node (records cell.pass) e own_round) c.requires.config c.standing-epoch.ensures) in
    let same : own (Coordinator LEADER) (records after.pass) ≡ own (Coordinator LEADER) (records cell.pass) =
    subst (λ (n : Node). own n (records after.pass) ≡ own n (records cell.pass)) c.requires.node (ap (λ (n : Node). own n (records after.pass)) (sym looked.rest.1) ∙ looked.own) in
    let stands = stands_still config (Coordinator LEADER) (records cell.pass) looked.pass.more (records after.pass) e own_round looked.pass.grown same before in
    let inside = c.self-2.inside in
    let at : inside.sight.watch.round.0 ≡ e =
    ap (λ (s : CallerState). s.sight.watch.round.0) c.self-2.view_is ∙ ap (λ s. s.watch.round.0) c.in_ok-enter.ensures.entered ∙ entered_epoch c.args.self.now.sight e in
    let round = round_of inside.sight.watch inside.epoch e c.self-2.invariant at in
    let calls : inside.calls.items ≡ c.args.self.now.calls = ap (λ (s : CallerState). s.calls) c.self-2.view_is ∙ c.in_ok-enter.ensures.rest.1 in
    decided config c.args.self.now.calls (records after.pass) e own_round _ stands calls (looked.round ∙ round) looked.all c.decide.result c.decide.ensures.call

pub returns-in_err-enter-clause-node : goal.returns-in_err-enter-clause-node
returns-in_err-enter-clause-node g c = refl

pub returns-in_err-look-clause-node : goal.returns-in_err-look-clause-node
returns-in_err-look-clause-node g c = refl

pub returns-clause-node : goal.returns-clause-node
returns-clause-node g c = refl

pub returns-in_err-enter-clause-config : goal.returns-in_err-enter-clause-config
returns-in_err-enter-clause-config g c = c.in_err-enter.ensures.rest.0

pub returns-in_err-enter-clause-knows : goal.returns-in_err-enter-clause-knows
returns-in_err-enter-clause-knows g c = subst (λ (s : SightState). Saw s (records c.args.cell.now.pass)) (sym c.in_err-enter.ensures.unchanged) c.requires.knows

pub returns-in_err-enter-clause-own : goal.returns-in_err-enter-clause-own
returns-in_err-enter-clause-own g c = c.requires.own

pub returns-in_err-enter-clause-up : goal.returns-in_err-enter-clause-up
returns-in_err-enter-clause-up g c = c.requires.up

pub returns-in_err-enter-clause-posts : goal.returns-in_err-enter-clause-posts
returns-in_err-enter-clause-posts g c = sym (append-nil _)

pub returns-in_err-enter-clause-called : goal.returns-in_err-enter-clause-called
returns-in_err-enter-clause-called g c = IfOk-from_err c.from_residual.result _ c.from_residual.ensures.0

pub returns-in_err-look-clause-called : goal.returns-in_err-look-clause-called
returns-in_err-look-clause-called g c = IfOk-from_err c.from_residual-in_err-look.result _ c.from_residual-in_err-look.ensures.0

pub returns-in_err-enter-clause-look : goal.returns-in_err-enter-clause-look
returns-in_err-enter-clause-look g c = IfOk-from_err c.from_residual.result _ c.from_residual.ensures.0

pub returns-in_err-look-clause-look : goal.returns-in_err-look-clause-look
returns-in_err-look-clause-look g c = IfOk-from_err c.from_residual-in_err-look.result _ c.from_residual-in_err-look.ensures.0

pub returns-clause-look : goal.returns-clause-look
returns-clause-look g c = any_ok c.decide.result

pub returns-in_err-enter-clause-may : goal.returns-in_err-enter-clause-may
returns-in_err-enter-clause-may g c = IfOk-from_err c.from_residual.result _ c.from_residual.ensures.0

pub returns-in_err-look-clause-may : goal.returns-in_err-look-clause-may
returns-in_err-look-clause-may g c = IfOk-from_err c.from_residual-in_err-look.result _ c.from_residual-in_err-look.ensures.0

pub returns-in_err-enter-clause-fits : goal.returns-in_err-enter-clause-fits
returns-in_err-enter-clause-fits g c = IfOk-from_err c.from_residual.result _ c.from_residual.ensures.0

pub returns-in_err-look-clause-fits : goal.returns-in_err-look-clause-fits
returns-in_err-look-clause-fits g c = IfOk-from_err c.from_residual-in_err-look.result _ c.from_residual-in_err-look.ensures.0

pub returns-in_err-look-clause-own : goal.returns-in_err-look-clause-own
returns-in_err-look-clause-own g c = let e = c.in_err-look.ensures in looked.still_at c.args.cell.now c.look.new.cell e.rest e.pass c.args.net.now c.requires.own

pub returns-clause-own : goal.returns-clause-own
returns-clause-own g c = let e = c.in_ok-look.ensures in looked.still_at c.args.cell.now c.look.new.cell e.rest e.pass c.args.net.now c.requires.own

pub returns-in_err-look-clause-goes : goal.returns-in_err-look-clause-goes
returns-in_err-look-clause-goes g c = let e = c.in_err-look.ensures in looked.goes c.args.cell.now c.look.new.cell e.rest e.pass g.D.Disk.faults

pub returns-clause-goes : goal.returns-clause-goes
returns-clause-goes g c = let e = c.in_ok-look.ensures in looked.goes c.args.cell.now c.look.new.cell e.rest e.pass g.D.Disk.faults

pub returns-in_err-look-clause-up : goal.returns-in_err-look-clause-up
returns-in_err-look-clause-up g c = let e = c.in_err-look.ensures in looked.still_up c.args.cell.now c.look.new.cell e.rest e.pass c.requires.up

pub returns-clause-up : goal.returns-clause-up
returns-clause-up g c = let e = c.in_ok-look.ensures in looked.still_up c.args.cell.now c.look.new.cell e.rest e.pass c.requires.up

pub returns-in_err-look-clause-posts : goal.returns-in_err-look-clause-posts
returns-in_err-look-clause-posts g c = let e = c.in_err-look.ensures in looked.nothing_posted c.args.cell.now c.look.new.cell e.rest e.pass g.D.Disk.faults e.own

pub returns-clause-posts : goal.returns-clause-posts
returns-clause-posts g c = let e = c.in_ok-look.ensures in looked.nothing_posted c.args.cell.now c.look.new.cell e.rest e.pass g.D.Disk.faults e.own

pub returns-in_err-look-clause-config : goal.returns-in_err-look-clause-config
returns-in_err-look-clause-config g c = ap (λ (s : CallerState). s.config) c.self-2.view_is ∙ c.in_ok-enter.ensures.rest.0

pub returns-clause-config : goal.returns-clause-config
returns-clause-config g c = c.decide.ensures.rest.0 ∙ ap (λ (s : CallerState). s.config) c.self-2.view_is ∙ c.in_ok-enter.ensures.rest.0

pub returns-in_err-look-clause-knows : goal.returns-in_err-look-clause-knows
returns-in_err-look-clause-knows g c = c.in_err-look.ensures.saw

pub returns-clause-knows : goal.returns-clause-knows
returns-clause-knows g c = subst (λ (s : SightState). Saw s (records c.look.new.cell.pass)) (sym c.decide.ensures.rest.1) c.in_ok-look.ensures.saw

pub returns-clause-called : goal.returns-clause-called
returns-clause-called g c = subst (λ (cs : List Call). IfOk c.decide.result (λ x. c.decide.new.self.calls ≡ cs ++ option_to_list x)) (ap (λ (s : CallerState). s.calls) c.self-2.view_is ∙ c.in_ok-enter.ensures.rest.1) c.decide.ensures.calls

pub returns-then-len-ge-MOST_CALLS-clause-node : goal.returns-then-len-ge-MOST_CALLS-clause-node
returns-then-len-ge-MOST_CALLS-clause-node g c = refl

pub returns-then-len-ge-MOST_CALLS-clause-own : goal.returns-then-len-ge-MOST_CALLS-clause-own
returns-then-len-ge-MOST_CALLS-clause-own g c = c.requires.own

pub returns-then-len-ge-MOST_CALLS-clause-up : goal.returns-then-len-ge-MOST_CALLS-clause-up
returns-then-len-ge-MOST_CALLS-clause-up g c = c.requires.up

pub returns-then-len-ge-MOST_CALLS-clause-called : goal.returns-then-len-ge-MOST_CALLS-clause-called
returns-then-len-ge-MOST_CALLS-clause-called g c = tt

pub returns-then-len-ge-MOST_CALLS-clause-look : goal.returns-then-len-ge-MOST_CALLS-clause-look
returns-then-len-ge-MOST_CALLS-clause-look g c = tt

pub returns-then-len-ge-MOST_CALLS-clause-may : goal.returns-then-len-ge-MOST_CALLS-clause-may
returns-then-len-ge-MOST_CALLS-clause-may g c = tt

pub returns-then-len-ge-MOST_CALLS-clause-fits : goal.returns-then-len-ge-MOST_CALLS-clause-fits
returns-then-len-ge-MOST_CALLS-clause-fits g c = tt
