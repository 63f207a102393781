use Rattle.std.proofs.Common.{◌≡◌, ◌<◌, [], ◌∷◌, ◌++◌, length, slice_get, map, take, refl, sym, ap, ◌∙◌, subst, arith, Some}
use Rattle.gp_msg.specs.Messages.{message_of}
use Rattle.gp_msg.specs.Reads.{kind_of}
use Rattle.gp_run.specs.TopCount.{top_of_messages}
use Rattle.gp_wire.specs.Lists.{Has}
use Rattle.gp_wire.specs.Known.{PassState, records}
use Rattle.gp_msg.specs.Records.{messages_in}
use Rattle.gp_world.proofs.Showing.{ord_max-nat}
use Rattle.gp_stage.proofs.Places.{within}
use Rattle.gp_stage.proofs.Glancing.{looked, looked_on, same_on, holds_on, inside_after, last_kinds, last_tops, next_kinds, next_tops}
use Rattle.gp_stage.proofs.looking.look_at_all.Goals as goal

pub loop-k-init : goal.loop-k-init
loop-k-init g c = ((refl, refl, refl, refl, refl), refl, c.new-kinds.ensures.items, refl)

pub look-requires-clause-own : goal.look-requires-clause-own
look-requires-clause-own g c = ap (λ (p : PassState). p.wire) c.loop-k.invariant.1 ∙ c.requires.own

pub look-requires-clause-holds : goal.look-requires-clause-holds
look-requires-clause-holds g c = let h = c.loop-k.invariant.1 in
    subst (Has c.loop-k.cell.pass.node) (sym (ap (λ (p : PassState). p.holds) h)) (subst (λ n. Has n c.args.cell.now.pass.holds) (sym (ap (λ (p : PassState). p.node) h)) c.requires.holds)

pub returns-in_err-m-clause-rest : goal.returns-in_err-m-clause-rest
returns-in_err-m-clause-rest g c = same_on c.args.cell.now c.loop-k.cell c.look.new.self c.loop-k.invariant.0 c.look.ensures.rest

pub returns-in_err-m-clause-pass : goal.returns-in_err-m-clause-pass
returns-in_err-m-clause-pass g c = let h = c.loop-k.invariant.1 in
    looked_on c.args.cell.now.pass c.loop-k.cell.pass c.look.new.self.pass h (looked c.loop-k.cell.pass c.look.new.self.pass (holds_on c.args.cell.now.pass c.loop-k.cell.pass h c.requires.whole) c.look.ensures.turn)

pub returns-in_default-clause-pass : goal.returns-in_default-clause-pass
returns-in_default-clause-pass g c = let h = c.loop-k.invariant.1 in
    looked_on c.args.cell.now.pass c.loop-k.cell.pass c.look.new.self.pass h (looked c.loop-k.cell.pass c.look.new.self.pass (holds_on c.args.cell.now.pass c.loop-k.cell.pass h c.requires.whole) c.look.ensures.turn)

pub returns-in_default-clause-inside : goal.returns-in_default-clause-inside
returns-in_default-clause-inside g c = inside_after c.loop-k.cell.pass c.look.new.self.pass c.look.ensures.turn

pub returns-in_err-push-clause-pass : goal.returns-in_err-push-clause-pass
returns-in_err-push-clause-pass g c = let h = c.loop-k.invariant.1 in
    looked_on c.args.cell.now.pass c.loop-k.cell.pass c.look.new.self.pass h (looked c.loop-k.cell.pass c.look.new.self.pass (holds_on c.args.cell.now.pass c.loop-k.cell.pass h c.requires.whole) c.look.ensures.turn)

pub returns-in_default-clause-kinds : goal.returns-in_default-clause-kinds
returns-in_default-clause-kinds g c =
    let h = c.loop-k.invariant.1 in let s = looked c.loop-k.cell.pass c.look.new.self.pass (holds_on c.args.cell.now.pass c.loop-k.cell.pass h c.requires.whole) c.look.ensures.turn in
    last_kinds (messages_in (records c.look.new.self.pass)) c.loop-k.k c.loop-k.kinds.items (sym c.in_ok-m.ensures.answer ∙ c.in_default.is)
    (c.loop-k.invariant.2 ∙ ap (λ (p : PassState). map kind_of (take c.loop-k.k (messages_in (records p)))) (sym s))

pub returns-in_default-clause-top : goal.returns-in_default-clause-top
returns-in_default-clause-top g c =
    let h = c.loop-k.invariant.1 in let s = looked c.loop-k.cell.pass c.look.new.self.pass (holds_on c.args.cell.now.pass c.loop-k.cell.pass h c.requires.whole) c.look.ensures.turn in
    last_tops (messages_in (records c.look.new.self.pass)) c.loop-k.k c.loop-k.top (sym c.in_ok-m.ensures.answer ∙ c.in_default.is)
    (c.loop-k.invariant.3 ∙ ap (λ (p : PassState). top_of_messages (map message_of (take c.loop-k.k (messages_in (records p))))) (sym s))

pub loop-k-preserved : goal.loop-k-preserved
loop-k-preserved g c =
    let h = c.loop-k.invariant.1 in let s = looked c.loop-k.cell.pass c.look.new.self.pass (holds_on c.args.cell.now.pass c.loop-k.cell.pass h c.requires.whole) c.look.ensures.turn in
    let ms = messages_in (records c.look.new.self.pass) in let m = c.in-Some.m in
    let at : slice_get ms c.loop-k.k ≡ Some m = sym c.in_ok-m.ensures.answer ∙ c.in-Some.is in
    let l : c.loop-k.k < length ms = within ms c.loop-k.k m at in
    let tops = next_tops ms c.loop-k.k c.loop-k.top m l at (c.loop-k.invariant.3 ∙ ap (λ (p : PassState). top_of_messages (map message_of (take c.loop-k.k (messages_in (records p))))) (sym s)) in (
      same_on c.args.cell.now c.loop-k.cell c.look.new.self c.loop-k.invariant.0 c.look.ensures.rest,
      looked_on c.args.cell.now.pass c.loop-k.cell.pass c.look.new.self.pass h s,
      c.in_ok-push.ensures.items ∙ ap (λ k. c.loop-k.kinds.items ++ k ∷ []) c.kind.ensures
          ∙ next_kinds ms c.loop-k.k c.loop-k.kinds.items m l at (c.loop-k.invariant.2 ∙ ap (λ (p : PassState). map kind_of (take c.loop-k.k (messages_in (records p)))) (sym s)),
      omega (arith, c.max-top.ensures, ord_max-nat c.loop-k.top c.top_of_message.result, c.top_of_message.ensures, tops),
    )
