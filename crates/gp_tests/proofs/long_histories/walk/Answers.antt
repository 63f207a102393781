use Rattle.std.proofs.Common.{◌≡◌, false, cond, List, [], ◌∷◌, ◌++◌, sym, ap, subst, ◌∙◌}
use Rattle.gp_command.specs.declared.command.Command.{Command}
use Rattle.gp_history.specs.History.{IsPrefix, has}
use Rattle.gp_history.specs.Sequence.{history_of}
use Rattle.gp_index.proofs.Continuing.{can_take, nothing_below}
use Rattle.gp_tests.proofs.long_histories.walk.Goals as goal

-- a command that is not there was pushed
pushed_fresh : (taken later : List Command) (c d : Command) → later ≡ cond (has (history_of taken) c) taken (taken ++ c ∷ []) → c ≡ d → has (history_of taken) d ≡ false → later ≡ taken ++ d ∷ []
pushed_fresh taken later c d e f fresh =
    e
    ∙ (λ i. cond (has (history_of taken) (f i)) taken (taken ++ f i ∷ []))
    ∙ ap (λ b. cond b taken (taken ++ d ∷ [])) fresh

pub loop-init : goal.loop-init
loop-init g c = nothing_below (g.H.Hist.sequence c.in_ok-taken.taken) (history_of (g.H.Hist.sequence c.args.history.now)) c.in_ok-taken.ensures

pub loop-preserved : goal.loop-preserved
loop-preserved g c =
    let ts = g.H.Hist.sequence c.loop.taken in
    let hs = g.H.Hist.sequence c.args.history.now in
    let can = can_take ts hs c.in-Some.next.now c.loop.invariant (sym c.in-Some.ensures.least) in
    let more = pushed_fresh ts (g.H.Hist.sequence c.push.new.self) c.in_ok-copy.field-0 c.in-Some.next.now c.in_ok-push.ensures.pushed c.in_ok-copy.ensures can.fresh in
    subst (λ xs. IsPrefix (history_of xs) (history_of hs)) (sym more) can.prefix
