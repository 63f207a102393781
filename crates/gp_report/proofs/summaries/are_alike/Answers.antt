use Rattle.std.proofs.Common.{◌≡◌, List, sym, ap, ◌∙◌, subst}
use Rattle.std.specs.Prelude.{◌↔◌, ◌&&◌, IsTrue}
use Rattle.gp_command.specs.declared.command.CommandId.{CommandId}
use Rattle.gp_replica.specs.declared.reply.Reply.{Reply}
use Rattle.gp_store.specs.Pairs.{Pairs}
use Rattle.gp_report.specs.Summaries.{held_after, replied_to}
use Rattle.gp_report.proofs.Alike.{told_alike}
use Rattle.gp_report.proofs.summaries.are_alike.Goals as goal

pub returns-then-same_pairs : goal.returns-then-same_pairs
returns-then-same_pairs c =
    let ran = c.args.replica.now in
    let other = c.args.other.now in
    let pairs = c.hold_the_same-same_pairs in
    let items = c.replied_the_same-same_replies in
    ap (λ b. b && items.result) (sym c.if-same_pairs.true) ∙ told_alike ran other pairs.result items.result
    (subst (λ (m : Pairs). IsTrue pairs.result ↔ (held_after ran ≡ m)) c.machine-2.ensures (subst (λ (m : Pairs). IsTrue pairs.result ↔ (m ≡ c.machine-2.result.now)) c.machine.ensures pairs.ensures))
    (subst (λ (rs : List (CommandId × Reply)). IsTrue items.result ↔ (replied_to ran ≡ rs)) c.replies-2.ensures (subst (λ (rs : List (CommandId × Reply)). IsTrue items.result ↔ (rs ≡ c.replies-2.result.now)) c.replies.ensures items.ensures))

pub returns-else-same_pairs : goal.returns-else-same_pairs
returns-else-same_pairs c =
    let ran = c.args.replica.now in
    let other = c.args.other.now in
    let pairs = c.hold_the_same-same_pairs in
    let items = c.replied_the_same-same_replies in
    c.if-same_pairs.false ∙ ap (λ b. b && items.result) (sym c.if-same_pairs.false) ∙ told_alike ran other pairs.result items.result
    (subst (λ (m : Pairs). IsTrue pairs.result ↔ (held_after ran ≡ m)) c.machine-2.ensures (subst (λ (m : Pairs). IsTrue pairs.result ↔ (m ≡ c.machine-2.result.now)) c.machine.ensures pairs.ensures))
    (subst (λ (rs : List (CommandId × Reply)). IsTrue items.result ↔ (replied_to ran ≡ rs)) c.replies-2.ensures (subst (λ (rs : List (CommandId × Reply)). IsTrue items.result ↔ (rs ≡ c.replies-2.result.now)) c.replies.ensures items.ensures))
