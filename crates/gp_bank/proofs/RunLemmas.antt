-- Replies in a sequence, and replicas of one history.
use Rattle.std.proofs.Common.{◌≡◌, Bool, true, false, cond, not, ◌||◌, List, [], ◌∷◌, ◌++◌, Option, Some, refl, sym, ap, ◌∙◌}
use Rattle.std.specs.Prelude.{IsTrue}
use Rattle.std.specs.List.{list_any}
use Rattle.std.specs.Map.{lookup}
use Rattle.std.proofs.lemmas.Bool.{and_parts}
use Rattle.gp_command.specs.declared.command.Command.{Command}
use Rattle.gp_command.specs.Conflict.{same, same_equiv}
use Rattle.gp_command.proofs.ConflictLemmas.{same_symm}
use Rattle.gp_history.specs.History.{History, IsHistory}
use Rattle.gp_history.specs.Sequence.{history_of, no_repeat}
use Rattle.gp_history.specs.Canonical.{canonical}
use Rattle.gp_history.proofs.Acyclic.{canonical_no_repeat}
use Rattle.gp_replica.specs.Machines.{Rules, state_from, replies_from, state_after, replies_to, state_of, reply_to}
use Rattle.gp_replica.proofs.Histories.{state_is, reply_to_is}
use Rattle.gp_history.proofs.Tests.{turned_false}
use Rattle.gp_history.proofs.Sequences.{or_neither}
use Rattle.gp_bank.specs.declared.op.BankOp.{BankOp}
use Rattle.gp_bank.specs.Drafts.{bank_op}
use Rattle.gp_bank.specs.Effects.{bank_reply, reply_if_some, bank_rules}
use Rattle.gp_bank.specs.Commuting.{independent}

-- a command is not one of others that it stands behind
not_after : (before after : List Command) (c d : Command) → list_any (same d) (before ++ c ∷ after) ≡ false → same d c ≡ false
not_after [] after c d none = (or_neither (same d c) (list_any (same d) after) none).0
not_after (x ∷ before) after c d none = not_after before after c d (or_neither (same d x) (list_any (same d) (before ++ c ∷ after)) none).1

not_before : (before after : List Command) (c : Command) → no_repeat (before ++ c ∷ after) ≡ true → list_any (same c) before ≡ false
not_before [] after c distinct = refl
not_before (x ∷ before) after c distinct =
    let parts = and_parts (not (list_any (same x) (before ++ c ∷ after))) (no_repeat (before ++ c ∷ after)) distinct in
    let apart = same_symm c x ∙ not_after before after c x (turned_false (list_any (same x) (before ++ c ∷ after)) parts.0) in
    ap (λ (b : Bool). b || list_any (same c) before) apart ∙ not_before before after c parts.1

reply_in : {S : Type 0} (r : Rules S) (s : S) (before after : List Command) (c : Command) → list_any (same c) before ≡ false → lookup (same c) (replies_from r s (before ++ c ∷ after)) ≡ Some (r.reply (state_from r s before) c)
reply_in r s [] after c none = ap (λ (b : Bool). cond b (Some (r.reply s c)) (lookup (same c) (replies_from r (r.after s c) after))) (same_equiv.refl c)
reply_in r s (x ∷ before) after c none =
    let parts = or_neither (same c x) (list_any (same c) before) none in
    ap (λ (b : Bool). cond b (Some (r.reply s x)) (lookup (same c) (replies_from r (r.after s x) (before ++ c ∷ after)))) parts.0
    ∙ reply_in r (r.after s x) before after c parts.1

-- the reply of a history to a command is of the accounts that the commands before it leave
pub reply_there : (h : History) (before after : List Command) (c : Command) (op : BankOp) → IsHistory h → canonical h ≡ before ++ c ∷ after → bank_op c.draft ≡ Some op → reply_to bank_rules h c ≡ Some (bank_reply (state_after bank_rules before) op)
reply_there h before after c op is e found =
    ap (λ (cs : List Command). lookup (same c) (replies_to bank_rules cs)) e
    ∙ reply_in bank_rules bank_rules.opening before after c (not_before before after c (sym (ap no_repeat e) ∙ canonical_no_repeat h is))
    ∙ ap (λ (o : Option BankOp). Some (reply_if_some (state_after bank_rules before) o)) found

pub same_state : (cs ds : List Command) → IsTrue (no_repeat cs) → IsTrue (no_repeat ds) → history_of cs ≡ history_of ds → state_after bank_rules cs ≡ state_after bank_rules ds
same_state cs ds x y e = state_is bank_rules independent cs x ∙ ap (state_of bank_rules) e ∙ sym (state_is bank_rules independent ds y)

pub same_reply : (cs ds : List Command) (c : Command) → IsTrue (no_repeat cs) → IsTrue (no_repeat ds) → history_of cs ≡ history_of ds → lookup (same c) (replies_to bank_rules cs) ≡ lookup (same c) (replies_to bank_rules ds)
same_reply cs ds c x y e = reply_to_is bank_rules independent c cs x ∙ ap (λ (h : History). reply_to bank_rules h c) e ∙ sym (reply_to_is bank_rules independent c ds y)
