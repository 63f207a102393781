-- A plan is lawful, and is what its event does at the node.
use Rattle.std.proofs.Common.{◌≡◌, ℕ, zero, suc, ◌<◌, true, List, [], ◌∷◌, ◌++◌, length, refl, sym, ap, ◌∙◌, subst, arith, Option}
use Rattle.std.specs.Prelude.{slice_get, nat_lt}
use Rattle.std.specs.Option.{option_to_list}
use Rattle.std.proofs.lemmas.Bool.{lt-ltb}
use Rattle.gp_round.specs.Counts.{Counts}
use Rattle.gp_msg.specs.declared.node.Node.{Node}
use Rattle.gp_msg.specs.declared.node.Node.TheVariants as node
use Rattle.gp_msg.specs.Messages.{Stamped, Entry, entry_of}
use Rattle.gp_run.specs.Messages.{messages}
use Rattle.gp_msg.specs.Nodes.{node_of, is_present}
use Rattle.gp_run.specs.Legal.{fits}
use Rattle.gp_run.specs.Runs.{newest_first}
use Rattle.gp_wire.specs.Known.{PassState, records}
use Rattle.gp_work.specs.declared.moves.Move.{Move}
use Rattle.gp_work.specs.declared.moves.Move.TheVariants.{Offer, Begin, Take}
use Rattle.gp_work.specs.Moves.{event_of, Fits}
use Rattle.gp_cell.specs.declared.roles.Core.{Core}
use Rattle.gp_run.proofs.Others.{front}
use Rattle.gp_command.proofs.Truth.{true_both}
use Rattle.gp_cell.specs.declared.planning.Plan.{Plan}
use Rattle.gp_cell.specs.Cores.{acts, core_at}
use Rattle.gp_cell.specs.Plans.{HasRole, planned, named, IsNamed}
use Rattle.gp_cell.specs.Lawful.{IsLawful}
use Rattle.gp_vlog.specs.Logs.{LogState}
use Rattle.gp_cell.specs.Cells.{IsSound, IsPlan}
use Rattle.gp_cell.proofs.Acting.{core_role, acts_role, acts_planned}

pub node_is : (config : Counts) (n : Node) (mv : Move) → Fits config n mv → node_of (event_of n mv) ≡ n
node_is config (node.Proposer p) (Offer d) f = refl
node_is config (node.Proposer p) (Begin r) f = absurd f
node_is config (node.Coordinator c) (Offer d) f = absurd f
node_is config (node.Coordinator c) (Begin r) f = refl
node_is config (node.Acceptor a) (Offer d) f = absurd f
node_is config (node.Acceptor a) (Begin r) f = absurd f
node_is config (node.Learner l) (Offer d) f = absurd f
node_is config (node.Learner l) (Begin r) f = absurd f
node_is config n (Take k) f = refl

pub get_within : {A : Type 0} (xs : List A) (k : ℕ) → IsNamed (Take k) (slice_get xs k) → k < length xs
get_within [] k h = absurd h
get_within (x ∷ xs) zero h = omega arith
get_within (x ∷ xs) (suc k) h = let l = get_within xs k h in omega arith

plan_fits : (config : Counts) (n : Node) (es : List Entry) (mv : Move) → is_present config n ≡ true → Fits config n mv → IsNamed mv (named (messages es) mv) → fits config es (event_of n mv) ≡ true
plan_fits config (node.Proposer p) es (Offer d) here f s = here
plan_fits config (node.Proposer p) es (Begin r) here f s = absurd f
plan_fits config (node.Coordinator c) es (Offer d) here f s = absurd f
plan_fits config (node.Coordinator c) es (Begin r) here f s = f
plan_fits config (node.Acceptor a) es (Offer d) here f s = absurd f
plan_fits config (node.Acceptor a) es (Begin r) here f s = absurd f
plan_fits config (node.Learner l) es (Offer d) here f s = absurd f
plan_fits config (node.Learner l) es (Begin r) here f s = absurd f
plan_fits config n es (Take k) here f s = true_both (is_present config n) (nat_lt k (length (messages es))) here (lt-ltb k (length (messages es)) (get_within (messages es) k s))

pub named_more : (ms more : List Stamped) (mv : Move) → IsNamed mv (named ms mv) → named (ms ++ more) mv ≡ named ms mv
named_more ms more (Offer d) h = refl
named_more ms more (Begin r) h = refl
named_more ms more (Take k) h = front ms more k (get_within ms k h)

module _ {D : Type 0} (config : Counts) (n : Node) (core : Core) (log : Option (LogState D)) (p : PassState) (posted : ℕ) (down : Option Move) (mv : Move) (plan : Plan) where
  role : IsSound config n core log p posted down → HasRole n core
  role s = subst (HasRole n) (sym s.core_is) (core_role config n (newest_first (records p)))

  pub plan_lawful : IsSound config n core log p posted down → Fits config n mv → IsPlan n core (messages (newest_first (records p))) mv plan → IsLawful config (newest_first (records p)) (entry_of plan.made)
  plan_lawful s f q = record {
    own_node = q.node_is ∙ sym (ap node_of q.event_is ∙ node_is config n mv f);
    event_fits = ap (fits config (newest_first (records p))) q.event_is ∙ plan_fits config n (newest_first (records p)) mv s.present f q.stands;
    own_messages = q.sent ∙ ap (λ r. option_to_list r.1) (sym (acts_planned config n core mv (messages (newest_first (records p))) (role s) f))
        ∙ (λ i. option_to_list (acts (sym q.node_is i) (core_here s q i) (messages (newest_first (records p))) (sym q.event_is i)).1);
  }
    where
      core_here : IsSound config n core log p posted down → (q : IsPlan n core (messages (newest_first (records p))) mv plan) → core ≡ core_at config plan.made.node (newest_first (records p))
      core_here s q = s.core_is ∙ ap (λ m. core_at config m (newest_first (records p))) (sym q.node_is)

  pub plan_next : IsSound config n core log p posted down → Fits config n mv → IsPlan n core (messages (newest_first (records p))) mv plan
      → (more : List Stamped) → plan.next ≡ (acts n core (messages (newest_first (records p)) ++ more) plan.made.event).0
  plan_next s f q more =
      q.next
      ∙ ap (λ o. (planned core mv o).0) (sym (named_more (messages (newest_first (records p))) more mv q.stands))
      ∙ ap (λ r. r.0) (sym (acts_planned config n core mv (messages (newest_first (records p)) ++ more) (role s) f))
      ∙ ap (λ e. (acts n core (messages (newest_first (records p)) ++ more) e).0) (sym q.event_is)

  pub plan_role : IsSound config n core log p posted down → Fits config n mv → IsPlan n core (messages (newest_first (records p))) mv plan → HasRole n plan.next
  plan_role s f q = subst (HasRole n) (sym (plan_next s f q [])) (acts_role n core (messages (newest_first (records p)) ++ []) plan.made.event (role s))
