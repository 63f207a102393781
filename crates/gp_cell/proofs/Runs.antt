-- Lawful lists are legal runs.
use Rattle.std.proofs.Common.{◌≡◌, cond, List, [], ◌∷◌, ◌++◌, refl, sym, ap, ◌∙◌, subst, inl, inr, append_assoc}
use Rattle.std.specs.Prelude.{◌≢◌}
use Rattle.std.specs.Option.{option_to_list}
use Rattle.gp_round.specs.Counts.{Counts}
use Rattle.gp_msg.specs.declared.node.Node.{Node}
use Rattle.gp_msg.specs.declared.node.Node.TheVariants as node
use Rattle.gp_msg.specs.declared.record.Record.{Record}
use Rattle.gp_msg.specs.Messages.{Entry, entry_of}
use Rattle.gp_run.specs.Messages.{messages}
use Rattle.gp_msg.specs.Nodes.{node_of}
use Rattle.gp_run.specs.States.{proposer_at, coordinator_at, acceptor_at, learner_at}
use Rattle.gp_run.specs.Legal.{Legal, Follows, sent_by}
use Rattle.gp_run.specs.Runs.{newest_first}
use Rattle.gp_run.proofs.Others.{proposer_rests, coordinator_rests, acceptor_rests, learner_rests}
use Rattle.gp_wire.specs.Legal.{LegalFrom}
use Rattle.gp_wire.proofs.SameNodes.{same_tells}
use Rattle.gp_cell.specs.declared.roles.Core.{Core}
use Rattle.gp_cell.specs.declared.roles.Core.TheVariants.{Proposer, Coordinator, Acceptor, Learner}
use Rattle.gp_cell.specs.Cores.{acts, core_at}
use Rattle.gp_cell.specs.Lawful.{IsLawful, paxos_legal}
use Rattle.gp_cell.specs.Still.{entries_append}

-- the core of a node as the run has it
abbrev pub state_at : Counts → Node → List Entry → Core
state_at config (node.Proposer p) es = Proposer (proposer_at p es)
state_at config (node.Coordinator c) es = Coordinator (coordinator_at config c es)
state_at config (node.Acceptor a) es = Acceptor (acceptor_at config a es)
state_at config (node.Learner l) es = Learner (learner_at config l es)

own_acts : (config : Counts) (n : Node) (e : Entry) (es : List Entry) → (acts n (state_at config n es) (messages es) e.event).0 ≡ state_at config n (e ∷ es)
own_acts config (node.Proposer p) e es = refl
own_acts config (node.Coordinator c) e es = refl
own_acts config (node.Acceptor a) e es = refl
own_acts config (node.Learner l) e es = refl

other_acts : (config : Counts) (n : Node) (e : Entry) (es : List Entry) → node_of e.event ≢ n → state_at config n (e ∷ es) ≡ state_at config n es
other_acts config (node.Proposer p) e es o = ap (λ r. Proposer r.0) (proposer_rests p (proposer_at p es) e.event o)
other_acts config (node.Coordinator c) e es o = ap (λ r. Coordinator r.0) (coordinator_rests c (coordinator_at config c es) (messages es) e.event o)
other_acts config (node.Acceptor a) e es o = ap (λ r. Acceptor r.0) (acceptor_rests a (acceptor_at config a es) (messages es) e.event o)
other_acts config (node.Learner l) e es o = ap (λ r. Learner r.0) (learner_rests l (learner_at config l es) (messages es) e.event o)

-- in a legal run the core of a node is that of the run
pub core_is : (config : Counts) (n : Node) (es : List Entry) → Legal config es → core_at config n es ≡ state_at config n es
core_is config (node.Proposer p) [] l = refl
core_is config (node.Coordinator c) [] l = refl
core_is config (node.Acceptor a) [] l = refl
core_is config (node.Learner a) [] l = refl
core_is config n (e ∷ es) l = elim (same_tells n e.node) [
  | inl t ↦ ap (λ b. cond b (acts n (core_at config n es) (messages es) e.event).0 (core_at config n es)) t.0 ∙ ap (λ c. (acts n c (messages es) e.event).0) (core_is config n es l.0) ∙ own_acts config n e es
  | inr t ↦ ap (λ b. cond b (acts n (core_at config n es) (messages es) e.event).0 (core_at config n es)) t.0 ∙ core_is config n es l.0 ∙ sym (other_acts config n e es (λ same. t.1 (sym (l.1.own_node ∙ same))))
]

sends_as : (config : Counts) (n : Node) (e : Entry) (es : List Entry) → (acts n (state_at config n es) (messages es) e.event).1 ≡ sent_by config es n e.event
sends_as config (node.Proposer p) e es = refl
sends_as config (node.Coordinator c) e es = refl
sends_as config (node.Acceptor a) e es = refl
sends_as config (node.Learner l) e es = refl

pub lawful_follows : (config : Counts) (es : List Entry) (e : Entry) → Legal config es → IsLawful config es e → Follows config es e
lawful_follows config es e l f = record {
  own_node = f.own_node;
  event_fits = f.event_fits;
  own_messages = f.own_messages ∙ ap option_to_list (ap (λ c. (acts e.node c (messages es) e.event).1) (core_is config e.node es l) ∙ sends_as config e.node e es ∙ ap (λ n. sent_by config es n e.event) f.own_node);
}

legal_on : (config : Counts) (before xs : List Record) → Legal config (newest_first before) → LegalFrom (paxos_legal config) before xs → Legal config (newest_first (before ++ xs))
legal_on config before [] l f = subst (λ r. Legal config (newest_first r)) (sym (nil before)) l where
  nil : (r : List Record) → r ++ [] ≡ r
  nil [] = refl
  nil (x ∷ r) = ap (λ y. x ∷ y) (nil r)
legal_on config before (x ∷ xs) l f =
    let next : Legal config (newest_first (before ++ x ∷ [])) = subst (Legal config) (sym (entries_append before (x ∷ []))) (l, lawful_follows config (newest_first before) (entry_of x) l f.0) in
    subst (λ r. Legal config (newest_first r)) (append_assoc before (x ∷ []) xs) (legal_on config (before ++ x ∷ []) xs next f.1)

pub legal_run : (config : Counts) (xs : List Record) → LegalFrom (paxos_legal config) [] xs → Legal config (newest_first xs)
legal_run config xs f = legal_on config [] xs tt f
