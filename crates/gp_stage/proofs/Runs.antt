-- A list of which the records of each node were lawful is a legal run.
use Rattle.std.proofs.Common.{◌≡◌, List, [], ◌∷◌, ◌++◌, refl, sym, ap, ◌∙◌, subst, append_assoc}
use Rattle.gp_round.specs.Counts.{Counts}
use Rattle.gp_msg.specs.declared.node.Node.{Node}
use Rattle.gp_msg.specs.declared.record.Record.{Record}
use Rattle.gp_msg.specs.Messages.{entry_of}
use Rattle.gp_run.specs.Legal.{Legal}
use Rattle.gp_run.specs.Runs.{newest_first}
use Rattle.gp_wire.specs.declared.view.Post.{Post}
use Rattle.gp_wire.specs.Lists.{Each, Has}
use Rattle.gp_wire.specs.Legal.{LegalFrom}
use Rattle.gp_wire.specs.Rule.{items}
use Rattle.gp_cell.specs.Lawful.{IsLawful, paxos_legal}
use Rattle.gp_cell.proofs.Runs.{legal_run}
use Rattle.gp_cell.specs.Cells.{OwnLawful}

abbrev first_or : Record → List Record → Record
first_or x [] = x
first_or x (y ∷ ys) = y

abbrev behind : List Record → List Record
behind [] = []
behind (y ∷ ys) = ys

-- each record of posts of some nodes is of one of them
of_nodes : (nodes : List Node) (es : List Post) (ahead : List Record) (x : Record) (rest : List Record) → Each (λ e. Has e.item.node nodes) es → items es ≡ ahead ++ x ∷ rest → Has x.node nodes
of_nodes nodes [] [] x rest h e = cc
of_nodes nodes [] (a ∷ ahead) x rest h e = cc
of_nodes nodes (p ∷ es) [] x rest h e = subst (λ (r : Record). Has r.node nodes) (ap (first_or p.item) e) h.0
of_nodes nodes (p ∷ es) (a ∷ ahead) x rest h e = of_nodes nodes es ahead x rest h.1 (ap behind e)

module _ (config : Counts) (list : List Record) (all : (ahead : List Record) (x : Record) (rest : List Record) → list ≡ ahead ++ x ∷ rest → IsLawful config (newest_first ahead) (entry_of x)) where
  legal_on : (before xs : List Record) → list ≡ before ++ xs → LegalFrom (paxos_legal config) before xs
  legal_on before [] e = tt
  legal_on before (x ∷ xs) e = (all before x xs e, legal_on (before ++ x ∷ []) xs (e ∙ sym (append_assoc before (x ∷ []) xs)))

pub legal_list : (config : Counts) (nodes : List Node) (es : List Post) → Each (λ e. Has e.item.node nodes) es → ((n : Node) → Has n nodes → OwnLawful config n (items es)) → Legal config (newest_first (items es))
legal_list config nodes es inside lawful = legal_run config (items es) (legal_on config (items es) (λ ahead x rest e. lawful x.node (of_nodes nodes es ahead x rest inside e) ahead x rest e refl) [] (items es) refl)
