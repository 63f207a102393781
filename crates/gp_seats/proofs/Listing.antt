-- The nodes of a configuration: each is listed once.
use Rattle.std.proofs.Common.{◌≡◌, ◌<◌, ◌⊎◌, inl, inr, ⊎_elim, ℕ, zero, suc, true, List, [], ◌∷◌, ◌++◌, refl, sym, subst, ap, ◌∙◌, arith}
use Rattle.std.proofs.lemmas.Bool.{ltb-true, lt-ltb}
use Rattle.gp_command.specs.declared.command.TheConstants.{PROPOSERS}
use Rattle.gp_round.specs.Counts.{Counts}
use Rattle.gp_msg.specs.declared.node.Node.{Node}
use Rattle.gp_msg.specs.declared.node.Node.TheVariants as node
use Rattle.gp_msg.specs.Nodes.{is_present}
use Rattle.gp_wire.specs.Lists.{Has, IsDistinct}
use Rattle.gp_work.specs.Moves.{number_of}
use Rattle.gp_wire.proofs.Words.{has_left, has_right, has_either}
use Rattle.gp_seats.specs.declared.nodes.Role.{Role}
use Rattle.gp_seats.specs.declared.nodes.Role.TheVariants.{Acceptor, Coordinator, Learner, Proposer}
use Rattle.gp_seats.specs.Nodes.{node_of, first_of, logged_nodes, working_nodes, proposer_nodes, all_nodes}

-- ---- lists of nodes

pub distinct_both : (xs ys : List Node) → IsDistinct xs → IsDistinct ys → ((n : Node) → Has n xs → Has n ys → ⊥) → IsDistinct (xs ++ ys)
distinct_both [] ys a b apart = b
distinct_both (x ∷ xs) ys a b apart = ((λ h. ⊎_elim a.0 (apart x (inl refl)) (has_either x xs ys h)), distinct_both xs ys a.1 b (λ n h. apart n (inr h)))

has_one : (n m : Node) → Has n (m ∷ []) → n ≡ m
has_one n m (inl e) = e
has_one n m (inr h) = absurd h

-- ---- the first nodes of a role

pub below_or_last : (i k : ℕ) → i < suc k → (i < k) ⊎ (i ≡ k)
below_or_last zero zero l = inr refl
below_or_last zero (suc k) l = inl (omega arith)
below_or_last (suc i) zero l = absurd (omega arith)
below_or_last (suc i) (suc k) l = ⊎_elim (λ a. inl (omega arith)) (λ e. inr (ap suc e)) (below_or_last i k (omega arith))

pub has_first : (r : Role) (k i : ℕ) → i < k → Has (node_of r i) (first_of r k)
has_first r zero i l = absurd (omega arith)
has_first r (suc k) i l = ⊎_elim (λ a. has_left (node_of r i) (first_of r k) (node_of r k ∷ []) (has_first r k i a)) (λ e. has_right (node_of r i) (first_of r k) (node_of r k ∷ []) (inl (ap (node_of r) e))) (below_or_last i k l)

-- the node is one of the role, with a number below the count
abbrev pub IsFirst : Role → ℕ → Node → Type 0
IsFirst r k n = (i : ℕ) × (i < k) × (n ≡ node_of r i)

pub first_has : (r : Role) (k : ℕ) (n : Node) → Has n (first_of r k) → IsFirst r k n
first_has r zero n h = absurd h
first_has r (suc k) n h = ⊎_elim (λ a. let f = first_has r k n a in let l = f.1 in (f.0, omega arith, f.2)) (λ b. (k, omega arith, has_one n (node_of r k) b)) (has_either n (first_of r k) (node_of r k ∷ []) h)

number_is : (r : Role) (i : ℕ) → number_of (node_of r i) ≡ i
number_is Acceptor i = refl
number_is Coordinator i = refl
number_is Learner i = refl
number_is Proposer i = refl

pub distinct_first : (r : Role) (k : ℕ) → IsDistinct (first_of r k)
distinct_first r zero = tt
distinct_first r (suc k) = distinct_both (first_of r k) (node_of r k ∷ []) (distinct_first r k) ((λ h. absurd h), tt) (λ n h l.
    let f = first_has r k n h in let below = f.1 in
    let same : f.0 ≡ k = sym (number_is r f.0) ∙ ap number_of (sym f.2 ∙ has_one n (node_of r k) l) ∙ number_is r k in omega arith)

-- ---- the four roles

abbrev pub role_number : Node → ℕ
role_number (node.Acceptor n) = 0
role_number (node.Coordinator n) = 1
role_number (node.Learner n) = 2
role_number (node.Proposer n) = 3

role_is : (r : Role) (i j : ℕ) → role_number (node_of r i) ≡ role_number (node_of r j)
role_is Acceptor i j = refl
role_is Coordinator i j = refl
role_is Learner i j = refl
role_is Proposer i j = refl

apart : (r s : Role) (k m : ℕ) → (role_number (node_of r 0) ≡ role_number (node_of s 0) → ⊥) → (n : Node) → Has n (first_of r k) → Has n (first_of s m) → ⊥
apart r s k m differ n a b =
    let f = first_has r k n a in let g = first_has s m n b in
    differ (role_is r 0 f.0 ∙ ap role_number (sym f.2 ∙ g.2) ∙ role_is s g.0 0)

pub all_distinct : (config : Counts) → IsDistinct (all_nodes config)
all_distinct config =
    let a = config.acceptors in let c = config.coordinators in let l = config.learners in
    let logged : IsDistinct (logged_nodes config) = distinct_both (first_of Acceptor a) (first_of Coordinator c) (distinct_first Acceptor a) (distinct_first Coordinator c) (apart Acceptor Coordinator a c (λ e. omega (arith, e))) in
    let working : IsDistinct (working_nodes config) = distinct_both (logged_nodes config) (first_of Learner l) logged (distinct_first Learner l) (λ n h o.
    ⊎_elim (λ x. apart Acceptor Learner a l (λ e. omega (arith, e)) n x o) (λ x. apart Coordinator Learner c l (λ e. omega (arith, e)) n x o) (has_either n (first_of Acceptor a) (first_of Coordinator c) h)) in
    distinct_both (working_nodes config) proposer_nodes working (distinct_first Proposer PROPOSERS) (λ n h o.
    ⊎_elim (λ y. ⊎_elim (λ x. apart Acceptor Proposer a PROPOSERS (λ e. omega (arith, e)) n x o) (λ x. apart Coordinator Proposer c PROPOSERS (λ e. omega (arith, e)) n x o) (has_either n (first_of Acceptor a) (first_of Coordinator c) y))
    (λ x. apart Learner Proposer l PROPOSERS (λ e. omega (arith, e)) n x o) (has_either n (logged_nodes config) (first_of Learner l) h))

abbrev pub count_of : Counts → Role → ℕ
count_of config Acceptor = config.acceptors
count_of config Coordinator = config.coordinators
count_of config Learner = config.learners
count_of config Proposer = PROPOSERS

present_at : (config : Counts) (r : Role) (i : ℕ) → i < count_of config r → is_present config (node_of r i) ≡ true
present_at config Acceptor i l = lt-ltb i config.acceptors l
present_at config Coordinator i l = lt-ltb i config.coordinators l
present_at config Learner i l = lt-ltb i config.learners l
present_at config Proposer i l = lt-ltb i PROPOSERS l

present_first : (config : Counts) (r : Role) (n : Node) → Has n (first_of r (count_of config r)) → is_present config n ≡ true
present_first config r n h = let f = first_has r (count_of config r) n h in subst (λ m. is_present config m ≡ true) (sym f.2) (present_at config r f.0 f.1)

pub present_logged : (config : Counts) (n : Node) → Has n (logged_nodes config) → is_present config n ≡ true
present_logged config n h = ⊎_elim (present_first config Acceptor n) (present_first config Coordinator n) (has_either n (first_of Acceptor config.acceptors) (first_of Coordinator config.coordinators) h)

pub present_working : (config : Counts) (n : Node) → Has n (working_nodes config) → is_present config n ≡ true
present_working config n h = ⊎_elim (present_logged config n) (present_first config Learner n) (has_either n (logged_nodes config) (first_of Learner config.learners) h)

pub present_proposers : (config : Counts) (n : Node) → Has n proposer_nodes → is_present config n ≡ true
present_proposers config n h = present_first config Proposer n h

pub present_all : (config : Counts) (n : Node) → Has n (all_nodes config) → is_present config n ≡ true
present_all config n h = ⊎_elim (present_working config n) (present_proposers config n) (has_either n (working_nodes config) proposer_nodes h)

pub all_present : (config : Counts) (n : Node) → is_present config n ≡ true → Has n (all_nodes config)
all_present config (node.Acceptor i) e =
    let here = has_first Acceptor config.acceptors i (ltb-true i config.acceptors e) in
    has_left _ (working_nodes config) proposer_nodes (has_left _ (logged_nodes config) (first_of Learner config.learners) (has_left _ (first_of Acceptor config.acceptors) (first_of Coordinator config.coordinators) here))
all_present config (node.Coordinator i) e =
    let here = has_first Coordinator config.coordinators i (ltb-true i config.coordinators e) in
    has_left _ (working_nodes config) proposer_nodes (has_left _ (logged_nodes config) (first_of Learner config.learners) (has_right _ (first_of Acceptor config.acceptors) (first_of Coordinator config.coordinators) here))
all_present config (node.Learner i) e =
    let here = has_first Learner config.learners i (ltb-true i config.learners e) in
    has_left _ (working_nodes config) proposer_nodes (has_right _ (logged_nodes config) (first_of Learner config.learners) here)
all_present config (node.Proposer i) e = has_right _ (working_nodes config) proposer_nodes (has_first Proposer PROPOSERS i (ltb-true i PROPOSERS e))
