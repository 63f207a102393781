-- A token names a number, a count or a node exactly where it is the word of it.
use Rattle.std.proofs.Common.{◌≡◌, ℕ, ◌<◌, ◌≤◌, ◌^◌, true, ◌&&◌, eqb, ltb, leb, List, [], ◌∷◌, Some, Ok, refl, sym, ap, subst, ◌∙◌, arith, inl, inr}
use Rattle.std.specs.Prelude.{decimal}
use Rattle.std.specs.Option.{ok_or}
use Rattle.std.proofs.lemmas.Bool.{and_parts, eqb-true, ltb-true, leb-true, lt-ltb, le-leb}
use Rattle.gp_round.specs.Counts.{Counts}
use Rattle.gp_round.specs.Ranges.{AreInRange}
use Rattle.gp_msg.specs.declared.node.Node.{Node}
use Rattle.gp_msg.specs.declared.node.Node.TheVariants.{Proposer, Coordinator, Acceptor, Learner}
use Rattle.gp_msg.specs.Nodes.{is_present}
use Rattle.gp_words.specs.Numbers.{number_of}
use Rattle.gp_words.proofs.NumberLemmas.{number_spelled, number_again}
use Rattle.gp_store.proofs.ReadingLemmas.{bound as step_says}
use Rattle.gp_script.specs.declared.reason.Reason.TheVariants.{BadNumber, BadCount, NoNode}
use Rattle.gp_script.specs.Names.{number, count_of, letter_and_number, node_by, node_of, as_proposer, as_coordinator, as_learner, proposer_of, coordinator_of, learner_of}
use Rattle.gp_script.specs.Spelling.{node_word}
use Rattle.gp_script.proofs.Steps.{test_says, first_or_next, ok_or_says, option_map_says}

-- the token is what is written of the number
pub number_says : (token : List ℕ) (n : ℕ) → number token ≡ Ok n → (token ≡ decimal n) × (n < 2 ^ 64)
number_says token n e = number_spelled token n (ok_or_says (number_of token) n BadNumber e)

pub number_read : (n : ℕ) → n < 2 ^ 64 → number (decimal n) ≡ Ok n
number_read n lt = ap (λ o. ok_or o BadNumber) (number_again n lt)

-- the same for a number from low to high
pub record IsCount (low high : ℕ) (token : List ℕ) (n : ℕ) : Type 0 where
  pub written : token ≡ decimal n
  pub least : low ≤ n
  pub most : n ≤ high

pub count_says : (low high : ℕ) (token : List ℕ) (n : ℕ) → count_of low high token ≡ Ok n → IsCount low high token n
unfolding count_of
count_says low high token n e =
    let (m, read, rest) = step_says (number token) _ n e in
    let (inside, same) = test_says (leb low m && leb m high) m n BadCount rest in
    let (least, most) = and_parts (leb low m) (leb m high) inside in
    record {
      written = (number_says token m read).0 ∙ ap decimal same;
      least = subst (λ k. low ≤ k) same (leb-true low m least);
      most = subst (λ k. k ≤ high) same (leb-true m high most);
    }

pub count_read : (low high n : ℕ) → n < 2 ^ 64 → low ≤ n → n ≤ high → count_of low high (decimal n) ≡ Ok n
unfolding count_of
count_read low high n lt least most = rw (number_read n lt, le-leb low n least, le-leb n high most) refl

-- the token is the word of the node, and the node is of the configuration
pub record IsNamed (c : Counts) (token : List ℕ) (node : Node) : Type 0 where
  pub written : token ≡ node_word node
  pub there : is_present c node ≡ true

letter_is : (letter code n bound : ℕ) → (eqb letter code && ltb n bound) ≡ true → (letter ∷ decimal n ≡ code ∷ decimal n) × (ltb n bound ≡ true)
letter_is letter code n bound e =
    let (same, lt) = and_parts (eqb letter code) (ltb n bound) e in
    (ap (λ b. b ∷ decimal n) (eqb-true letter code same), lt)

-- a letter and a number that stand for a node are its word
node_by_says : (c : Counts) (letter n : ℕ) (node : Node) → node_by c letter n ≡ Ok node → IsNamed c (letter ∷ decimal n) node
node_by_says c letter n node e =
    let is_named : Node → Type 0 = λ found. IsNamed c (letter ∷ decimal n) found in
    elim (first_or_next (eqb letter 112 && ltb n 8) (Proposer n) node _ e) [
      | inl (is, same) ↦ subst is_named same (let (w, lt) = letter_is letter 112 n 8 is in record { written = w; there = lt })
      | inr e ↦ elim (first_or_next (eqb letter 99 && ltb n c.coordinators) (Coordinator n) node _ e) [
        | inl (is, same) ↦ subst is_named same (let (w, lt) = letter_is letter 99 n c.coordinators is in record { written = w; there = lt })
        | inr e ↦ elim (first_or_next (eqb letter 97 && ltb n c.acceptors) (Acceptor n) node _ e) [
          | inl (is, same) ↦ subst is_named same (let (w, lt) = letter_is letter 97 n c.acceptors is in record { written = w; there = lt })
          | inr e ↦ elim (first_or_next (eqb letter 108 && ltb n c.learners) (Learner n) node _ e) [
            | inl (is, same) ↦ subst is_named same (let (w, lt) = letter_is letter 108 n c.learners is in record { written = w; there = lt })
            | inr e ↦ absurd cc
          ]
        ]
      ]
    ]

letter_says : (token : List ℕ) (s : ℕ × ℕ) → letter_and_number token ≡ Some s → token ≡ s.0 ∷ decimal s.1
unfolding letter_and_number
letter_says [] s e = absurd cc
letter_says (letter ∷ digits) s e =
    let (n, is, same) = option_map_says (λ (n : ℕ). (letter, n)) (number_of digits) s e in
    ap (λ (ds : List ℕ). letter ∷ ds) (number_spelled digits n is).0 ∙ ap (λ (s : ℕ × ℕ). s.0 ∷ decimal s.1) same

pub node_says : (c : Counts) (token : List ℕ) (node : Node) → node_of c token ≡ Ok node → IsNamed c token node
unfolding node_of
node_says c token node e =
    let (s, is, by) = step_says (ok_or (letter_and_number token) NoNode) _ node e in
    let t = letter_says token s (ok_or_says (letter_and_number token) s NoNode is) in
    subst (λ (t : List ℕ). IsNamed c t node) (sym t) (node_by_says c s.0 s.1 node by)

as_proposer_says : (node : Node) (n : ℕ) → as_proposer node ≡ Ok n → node ≡ Proposer n
as_proposer_says (Proposer m) n e = cc
as_proposer_says (Coordinator m) n e = absurd cc
as_proposer_says (Acceptor m) n e = absurd cc
as_proposer_says (Learner m) n e = absurd cc

as_coordinator_says : (node : Node) (n : ℕ) → as_coordinator node ≡ Ok n → node ≡ Coordinator n
as_coordinator_says (Proposer m) n e = absurd cc
as_coordinator_says (Coordinator m) n e = cc
as_coordinator_says (Acceptor m) n e = absurd cc
as_coordinator_says (Learner m) n e = absurd cc

as_learner_says : (node : Node) (n : ℕ) → as_learner node ≡ Ok n → node ≡ Learner n
as_learner_says (Proposer m) n e = absurd cc
as_learner_says (Coordinator m) n e = absurd cc
as_learner_says (Acceptor m) n e = absurd cc
as_learner_says (Learner m) n e = cc

pub proposer_says : (c : Counts) (token : List ℕ) (n : ℕ) → proposer_of c token ≡ Ok n → IsNamed c token (Proposer n)
proposer_says c token n e =
    let (node, is, as_one) = step_says (node_of c token) as_proposer n e in
    subst (λ (node : Node). IsNamed c token node) (as_proposer_says node n as_one) (node_says c token node is)

pub coordinator_says : (c : Counts) (token : List ℕ) (n : ℕ) → coordinator_of c token ≡ Ok n → IsNamed c token (Coordinator n)
coordinator_says c token n e =
    let (node, is, as_one) = step_says (node_of c token) as_coordinator n e in
    subst (λ (node : Node). IsNamed c token node) (as_coordinator_says node n as_one) (node_says c token node is)

pub learner_says : (c : Counts) (token : List ℕ) (n : ℕ) → learner_of c token ≡ Ok n → IsNamed c token (Learner n)
learner_says c token n e =
    let (node, is, as_one) = step_says (node_of c token) as_learner n e in
    subst (λ (node : Node). IsNamed c token node) (as_learner_says node n as_one) (node_says c token node is)

-- the word of a node of the configuration names it
pub node_read : (c : Counts) (node : Node) → AreInRange c.acceptors c.coordinators c.learners → is_present c node ≡ true → node_of c (node_word node) ≡ Ok node
unfolding node_of letter_and_number
node_read c (Proposer n) range there = let lt = ltb-true n 8 there in rw (number_again n (omega arith), lt-ltb n 8 lt) refl
node_read c (Coordinator n) range there = let lt = ltb-true n c.coordinators there in rw (number_again n (omega arith), lt-ltb n c.coordinators lt) refl
node_read c (Acceptor n) range there = let lt = ltb-true n c.acceptors there in rw (number_again n (omega arith), lt-ltb n c.acceptors lt) refl
node_read c (Learner n) range there = let lt = ltb-true n c.learners there in rw (number_again n (omega arith), lt-ltb n c.learners lt) refl
