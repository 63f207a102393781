-- A line that says nothing has a first token that breaks its rule.
use Rattle.std.proofs.Common.{◌≡◌, ◌≢◌, inl, inr, ℕ, ◌<◌, ◌^◌, Bool, true, false, ◌&&◌, cond, eqb, ltb, leb, List, Some, None, Result, Ok, Err, refl, sym, ap, ◌∙◌, arith}
use Rattle.std.specs.Prelude.{decimal}
use Rattle.std.specs.Option.{ok_or}
use Rattle.gp_round.specs.Counts.{Counts}
use Rattle.gp_round.specs.Ranges.{AreInRange}
use Rattle.gp_command.specs.Views.{DraftView}
use Rattle.gp_msg.specs.declared.node.Node.{Node}
use Rattle.gp_msg.specs.declared.node.Node.TheVariants.{Proposer, Coordinator, Acceptor, Learner}
use Rattle.gp_store.specs.declared.form.OpFault.{OpFault}
use Rattle.gp_msg.specs.Nodes.{node_number, may_fall}
use Rattle.gp_words.specs.Numbers.{number_of}
use Rattle.gp_memory.specs.Results.{◌>>=◌}
use Rattle.gp_service.specs.Languages.{Language}
use Rattle.gp_script.specs.declared.reason.Reason.{Reason}
use Rattle.gp_script.specs.declared.reason.Reason.TheVariants.{BadLine, BadNumber, BadCount, NoNode, BadFall}
use Rattle.gp_script.specs.Reasons.{or_reason}
use Rattle.gp_script.specs.Names.{number, count_of, letter_and_number, node_by, node_of, as_proposer, as_coordinator, as_learner, proposer_of, coordinator_of, learner_of}
use Rattle.gp_script.specs.Spelling.{node_word}
use Rattle.gp_script.specs.Forms.{Form, NodesLine, OfferLine, BeginLine, TakeLine, FallLine, ShowLine, KeptForm, NothingKept, TakeKept, BeginKept}
use Rattle.gp_script.specs.Items.{round_count, step_in, kept_of, fall_of, offer_of, plain_item_of, item_of, counts_of}
use Rattle.gp_script.specs.declared.items.Item.{Item}
use Rattle.gp_script.specs.Broken.{IsNumberWord, IsCountWord, IsNodeWord, IsProposerWord, IsCoordinatorWord, IsLearnerWord, BreaksRule, BreaksFirst, BreaksCount, BreaksKept, BreaksWords, BreaksFall, BreaksLine, BreaksCounts}
use Rattle.gp_script.proofs.Steps.{ok_or_says, step_fails, ok_or_fails, test_fails, others_fail}
use Rattle.gp_script.proofs.NameLemmas.{number_says, number_read, count_says, count_read, node_says, node_read, proposer_says, coordinator_says}

-- what is read of a word is not refused
not_both : {A E : Type 0} (f : List ℕ → Result A E) (token word : List ℕ) (x : A) (why : E) → token ≡ word → f word ≡ Ok x → f token ≡ Err why → ⊥
not_both f token word x why same read fails = let bad : Ok x ≡ Err why = sym read ∙ ap f (sym same) ∙ fails in cc

-- ---- tokens

number_fails : (token : List ℕ) (why : Reason) → number token ≡ Err why → BreaksRule (IsNumberWord token) BadNumber why
number_fails token why e = (λ w. not_both number token (decimal w.0) w.0 why w.1 (number_read w.0 w.2) e, (ok_or_fails (number_of token) BadNumber why e).1)

is_number : (token : List ℕ) (n : ℕ) → number token ≡ Ok n → IsNumberWord token
is_number token n e = let says = number_says token n e in (n, says.0, says.1)

count_fails : (low high : ℕ) (token : List ℕ) (why : Reason) → high < 2 ^ 64 → count_of low high token ≡ Err why → BreaksCount low high token why
unfolding count_of
count_fails low high token why few e =
    elim (step_fails (number token) (λ n. cond (leb low n && leb n high) (Ok n) (Err BadCount)) why e) [
      | inl none ↦ inl (number_fails token why none)
      | inr m ↦ inr (
        is_number token m.0 m.1,
        (λ w. not_both (count_of low high) token (decimal w.0) w.0 why w.1 (let most = w.3 in count_read low high w.0 (omega (arith, most, few)) w.2 w.3) e, test_fails (leb low m.0 && leb m.0 high) m.0 BadCount why m.2),
      )
    ]

is_count : (low high : ℕ) (token : List ℕ) (n : ℕ) → count_of low high token ≡ Ok n → IsCountWord low high token
is_count low high token n e = let says = count_says low high token n e in (n, says.written, says.least, says.most)

pub counts_break : (form : Form) (why : Reason) → counts_of form ≡ Err why → BreaksCounts form why
unfolding counts_of
counts_break (NodesLine acceptors coordinators learners) why e =
    elim (step_fails (count_of 3 7 acceptors) _ why e) [
      | inl none ↦ inl (count_fails 3 7 acceptors why (omega arith) none)
      | inr a ↦ inr (
        is_count 3 7 acceptors a.0 a.1,
        elim (step_fails (count_of 1 5 coordinators) _ why a.2) [
          | inl none ↦ inl (count_fails 1 5 coordinators why (omega arith) none)
          | inr c ↦ inr (
            is_count 1 5 coordinators c.0 c.1,
            elim (step_fails (count_of 1 4 learners) _ why c.2) [
              | inl none ↦ count_fails 1 4 learners why (omega arith) none
              | inr l ↦ absurd (let bad = l.2 in cc)
            ],
          )
        ],
      )
    ]
counts_break (OfferLine node words) why e = cc
counts_break (BeginLine node count mode) why e = cc
counts_break (TakeLine node message) why e = cc
counts_break (FallLine node form) why e = cc
counts_break (ShowLine node) why e = cc

by_fails : (c : Counts) (letter n : ℕ) (why : Reason) → node_by c letter n ≡ Err why → why ≡ NoNode
by_fails c letter n why e =
    let p = others_fail (eqb letter 112 && ltb n 8) (Proposer n) _ why e in
    let q = others_fail (eqb letter 99 && ltb n c.coordinators) (Coordinator n) _ why p in
    let a = others_fail (eqb letter 97 && ltb n c.acceptors) (Acceptor n) _ why q in
    test_fails (eqb letter 108 && ltb n c.learners) (Learner n) NoNode why a

no_node : (c : Counts) (token : List ℕ) (why : Reason) → node_of c token ≡ Err why → why ≡ NoNode
unfolding node_of
no_node c token why e =
    elim (step_fails (ok_or (letter_and_number token) NoNode) (λ s. node_by c s.0 s.1) why e) [
      | inl none ↦ (ok_or_fails (letter_and_number token) NoNode why none).1
      | inr s ↦ by_fails c s.0.0 s.0.1 why s.2
    ]

module _ (c : Counts) (range : AreInRange c.acceptors c.coordinators c.learners) where
  node_fails : (token : List ℕ) (why : Reason) → node_of c token ≡ Err why → BreaksRule (IsNodeWord c token) NoNode why
  node_fails token why e = (λ w. not_both (node_of c) token (node_word w.0) w.0 why w.1 (node_read c w.0 range w.2) e, no_node c token why e)

  is_node : (token : List ℕ) (node : Node) → node_of c token ≡ Ok node → IsNodeWord c token
  is_node token node e = let says = node_says c token node e in (node, says.written, says.there)

  -- a node of the wrong kind
  no_kind : (kind : Node → Result ℕ Reason) → ((node : Node) (why : Reason) → kind node ≡ Err why → why ≡ NoNode) → (token : List ℕ) (why : Reason) → (node_of c token >>= kind) ≡ Err why → why ≡ NoNode
  no_kind kind others token why e =
      elim (step_fails (node_of c token) kind why e) [
        | inl none ↦ no_node c token why none
        | inr node ↦ others node.0 why node.2
      ]

  as_proposer_fails : (node : Node) (why : Reason) → as_proposer node ≡ Err why → why ≡ NoNode
  as_proposer_fails (Proposer n) why e = absurd cc
  as_proposer_fails (Coordinator n) why e = cc
  as_proposer_fails (Acceptor n) why e = cc
  as_proposer_fails (Learner n) why e = cc

  as_coordinator_fails : (node : Node) (why : Reason) → as_coordinator node ≡ Err why → why ≡ NoNode
  as_coordinator_fails (Proposer n) why e = cc
  as_coordinator_fails (Coordinator n) why e = absurd cc
  as_coordinator_fails (Acceptor n) why e = cc
  as_coordinator_fails (Learner n) why e = cc

  as_learner_fails : (node : Node) (why : Reason) → as_learner node ≡ Err why → why ≡ NoNode
  as_learner_fails (Proposer n) why e = cc
  as_learner_fails (Coordinator n) why e = cc
  as_learner_fails (Acceptor n) why e = cc
  as_learner_fails (Learner n) why e = absurd cc

  proposer_fails : (token : List ℕ) (why : Reason) → proposer_of c token ≡ Err why → BreaksRule (IsProposerWord c token) NoNode why
  proposer_fails token why e = (
    λ w. not_both (proposer_of c) token (node_word (Proposer w.0)) w.0 why w.1 (ap (λ r. r >>= as_proposer) (node_read c (Proposer w.0) range w.2)) e,
    no_kind as_proposer as_proposer_fails token why e,
  )

  coordinator_fails : (token : List ℕ) (why : Reason) → coordinator_of c token ≡ Err why → BreaksRule (IsCoordinatorWord c token) NoNode why
  coordinator_fails token why e = (
    λ w. not_both (coordinator_of c) token (node_word (Coordinator w.0)) w.0 why w.1 (ap (λ r. r >>= as_coordinator) (node_read c (Coordinator w.0) range w.2)) e,
    no_kind as_coordinator as_coordinator_fails token why e,
  )

  learner_fails : (token : List ℕ) (why : Reason) → learner_of c token ≡ Err why → BreaksRule (IsLearnerWord c token) NoNode why
  learner_fails token why e = (
    λ w. not_both (learner_of c) token (node_word (Learner w.0)) w.0 why w.1 (ap (λ r. r >>= as_learner) (node_read c (Learner w.0) range w.2)) e,
    no_kind as_learner as_learner_fails token why e,
  )

  -- ---- what a crash keeps

  kept_fails : (n : ℕ) (form : KeptForm) (why : Reason) → kept_of n form ≡ Err why → BreaksKept form why
  kept_fails n NothingKept why e = absurd cc
  kept_fails n (TakeKept message) why e =
      elim (step_fails (number message) _ why e) [
        | inl none ↦ number_fails message why none
        | inr m ↦ absurd (let bad = m.2 in cc)
      ]
  kept_fails n (BeginKept count mode) why e =
      elim (step_fails (round_count count) _ why e) [
        | inl none ↦ count_fails 1 1000000 count why (omega arith) none
        | inr m ↦ absurd (let bad = m.2 in cc)
      ]

  may_not : (b : Bool) (form : KeptForm) (next : Result Item Reason) (why : Reason) → cond b next (Err BadFall) ≡ Err why → (next ≡ Err why → BreaksKept form why) → BreaksFirst (b ≡ true) BadFall why (BreaksKept form why)
  may_not true form next why e kept = inr (refl, kept e)
  may_not false form next why e kept = inl (λ is. absurd cc, cc)

  fall_fails : (token : List ℕ) (node : Node) (form : KeptForm) (why : Reason) → node_of c token ≡ Ok node → fall_of node form ≡ Err why → BreaksFall token form why
  fall_fails token node form why is e =
      let says = node_says c token node is in (
        node,
        says.written,
        may_not (may_fall node (step_in form)) form _ why e (λ later.
            elim (step_fails (kept_of (node_number node) form) _ why later) [
              | inl none ↦ kept_fails (node_number node) form why none
              | inr m ↦ absurd (let bad = m.2 in cc)
            ]),
      )

  -- ---- lines

  words_fail : (language : Language) (words : List (List ℕ)) (said : Result DraftView OpFault) (why : Reason) → language words ≡ Some said → or_reason said ≡ Err why → BreaksWords language words why
  words_fail language words (Ok draft) why is e = absurd cc
  words_fail language words (Err fault) why is e = (fault, is, cc)

  offer_fails : (language : Language) (node : List ℕ) (words : List (List ℕ)) (why : Reason) → offer_of language c node words ≡ Err why → BreaksLine language c (OfferLine node words) why
  unfolding offer_of
  offer_fails language node words why e =
      elim (step_fails (ok_or (language words) BadLine) _ why e) [
        | inl none ↦ let no = ok_or_fails (language words) BadLine why none in inl (λ some. some no.0, no.1)
        | inr said ↦
            let is = ok_or_says (language words) said.0 BadLine said.1 in
            let there : language words ≢ None = λ none. let bad : Some said.0 ≡ None = sym is ∙ none in cc in
            inr (
              there,
              elim (step_fails (proposer_of c node) _ why said.2) [
                | inl none ↦ inl (proposer_fails node why none)
                | inr p ↦
                    let named = proposer_says c node p.0 p.1 in
                    inr (
                      (p.0, named.written, named.there),
                      elim (step_fails (or_reason said.0) _ why p.2) [
                        | inl fault ↦ words_fail language words said.0 why is fault
                        | inr d ↦ absurd (let bad = d.2 in cc)
                      ],
                    )
              ],
            )
      ]

  plain_fails : (language : Language) (form : Form) (why : Reason) → plain_item_of c form ≡ Err why → item_of language c form ≡ Err why → BreaksLine language c form why
  unfolding plain_item_of
  plain_fails language (NodesLine acceptors coordinators learners) why e same = cc
  plain_fails language (OfferLine node words) why e same = offer_fails language node words why same
  plain_fails language (BeginLine node count mode) why e same =
      elim (step_fails (coordinator_of c node) _ why e) [
        | inl none ↦ inl (coordinator_fails node why none)
        | inr n ↦
            let named = coordinator_says c node n.0 n.1 in
            inr (
              (n.0, named.written, named.there),
              elim (step_fails (round_count count) _ why n.2) [
                | inl none ↦ count_fails 1 1000000 count why (omega arith) none
                | inr m ↦ absurd (let bad = m.2 in cc)
              ],
            )
      ]
  plain_fails language (TakeLine node message) why e same =
      elim (step_fails (node_of c node) _ why e) [
        | inl none ↦ inl (node_fails node why none)
        | inr n ↦ inr (
          is_node node n.0 n.1,
          elim (step_fails (number message) _ why n.2) [
            | inl none ↦ number_fails message why none
            | inr m ↦ absurd (let bad = m.2 in cc)
          ],
        )
      ]
  plain_fails language (FallLine node form) why e same =
      elim (step_fails (node_of c node) _ why e) [
        | inl none ↦ inl (node_fails node why none)
        | inr n ↦ inr (is_node node n.0 n.1, fall_fails node n.0 form why n.1 n.2)
      ]
  plain_fails language (ShowLine node) why e same =
      elim (step_fails (learner_of c node) _ why e) [
        | inl none ↦ learner_fails node why none
        | inr n ↦ absurd (let bad = n.2 in cc)
      ]

  pub line_breaks : (language : Language) (form : Form) (why : Reason) → item_of language c form ≡ Err why → BreaksLine language c form why
  line_breaks language (NodesLine acceptors coordinators learners) why e = cc
  line_breaks language (OfferLine node words) why e = offer_fails language node words why e
  line_breaks language (BeginLine node count mode) why e = plain_fails language (BeginLine node count mode) why e e
  line_breaks language (TakeLine node message) why e = plain_fails language (TakeLine node message) why e e
  line_breaks language (FallLine node form) why e = plain_fails language (FallLine node form) why e e
  line_breaks language (ShowLine node) why e = plain_fails language (ShowLine node) why e e
