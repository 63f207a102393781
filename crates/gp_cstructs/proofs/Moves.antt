-- What a move of one node leaves of the facts on the others.
use Rattle.std.proofs.Common.{◌≡◌, ◌⊎◌, inl, inr, ℕ, Bool, true, List, refl, subst, ap, Option, Some, None}
use Rattle.gp_cstructs.specs.CStructs.{Among}
use Rattle.gp_cstructs.specs.Tables.{Tables, Message, P1b, P2a, P2b}
use Rattle.gp_cstructs.specs.Acceptor.{Acceptor}
use Rattle.gp_cstructs.specs.Coordinator.{Coordinator}
use Rattle.gp_cstructs.specs.Learner.{Learner}
use Rattle.gp_cstructs.specs.Loose.{send, System, acceptor_now}
use Rattle.gp_cstructs.specs.Lawful.{IsLawful}
use Rattle.gp_cstructs.specs.Facts.{Ledger, IsJoined, AnswerFacts, ledger_of, AcceptorFacts, CoordinatorFacts, LearnerFacts, Facts}
use Rattle.gp_cstructs.proofs.Lists.{set_same, set_cases}
use Rattle.gp_cstructs.proofs.Turns.{NewVote, Grows, Says, Silent, Answers, Votes, AcceptorTurn}
use Rattle.gp_cstructs.proofs.Growth.{le_lt, keeps}

-- what the facts say of an answer, and of a vote that is told
abbrev tells_answer : (T : Tables) → Ledger T → Option (Message T) → Type 0
tells_answer T K (Some (P1b r a q v)) = AnswerFacts T K r a q v
tells_answer T K _ = Unit {0}

abbrev tells_vote : (T : Tables) → Ledger T → Option (Message T) → Type 0
tells_vote T K (Some (P2b r a v)) = K.votes a r v
tells_vote T K _ = Unit {0}

pub sent_before : {T : Tables} (m : Option (Message T)) (ms : List (Message T)) (x : Message T) → Among ms x → Among (send T m ms) x
sent_before None ms x p = p
sent_before (Some y) ms x p = inr p

pub sent_now : {T : Tables} (m : Option (Message T)) (ms : List (Message T)) (x : Message T) → Among (send T m ms) x → (m ≡ Some x) ⊎ Among ms x
sent_now None ms x p = inr p
sent_now (Some y) ms x p = elim p [ inl e ↦ inl (ap Some e) | inr n ↦ inr n ]

-- an acceptor's message is no value of a coordinator
pub says_no_value : {T : Tables} (a : ℕ) (t : Acceptor T) (m : Option (Message T)) → Says T a t m → (r : T.Round) (c : ℕ) (x : T.Value) → m ≡ Some (P2a r c x) → ⊥
says_no_value a t m Silent r c x e = cc
says_no_value a t m (Answers b) r c x e = cc
says_no_value a t m (Votes i s) r c x e = cc

pub coordinator_on : {T : Tables} (G K : Ledger T) (c : ℕ) (s : Coordinator T)
    → ((r : T.Round) (x : T.Value) → G.values c r x → K.values c r x) → ((r : T.Round) (x : T.Value) → K.values c r x → G.values c r x)
    → ((r : T.Round) (a : ℕ) (q : T.Round) (v : T.Value) → G.answers r a q v → K.answers r a q v)
    → CoordinatorFacts T G c s → CoordinatorFacts T K c s
coordinator_on G K c s on back told k = record {
  value_sent = λ v e. on s.round v (k.value_sent v e);
  value_last = λ v e x p. k.value_last v e x (back s.round x p);
  none_sent = λ a n x p. k.none_sent a n x (back s.round x p);
  sent_reached = λ j x p. k.sent_reached j x (back j x p);
  answers_given = λ a q v e. told s.round a q v (k.answers_given a q v e);
  awake_late = k.awake_late;
}

pub acceptor_on : {T : Tables} (G K : Ledger T) (a : ℕ) (s : Acceptor T)
    → ((r : T.Round) (x : T.Value) → G.votes a r x → K.votes a r x) → ((r : T.Round) (x : T.Value) → K.votes a r x → G.votes a r x)
    → ((c : ℕ) (r : T.Round) (x : T.Value) → G.values c r x → K.values c r x)
    → AcceptorFacts T G a s → AcceptorFacts T K a s
acceptor_on G K a s on back vals k = record {
  voted_reached = k.voted_reached;
  vote_cast = on s.voted s.vote k.vote_cast;
  vote_last = λ x p. k.vote_last x (back s.voted x p);
  none_above = λ j x b p. k.none_above j x b (back j x p);
  held_sent = λ c v e. vals c s.round v (k.held_sent c v e);
}

pub learner_on : {T : Tables} (G K : Ledger T) (s : Learner T)
    → ((a : ℕ) (r : T.Round) (x : T.Value) → G.votes a r x → K.votes a r x)
    → LearnerFacts T G s → LearnerFacts T K s
learner_on G K s on k = record {
  taken_cast = λ r a v p. on a r v (k.taken_cast r a v p);
  held_taken = k.held_taken;
  taken_held = k.taken_held;
  parts = k.parts;
  heard = k.heard;
  above = k.above;
  least = k.least;
  whole_learned = k.whole_learned;
}

pub joined_on_values : {T : Tables} {leads : T.Round → (ℕ → Bool) → Type 0} (G K : Ledger T) → ((c : ℕ) (r : T.Round) (x : T.Value) → G.values c r x → K.values c r x) → (r : T.Round) (w : T.Value) → IsJoined T leads G r w → IsJoined T leads K r w
joined_on_values G K on r w j = record {
  parts = j.parts;
  backed = λ u m. let b = j.backed u m in record {
    quorum = b.quorum;
    is_quorum = b.is_quorum;
    each = λ c i e. let x = b.each c i e in (x.0, on c r x.0 x.1, x.2);
  };
  above = j.above;
  least = j.least;
}

module _ {T : Tables} {leads : T.Round → (ℕ → Bool) → Type 0} (l : IsLawful T leads)
    (w : System T) (k : Facts T leads w) (a : ℕ) (t : Acceptor T) (m : Option (Message T))
    (turn : AcceptorTurn T leads (ledger_of T w) a (w.acceptors a) t m)
  where
    abbrev after : System T
    after = acceptor_now T w a t m

    abbrev G : Ledger T
    G = ledger_of T w

    abbrev K : Ledger T
    K = ledger_of T after

    values_on : (c : ℕ) (r : T.Round) (x : T.Value) → G.values c r x → K.values c r x
    values_on c r x p = sent_before m w.sent (P2a r c x) p

    values_back : (c : ℕ) (r : T.Round) (x : T.Value) → K.values c r x → G.values c r x
    values_back c r x p = elim (sent_now m w.sent (P2a r c x) p) [
      | inl e ↦ absurd (says_no_value a t m turn.says r c x e)
      | inr n ↦ n
    ]

    votes_on : (b : ℕ) (r : T.Round) (x : T.Value) → G.votes b r x → K.votes b r x
    votes_on b r x p = elim p [ inl n ↦ inl (inr n) | inr z ↦ inr z ]

    votes_back : (b : ℕ) (r : T.Round) (x : T.Value) → K.votes b r x → (◌≡◌ {A = ℕ × T.Round × T.Value} (a, t.voted, t.vote) (b, r, x) ⊎ G.votes b r x)
    votes_back b r x p = elim p [
      | inl n ↦ elim n [ inl e ↦ inl e | inr o ↦ inr (inl o) ]
      | inr z ↦ inr (inr z)
    ]

    own : AcceptorFacts T K a t
    own = record {
      voted_reached = turn.voted_reached;
      vote_cast = inl (inl refl);
      vote_last = λ x p. elim (votes_back a t.voted x p) [
        | inl e ↦ subst (λ (y : T.Value). T.prefix y t.vote) (ap (λ (y : ℕ × T.Round × T.Value). y.2) e) (l.bounds.reflexive t.vote)
        | inr o ↦ turn.top x o
      ];
      none_above = λ j x b p. elim (votes_back a j x p) [
        | inl e ↦ l.order.irreflexive j (subst (λ (i : T.Round). T.earlier i j ≡ true) (ap (λ (y : ℕ × T.Round × T.Value). y.1) e) b)
        | inr o ↦ (k.acceptors a).none_above j x (le_lt l (w.acceptors a).voted t.voted j turn.voted_rises b) o
      ];
      held_sent = λ c v e. values_on c t.round v (turn.held_sent c v e);
    }

    others : (b : ℕ) → (a ≡ b → ⊥) → AcceptorFacts T K b (w.acceptors b)
    others b n = acceptor_on G K b (w.acceptors b) (λ r x p. votes_on b r x p)
        (λ r x p. elim (votes_back b r x p) [ inl e ↦ absurd (n (ap (λ (y : ℕ × T.Round × T.Value). y.0) e)) | inr o ↦ o ])
        values_on (k.acceptors b)

    now_a : K.round a ≡ t.round
    now_a = ap (λ (s : Acceptor T). s.round) (set_same w.acceptors a t)

    new_vote : G.votes a t.voted t.vote ⊎ NewVote T leads G K a t.voted t.vote
    new_vote = elim turn.new [
      | inl o ↦ inl o
      | inr f ↦ inr (record {
        fresh = f.fresh;
        reached = λ b. turn.voted_reached (subst (λ (i : T.Round). T.earlier i t.voted ≡ true) now_a b);
        top = λ y p. own.vote_last y p;
        safe = f.safe;
        joined = λ s. joined_on_values G K values_on t.voted t.vote (f.joined s);
      })
    ]

    new_answer : (r : T.Round) (b : ℕ) (q : T.Round) (v : T.Value) (n : Option (Message T)) → Says T a t n → n ≡ Some (P1b r b q v) → AnswerFacts T K r b q v
    new_answer r b q v n Silent e = absurd (cc)
    new_answer r b q v n (Votes i s) e = absurd (cc)
    new_answer r b q v n (Answers x) e = subst (λ (y : Option (Message T)). tells_answer T K y) e (record {
      below = x;
      reached = λ h. l.order.irreflexive t.round (subst (λ (i : T.Round). T.earlier i t.round ≡ true) now_a h);
      cast = own.vote_cast;
      last = own.vote_last;
      none = λ j y z u p. own.none_above j u y p;
    })

    grows : Grows T leads G K
    grows = record {
      rounds = set_cases (λ (b : ℕ) (s : Acceptor T). T.earlier s.round (G.round b) ≡ true → ⊥) w.acceptors a t turn.rises
          (λ b n h. l.order.irreflexive (G.round b) h);
      votes_kept = votes_on;
      votes_new = λ b r x p. elim (votes_back b r x p) [
        | inl e ↦ subst (λ (y : ℕ × T.Round × T.Value). G.votes y.0 y.1 y.2 ⊎ NewVote T leads G K y.0 y.1 y.2) e new_vote
        | inr o ↦ inl o
      ];
      values_kept = values_on;
      values_new = λ c r x p. inl (values_back c r x p);
      answers_new = λ r b q v p. elim (sent_now m w.sent (P1b r b q v) p) [
        | inl e ↦ inr (new_answer r b q v m turn.says e)
        | inr o ↦ inl o
      ];
    }

    tells : (r : T.Round) (b : ℕ) (v : T.Value) (n : Option (Message T)) → Says T a t n → n ≡ Some (P2b r b v) → K.votes b r v
    tells r b v n Silent e = absurd (cc)
    tells r b v n (Answers x) e = absurd (cc)
    tells r b v n (Votes i s) e = subst (λ (y : Option (Message T)). tells_vote T K y) e (subst (λ (j : T.Round). K.votes a j t.vote) s own.vote_cast)

    pub acceptor_moves : Facts T leads after
    acceptor_moves = record {
      ledger = keeps l G K grows k.ledger;
      acceptors = set_cases (λ (b : ℕ) (s : Acceptor T). AcceptorFacts T K b s) w.acceptors a t own others;
      coordinators = λ c. coordinator_on G K c (w.coordinators c) (λ r x. values_on c r x) (λ r x. values_back c r x) (λ r b q v p. sent_before m w.sent (P1b r b q v) p) (k.coordinators c);
      learners = λ i. learner_on G K (w.learners i) votes_on (k.learners i);
      taken_sent = λ i r b v p. sent_before m w.sent (P2b r b v) (k.taken_sent i r b v p);
      sent_cast = λ r b v p. elim (sent_now m w.sent (P2b r b v) p) [
        | inl e ↦ tells r b v m turn.says e
        | inr o ↦ votes_on b r v (k.sent_cast r b v o)
      ];
    }
