-- What holds before each place of a run in which the leader followed its calls.
use Rattle.std.proofs.Common.{◌≡◌, ◌≢◌, ◌⊎◌, inl, inr, ℕ, zero, suc, true, false, List, [], ◌∷◌, ◌++◌, length, take, drop, Option, Some, None, refl, sym, ap, ◌∙◌, subst, arith, append_assoc}
use Rattle.std.specs.Prelude.{slice_get}
use Rattle.std.proofs.lemmas.List.{append-nil, map-append, drop_all}
use Rattle.gp_round.specs.Counts.{Counts}
use Rattle.gp_round.specs.declared.round.Round.{Round}
use Rattle.gp_msg.specs.declared.node.Node.TheVariants.{Proposer}
use Rattle.gp_msg.specs.declared.event.Event.{Event}
use Rattle.gp_msg.specs.declared.event.Event.TheVariants.{Offer, Begin, Take, Fall}
use Rattle.gp_msg.specs.declared.record.Record.{Record}
use Rattle.gp_msg.specs.Nodes.{node_of, same_node}
use Rattle.gp_wire.specs.Own.{own_events}
use Rattle.gp_wire.proofs.SameNodes.{same_tells}
use Rattle.gp_work.specs.Doing.{ProcessState}
use Rattle.gp_phase.specs.declared.caller.Call.{Call}
use Rattle.gp_phase.specs.Deeds.{others_in, begins}
use Rattle.gp_phase.specs.Phases.{Answers, rounds}
use Rattle.gp_phase.proofs.Deeds.{others_append, begins_append}
use Rattle.gp_caller.specs.declared.policy.TheConstants.{LEADER}
use Rattle.gp_caller.proofs.Seeing.{take_more}
use Rattle.gp_ending.specs.Begins.{leader, BeginsAt, HasFollowed}
use Rattle.gp_ending.proofs.Places.{get_drop, none_take, split_place, events_append, events_here, events_else, tail_is, cons_not_nil, head_is}
use Rattle.gp_ending.proofs.Following.{some_is, acts, follows_pre, no_other, NextCall, next_call}

-- the record is of another node, or the leader takes a message there
abbrev pub IsQuiet : Record → Type 0
IsQuiet x = (leader ≢ x.node) ⊎ ((j : ℕ) × (x.event ≡ Take leader j))

-- nothing is begun where the record is a quiet one
pub none_quiet : (config : Counts) (list : List Record) (k : ℕ) (x : Record) → slice_get list k ≡ Some x → IsQuiet x → (e : ℕ) (r : Round) → BeginsAt config list k e r → ⊥
none_quiet config list k x there quiet e r b = elim quiet [
  | inl other ↦ other (sym b.by_leader ∙ ap (λ (y : Record). y.node) same)
  | inr t ↦ let wrong : Take leader t.0 ≡ Begin LEADER r = sym t.1 ∙ sym (ap (λ (y : Record). y.event) same) ∙ b.at.begins in cc
]
  where
    same : b.at.begun ≡ x
    same = some_is (sym b.at.there ∙ there)

-- nothing is begun behind the last record
pub none_behind : (config : Counts) (list : List Record) (k : ℕ) → slice_get list k ≡ None → (e : ℕ) (r : Round) → BeginsAt config list k e r → ⊥
none_behind config list k none e r b = let wrong : Some b.at.begun ≡ None = sym b.at.there ∙ none in cc

module _ {answers : Answers} (p : ProcessState) (calls : List Call) (f : HasFollowed answers p calls) where
  abbrev X : List Record
  X = p.list

  -- what holds of a place, of the calls whose rounds were begun before it, and of the records before it, goes on to the next place
  pub record GoesOn (Holds : ℕ → List Call → List Record → Type 0) : Type 0 where
    pub start : Holds 0 [] []
    pub quiet : (k : ℕ) (x : Record) → slice_get X k ≡ Some x → IsQuiet x → ((r : Round) → x.event ≡ Begin LEADER r → ⊥) → (done : List Call) → Holds k done (take k X) → Holds (suc k) done (take k X ++ x ∷ [])
    pub begun : (k : ℕ) (x : Record) → slice_get X k ≡ Some x → x.node ≡ leader → (r : Round) → x.event ≡ Begin LEADER r
        → (done left : List Call) (n : NextCall p calls f (take k X) done left r) → Holds k done (take k X) → Holds (suc k) (done ++ n.call ∷ []) (take k X ++ x ∷ [])
    pub behind : (k : ℕ) → slice_get X k ≡ None → (done : List Call) → Holds k done (take k X) → Holds (suc k) done (take k X)

  -- before place k stand these records, and behind it those: the leader has begun the rounds of the first calls, and no others
  pub record Stage (Holds : ℕ → List Call → List Record → Type 0) (k : ℕ) (pre post : List Record) : Type 0 where
    pub done : List Call
    pub left : List Call
    pub all : done ++ left ≡ calls
    pub did : others_in (own_events leader pre) ≡ begins leader (rounds done)
    pub todo : others_in (own_events leader post) ≡ begins leader (rounds left)
    pub holds : Holds k done pre

  module _ (Holds : ℕ → List Call → List Record → Type 0) (g : GoesOn Holds) where
    start : Stage Holds 0 [] X
    start = record {
      done = [];
      left = calls;
      all = refl;
      did = refl;
      todo = acts p calls f;
      holds = g.start;
    }

    -- ---- one more record

    module _ (k : ℕ) (x : Record) (there : slice_get X k ≡ Some x) (s : Stage Holds k (take k X) (x ∷ drop (suc k) X)) where
      abbrev pre : List Record
      pre = take k X

      abbrev post : List Record
      post = drop (suc k) X

      split : X ≡ pre ++ x ∷ post
      split = split_place X k x there

      of_event : x.node ≡ node_of x.event
      of_event = (follows_pre p calls f pre post x split).own_node

      abbrev Next : Type 0
      Next = Stage Holds (suc k) (pre ++ x ∷ []) post

      did_push : others_in (own_events leader (pre ++ x ∷ [])) ≡ begins leader (rounds s.done) ++ others_in (own_events leader (x ∷ []))
      did_push = ap others_in (events_append leader pre (x ∷ [])) ∙ others_append (own_events leader pre) (own_events leader (x ∷ [])) ∙ ap (λ l. l ++ others_in (own_events leader (x ∷ []))) s.did

      quiet : IsQuiet x → ((r : Round) → x.event ≡ Begin LEADER r → ⊥) → others_in (own_events leader (x ∷ [])) ≡ [] → others_in (own_events leader (x ∷ post)) ≡ others_in (own_events leader post) → Next
      quiet is none mine rest = record {
        done = s.done;
        left = s.left;
        all = s.all;
        did = did_push ∙ ap (λ l. begins leader (rounds s.done) ++ l) mine ∙ append-nil (begins leader (rounds s.done));
        todo = sym rest ∙ s.todo;
        holds = g.quiet k x there is none s.done s.holds;
      }

      other_node : same_node leader x.node ≡ false → leader ≢ x.node → Next
      other_node differs other = quiet (inl other) (λ r is. other (sym (of_event ∙ ap node_of is)))
          (ap others_in (events_else leader x [] differs)) (ap others_in (events_else leader x post differs))

      took : same_node leader x.node ≡ true → (j : ℕ) → x.event ≡ Take leader j → Next
      took here j is = quiet (inr (j, is)) (λ r begun. absurd (let wrong : Take leader j ≡ Begin LEADER r = sym is ∙ begun in cc))
          (ap others_in (events_here leader x [] here) ∙ ap (λ e. others_in (e ∷ [])) is)
          (ap others_in (events_here leader x post here) ∙ ap (λ e. others_in (e ∷ own_events leader post)) is)

      began : same_node leader x.node ≡ true → x.node ≡ leader → (r : Round) → x.event ≡ Begin LEADER r → Next
      began here mine r is = with_call (next_call p calls f pre post x split r mine is s.done s.left s.all s.did s.todo)
        where
          with_call : NextCall p calls f pre s.done s.left r → Next
          with_call n = record {
            done = s.done ++ n.call ∷ [];
            left = n.rest;
            all = append_assoc s.done (n.call ∷ []) n.rest ∙ ap (λ l. s.done ++ l) (sym n.left_is) ∙ s.all;
            did =
                did_push
                ∙ ap (λ l. begins leader (rounds s.done) ++ l) (ap others_in (events_here leader x [] here) ∙ ap (λ e. others_in (e ∷ [])) (is ∙ ap (λ q. Begin LEADER q) n.round_is))
                ∙ sym (ap (begins leader) (map-append (λ (c : Call). c.round) s.done (n.call ∷ [])) ∙ begins_append leader (rounds s.done) (n.call.round ∷ []));
            todo = tail_is (sym (ap others_in (events_here leader x post here) ∙ ap (λ e. others_in (e ∷ own_events leader post)) is) ∙ s.todo ∙ ap (λ l. begins leader (rounds l)) n.left_is);
            holds = g.begun k x there mine r is s.done s.left n s.holds;
          }

      -- ---- any record

      own_node : same_node leader x.node ≡ true → leader ≡ x.node → (event : Event) → x.event ≡ event → Next
      own_node here same (Offer q d) is = absurd (let wrong : leader ≡ Proposer q = same ∙ of_event ∙ ap node_of is in cc)
      own_node here same (Begin c r) is = began here (sym same) r (is ∙ ap (λ n. Begin n r) (no_other p calls f pre post x split c r is))
      own_node here same (Take n j) is = took here j (is ∙ ap (λ m. Take m j) (sym (same ∙ of_event ∙ ap node_of is)))
      own_node here same (Fall n what) is = absurd (no_fall s.left (sym (ap others_in (events_here leader x post here) ∙ ap (λ e. others_in (e ∷ own_events leader post)) is) ∙ s.todo)) where
        no_fall : (left : List Call) → Fall n what ∷ others_in (own_events leader post) ≡ begins leader (rounds left) → ⊥
        no_fall [] e = cons_not_nil e
        no_fall (c ∷ left) e = let wrong : Fall n what ≡ Begin LEADER c.round = head_is e in cc

      step : Next
      step = elim (same_tells leader x.node) [ inl t ↦ own_node t.0 t.1 x.event refl | inr t ↦ other_node t.0 t.1 ]

    -- ---- behind the last record

    behind : (k : ℕ) → slice_get X k ≡ None → Stage Holds k (take k X) (drop k X) → Stage Holds (suc k) (take k X) (drop k X)
    behind k none s = record {
      done = s.done;
      left = s.left;
      all = s.all;
      did = s.did;
      todo = s.todo;
      holds = g.behind k none s.done s.holds;
    }

    -- **what holds before place k**
    pub walked : (k : ℕ) → Stage Holds k (take k X) (drop k X)
    walked zero = start
    walked (suc k) = by_place (slice_get X k) refl (walked k)
      where
        by_place : (o : Option Record) → slice_get X k ≡ o → Stage Holds k (take k X) (drop k X) → Stage Holds (suc k) (take (suc k) X) (drop (suc k) X)
        by_place (Some x) there s = subst (λ l. Stage Holds (suc k) l (drop (suc k) X)) (sym (take_more X k x there)) (step k x there (subst (Stage Holds k (take k X)) (get_drop X k x there) s))
        by_place None none s = let n = none_take X k none in subst (λ l. Stage Holds (suc k) l (drop (suc k) X)) (sym n.0) (subst (Stage Holds (suc k) (take k X)) (sym n.1) (behind k none s))

    -- ---- at a place where a round is begun, and at the end

    pub call_at : (k e : ℕ) (r : Round) → BeginsAt p.config X k e r → (s : Stage Holds k (take k X) (drop k X)) → NextCall p calls f (take k X) s.done s.left r
    call_at k e r b s =
        let todo : others_in (own_events leader (b.at.begun ∷ drop (suc k) X)) ≡ begins leader (rounds s.left) = ap (λ l. others_in (own_events leader l)) (sym (get_drop X k b.at.begun b.at.there)) ∙ s.todo in
        next_call p calls f (take k X) (drop (suc k) X) b.at.begun (split_place X k b.at.begun b.at.there) r b.by_leader b.at.begins s.done s.left s.all s.did todo

    pub all_done : (s : Stage Holds (length X) (take (length X) X) (drop (length X) X)) → s.done ≡ calls
    all_done s = by_left s.left (sym (ap (λ l. others_in (own_events leader l)) (drop_all (length X) X (omega arith))) ∙ s.todo) s.all
      where
        by_left : (left : List Call) → [] ≡ begins leader (rounds left) → s.done ++ left ≡ calls → s.done ≡ calls
        by_left [] none all = sym (append-nil s.done) ∙ all
        by_left (c ∷ left) none all = absurd (cons_not_nil (sym none))
