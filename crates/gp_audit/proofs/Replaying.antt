-- Each record of a run keeps what a replay has.
use Rattle.std.proofs.Common.{◌≡◌, ◌⊎◌, inl, inr, ℕ, ◌<◌, Bool, true, false, cond, ◌&&◌, nat_eq, nat_lt, List, [], ◌∷◌, ◌++◌, length, Option, Some, None, refl, sym, ap, subst, ◌∙◌}
use Rattle.std.specs.Prelude.{slice_get}
use Rattle.std.specs.List.{Contains, cons_option, list_any}
use Rattle.std.specs.Option.{option_map}
use Rattle.std.proofs.lemmas.Bool.{eqb-true, eq-eqb}
use Rattle.gp_command.specs.declared.command.Command.{Command}
use Rattle.gp_command.specs.Conflict.{same}
use Rattle.gp_command.proofs.ConflictLemmas.{same-true, same_itself}
use Rattle.gp_history.specs.History.{History, has}
use Rattle.gp_history.specs.Sequence.{history_of}
use Rattle.gp_history.proofs.Joins.{empty_none}
use Rattle.gp_history.proofs.Sets.{has_history_of}
use Rattle.gp_history.proofs.Tests.{by_cases, one_of, fst_of, snd_of, left_of, right_of}
use Rattle.gp_round.specs.declared.round.Round.{Round}
use Rattle.gp_round.specs.Counts.{Counts}
use Rattle.gp_round.specs.Configs.{quorum_size}
use Rattle.gp_round.specs.Sets.{masks}
use Rattle.gp_msg.specs.declared.node.Node.TheVariants.{Learner}
use Rattle.gp_msg.specs.declared.event.Event.{Event}
use Rattle.gp_msg.specs.declared.event.Event.TheVariants.{Take}
use Rattle.gp_msg.specs.Messages.{Proposed, Asked, Answered, Sent, Voted, Stamped, Offered, InEpoch, Final, Entry}
use Rattle.gp_learner.specs.Table.{vote_of, votes_with, learner_take}
use Rattle.gp_learner.specs.Epochs as learner
use Rattle.gp_learner.specs.Epochs.{LearnerInEpoch}
use Rattle.gp_cstructs.specs.CStructs.{Among}
use Rattle.gp_cstructs.proofs.Lists.{among_append, among_left, among_right, among_contains, contains_among}
use Rattle.gp_run.specs.Messages.{messages, on_message}
use Rattle.gp_run.specs.States.{learner_acts, learner_at}
use Rattle.gp_run.specs.Legal.{Legal}
use Rattle.gp_run.specs.Agreement.{IsNoFallOf}
use Rattle.gp_agreement.proofs.Steps.{learner_own}
use Rattle.gp_audit.specs.declared.own.OwnEvent.TheVariants as own
use Rattle.gp_audit.specs.declared.proof.Proof.{Proof}
use Rattle.gp_audit.specs.declared.proof.Cause.{Cause}
use Rattle.gp_audit.specs.declared.proof.Cause.TheVariants as cause
use Rattle.gp_audit.specs.declared.replay.Replay.{Replay}
use Rattle.gp_audit.specs.Owning.{own_event}
use Rattle.gp_audit.specs.Noting.{new_proof, new_proofs, proof_of, vote_cause, first_with, quorums_then, cause_in}
use Rattle.gp_audit.specs.Certificates.{IsLeastQuorum, IsProof, IsCause, IsQuorumCause, HasTaken}
use Rattle.gp_audit.specs.Replays.{IsInStep, NotesNothing, Notes, Takes, IsReplayed}
use Rattle.gp_audit.proofs.Masked.{first_has, least_quorum, member_value}
use Rattle.gp_audit.proofs.News.{vote_news, final_news}
use Rattle.gp_audit.proofs.OwnEvents.{acts_as, no_fall}
use Rattle.gp_audit.proofs.TakenVotes.{held_taken, then_taken}

-- ---- the proofs of new commands

record Proves (known : History) (at : ℕ) (why : Command → Option Cause) (cs : List Command) (p : Proof) : Type 0 where
  command : Command
  listed : Among cs command
  lacked : has known command ≡ false
  reason : Cause
  caused : why command ≡ Some reason
  is : p ≡ proof_of at command reason

module _ (known : History) (at : ℕ) (why : Command → Option Cause) where
  one_proves : (c : Command) (b : Bool) → has known c ≡ b → (o : Option Cause) → why c ≡ o → (p : Proof) → cond b None (option_map (proof_of at c) o) ≡ Some p → Proves known at why (c ∷ []) p
  one_proves c true e o f p h = absurd (cc)
  one_proves c false e None f p h = absurd (cc)
  one_proves c false e (Some y) f p h = record { command = c; listed = inl refl; lacked = e; reason = y; caused = f; is = let d : proof_of at c y ≡ p = cc in sym d }

  proves : (cs : List Command) (p : Proof) → Among (new_proofs known at why cs) p → Proves known at why cs p
  proves [] p m = elim m [ ]
  proves (c ∷ cs) p m = by_proof (new_proof known at why c) refl m (proves cs p)
    where
      later : Proves known at why cs p → Proves known at why (c ∷ cs) p
      later x = record { command = x.command; listed = inr x.listed; lacked = x.lacked; reason = x.reason; caused = x.caused; is = x.is }

      first : Proves known at why (c ∷ []) p → Proves known at why (c ∷ cs) p
      first x = record { command = x.command; listed = elim x.listed [ inl e ↦ inl e | inr n ↦ absurd n ]; lacked = x.lacked; reason = x.reason; caused = x.caused; is = x.is }

      by_proof : (o : Option Proof) → new_proof known at why c ≡ o → Among (cons_option o (new_proofs known at why cs)) p → (Among (new_proofs known at why cs) p → Proves known at why cs p) → Proves known at why (c ∷ cs) p
      by_proof None e q ih = later (ih q)
      by_proof (Some y) e q ih = elim q [
        | inl is ↦ first (one_proves c (has known c) refl (why c) refl p (e ∙ ap (λ (z : Proof). Some z) is))
        | inr more ↦ later (ih more)
      ]

  -- a command that was not known and has a cause has its proof
  proof_there : (cs : List Command) (c : Command) (y : Cause) → Among cs c → has known c ≡ false → why c ≡ Some y → Among (new_proofs known at why cs) (proof_of at c y)
  proof_there [] c y m lacks has_cause = elim m [ ]
  proof_there (d ∷ cs) c y m lacks has_cause = elim m [
    | inl is ↦ subst (λ (o : Option Proof). Among (cons_option o (new_proofs known at why cs)) (proof_of at c y)) (sym made ∙ ap (new_proof known at why) (sym is)) (inl refl)
    | inr more ↦ behind (new_proof known at why d) (proof_there cs c y more lacks has_cause)
  ]
    where
      made : new_proof known at why c ≡ Some (proof_of at c y)
      made = ap (λ (b : Bool). cond b None (option_map (proof_of at c) (why c))) lacks ∙ ap (λ (o : Option Cause). option_map (proof_of at c) o) has_cause

      behind : (o : Option Proof) → Among (new_proofs known at why cs) (proof_of at c y) → Among (cons_option o (new_proofs known at why cs)) (proof_of at c y)
      behind None q = q
      behind (Some z) q = inr q

-- a command of a history is in its sequence
in_sequence : (cs : List Command) (c : Command) → has (history_of cs) c ≡ true → Among cs c
in_sequence cs c t = by_test cs (sym (has_history_of cs c) ∙ t)
  where
    by_test : (ds : List Command) → list_any (same c) ds ≡ true → Among ds c
    by_test [] h = absurd (cc)
    by_test (d ∷ ds) h = one_of (same c d) (list_any (same c) ds) h (λ e. inl (sym (same-true c d e))) (λ more. inr (by_test ds more))

pub sequence_in : (cs : List Command) (c : Command) → Among cs c → has (history_of cs) c ≡ true
sequence_in cs c m = has_history_of cs c ∙ by_place cs m
  where
    by_place : (ds : List Command) → Among ds c → list_any (same c) ds ≡ true
    by_place [] q = elim q [ ]
    by_place (d ∷ ds) q = elim q [
      | inl e ↦ left_of (same c d) (list_any (same c) ds) (subst (λ (z : Command). same c z ≡ true) (sym e) (same_itself c))
      | inr more ↦ right_of (same c d) (list_any (same c) ds) (by_place ds more)
    ]

-- ---- one more entry

module _ (config : Counts) (l : ℕ) (x : Entry) (es : List Entry) where
  abbrev s : LearnerInEpoch
  s = learner_at config l es

  extended : IsNoFallOf l x.event → (c : Command) (p : Proof) → IsProof config es l c p → IsProof config (x ∷ es) l c p
  extended up c p q = record {
    later = x ∷ q.later;
    entry = q.entry;
    earlier = q.earlier;
    parts = ap (λ (ys : List Entry). x ∷ ys) q.parts;
    id = q.id;
    place = q.place;
    up = (up, q.up);
    lacked = q.lacked;
    holds = q.holds;
    message = q.message;
    takes = q.takes;
    cause = q.cause;
  }

  -- each is the certificate of a command
  abbrev Sound : List Entry → List Proof → Type 0
  Sound ys ps = (p : Proof) → Contains ps p → (c : Command) × IsProof config ys l c p

  extended_all : IsNoFallOf l x.event → (ps : List Proof) → Sound es ps → Sound (x ∷ es) ps
  extended_all up ps all p m = let q = all p m in (q.0, extended up q.0 p q.1)

  -- an event of another node
  pub replayed_elsewhere : (r : Replay) → IsReplayed config es l r → own_event l x.event ≡ own.Elsewhere → IsReplayed config (x ∷ es) l r
  replayed_elsewhere r h e =
      let facts = acts_as l s (messages es) x.event own.Elsewhere e in
      record {
        number = h.number;
        learner = h.learner ∙ sym (ap (λ (p : LearnerInEpoch × Option Stamped). p.0) facts.0);
        step = h.step;
        sound = extended_all facts.1 r.proofs.items h.sound;
        complete = h.complete;
      }

  -- a fall
  pub replayed_fall : (old new : Replay) → IsReplayed config es l old → own_event l x.event ≡ own.Falls → IsInStep new → new.number ≡ old.number → new.learner ≡ learner.fall old.learner → new.proofs.items ≡ []
      → IsReplayed config (x ∷ es) l new
  replayed_fall old new h e step number next none =
      let facts = acts_as l s (messages es) x.event own.Falls e in
      record {
        number = number ∙ h.number;
        learner = next ∙ ap learner.fall h.learner ∙ sym (ap (λ (p : LearnerInEpoch × Option Stamped). p.0) facts);
        step = step;
        sound = λ p m. absurd (contains_among [] p (subst (λ (ps : List Proof). Contains ps p) none m));
        complete = λ c t. absurd (let d = sym (empty_none c) ∙ sym (ap (λ (u : LearnerInEpoch). has u.learned c) next) ∙ t in cc);
      }

  module _ (some : 0 < config.acceptors) (legal : Legal config (x ∷ es)) (k : ℕ) (takes : x.event ≡ Take (Learner l) k) where
    -- the cause of a command that is new by a vote
    by_vote : (e : ℕ) (r : Round) (a : ℕ) (v : History) → slice_get (messages es) k ≡ Some (InEpoch e (Voted r a v)) → e ≡ s.epoch → (c : Command) (mask : ℕ) → first_with (quorums_then s r a v) c ≡ Some mask
        → IsQuorumCause config l c x es k e r mask
    by_vote e r a v found same c mask first =
        let n = s.state.config.acceptors in
        let is : n ≡ config.acceptors = ap (λ (u : Counts). u.acceptors) (learner_own config l es).own_config in
        let f : ℕ → Option History = vote_of (votes_with s.state.votes r a v) r in
        let here : slice_get (messages es) k ≡ Some (InEpoch s.epoch (Voted r a v)) = found ∙ ap (λ (i : ℕ). Some (InEpoch i (Voted r a v))) same in
        record {
          epoch = sym same;
          acceptor = a;
          vote = v;
          there = found;
          least = subst (λ (j : ℕ). IsLeastQuorum j r.mode f c mask) is (least_quorum f n c r.mode mask first);
          taken = λ b less set.
              let w = member_value f n c mask (first_has f n c (masks n (quorum_size n r.mode)) mask first).1 b (subst (λ (j : ℕ). b < j) (sym is) less) set in
              (w.0, subst (λ (i : ℕ). HasTaken config (x ∷ es) l i r b w.0) (sym same) (then_taken config l x es (held_taken config l es) k takes r a v here r b w.0 w.1), w.2);
        }

    by_first : (e : ℕ) (r : Round) (a : ℕ) (v : History) → slice_get (messages es) k ≡ Some (InEpoch e (Voted r a v)) → e ≡ s.epoch → (c : Command) (o : Option ℕ) → first_with (quorums_then s r a v) c ≡ o
        → (y : Cause) → option_map (λ mask. cause.Quorum e r mask) o ≡ Some y → IsCause config l c x es k y
    by_first e r a v found same c None first y h = absurd (cc)
    by_first e r a v found same c (Some mask) first y h =
        let is : cause.Quorum e r mask ≡ y = cc in subst (IsCause config l c x es k) is (by_vote e r a v found same c mask first)

    voted_cause : (e : ℕ) (r : Round) (a : ℕ) (v : History) → slice_get (messages es) k ≡ Some (InEpoch e (Voted r a v)) → (c : Command) (b : Bool) → (nat_eq e s.epoch && nat_lt a s.state.config.acceptors) ≡ b
        → (y : Cause) → cond b (vote_cause e r (quorums_then s r a v) c) None ≡ Some y → IsCause config l c x es k y
    voted_cause e r a v found c true t y h = by_first e r a v found (eqb-true e s.epoch (fst_of (nat_eq e s.epoch) (nat_lt a s.state.config.acceptors) t)) c (first_with (quorums_then s r a v) c) refl y h
    voted_cause e r a v found c false t y h = absurd (cc)

    final_cause : (e i : ℕ) (v : History) → slice_get (messages es) k ≡ Some (Final e i v) → (c : Command) → has s.learned c ≡ false → (b : Bool) → nat_eq e s.epoch ≡ b
        → has (cond b (learner.passed s v) s).learned c ≡ true → (y : Cause) → cond b (Some (cause.Final k)) None ≡ Some y → IsCause config l c x es k y
    final_cause e i v found c lacks true t holds y h =
        let here : slice_get (messages es) k ≡ Some (Final s.epoch i v) = found ∙ ap (λ (j : ℕ). Some (Final j i v)) (eqb-true e s.epoch t) in
        let is : cause.Final k ≡ y = cc in
        subst (IsCause config l c x es k) is (record { is = refl; sender = i; value = v; there = here; has_it = final_news config some l x es legal k takes i v here c lacks holds })
    final_cause e i v found c lacks false t holds y h = absurd (cc)

    -- the cause that is noted is one
    noted_cause : (m : Stamped) → slice_get (messages es) k ≡ Some m → (c : Command) → has s.learned c ≡ false → has (learner.take s m).0.learned c ≡ true → (y : Cause) → cause_in s k m c ≡ Some y → IsCause config l c x es k y
    noted_cause (Offered d) found c lacks holds y h = absurd (cc)
    noted_cause (InEpoch e (Proposed d)) found c lacks holds y h = absurd (cc)
    noted_cause (InEpoch e (Asked r)) found c lacks holds y h = absurd (cc)
    noted_cause (InEpoch e (Answered r a q v)) found c lacks holds y h = absurd (cc)
    noted_cause (InEpoch e (Sent r b v)) found c lacks holds y h = absurd (cc)
    noted_cause (InEpoch e (Voted r a v)) found c lacks holds y h = voted_cause e r a v found c (nat_eq e s.epoch && nat_lt a s.state.config.acceptors) refl y h
    noted_cause (Final e i v) found c lacks holds y h = final_cause e i v found c lacks (nat_eq e s.epoch) refl holds y h

    -- each new command has one
    rests : {P : Type 0} (c : Command) → has s.learned c ≡ false → has s.learned c ≡ true → P
    rests c lacks holds = absurd (let e = sym lacks ∙ holds in cc)

    voted_found : (e : ℕ) (r : Round) (a : ℕ) (v : History) → slice_get (messages es) k ≡ Some (InEpoch e (Voted r a v)) → (c : Command) → has s.learned c ≡ false → has (learner.take s (InEpoch e (Voted r a v))).0.learned c ≡ true
        → (b : Bool) → (nat_eq e s.epoch && nat_lt a s.state.config.acceptors) ≡ b → (y : Cause) × (cond b (vote_cause e r (quorums_then s r a v) c) None ≡ Some y)
    voted_found e r a v found c lacks holds true t =
        let same = eqb-true e s.epoch (fst_of (nat_eq e s.epoch) (nat_lt a s.state.config.acceptors) t) in
        let known = snd_of (nat_eq e s.epoch) (nat_lt a s.state.config.acceptors) t in
        let mask = vote_news config some l x es legal k takes r a v (found ∙ ap (λ (i : ℕ). Some (InEpoch i (Voted r a v))) same) known c lacks
        (sym (ap (λ (i : ℕ). has (learner.take s (InEpoch i (Voted r a v))).0.learned c) same) ∙ holds) in
        (cause.Quorum e r mask.0, ap (λ (o : Option ℕ). option_map (λ j. cause.Quorum e r j) o) mask.1)
    voted_found e r a v found c lacks holds false t =
        rests c lacks (sym (ap (λ (b : Bool). has (cond b (learner.hearing s (learner_take s.state (Voted r a v))) (s, None)).0.learned c) t) ∙ holds)

    final_found : (e : ℕ) (v : History) (c : Command) → has s.learned c ≡ false → (b : Bool) → has (cond b (learner.passed s v) s).learned c ≡ true → (y : Cause) × (cond b (Some (cause.Final k)) None ≡ Some y)
    final_found e v c lacks true holds = (cause.Final k, refl)
    final_found e v c lacks false holds = rests c lacks holds

    cause_found : (m : Stamped) → slice_get (messages es) k ≡ Some m → (c : Command) → has s.learned c ≡ false → has (learner.take s m).0.learned c ≡ true → (y : Cause) × (cause_in s k m c ≡ Some y)
    cause_found (Offered d) found c lacks holds = rests c lacks holds
    cause_found (InEpoch e (Proposed d)) found c lacks holds = rests c lacks holds
    cause_found (InEpoch e (Asked r)) found c lacks holds = rests c lacks holds
    cause_found (InEpoch e (Answered r a q v)) found c lacks holds = rests c lacks holds
    cause_found (InEpoch e (Sent r b v)) found c lacks holds = rests c lacks holds
    cause_found (InEpoch e (Voted r a v)) found c lacks holds = voted_found e r a v found c lacks holds (nat_eq e s.epoch && nat_lt a s.state.config.acceptors) refl
    cause_found (Final e i v) found c lacks holds = final_found e v c lacks (nat_eq e s.epoch) holds

    module _ (old new : Replay) (m : Stamped) (found : slice_get (messages es) k ≡ Some m) (h : IsReplayed config es l old) (t : Takes old new (length es) k m) where
      -- what the learner shows then
      shown_then : (learner.take s m).0 ≡ learner_at config l (x ∷ es)
      shown_then = sym (ap (λ (p : LearnerInEpoch × Option Stamped). p.0) (taken ∙ ap (on_message (s, None) (learner.take s)) found))
        where
          taken : learner_acts l s (messages es) x.event ≡ on_message (s, None) (learner.take s) (slice_get (messages es) k)
          taken = ap (λ (event : Event). learner_acts l s (messages es) event) takes ∙ ap (λ (b : Bool). cond b (on_message (s, None) (learner.take s) (slice_get (messages es) k)) (s, None)) (eq-eqb l l refl)

      next : new.learner ≡ learner_at config l (x ∷ es)
      next = t.next ∙ ap (λ (u : LearnerInEpoch). (learner.take u m).0) h.learner ∙ shown_then

      up : IsNoFallOf l x.event
      up = no_fall l k x.event takes

      new_sound : (commands : List Command) → history_of commands ≡ new.learner.learned → (p : Proof) → Proves old.learner.learned (length es) (cause_in old.learner k m) commands p → (c : Command) × IsProof config (x ∷ es) l c p
      new_sound commands shown p q =
          let c = q.command in
          let lacks : has s.learned c ≡ false = ap (λ (u : LearnerInEpoch). has u.learned c) (sym h.learner) ∙ q.lacked in
          let holds : has (learner_at config l (x ∷ es)).learned c ≡ true = ap (λ (u : LearnerInEpoch). has u.learned c) (sym next) ∙ ap (λ (u : History). has u c) (sym shown) ∙ sequence_in commands c q.listed in
          let caused : cause_in s k m c ≡ Some q.reason = ap (λ (u : LearnerInEpoch). cause_in u k m c) (sym h.learner) ∙ q.caused in (
            c,
            record {
              later = [];
              entry = x;
              earlier = es;
              parts = refl;
              id = ap (λ (y : Proof). y.id) q.is;
              place = ap (λ (y : Proof). y.at) q.is;
              up = tt;
              lacked = lacks;
              holds = holds;
              message = k;
              takes = takes;
              cause = subst (IsCause config l c x es k) (sym (ap (λ (y : Proof). y.cause) q.is)) (noted_cause m found c lacks (ap (λ (u : LearnerInEpoch). has u.learned c) shown_then ∙ holds) q.reason caused);
            },
          )

      sound_by : NotesNothing old new ⊎ Notes old new (length es) k m → Sound (x ∷ es) new.proofs.items
      sound_by (inl nothing) = λ p q. extended_all up old.proofs.items h.sound p (subst (λ (ps : List Proof). Contains ps p) nothing.1 q)
      sound_by (inr notes) = λ p q.
          let news = new_proofs old.learner.learned (length es) (cause_in old.learner k m) notes.commands in
          elim (among_append old.proofs.items news p (contains_among (old.proofs.items ++ news) p (subst (λ (ps : List Proof). Contains ps p) notes.noted q))) [
            | inl before ↦ extended_all up old.proofs.items h.sound p (among_contains old.proofs.items p before)
            | inr now ↦ new_sound notes.commands notes.shown p (proves old.learner.learned (length es) (cause_in old.learner k m) notes.commands p now)
          ]

      complete_by : NotesNothing old new ⊎ Notes old new (length es) k m → (c : Command) → has new.learner.learned c ≡ true → (p : Proof) × Contains new.proofs.items p × (p.id ≡ c.id)
      complete_by (inl nothing) c holds =
          let q = h.complete c (ap (λ (u : LearnerInEpoch). has u.learned c) (sym nothing.0) ∙ holds) in
          (q.0, subst (λ (ps : List Proof). Contains ps q.0) (sym nothing.1) q.1, q.2)
      complete_by (inr notes) c holds =
          let news = new_proofs old.learner.learned (length es) (cause_in old.learner k m) notes.commands in
          by_cases (has old.learner.learned c)
          (λ known.
          let q = h.complete c known in
          (q.0, subst (λ (ps : List Proof). Contains ps q.0) (sym notes.noted) (among_contains (old.proofs.items ++ news) q.0 (among_left old.proofs.items news q.0 (contains_among old.proofs.items q.0 q.1))), q.2))
          (λ lacks.
          let here : has s.learned c ≡ false = ap (λ (u : LearnerInEpoch). has u.learned c) (sym h.learner) ∙ lacks in
          let y = cause_found m found c here (ap (λ (u : LearnerInEpoch). has u.learned c) (shown_then ∙ sym next) ∙ holds) in
          let p = proof_of (length es) c y.0 in
          let listed = in_sequence notes.commands c (ap (λ (u : History). has u c) notes.shown ∙ holds) in
          let there = proof_there old.learner.learned (length es) (cause_in old.learner k m) notes.commands c y.0 listed lacks (ap (λ (u : LearnerInEpoch). cause_in u k m c) h.learner ∙ y.1) in
          (p, subst (λ (ps : List Proof). Contains ps p) (sym notes.noted) (among_contains (old.proofs.items ++ news) p (among_right old.proofs.items news p there)), refl))

      -- a message that is taken
      pub replayed_take : IsReplayed config (x ∷ es) l new
      replayed_take = record {
        number = t.number ∙ h.number;
        learner = next;
        step = t.step;
        sound = sound_by t.notes;
        complete = complete_by t.notes;
      }
