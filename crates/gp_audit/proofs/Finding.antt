-- The certificate of each command that is shown is found by its identity.
use Rattle.std.proofs.Common.{◌≡◌, inl, inr, ℕ, Bool, true, false, cond, nat_eq, List, [], ◌∷◌, Option, Some, refl, sym, ap, subst, ◌∙◌}
use Rattle.std.specs.List.{filter_map, cons_option}
use Rattle.std.proofs.lemmas.Bool.{eqb-true, eq-eqb}
use Rattle.gp_command.specs.declared.command.Command.{Command}
use Rattle.gp_command.specs.declared.command.CommandId.{CommandId}
use Rattle.gp_history.specs.History.{History, has}
use Rattle.gp_history.specs.Sequence.{history_of}
use Rattle.gp_history.specs.Canonical.{canonical}
use Rattle.gp_history.proofs.Acyclic.{canonical_is}
use Rattle.gp_history.proofs.Joins.{history_of_is}
use Rattle.gp_history.proofs.Tests.{by_cases, fst_of, snd_of, both}
use Rattle.gp_round.specs.Counts.{Counts}
use Rattle.gp_msg.specs.Messages.{Entry}
use Rattle.gp_cstructs.specs.CStructs.{Among}
use Rattle.gp_cstructs.proofs.Lists.{among_contains, contains_among}
use Rattle.gp_run.specs.Learned.{learned_at}
use Rattle.gp_run.specs.Agreement.{Agrees}
use Rattle.gp_learner.specs.Epochs.{LearnerInEpoch}
use Rattle.gp_audit.specs.declared.proof.Proof.{Proof}
use Rattle.gp_audit.specs.declared.replay.Replay.{Replay}
use Rattle.gp_audit.specs.Sources.{same_id, proof_under}
use Rattle.gp_audit.specs.Certificates.{IsProof, AreProofsOf, AreProofs}
use Rattle.gp_audit.specs.Replays.{IsReplayed}
use Rattle.gp_audit.proofs.Replaying.{sequence_in}

id_tells : (i j : CommandId) → same_id i j ≡ true → i ≡ j
id_tells i j h =
    let p = eqb-true i.proposer j.proposer (fst_of (nat_eq i.proposer j.proposer) (nat_eq i.number j.number) h) in
    let n = eqb-true i.number j.number (snd_of (nat_eq i.proposer j.proposer) (nat_eq i.number j.number) h) in
    λ k. record { proposer = p k; number = n k }

id_itself : (i j : CommandId) → i ≡ j → same_id i j ≡ true
id_itself i j e = both (eq-eqb i.proposer j.proposer (ap (λ (x : CommandId). x.proposer) e)) (eq-eqb i.number j.number (ap (λ (x : CommandId). x.number) e))

record Found (id : CommandId) (ps : List Proof) : Type 0 where
  proof : Proof
  is : proof_under id ps ≡ Some proof
  listed : Among ps proof
  named : proof.id ≡ id

found_first : (id : CommandId) (q : Proof) (ps : List Proof) → same_id q.id id ≡ true → Found id (q ∷ ps)
found_first id q ps t = record { proof = q; is = ap (λ (b : Bool). cond b (Some q) (proof_under id ps)) t; listed = inl refl; named = id_tells q.id id t }

found_later : (id : CommandId) (q : Proof) (ps : List Proof) → same_id q.id id ≡ false → Found id ps → Found id (q ∷ ps)
found_later id q ps f x = record { proof = x.proof; is = ap (λ (b : Bool). cond b (Some q) (proof_under id ps)) f ∙ x.is; listed = inr x.listed; named = x.named }

found : (id : CommandId) (ps : List Proof) (p : Proof) → Among ps p → p.id ≡ id → Found id ps
found id [] p m e = elim m [ ]
found id (q ∷ ps) p m e = elim m [
  | inl is ↦ found_first id q ps (id_itself q.id id (ap (λ (x : Proof). x.id) is ∙ e))
  | inr more ↦ by_cases (same_id q.id id) (found_first id q ps) (λ f. found_later id q ps f (found id ps p more e))
]

module _ (config : Counts) (es : List Entry) (l : ℕ) (agrees : Agrees config es) (r : Replay) (h : IsReplayed config es l r) where
  -- the certificate of a command that is shown
  certified : (c : Command) → has (learned_at config l es) c ≡ true → (p : Proof) × (proof_under c.id r.proofs.items ≡ Some p) × IsProof config es l c p
  certified c shown =
      let q = h.complete c (ap (λ (u : LearnerInEpoch). has u.learned c) h.learner ∙ shown) in
      let f = found c.id r.proofs.items q.0 (contains_among r.proofs.items q.0 q.1) q.2 in
      let s = h.sound f.proof (among_contains r.proofs.items f.proof f.listed) in
      let same : s.0 ≡ c = agrees.identities s.1.later (s.1.entry ∷ s.1.earlier) [] es s.1.parts refl l l s.0 c s.1.holds shown (sym s.1.id ∙ f.named) in
      (f.proof, f.is, subst (λ (d : Command). IsProof config es l d f.proof) same s.1)

  certified_each : (cs : List Command) → ((c : Command) → Among cs c → has (learned_at config l es) c ≡ true) → AreProofsOf config es l cs (filter_map (λ c. proof_under c.id r.proofs.items) cs)
  certified_each [] all = tt
  certified_each (c ∷ cs) all =
      let q = certified c (all c (inl refl)) in
      subst (λ (o : Option Proof). AreProofsOf config es l (c ∷ cs) (cons_option o (filter_map (λ d. proof_under d.id r.proofs.items) cs))) (sym q.1) (q.2, certified_each cs (λ d m. all d (inr m)))

  -- the certificates of the canonical order, whose commands are shown
  pub certified_all : (learned cs : List Command) → history_of learned ≡ learned_at config l es → cs ≡ canonical (history_of learned) → (ps : List Proof) → ps ≡ filter_map (λ c. proof_under c.id r.proofs.items) cs
      → AreProofs config es l ps
  certified_all learned cs shown ordered ps is =
      let same : history_of cs ≡ learned_at config l es = ap history_of ordered ∙ canonical_is (history_of learned) (history_of_is learned) ∙ shown in
      subst (λ (ds : List Command). AreProofsOf config es l ds ps) (ordered ∙ ap canonical shown)
      (subst (λ (qs : List Proof). AreProofsOf config es l cs qs) (sym is) (certified_each cs (λ c m. ap (λ (u : History). has u c) (sym same) ∙ sequence_in cs c m)))
