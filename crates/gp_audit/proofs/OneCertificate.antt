-- A command has one certificate.
use Rattle.std.proofs.Common.{◌≡◌, ◌⊎◌, inl, inr, ℕ, ◌<◌, List, [], ◌∷◌, ◌++◌, Some, length, true, false, sym, ap, subst, ◌∙◌}
use Rattle.std.specs.Prelude.{slice_get}
use Rattle.std.proofs.Math.Nat.{le_antisymm}
use Rattle.std.proofs.lemmas.List.{append_assoc}
use Rattle.gp_command.specs.declared.command.Command.{Command}
use Rattle.gp_history.specs.History.{History, has}
use Rattle.gp_round.specs.declared.round.Round.{Round}
use Rattle.gp_round.specs.Counts.{Counts}
use Rattle.gp_msg.specs.declared.node.Node.TheVariants.{Learner}
use Rattle.gp_msg.specs.declared.event.Event.TheVariants.{Take}
use Rattle.gp_msg.specs.Messages.{Voted, InEpoch, Entry}
use Rattle.gp_run.specs.Messages.{messages}
use Rattle.gp_run.specs.States.{learner_at}
use Rattle.gp_run.specs.Legal.{Legal}
use Rattle.gp_run.specs.Learned.{learned_at}
use Rattle.gp_run.specs.Agreement.{StaysUp}
use Rattle.gp_agreement.proofs.Agreement.{agrees}
use Rattle.gp_audit.specs.declared.proof.Proof.{Proof}
use Rattle.gp_audit.specs.declared.proof.Cause.{Cause}
use Rattle.gp_audit.specs.declared.proof.Cause.TheVariants as cause
use Rattle.gp_audit.specs.Certificates.{IsLeastQuorum, IsProof, IsCause, IsQuorumCause, IsFinalCause, votes_then}

-- ---- two records of one run

-- the record f is one of those before a record, behind which are these, and learner l did not fall between them
record Between (l : ℕ) (before : List Entry) (f : Entry) (fs : List Entry) : Type 0 where
  since : List Entry
  parts : since ++ f ∷ fs ≡ before
  up : StaysUp l since

-- two records are one, or one of them comes before the other
places : (l : ℕ) (xs ys : List Entry) (e f : Entry) (es fs : List Entry) → StaysUp l xs → StaysUp l ys → xs ++ e ∷ es ≡ ys ++ f ∷ fs
    → ((e ≡ f) × (es ≡ fs)) ⊎ (Between l es f fs ⊎ Between l fs e es)
places l [] [] e f es fs u v is = let head : e ≡ f = cc in let tail : es ≡ fs = cc in inl (head, tail)
places l [] (y ∷ ys) e f es fs u v is = let tail : es ≡ ys ++ f ∷ fs = cc in inr (inl (record { since = ys; parts = sym tail; up = v.1 }))
places l (x ∷ xs) [] e f es fs u v is = let tail : xs ++ e ∷ es ≡ fs = cc in inr (inr (record { since = xs; parts = tail; up = u.1 }))
places l (x ∷ xs) (y ∷ ys) e f es fs u v is = let tail : xs ++ e ∷ es ≡ ys ++ f ∷ fs = cc in places l xs ys e f es fs u.1 v.1 tail

module _ (config : Counts) (some : 0 < config.acceptors) (es : List Entry) (legal : Legal config es) (l : ℕ) (c : Command) where
  -- what came with an earlier record is not lacked at a later one
  not_lacked : (later : List Entry) (e : Entry) (before : List Entry) → later ++ e ∷ before ≡ es → (f : Entry) (fs : List Entry) → Between l before f fs
      → has (learned_at config l (f ∷ fs)) c ≡ true → has (learned_at config l before) c ≡ false → ⊥
  not_lacked later e before parts f fs b holds lacks =
      let whole : (later ++ e ∷ []) ++ (b.since ++ f ∷ fs) ≡ es = ap (λ (zs : List Entry). (later ++ e ∷ []) ++ zs) b.parts ∙ append_assoc later (e ∷ []) before ∙ parts in
      let grown = ((agrees config some es legal).grows (later ++ e ∷ []) b.since (f ∷ fs) whole l b.up).commands c holds in
      let d = sym lacks ∙ ap (λ (zs : List Entry). has (learned_at config l zs) c) (sym b.parts) ∙ grown in
      absurd (cc)

  -- the causes at one record are one
  one_mask : (before : List Entry) (e : Entry) (k : ℕ) (i j : ℕ) (r q : Round) (m n : ℕ) → IsQuorumCause config l c e before k i r m → IsQuorumCause config l c e before k j q n → cause.Quorum i r m ≡ cause.Quorum j q n
  one_mask before e k i j r q m n x y =
      let found : Some (InEpoch i (Voted r x.acceptor x.vote)) ≡ Some (InEpoch j (Voted q y.acceptor y.vote)) = sym x.there ∙ y.there in
      let epochs : i ≡ j = cc in
      let rounds : r ≡ q = cc in
      let acceptors : x.acceptor ≡ y.acceptor = cc in
      let votes : x.vote ≡ y.vote = cc in
      let other : IsLeastQuorum config.acceptors r.mode (votes_then (learner_at config l before) r x.acceptor x.vote) c n =
      subst (λ (z : Round). IsLeastQuorum config.acceptors z.mode (votes_then (learner_at config l before) z x.acceptor x.vote) c n) (sym rounds)
      (subst (λ (z : ℕ). IsLeastQuorum config.acceptors q.mode (votes_then (learner_at config l before) q z x.vote) c n) (sym acceptors)
      (subst (λ (z : History). IsLeastQuorum config.acceptors q.mode (votes_then (learner_at config l before) q y.acceptor z) c n) (sym votes) y.least)) in
      let masks : m ≡ n = le_antisymm (x.least.least n other.whole) (other.least m x.least.whole) in
      λ a. cause.Quorum (epochs a) (rounds a) (masks a)

  no_both : {P : Type 0} (before : List Entry) (e : Entry) (k i m n : ℕ) (r : Round) → IsQuorumCause config l c e before k i r m → IsFinalCause config l c before k n → P
  no_both before e k i m n r x y =
      absurd (let d = sym x.there ∙ ap (λ (z : ℕ). slice_get (messages before) z) y.is ∙ y.there in cc)

  one_cause : (before : List Entry) (e : Entry) (k : ℕ) (x y : Cause) → IsCause config l c e before k x → IsCause config l c e before k y → x ≡ y
  one_cause before e k (cause.Quorum i r m) (cause.Quorum j q n) x y = one_mask before e k i j r q m n x y
  one_cause before e k (cause.Quorum i r m) (cause.Final n) x y = no_both before e k i m n r x y
  one_cause before e k (cause.Final m) (cause.Quorum j q n) x y = no_both before e k j n m q y x
  one_cause before e k (cause.Final m) (cause.Final n) x y = ap (λ (z : ℕ). cause.Final z) (sym x.is ∙ y.is)

  pub one_certificate : (p q : Proof) → IsProof config es l c p → IsProof config es l c q → p ≡ q
  one_certificate p q x y = elim (places l x.later y.later x.entry y.entry x.earlier y.earlier x.up y.up (x.parts ∙ sym y.parts)) [
    | inl same ↦
        let ids : p.id ≡ q.id = x.id ∙ sym y.id in
        let ats : p.at ≡ q.at = x.place ∙ ap (λ (zs : List Entry). length zs) same.1 ∙ sym y.place in
        let names : Take (Learner l) x.message ≡ Take (Learner l) y.message = sym x.takes ∙ ap (λ (z : Entry). z.event) same.0 ∙ y.takes in
        let numbers : x.message ≡ y.message = cc in
        let other : IsCause config l c x.entry x.earlier x.message q.cause =
        subst (λ (z : Entry). IsCause config l c z x.earlier x.message q.cause) (sym same.0)
        (subst (λ (zs : List Entry). IsCause config l c y.entry zs x.message q.cause) (sym same.1)
        (subst (λ (z : ℕ). IsCause config l c y.entry y.earlier z q.cause) (sym numbers) y.cause)) in
        let causes = one_cause x.earlier x.entry x.message p.cause q.cause x.cause other in
        λ a. record { id = ids a; at = ats a; cause = causes a }
    | inr apart ↦ elim apart [
      | inl b ↦ absurd (not_lacked x.later x.entry x.earlier x.parts y.entry y.earlier b y.holds x.lacked)
      | inr b ↦ absurd (not_lacked y.later y.entry y.earlier y.parts x.entry x.earlier b x.holds y.lacked)
    ]
  ]
