-- The votes that were cast are those that an acceptor had after some number of events.
use Rattle.std.proofs.Common.{◌≡◌, inl, inr, ℕ, Bool, List, [], ◌∷◌, ◌++◌, refl, sym, subst, ap}
use Rattle.gp_cstructs.specs.CStructs.{Among}
use Rattle.gp_cstructs.specs.Tables.{Tables}
use Rattle.gp_cstructs.specs.Acceptor.{Acceptor, acceptor_take, acceptor_fall}
use Rattle.gp_cstructs.specs.Loose.{Event, Offer, Begin, AcceptorTakes, CoordinatorTakes, LearnerTakes, AcceptorFalls, CoordinatorFalls, LearnerFalls, run, Loose}
use Rattle.gp_cstructs.specs.Lawful.{IsLawful}
use Rattle.gp_cstructs.specs.Facts.{IsVote, HadVote}
use Rattle.gp_cstructs.proofs.Lists.{set_same}
use Rattle.gp_cstructs.proofs.Runs.{run_keeps, loose_rest, cast_since}

had_more : {T : Tables} (e : Event T) (es : List (Event T)) (a : ℕ) (r : T.Round) (x : T.Value) → HadVote T es a r x → HadVote T (e ∷ es) a r x
had_more e es a r x h = record { later = e ∷ h.later; before = h.before; parts = ap (λ ys. e ∷ ys) h.parts; round_is = h.round_is; vote_is = h.vote_is }

had_moved : {T : Tables} (e : Event T) (es : List (Event T)) (b : ℕ) (t : Acceptor T) → (run T (e ∷ es)).acceptors b ≡ t → (a : ℕ) (r : T.Round) (x : T.Value)
    → ◌≡◌ {A = ℕ × T.Round × T.Value} (b, t.voted, t.vote) (a, r, x) → HadVote T (e ∷ es) a r x
had_moved {T} e es b t is a r x eq = subst (λ (y : ℕ × T.Round × T.Value). HadVote T (e ∷ es) y.0 y.1 y.2) eq
    (record { later = []; before = e ∷ es; parts = refl; round_is = ap (λ (s : Acceptor T). s.voted) is; vote_is = ap (λ (s : Acceptor T). s.vote) is })

cast_had : {T : Tables} (es : List (Event T)) (a : ℕ) (r : T.Round) (x : T.Value) → Among (run T es).cast (a, r, x) → HadVote T es a r x
cast_had [] a r x p = elim p [ ]
cast_had (Offer q d ∷ es) a r x p = had_more (Offer q d) es a r x (cast_had es a r x p)
cast_had (Begin c i ∷ es) a r x p = had_more (Begin c i) es a r x (cast_had es a r x p)
cast_had (CoordinatorTakes c m cs ∷ es) a r x p = had_more (CoordinatorTakes c m cs) es a r x (cast_had es a r x p)
cast_had (LearnerTakes i m ∷ es) a r x p = had_more (LearnerTakes i m) es a r x (cast_had es a r x p)
cast_had (CoordinatorFalls c m ∷ es) a r x p = had_more (CoordinatorFalls c m) es a r x (cast_had es a r x p)
cast_had (LearnerFalls i ∷ es) a r x p = had_more (LearnerFalls i) es a r x (cast_had es a r x p)
cast_had {T} (AcceptorTakes b m ∷ es) a r x p = elim p [
  | inl e ↦ had_moved (AcceptorTakes b m) es b (acceptor_take T b ((run T es).acceptors b) m).0 (set_same (run T es).acceptors b (acceptor_take T b ((run T es).acceptors b) m).0) a r x e
  | inr n ↦ had_more (AcceptorTakes b m) es a r x (cast_had es a r x n)
]
cast_had {T} (AcceptorFalls b kept ∷ es) a r x p = elim p [
  | inl e ↦ had_moved (AcceptorFalls b kept) es b (acceptor_fall T b ((run T es).acceptors b) kept) (set_same (run T es).acceptors b (acceptor_fall T b ((run T es).acceptors b) kept)) a r x e
  | inr n ↦ had_more (AcceptorFalls b kept) es a r x (cast_had es a r x n)
]

append_nothing : {X : Type 0} (xs : List X) → xs ++ [] ≡ xs
append_nothing [] = refl
append_nothing (x ∷ xs) = ap (λ ys. x ∷ ys) (append_nothing xs)

pub vote_had : {T : Tables} (es : List (Event T)) (a : ℕ) (r : T.Round) (x : T.Value) → IsVote T (run T es).cast a r x → HadVote T es a r x
vote_had es a r x p = elim p [
  | inl n ↦ cast_had es a r x n
  | inr z ↦ record { later = es; before = []; parts = append_nothing es; round_is = sym z.0; vote_is = sym z.1 }
]

-- an acceptor's vote after some of the events is one of those that were cast
pub vote_then : {T : Tables} {leads : T.Round → (ℕ → Bool) → Type 0} → IsLawful T leads → (es : List (Event T)) → Loose T es → (xs ys : List (Event T)) → xs ++ ys ≡ es → (a : ℕ)
    → IsVote T (run T es).cast a ((run T ys).acceptors a).voted ((run T ys).acceptors a).vote
vote_then {T} l es f xs ys e a =
    let s : Acceptor T = (run T ys).acceptors a in
    let k = ((run_keeps l ys (loose_rest xs ys (subst (λ (zs : List (Event T)). Loose T zs) (sym e) f))).acceptors a).vote_cast in
    elim k [
      | inl n ↦ inl (subst (λ (zs : List (Event T)). Among (run T zs).cast (a, s.voted, s.vote)) e (cast_since xs ys (a, s.voted, s.vote) n))
      | inr z ↦ inr z
    ]

pub had_vote : {T : Tables} {leads : T.Round → (ℕ → Bool) → Type 0} → IsLawful T leads → (es : List (Event T)) → Loose T es → (a : ℕ) (r : T.Round) (x : T.Value) → HadVote T es a r x → IsVote T (run T es).cast a r x
had_vote {T} l es f a r x h =
    subst (λ (i : T.Round). IsVote T (run T es).cast a i x) h.round_is
    (subst (λ (y : T.Value). IsVote T (run T es).cast a ((run T h.before).acceptors a).voted y) h.vote_is (vote_then l es f h.later h.before h.parts a))
