-- A vote has what was agreed on in its round, and keeps it in each step.
use Rattle.std.proofs.Common.{◌≡◌, ℕ, Bool, true, false, cond, not, ◌&&◌, nat_lt, List, [], Some, None, refl, sym, ap, subst, ◌∙◌}
use Rattle.std.specs.Prelude.{Option}
use Rattle.std.proofs.lemmas.Bool.{true≢false}
use Rattle.gp_history.specs.History.{History, pushes}
use Rattle.gp_history.specs.Canonical.{canonical}
use Rattle.gp_history.specs.Bounds.{join}
use Rattle.gp_history.proofs.Tests.{both, by_cases}
use Rattle.gp_history.proofs.Pushing.{all_pushes_there, all_there_once_pushed}
use Rattle.gp_round.specs.declared.round.Mode.{Mode}
use Rattle.gp_round.specs.declared.round.Mode.TheVariants.{Single, Multi, Fast}
use Rattle.gp_round.specs.declared.round.Round.{Round}
use Rattle.gp_round.specs.Rounds.{earlier, same_round, is_fast}
use Rattle.gp_round.specs.Configs.{majority}
use Rattle.gp_round.specs.Sets.{masks}
use Rattle.gp_round.proofs.Orders.{same_rounds, same_round_itself}
use Rattle.gp_msg.specs.Messages.{Sent}
use Rattle.gp_safe.specs.Meets.{add_meet, all_joined}
use Rattle.gp_safe.proofs.Adding.{join_known}
use Rattle.gp_safe.proofs.NoMeets.{no_meets}
use Rattle.gp_acceptor.specs.State.{AcceptorState, nobody}
use Rattle.gp_acceptor.specs.Table.{value_at, agreed, raised, holding, next_vote, with_vote, counted, acceptor_take}
use Rattle.gp_acceptor.specs.Revotes.{with_join, HasAgreed, IsAgreed}
use Rattle.gp_acceptor.proofs.Taking.{nobody_there}

-- ---- joins with what was joined before

joined_again : (h u : History) → join (join h u) u ≡ join h u
unfolding join
joined_again h u = all_pushes_there (pushes h (canonical u)) (canonical u) (all_there_once_pushed h (canonical u))

joined_to_itself : (u : History) → join u u ≡ u
joined_to_itself u = join_known u u (λ c e. e)

-- ---- nothing is held

no_lead : (b : Bool) → all_joined (add_meet (cond b None None) []) ≡ None
no_lead true = refl
no_lead false = refl

nothing_agreed : (n : ℕ) (r : Round) → agreed n r (λ i. None) ≡ None
nothing_agreed n r = by r.mode refl where
  by : (m : Mode) → r.mode ≡ m → agreed n r (λ i. None) ≡ None
  by Single e = ap (λ m. agreed n (record r { mode = m }) (λ i. None)) e ∙ no_lead (nat_lt r.lead n)
  by Multi e = ap (λ m. agreed n (record r { mode = m }) (λ i. None)) e ∙ ap all_joined (no_meets n (masks n (majority n)))
  by Fast e = ap (λ m. agreed n (record r { mode = m }) (λ i. None)) e ∙ no_lead (nat_lt r.lead n)

agreed_without_values : (n : ℕ) (voted round : Round) (vote : History) (f : ℕ → Option History) → ((i : ℕ) → f i ≡ None) → HasAgreed n voted round vote f
agreed_without_values n voted round vote f e at slow = (λ k. with_join vote (agreed n round (λ i. e i k))) ∙ ap (with_join vote) (nothing_agreed n round)

pub agreed_of_nobody : (n many : ℕ) (voted round : Round) (vote : History) (held : List (Option History)) → held ≡ nobody many → HasAgreed n voted round vote (value_at held)
agreed_of_nobody n many voted round vote held e =
    subst (λ hs. HasAgreed n voted round vote (value_at hs)) (sym e) (agreed_without_values n voted round vote (value_at (nobody many)) (nobody_there many))

-- ---- a value more

voted_again : (t : AcceptorState) (a : Option History) → a ≡ agreed t.config.coordinators t.round (value_at t.held) → IsAgreed (with_vote t (next_vote t.voted t.round t.vote a))
voted_again t None e = λ at slow. ap (with_join t.vote) (sym e)
voted_again t (Some u) e = by_cases (earlier t.voted t.round)
    (λ first. subst IsVoted (sym first) (λ at slow. ap (with_join u) (sym e) ∙ joined_to_itself u))
    (λ first. subst IsVoted (sym first) (by_cases (same_round t.voted t.round && not (is_fast t.round.mode))
    (λ more. subst IsNext (sym more) (λ at slow. ap (with_join (join t.vote u)) (sym e) ∙ joined_again t.vote u))
    (λ more. subst IsNext (sym more) (λ at slow. absurd (true≢false (sym (here at slow) ∙ more)))))) where
      IsNext : Bool → Type 0
      IsNext b = IsAgreed (with_vote t (cond b (Some (join t.vote u)) None))

      IsVoted : Bool → Type 0
      IsVoted b = IsAgreed (with_vote t (cond b (Some u) (cond (same_round t.voted t.round && not (is_fast t.round.mode)) (Some (join t.vote u)) None)))

      here : t.voted ≡ t.round → is_fast t.round.mode ≡ false → (same_round t.voted t.round && not (is_fast t.round.mode)) ≡ true
      here at slow = both (ap (λ r. same_round r t.round) at ∙ same_round_itself t.round) (ap not slow)

-- after a value of a coordinator
pub agreed_with_value : (s : AcceptorState) (r : Round) (c : ℕ) (v : History) → IsAgreed s → IsAgreed (acceptor_take s (Sent r c v)).0
agreed_with_value s r c v is = by_cases (not (earlier r s.round) && nat_lt c s.config.coordinators)
    (λ e. subst IsNext (sym e) (voted_again (holding (raised s r) c v) _ refl))
    (λ e. subst IsNext (sym e) is) where
      IsNext : Bool → Type 0
      IsNext b = IsAgreed (cond b (counted (holding (raised s r) c v)) (s, None)).0

-- what counts as held in a round that is not below its own
pub agreed_in : (s : AcceptorState) (r : Round) (hs : List (Option History)) → IsAgreed s → earlier r s.round ≡ false → hs ≡ cond (earlier s.round r) [] s.held → HasAgreed s.config.coordinators s.voted r s.vote (value_at hs)
agreed_in s r hs is low held = by_cases (earlier s.round r)
    (λ e. subst Has (sym (held ∙ ap (λ b. cond b [] s.held) e)) (agreed_without_values s.config.coordinators s.voted r s.vote (value_at []) (λ i. refl)))
    (λ e. subst Has (sym (held ∙ ap (λ b. cond b [] s.held) e)) (subst (λ q. HasAgreed s.config.coordinators s.voted q s.vote (value_at s.held)) (sym (same_rounds r s.round low e)) is)) where
      Has : List (Option History) → Type 0
      Has hs = HasAgreed s.config.coordinators s.voted r s.vote (value_at hs)
