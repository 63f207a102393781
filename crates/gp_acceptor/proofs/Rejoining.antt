-- The join of what is known with all meets at once is the join with one after another, and what an acceptor makes of it.
use Rattle.std.proofs.Common.{◌≡◌, ℕ, true, false, cond, not, ◌&&◌, ◌||◌, nat_lt, List, [], ◌∷◌, Some, None, inl, inr, refl, sym, ap, subst, ◌∙◌, arith}
use Rattle.std.specs.Prelude.{Option, unwrap_or}
use Rattle.std.proofs.lemmas.Bool.{ltb-true}
use Rattle.gp_command.specs.declared.command.Command.{Command}
use Rattle.gp_history.specs.History.{History, size}
use Rattle.gp_history.specs.Sequence.{history_of}
use Rattle.gp_history.specs.Bounds.{join, joined}
use Rattle.gp_history.proofs.Tests.{not_true, by_cases}
use Rattle.gp_history.proofs.Joins.{history_of-empty}
use Rattle.gp_round.specs.declared.round.Round.{Round}
use Rattle.gp_round.specs.Rounds.{earlier, same_round, is_fast}
use Rattle.gp_round.proofs.Orders.{same_rounds, same_round_itself, not_earlier_itself}
use Rattle.gp_msg.specs.Messages.{Message, Voted}
use Rattle.gp_safe.specs.Meets.{all_joined}
use Rattle.gp_bounds.proofs.Rejoining.{join_of_joined, join_nothing}
use Rattle.gp_acceptor.specs.State.{AcceptorState, nobody}
use Rattle.gp_acceptor.specs.Table.{next_vote, raised, with_value, with_vote, told_vote}
use Rattle.gp_acceptor.specs.Revotes.{with_join, Settles}

-- ---- a join of joins is one join after another

-- what is learned with the join of all that was heard is what is learned of one after another
pub joined_at_once : (zs : List Command) (hs : List History) → joined (history_of zs) hs ≡ with_join (history_of zs) (all_joined hs)
joined_at_once zs [] = refl
joined_at_once zs (h ∷ hs) =
    ap (λ u. joined u (h ∷ hs)) (sym (join_nothing zs) ∙ ap (join (history_of zs)) (sym history_of-empty))
    ∙ sym (join_of_joined zs [] (h ∷ hs))
    ∙ ap (λ u. join (history_of zs) (joined u (h ∷ hs))) history_of-empty

-- ---- what stays in a step

value_voted : (t : AcceptorState) (c : ℕ) (o : Option History) → (with_value t c o).voted ≡ t.voted
value_voted t c None = refl
value_voted t c (Some v) = refl

value_round : (t : AcceptorState) (c : ℕ) (o : Option History) → (with_value t c o).round ≡ t.round
value_round t c None = refl
value_round t c (Some v) = refl

value_vote : (t : AcceptorState) (c : ℕ) (o : Option History) → (with_value t c o).vote ≡ t.vote
value_vote t c None = refl
value_vote t c (Some v) = refl

raised_voted : (s : AcceptorState) (r : Round) → (raised s r).voted ≡ s.voted
raised_voted s r = by_cases (earlier s.round r) (λ e k. (cond (e k) (record s { round = r; held = nobody s.config.coordinators }) s).voted) (λ e k. (cond (e k) (record s { round = r; held = nobody s.config.coordinators }) s).voted)

raised_vote : (s : AcceptorState) (r : Round) → (raised s r).vote ≡ s.vote
raised_vote s r = by_cases (earlier s.round r) (λ e k. (cond (e k) (record s { round = r; held = nobody s.config.coordinators }) s).vote) (λ e k. (cond (e k) (record s { round = r; held = nobody s.config.coordinators }) s).vote)

raised_round : (s : AcceptorState) (r : Round) → earlier r s.round ≡ false → (raised s r).round ≡ r
raised_round s r low = by_cases (earlier s.round r)
    (λ e k. (cond (e k) (record s { round = r; held = nobody s.config.coordinators }) s).round)
    (λ e. (λ k. (cond (e k) (record s { round = r; held = nobody s.config.coordinators }) s).round) ∙ sym (same_rounds r s.round low e))

-- ---- a vote of this round

same_size : (h : History) → nat_lt (size h) (size h) ≡ false
same_size h = not_true (nat_lt (size h) (size h)) (λ t. let l = ltb-true (size h) (size h) t in omega (arith, l))

module _ (s : AcceptorState) (number : ℕ) (r : Round) (vote : History) (at : s.voted ≡ s.round) (has : s.vote ≡ vote) (not_earlier : earlier r r ≡ false) where
  -- what is told of it
  abbrev tells : History → Option Message
  tells l = cond (nat_lt (size vote) (size l)) (Some (Voted r number l)) None

  settled : (w : Option History) (l : History) → unwrap_or w vote ≡ l → ◌≡◌ {A = AcceptorState × Option Message} (with_vote s w, told_vote number r r vote w) (record s { voted = s.round; vote = l }, tells l)
  settled None l e =
      let now : record s { voted = s.voted; vote = s.vote } ≡ record s { voted = s.round; vote = l } = (λ i. record s { voted = at i; vote = (has ∙ e) i }) in
      let told : None ≡ tells l = sym (ap tells (sym e) ∙ ap (λ b. cond b (Some (Voted r number vote)) None) (same_size vote)) in
      λ i. (now i, told i)
  settled (Some v) l e = (λ i. (record s { voted = s.round; vote = e i }, cond (not_earlier i || nat_lt (size vote) (size (e i))) (Some (Voted r number (e i))) None))

  next_is : (a : Option History) → same_round r r ≡ true → is_fast r.mode ≡ false → unwrap_or (next_vote r r vote a) vote ≡ with_join vote a
  next_is None e f = refl
  next_is (Some u) e f = ap (λ o. unwrap_or o vote) ((λ i. cond (not_earlier i) (Some u) (cond (e i && not (f i)) (Some (join vote u)) None)))

  pub settle : (a w : Option History) → same_round r r ≡ true → is_fast r.mode ≡ false → unwrap_or w vote ≡ with_join vote a
      → ◌≡◌ {A = AcceptorState × Option Message} (with_vote s w, told_vote number r r vote w) (with_vote s (next_vote r r vote a), told_vote number r r vote (next_vote r r vote a))
  settle a w e f g = settled w (with_join vote a) g ∙ sym (settled (next_vote r r vote a) (with_join vote a) (next_is a e f))

-- a vote that settles is as good as that of the table
pub as_good : (s : AcceptorState) (r : Round) (c : ℕ) (o a w : Option History) → earlier r s.round ≡ false → Settles s.voted r s.vote a w
    → ◌≡◌ {A = AcceptorState × Option Message} (with_vote (with_value (raised s r) c o) w, told_vote s.number s.voted r s.vote w)
    (with_vote (with_value (raised s r) c o) (next_vote s.voted r s.vote a), told_vote s.number s.voted r s.vote (next_vote s.voted r s.vote a))
as_good s r c o a w low (inl e) = λ i. (with_vote (with_value (raised s r) c o) (e i), told_vote s.number s.voted r s.vote (e i))
as_good s r c o a w low (inr x) =
    let t = with_value (raised s r) c o in
    let at : t.voted ≡ t.round = value_voted (raised s r) c o ∙ raised_voted s r ∙ x.0 ∙ sym (value_round (raised s r) c o ∙ raised_round s r low) in
    subst (λ q. ◌≡◌ {A = AcceptorState × Option Message} (with_vote t w, told_vote s.number q r s.vote w) (with_vote t (next_vote q r s.vote a), told_vote s.number q r s.vote (next_vote q r s.vote a))) (sym x.0)
    (settle t s.number r s.vote at (value_vote (raised s r) c o ∙ raised_vote s r) (not_earlier_itself r) a w (same_round_itself r) x.1 x.2)
