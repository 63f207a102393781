-- Acceptors in a new single round: each answers, and then votes for the value that coordinator 0 sends.
use Rattle.std.proofs.Common.{◌≡◌, ℕ, ◌<◌, Bool, true, false, cond, ◌&&◌, ◌||◌, [], Some, None, refl, sym, ap, ◌∙◌, arith}
use Rattle.std.specs.Prelude.{not, nat_eq, nat_lt, slice_set}
use Rattle.std.proofs.lemmas.Bool.{eq-eqb, lt-ltb}
use Rattle.std.proofs.lemmas.List.{get_or-set_same}
use Rattle.gp_history.specs.History.{History, IsHistory, empty, size}
use Rattle.gp_history.specs.Bounds.{join}
use Rattle.gp_round.specs.declared.round.Mode.TheVariants.{Single}
use Rattle.gp_round.specs.declared.round.Round.{Round}
use Rattle.gp_round.specs.Rounds.{earlier, same_round}
use Rattle.gp_safe.specs.Meets.{add_meet, all_joined}
use Rattle.gp_safe.specs.Held.{newer}
use Rattle.gp_msg.specs.Messages.{Message, Asked, Answered, Sent, Voted, Stamped, InEpoch, maybe_stamped}
use Rattle.gp_acceptor.specs.State.{AcceptorState, nobody}
use Rattle.gp_acceptor.specs.Table.{value_at, agreed, holding, with_value, next_vote, told_vote, counted, acceptor_take}
use Rattle.gp_acceptor.proofs.Taking.{nobody_there, length-nobody}
use Rattle.gp_acceptor.specs.Epochs.{AcceptorInEpoch, take, stepped}
use Rattle.gp_round.proofs.Orders.{not_earlier_itself}
use Rattle.gp_driver.proofs.Values.{join_empty}

-- in the first phase of a round
abbrev pub asked : AcceptorInEpoch → Round → AcceptorInEpoch
asked s r = record { epoch = s.epoch; state = record s.state { round = r; held = nobody s.state.config.coordinators } }

-- its answer
abbrev pub answer : AcceptorInEpoch → ℕ → Round → Stamped
answer s e r = InEpoch e (Answered r s.state.number s.state.voted s.state.vote)

pub takes_question : (s : AcceptorInEpoch) (e : ℕ) (r : Round) → s.epoch ≡ e → earlier s.state.round r ≡ true → take s (InEpoch e (Asked r)) ≡ (asked s r, Some (answer s e r))
takes_question s e r h k =
    (λ i. cond (eq-eqb e s.epoch (sym h) i) (stepped s (cond (k i) (record s.state { round = r; held = nobody s.state.config.coordinators }, Some (Answered r s.state.number s.state.voted s.state.vote)) (s.state, None))) (s, None))
    ∙ (λ i. (asked s r, Some (InEpoch (h i) (Answered r s.state.number s.state.voted s.state.vote))))

-- ---- the vote

-- a single round of coordinator 0
abbrev pub single : ℕ → Round
single k = record { count = k; mode = Single; lead = 0 }

-- what is held once the value of coordinator 0 is
abbrev one_held : AcceptorState → History → AcceptorState
one_held t v = record t { held = slice_set (nobody t.config.coordinators) 0 (Some v) }

module _ (t : AcceptorState) (k : ℕ) (v : History) (some : 0 < t.config.coordinators) (none : t.held ≡ nobody t.config.coordinators) (here : t.round ≡ single k) (new : earlier t.voted (single k) ≡ true) where
  low : earlier (single k) t.round ≡ false
  low = ap (earlier (single k)) here ∙ not_earlier_itself (single k)

  high : earlier t.round (single k) ≡ false
  high = ap (λ r. earlier r (single k)) here ∙ not_earlier_itself (single k)

  held_alone : acceptor_take t (Sent (single k) 0 v) ≡ counted (one_held t v)
  held_alone =
      (λ i. cond (not (low i) && lt-ltb 0 t.config.coordinators some i)
      (counted (holding (cond (high i) (record t { round = single k; held = nobody t.config.coordinators }) t) 0 v)) (t, None))
      ∙ (λ i. counted (with_value (record t { held = none i }) 0 (newer (value_at (none i) 0) v)))
      ∙ (λ i. counted (with_value (record t { held = nobody t.config.coordinators }) 0 (newer (nobody_there t.config.coordinators 0 i) v)))

  there : value_at (slice_set (nobody t.config.coordinators) 0 (Some v)) 0 ≡ Some v
  there = get_or-set_same (nobody t.config.coordinators) 0 (Some v) None (let n = length-nobody t.config.coordinators in omega (arith, n, some))

  agreed_on : agreed t.config.coordinators (single k) (value_at (slice_set (nobody t.config.coordinators) 0 (Some v))) ≡ Some (join empty v)
  agreed_on = (λ i. all_joined (add_meet (cond (lt-ltb 0 t.config.coordinators some i) (there i) None) []))

  next : next_vote t.voted (single k) t.vote (agreed t.config.coordinators (single k) (value_at (slice_set (nobody t.config.coordinators) 0 (Some v)))) ≡ Some (join empty v)
  next = (λ i. next_vote t.voted (single k) t.vote (agreed_on i)) ∙ (λ i. cond (new i) (Some (join empty v)) (cond (same_round t.voted (single k) && not false) (Some (join t.vote (join empty v))) None))

  told : told_vote t.number t.voted (single k) t.vote (Some (join empty v)) ≡ Some (Voted (single k) t.number (join empty v))
  told = λ i. cond (new i || nat_lt (size t.vote) (size (join empty v))) (Some (Voted (single k) t.number (join empty v))) None

  pub votes_first : (acceptor_take t (Sent (single k) 0 v)).1 ≡ Some (Voted (single k) t.number (join empty v))
  votes_first =
      ap (λ u. u.1) held_alone
      ∙ (λ i. told_vote t.number t.voted (here i) t.vote (next_vote t.voted (here i) t.vote (agreed t.config.coordinators (here i) (value_at (slice_set (nobody t.config.coordinators) 0 (Some v))))))
      ∙ ap (told_vote t.number t.voted (single k) t.vote) next
      ∙ told

-- the epoch stays while a message of an epoch is taken
pub same_epoch : (s : AcceptorInEpoch) (e : ℕ) (m : Message) → (take s (InEpoch e m)).0.epoch ≡ s.epoch
same_epoch s e m = by (nat_eq e s.epoch) where
  by : (b : Bool) → (cond b (stepped s (acceptor_take s.state m)) (s, None)).0.epoch ≡ s.epoch
  by true = refl
  by false = refl

pub votes : (s : AcceptorInEpoch) (e k : ℕ) (v : History) → IsHistory v → s.epoch ≡ e → 0 < s.state.config.coordinators → earlier s.state.voted (single k) ≡ true
    → (take (asked s (single k)) (InEpoch e (Sent (single k) 0 v))).1 ≡ Some (InEpoch e (Voted (single k) s.state.number v))
votes s e k v w h some new =
    (λ i. (cond (eq-eqb e s.epoch (sym h) i) (stepped (asked s (single k)) (acceptor_take (asked s (single k)).state (Sent (single k) 0 v))) (asked s (single k), None)).1)
    ∙ ap (maybe_stamped s.epoch) (votes_first (asked s (single k)).state k v some refl refl new)
    ∙ (λ i. Some (InEpoch (h i) (Voted (single k) s.state.number (join_empty v w i))))
