-- Which rounds are begun in a run whose leader followed its calls.
use Rattle.std.proofs.Common.{◌≡◌, ◌⊎◌, inl, inr, ℕ, suc, ◌<◌, ◌≤◌, true, false, List, [], ◌∷◌, length, take, drop, None, refl, sym, ap, ◌∙◌, subst, arith, take-append-drop, take_all}
use Rattle.std.specs.Prelude.{◌↔◌, IsTrue}
use Rattle.gp_round.specs.Counts.{Counts}
use Rattle.gp_round.specs.declared.round.Round.{Round}
use Rattle.gp_msg.specs.declared.node.Node.{Node}
use Rattle.gp_msg.specs.declared.event.Event.{Event}
use Rattle.gp_msg.specs.declared.event.Event.TheVariants.{Begin, Take}
use Rattle.gp_msg.specs.declared.record.Record.{Record}
use Rattle.gp_run.specs.Messages.{messages}
use Rattle.gp_run.specs.Runs.{newest_first}
use Rattle.gp_wire.specs.Own.{own_events}
use Rattle.gp_work.specs.Doing.{ProcessState}
use Rattle.gp_collide.specs.Values.{HasIncompatibleValues}
use Rattle.gp_collide.specs.Watched.{watched}
use Rattle.gp_collide.specs.Clashes.{HasClash}
use Rattle.gp_collide.proofs.ClashesSeen.{values_clash}
use Rattle.gp_phase.specs.declared.caller.Call.{Call}
use Rattle.gp_agreement.proofs.Growing.{by_order}
use Rattle.gp_caller.specs.declared.policy.TheConstants.{FIRST_ROUND, LEADER}
use Rattle.gp_caller.specs.Standing.{StandsIn}
use Rattle.gp_caller.specs.Calling.{IsCalled, called_for}
use Rattle.gp_ending.specs.Begins.{leader, clash_round, IsBeginAt, BeginsAt, IsBegun, HasFollowed, BeginsInTurn}
use Rattle.gp_ending.proofs.GrowingValues.{are_histories, each_grows, incompatible_since}
use Rattle.gp_ending.proofs.Turns.{round_at, IsOfTurn, none_next, turn_is, one_turn, only_second}
use Rattle.gp_ending.proofs.Following.{leader_at, ended, stands_here, stands_there, begins_there, opens_with}
use Rattle.gp_ending.proofs.Calling.{first_call, decided}
use Rattle.gp_ending.proofs.Walking.{Stage, call_at, all_done}
use Rattle.gp_ending.proofs.Stages.{IsOrderly, orderly, stage}

module _ (p : ProcessState) (calls : List Call) (f : HasFollowed IsCalled p calls) where
  abbrev config : Counts
  config = p.config

  abbrev X : List Record
  X = p.list

  abbrev IsStage : ℕ → List Record → List Record → Type 0
  IsStage = Stage p calls f (IsOrderly p calls f)

  -- ---- a place where a round is begun

  -- the round is the next one of its epoch there
  record IsNextAt (k e : ℕ) (r : Round) : Type 0 where
    few : called_for e (stage p calls f k).done ≤ 1
    round_is : r ≡ round_at (suc (called_for e (stage p calls f k).done))
    clash : called_for e (stage p calls f k).done ≡ 1 → HasIncompatibleValues (e, FIRST_ROUND) (messages (newest_first (take k X)))

  next_at : (k e : ℕ) (r : Round) → BeginsAt config X k e r → IsNextAt k e r
  next_at k e r b =
      let s = stage p calls f k in
      let n = call_at p calls f (IsOrderly p calls f) (orderly p calls f) k e r b s in
      let d = decided p calls f (take k X) s.done s.left r n s.holds.turn in
      let in_e = stands_there p calls f (take k X) e b.own n.legal b.stands in
      subst (λ n. IsNextAt k n r) in_e.0 (record { few = d.few; round_is = d.round_is; clash = d.clash })

  each_begins : (place c : ℕ) (r : Round) → IsBeginAt X place c r → ((e : ℕ) × BeginsAt config X place e r) × ((r ≡ FIRST_ROUND) ⊎ (r ≡ clash_round))
  each_begins place c r h =
      let b = begins_there p calls f place c r h in
      let n = next_at place (leader_at config (take place X)).epoch r b in (
        ((leader_at config (take place X)).epoch, b),
        subst IsOfTurn (sym n.round_is) (turn_is (suc (called_for (leader_at config (take place X)).epoch (stage p calls f place).done)) (omega arith)),
      )

  not_again : (i j e : ℕ) (r : Round) → i < j → BeginsAt config X i e r → BeginsAt config X j e r → ⊥
  not_again i j e r l a b =
      let s = stage p calls f j in
      let t = s.holds.past i e r l a in
      let n = next_at j e r b in
      one_turn t.turn (called_for e s.done) t.some t.within n.few (sym t.round_is ∙ n.round_is)

  begins_once : (i j e : ℕ) (r : Round) → BeginsAt config X i e r → BeginsAt config X j e r → i ≡ j
  begins_once i j e r a b = elim (by_order i j) [
    | inl less ↦ absurd (not_again i j e r less a b)
    | inr t ↦ elim t [ inl same ↦ same | inr more ↦ absurd (not_again j i e r more b a) ]
  ]

  begins_behind : (place e : ℕ) → BeginsAt config X place e clash_round → HasIncompatibleValues (e, FIRST_ROUND) (messages (newest_first (take place X)))
  begins_behind place e b = let n = next_at place e clash_round b in n.clash (only_second (called_for e (stage p calls f place).done) n.few (sym n.round_is))

  -- ---- the end

  abbrev last : IsStage (length X) (take (length X) X) (drop (length X) X)
  last = stage p calls f (length X)

  all_taken : take (length X) X ≡ X
  all_taken = take_all (length X) X (omega arith)

  done_is : last.done ≡ calls
  done_is = all_done p calls f (IsOrderly p calls f) (orderly p calls f) last

  module _ (e : ℕ) (own : Round) (stands : StandsIn config leader X e own) where
    abbrev end : IsCalled config leader calls X None
    end = ended p calls f

    in_e : (leader_at config X).epoch ≡ e
    in_e = (stands_there p calls f X e own f.legal stands).0

    same_epoch : end.epoch ≡ e
    same_epoch = sym (stands_there p calls f X end.epoch end.own f.legal end.stands).0 ∙ in_e

    own_is : end.own ≡ round_at (called_for end.epoch calls)
    own_is =
        let there = stands_there p calls f X end.epoch end.own f.legal end.stands in
        let turn = last.holds.turn in
        sym there.1 ∙ sym (ap (λ l. (leader_at config l).state.round) all_taken) ∙ turn.round_is
        ∙ (λ i. round_at (called_for ((ap (λ l. (leader_at config l).epoch) all_taken ∙ there.0) i) (done_is i)))

    -- one round was called for the epoch that has not clashed, or two were
    enough : ((called_for e calls ≡ 1) × (end.clashed ≡ false)) ⊎ (2 ≤ called_for e calls)
    enough = subst (λ n. ((called_for n calls ≡ 1) × (end.clashed ≡ false)) ⊎ (2 ≤ called_for n calls)) same_epoch
        (none_next end.epoch (called_for end.epoch calls) end.own end.clashed own_is end.call_is)

    made : (n : ℕ) → 0 < n → n ≤ called_for e calls → IsBegun config X e (round_at n)
    made n some within = last.holds.made e n some (subst (λ cs. n ≤ called_for e cs) (sym done_is) within)

    first_is_begun : IsBegun config X e FIRST_ROUND
    first_is_begun = elim enough [ inl one ↦ made 1 (omega arith) (omega (arith, one.0)) | inr two ↦ made 1 (omega arith) (omega (arith, two)) ]

    clash_stands : IsBegun config X e clash_round → HasIncompatibleValues (e, FIRST_ROUND) (messages (newest_first X))
    clash_stands b =
        subst (λ l. HasIncompatibleValues (e, FIRST_ROUND) (messages (newest_first l))) (take-append-drop b.0 X)
        (incompatible_since (e, FIRST_ROUND) (take b.0 X) (drop b.0 X) (begins_behind b.0 e b.1))

    clash_is_answered : 0 < config.acceptors → HasIncompatibleValues (e, FIRST_ROUND) (messages (newest_first X)) → IsBegun config X e clash_round
    clash_is_answered some two = elim enough [
      | inl one ↦
          let seen = values_clash (e, FIRST_ROUND) (messages (newest_first X)) (are_histories config some (newest_first X) f.legal e FIRST_ROUND) (each_grows config some (newest_first X) f.legal e FIRST_ROUND) two in
          let told : end.clashed ≡ true = (subst (λ n. IsTrue end.clashed ↔ HasClash (watched (n, FIRST_ROUND) (messages (newest_first X)))) same_epoch end.clash).1 seen in
          absurd (let wrong : true ≡ false = sym told ∙ one.1 in cc)
      | inr more ↦ made 2 (omega arith) more
    ]

  -- **the leader begins its rounds in turn**
  pub begins_in_turn : 0 < config.acceptors → BeginsInTurn config X
  begins_in_turn some = record {
    each = each_begins;
    once = begins_once;
    behind = begins_behind;
    last = (leader_at config X).epoch;
    own = (leader_at config X).state.round;
    stands = stands_last;
    first = first_is_begun (leader_at config X).epoch (leader_at config X).state.round stands_last;
    clash = (clash_stands (leader_at config X).epoch (leader_at config X).state.round stands_last, clash_is_answered (leader_at config X).epoch (leader_at config X).state.round stands_last some);
  }
    where
      stands_last : StandsIn config leader X (leader_at config X).epoch (leader_at config X).state.round
      stands_last = stands_here p calls f X f.legal

  -- ---- the first event

  pub opens_with_first : ((n : Node) (k : ℕ) (rest : List Event) → ¬ (own_events leader X ≡ Take n k ∷ rest)) → (rest : List Event) × (own_events leader X ≡ Begin LEADER FIRST_ROUND ∷ rest)
  opens_with_first none = by_calls calls refl
    where
      e : ℕ
      e = (leader_at config X).epoch

      some_called : calls ≡ [] → ⊥
      some_called is = elim (enough e (leader_at config X).state.round (stands_here p calls f X f.legal)) [
        | inl one ↦ omega (arith, sym (ap (called_for e) is) ∙ one.0)
        | inr two ↦ omega (arith, subst (λ cs. 2 ≤ called_for e cs) is two)
      ]

      by_calls : (cs : List Call) → calls ≡ cs → (rest : List Event) × (own_events leader X ≡ Begin LEADER FIRST_ROUND ∷ rest)
      by_calls [] is = absurd (some_called is)
      by_calls (c ∷ cs) is = opens_with p calls f c cs FIRST_ROUND is (first_call p calls f c cs is) none
