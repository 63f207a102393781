-- What a sound world shows of its nodes.
use Rattle.std.proofs.Common.{◌≡◌, ℕ, zero, suc, ◌+◌, ◌<◌, ◌≤◌, Bool, true, false, cond, nat_eq, nat_lt, nat_cmp, List, [], ◌∷◌, ◌++◌, length, map, take, get_or, refl, sym, ap, ◌∙◌, arith, Some, add-one, append_assoc}
use Rattle.std.specs.Prelude.{max, slice_get}
use Rattle.std.specs.Option.{option_map}
use Rattle.std.specs.List.{flat_map}
use Rattle.std.specs.Ordering.{ord_max, is_lt}
use Rattle.std.specs.declared.cmp.Ordering.TheVariants.{Less, Equal, Greater}
use Rattle.std.proofs.lemmas.Bool.{ltb-true, ltb-false}
use Rattle.std.proofs.Math.Nat.{max_comm}
use Rattle.std.proofs.Math.Seq.{take-suc}
use Rattle.std.proofs.lemmas.List.{map-append}
use Rattle.gp_round.specs.Counts.{Counts}
use Rattle.gp_round.specs.declared.round.Round.{Round}
use Rattle.gp_msg.specs.declared.message.Msg.{Msg}
use Rattle.gp_msg.specs.declared.record.Record.{Record}
use Rattle.gp_msg.specs.Messages.{Stamped, message_of}
use Rattle.gp_coordinator.specs.Epochs.{CoordinatorInEpoch}
use Rattle.gp_run.specs.Learned.{learned_at}
use Rattle.gp_run.specs.Runs.{newest_first}
use Rattle.gp_run.specs.States.{learner_at, coordinator_at}
use Rattle.gp_run.specs.TopCount.{rounds_of, greatest_count, rounds_below, top_count, top_of_messages}
use Rattle.gp_msg.specs.Records.{messages_in}
use Rattle.gp_run.proofs.Telling.{messages-entries}
use Rattle.gp_run.proofs.TopRounds.{top_is}
use Rattle.gp_world.specs.Nodes.{NodesState, states_below}
use Rattle.gp_world.specs.Sound.{IsSound}
use Rattle.gp_world.proofs.Numbering.{length-states_below, slice_get-states_below}
use Rattle.gp_world.proofs.Placing.{messages-push}

-- ---- learners

pub learner_there : (config : Counts) (records : List Record) (nodes : NodesState) (l : ℕ) → IsSound config records nodes → l < config.learners → l < length nodes.learners
learner_there config records nodes l sound h =
    let many = ap (λ (n : NodesState). length n.learners) sound.nodes_are in
    omega (arith, h, many, length-states_below config.learners (λ i. learner_at config i (newest_first records)))

pub learner_shows : (config : Counts) (records : List Record) (nodes : NodesState) (l : ℕ) → IsSound config records nodes → l < config.learners
    → option_map (λ s. s.learned) (slice_get nodes.learners l) ≡ Some (learned_at config l (newest_first records))
learner_shows config records nodes l sound h =
    ap (λ (n : NodesState). option_map (λ s. s.learned) (slice_get n.learners l)) sound.nodes_are
    ∙ ap (option_map (λ s. s.learned)) (slice_get-states_below config.learners (λ i. learner_at config i (newest_first records)) l h)

-- ---- the greatest round

greatest-push : (rs : List Round) (r : Round) → greatest_count (rs ++ r ∷ []) ≡ max (greatest_count rs) r.count
greatest-push [] r = max_comm r.count 0
greatest-push (q ∷ rs) r = omega (arith, greatest-push rs r)

-- one coordinator more
pub greatest_more : (cs : List CoordinatorInEpoch) (i : ℕ) (s : CoordinatorInEpoch) → i < length cs → s ≡ get_or cs i s
    → greatest_count (map (λ x. x.state.round) (take (i + 1) cs)) ≡ max (greatest_count (map (λ x. x.state.round) (take i cs))) s.state.round.count
greatest_more cs i s l e =
    ap (λ n. greatest_count (map (λ x. x.state.round) (take n cs))) (add-one i)
    ∙ ap (λ xs. greatest_count (map (λ x. x.state.round) xs)) (take-suc cs i s l)
    ∙ ap greatest_count (map-append (λ x. x.state.round) (take i cs) (get_or cs i s ∷ []))
    ∙ ap (λ x. greatest_count (map (λ y. y.state.round) (take i cs) ++ x.state.round ∷ [])) (sym e)
    ∙ greatest-push (map (λ x. x.state.round) (take i cs)) s.state.round

-- the greater of two numbers, as the code takes it
pub ord_max-nat : (a b : ℕ) → ord_max nat_cmp a b ≡ max a b
ord_max-nat a b = by_test (nat_lt b a) refl where
  not_less : (t : Bool) → a ≤ b → cond (is_lt (cond t Equal Greater)) a b ≡ max a b
  not_less true l = omega arith
  not_less false l = omega arith

  by_test : (t : Bool) → nat_lt b a ≡ t → cond (is_lt (cond t Less (cond (nat_eq b a) Equal Greater))) a b ≡ max a b
  by_test true h = let l : b < a = ltb-true b a h in omega arith
  by_test false h = let l : a ≤ b = ltb-false b a h in not_less (nat_eq b a) l

rounds_of_states : (n : ℕ) (f : ℕ → CoordinatorInEpoch) → map (λ x. x.state.round) (states_below n f) ≡ rounds_below n (λ c. (f c).state.round ∷ [])
rounds_of_states zero f = refl
rounds_of_states (suc n) f = map-append (λ x. x.state.round) (states_below n f) (f n ∷ []) ∙ ap (λ rs. rs ++ (f n).state.round ∷ []) (rounds_of_states n f)

pub greatest_is_top : (config : Counts) (records : List Record) (nodes : NodesState) → IsSound config records nodes → (a b : ℕ) → a ≡ top_of_messages (map message_of (messages_in records)) → b ≡ greatest_count (map (λ s. s.state.round) nodes.coordinators)
    → max a b ≡ top_count config (newest_first records)
greatest_is_top config records nodes sound a b h k =
    let sent = h ∙ ap top_of_messages (sym (messages-entries records)) in
    let own = k ∙ ap (λ (n : NodesState). greatest_count (map (λ s. s.state.round) n.coordinators)) sound.nodes_are ∙ ap greatest_count (rounds_of_states config.coordinators (λ c. coordinator_at config c (newest_first records))) in
    (λ i. max (sent i) (own i)) ∙ sym (top_is config (newest_first records))

-- ---- the greatest round of messages

pub greatest-append : (rs qs : List Round) → greatest_count (rs ++ qs) ≡ max (greatest_count rs) (greatest_count qs)
greatest-append [] qs = omega arith
greatest-append (r ∷ rs) qs = omega (arith, greatest-append rs qs)

rounds-append : (ms ns : List Stamped) → flat_map rounds_of (ms ++ ns) ≡ flat_map rounds_of ms ++ flat_map rounds_of ns
rounds-append [] ns = refl
rounds-append (m ∷ ms) ns = ap (λ rs. rounds_of m ++ rs) (rounds-append ms ns) ∙ sym (append_assoc (rounds_of m) (flat_map rounds_of ms) (flat_map rounds_of ns))

pub tops-append : (ms ns : List Stamped) → top_of_messages (ms ++ ns) ≡ max (top_of_messages ms) (top_of_messages ns)
tops-append ms ns = ap greatest_count (rounds-append ms ns) ∙ greatest-append (flat_map rounds_of ms) (flat_map rounds_of ns)

pub one_top : (r : Round) → r.count ≡ greatest_count (r ∷ [])
one_top r = omega arith

pub two_tops : (r q : Round) → ord_max nat_cmp r.count q.count ≡ greatest_count (r ∷ q ∷ [])
two_tops r q = ord_max-nat r.count q.count ∙ omega arith

top_of_one : (m : Stamped) → top_of_messages (m ∷ []) ≡ greatest_count (rounds_of m)
top_of_one m = greatest-append (rounds_of m) [] ∙ omega arith

-- one record more
pub tops-push : (records : List Record) (r : Record) → max (top_of_messages (map message_of (messages_in records))) (top_of_messages (map message_of r.out)) ≡ top_of_messages (map message_of (messages_in (records ++ r ∷ [])))
tops-push records r =
    sym (tops-append (map message_of (messages_in records)) (map message_of r.out))
    ∙ ap top_of_messages (sym (map-append message_of (messages_in records) r.out))
    ∙ ap (λ ms. top_of_messages (map message_of ms)) (sym (messages-push records r))

-- one message more
pub tops_more : (out : List Msg) (i : ℕ) (m : Msg) → i < length out → m ≡ get_or out i m → top_of_messages (map message_of (take (i + 1) out)) ≡ max (top_of_messages (map message_of (take i out))) (greatest_count (rounds_of (message_of m)))
tops_more out i m l e =
    ap (λ n. top_of_messages (map message_of (take n out))) (add-one i)
    ∙ ap (λ xs. top_of_messages (map message_of xs)) (take-suc out i m l)
    ∙ ap top_of_messages (map-append message_of (take i out) (get_or out i m ∷ []))
    ∙ ap (λ x. top_of_messages (map message_of (take i out) ++ message_of x ∷ [])) (sym e)
    ∙ tops-append (map message_of (take i out)) (message_of m ∷ [])
    ∙ ap (max (top_of_messages (map message_of (take i out)))) (top_of_one (message_of m))
