-- What is known of the messages once one record more is there.
use Rattle.std.proofs.Common.{◌≡◌, ℕ, zero, suc, ◌≤◌, cond, max, List, [], ◌∷◌, ◌++◌, length, map, slice_get, refl, sym, ap, ◌∙◌, inl, inr, arith, Option, Some, None, option_map, option_to_list}
use Rattle.std.proofs.lemmas.List.{map-append, append-nil, length-map}
use Rattle.gp_round.specs.Counts.{Counts}
use Rattle.gp_msg.specs.declared.record.Record.{Record}
use Rattle.gp_msg.specs.declared.message.Msg.{Msg}
use Rattle.gp_msg.specs.declared.message.MsgKind.{MsgKind}
use Rattle.gp_msg.specs.Messages.{Stamped, message_of, entry_of}
use Rattle.gp_msg.specs.Reads.{kind_of}
use Rattle.gp_run.specs.Messages.{messages}
use Rattle.gp_run.specs.Runs.{newest_first}
use Rattle.gp_run.specs.TopCount.{rounds_of, greatest_count, top_of_messages}
use Rattle.gp_run.proofs.Telling.{messages-entries}
use Rattle.gp_world.proofs.Showing.{tops-append}
use Rattle.gp_msg.specs.Records.{messages_in}
use Rattle.gp_wire.proofs.SameNodes.{same_tells}
use Rattle.gp_cell.specs.Still.{entries_append}
use Rattle.gp_cell.specs.declared.roles.Core.{Core}
use Rattle.gp_cell.specs.Cores.{acts, core_at, part_in}
use Rattle.gp_cell.specs.Lawful.{IsLawful}
use Rattle.gp_cell.proofs.Acting.{core_role}
use Rattle.gp_wire.proofs.Placing.{messages-push}
use Rattle.gp_stage.specs.Tops.{top_in}
use Rattle.gp_stage.proofs.Sending.{Tops, acts_tops}

-- the message behind some others
first_behind : (ms out : List Msg) (k : ℕ) → k ≡ length ms → slice_get (ms ++ out) k ≡ slice_get out 0
first_behind [] out k e = ap (slice_get out) e
first_behind (m ∷ ms) out zero e = absurd (omega (arith, e))
first_behind (m ∷ ms) out (suc k) e = first_behind ms out k (omega (arith, e))

-- the core of the sender is what its last event makes
core_of_last : (config : Counts) (before : List Record) (x : Record) → core_at config x.node (newest_first (before ++ x ∷ [])) ≡ (acts x.node (core_at config x.node (newest_first before)) (messages (newest_first before)) x.event).0
core_of_last config before x = ap (core_at config x.node) (entries_append before (x ∷ [])) ∙ elim (same_tells x.node x.node) [
  | inl t ↦ ap (λ b. cond b (acts x.node (core_at config x.node (newest_first before)) (messages (newest_first before)) x.event).0 (core_at config x.node (newest_first before))) t.0
  | inr t ↦ absurd (t.1 refl)
]

module _ (config : Counts) (before list : List Record) (x : Record) (kinds : List MsgKind) (top : ℕ) (list_is : list ≡ before ++ x ∷ []) (lawful : IsLawful config (newest_first before) (entry_of x))
    (kinds_are : kinds ≡ map kind_of (messages_in before)) (top_is : top ≡ top_of_messages (messages (newest_first before))) where
  step_is : Core
  step_is = (acts x.node (core_at config x.node (newest_first before)) (messages (newest_first before)) x.event).0

  kinds_length : length kinds ≡ length (messages_in before)
  kinds_length = ap length kinds_are ∙ length-map (messages_in before) kind_of

  -- what the wire answers for the next message
  pub next_kind : option_map kind_of (slice_get (messages_in list) (length kinds)) ≡ option_map kind_of (slice_get x.out 0)
  next_kind = ap (option_map kind_of) (ap (λ l. slice_get (messages_in l) (length kinds)) list_is ∙ ap (λ l. slice_get l (length kinds)) (messages-push before x) ∙ first_behind (messages_in before) x.out (length kinds) kinds_length)

  all_sent : messages (newest_first list) ≡ messages (newest_first before) ++ map message_of x.out
  all_sent = messages-entries list ∙ ap (map message_of) (ap messages_in list_is ∙ messages-push before x) ∙ map-append message_of (messages_in before) x.out ∙ ap (λ l. l ++ map message_of x.out) (sym (messages-entries before))

  all_tops : top_of_messages (messages (newest_first list)) ≡ max top (top_of_messages (map message_of x.out))
  all_tops = ap top_of_messages all_sent ∙ tops-append (messages (newest_first before)) (map message_of x.out) ∙ ap (λ t. max t (top_of_messages (map message_of x.out))) (sym top_is)

  all_kinds : map kind_of (messages_in list) ≡ kinds ++ map kind_of x.out
  all_kinds = ap (map kind_of) (ap messages_in list_is ∙ messages-push before x) ∙ map-append kind_of (messages_in before) x.out ∙ ap (λ l. l ++ map kind_of x.out) (sym kinds_are)

  -- nothing was sent
  none_out : (out : List Msg) → option_map kind_of (slice_get out 0) ≡ None → out ≡ []
  none_out [] e = refl
  none_out (m ∷ out) e = cc

  pub none_kinds : option_map kind_of (slice_get x.out 0) ≡ None → kinds ≡ map kind_of (messages_in list)
  none_kinds e = sym (all_kinds ∙ ap (λ o. kinds ++ map kind_of o) (none_out x.out e) ∙ append-nil kinds)

  pub none_tops : option_map kind_of (slice_get x.out 0) ≡ None → top ≡ top_of_messages (messages (newest_first list))
  none_tops e = sym (all_tops ∙ ap (λ o. max top (top_of_messages (map message_of o))) (none_out x.out e) ∙ omega arith)

  -- one message was sent
  one_out : (out : List Msg) (kind : MsgKind) → length out ≤ 1 → option_map kind_of (slice_get out 0) ≡ Some kind → (m : Msg) × (out ≡ m ∷ []) × (kind_of m ≡ kind)
  one_out [] kind l e = absurd cc
  one_out (m ∷ []) kind l e = (m, refl, (let t : Some (kind_of m) ≡ Some kind = e in cc))
  one_out (m ∷ n ∷ out) kind l e = absurd (omega (arith, l))

  few_out : length x.out ≤ 1
  few_out = let a = sym (length-map x.out message_of) ∙ ap length lawful.own_messages in let b = at_most_one (acts x.node (core_at config x.node (newest_first before)) (messages (newest_first before)) x.event).1 in omega (arith, a, b)
    where
      at_most_one : (o : Option Stamped) → length (option_to_list o) ≤ 1
      at_most_one None = omega arith
      at_most_one (Some m) = omega arith

  pub one_kinds : (kind : MsgKind) → option_map kind_of (slice_get x.out 0) ≡ Some kind → kinds ++ kind ∷ [] ≡ map kind_of (messages_in list)
  one_kinds kind e = let o = one_out x.out kind few_out e in sym (all_kinds ∙ ap (λ l. kinds ++ map kind_of l) o.1 ∙ ap (λ k. kinds ++ k ∷ []) o.2)

  sent_top : (m : Msg) → x.out ≡ m ∷ [] → greatest_count (rounds_of (message_of m)) ≡ top_in (part_in step_is)
  unfolding step_is
  sent_top m e = tells (acts x.node (core_at config x.node (newest_first before)) (messages (newest_first before)) x.event).1 (sym (ap (map message_of) e) ∙ lawful.own_messages)
      (acts_tops x.node (core_at config x.node (newest_first before)) (messages (newest_first before)) x.event (core_role config x.node (newest_first before)))
    where
      tells : (o : Option Stamped) → message_of m ∷ [] ≡ option_to_list o → Tops o (top_in (part_in (acts x.node (core_at config x.node (newest_first before)) (messages (newest_first before)) x.event).0))
          → greatest_count (rounds_of (message_of m)) ≡ top_in (part_in (acts x.node (core_at config x.node (newest_first before)) (messages (newest_first before)) x.event).0)
      tells None e t = absurd cc
      tells (Some s) e t = let same : message_of m ≡ s = cc in ap (λ y. greatest_count (rounds_of y)) same ∙ t

  pub one_tops : (kind : MsgKind) (core : Core) → option_map kind_of (slice_get x.out 0) ≡ Some kind → core ≡ core_at config x.node (newest_first list) → max top (top_in (part_in core)) ≡ top_of_messages (messages (newest_first list))
  unfolding step_is
  one_tops kind core e is =
      let o = one_out x.out kind few_out e in
      let a = ap (λ l. top_of_messages (map message_of l)) o.1 in
      let b = tops-append (message_of o.0 ∷ []) [] in
      let s = sent_top o.0 o.1 in
      let c : top_in (part_in core) ≡ top_in (part_in (acts x.node (core_at config x.node (newest_first before)) (messages (newest_first before)) x.event).0) =
      ap (λ k. top_in (part_in k)) (is ∙ ap (λ l. core_at config x.node (newest_first l)) list_is ∙ core_of_last config before x) in
      let t = all_tops in
      let g : top_of_messages (message_of o.0 ∷ []) ≡ greatest_count (rounds_of (message_of o.0)) = ap greatest_count (append-nil (rounds_of (message_of o.0))) in omega (arith, a, s, c, t, g)
