-- The steps of an acceptor, in one epoch.
use Rattle.std.proofs.Common.{◌≡◌, ◌⊎◌, ◌<◌, ℕ, suc, true, false, nat_eq, nat_lt, List, [], ◌∷◌, ◌++◌, Option, Some, None, length, refl, sym, subst, ap, ◌∙◌, inl, inr, arith}
use Rattle.std.specs.Option.{option_to_list}
use Rattle.std.proofs.lemmas.Bool.{ltb-true, ltb-false, eqb-true}
use Rattle.gp_command.specs.declared.command.Command.{Command}
use Rattle.gp_round.specs.declared.round.Round.{Round}
use Rattle.gp_round.specs.Counts.{Counts}
use Rattle.gp_msg.specs.declared.node.Node.TheVariants.{Acceptor}
use Rattle.gp_msg.specs.declared.event.Kept.{Kept}
use Rattle.gp_msg.specs.declared.event.Kept.TheVariants as kept
use Rattle.gp_msg.specs.Messages.{Message, Proposed, Stamped, Offered, InEpoch, Final, maybe_stamped, Entry}
use Rattle.gp_acceptor.specs.State.{AcceptorState}
use Rattle.gp_acceptor.specs.State as state
use Rattle.gp_acceptor.specs.Table as table
use Rattle.gp_msg.specs.Nodes.{node_of, may_keep}
use Rattle.gp_cstructs.specs.CStructs.{Among}
use Rattle.gp_cstructs.specs.Acceptor as core
use Rattle.gp_cstructs.specs.Loose.{System, Event, AcceptorTakes, AcceptorFalls, run, Loose}
use Rattle.gp_cstructs.proofs.Lists.{cond_cases, nat_cases, stands_there}
use Rattle.gp_agreement.specs.Values.{Value}
use Rattle.gp_agreement.proofs.Told.{told}
use Rattle.gp_agreement.proofs.Acceptors as acceptors
use Rattle.gp_acceptor.specs.Epochs.{AcceptorInEpoch, stepped, entered, take, durable, fall}
use Rattle.gp_run.specs.Messages.{messages, on_message}
use Rattle.gp_run.specs.States.{acceptor_kept, acceptor_at}
use Rattle.gp_run.specs.Chosen.{HadVote}
use Rattle.gp_agreement.proofs.Steps.{acceptor_own, acceptor_proposes_nothing}
use Rattle.gp_agreement.proofs.Projection.{T, M, AcceptorAlike, Projects, AllForeign, none_foreign, away_foreign, acceptor_moved, acceptor_stays}

module _ (config : Counts) (e : ℕ) (es : List Entry) (fs : List (Event (T config e))) (f : Loose (T config e) fs) (pr : Projects config e es (run (T config e) fs)) (a : ℕ) (known : a < config.acceptors) where
  abbrev w : System (T config e)
  w = run (T config e) fs

  abbrev s : AcceptorInEpoch
  s = acceptor_at config a es

  -- each vote that is new in the list is one that the acceptor had, in e
  abbrev pub CastsHad : Entry → List (Event (T config e)) → Type 0
  CastsHad x gs = (b : ℕ) (r : Round) (v : Value) → Among (run (T config e) gs).cast (b, r, v) → Among w.cast (b, r, v) ⊎ HadVote config (x ∷ es) b e r v.history

  -- the list goes on as the acceptor does p
  abbrev pub AcceptorNext : AcceptorInEpoch × Option Stamped → Type 0
  AcceptorNext p = (g : List (Event (T config e))) × Loose (T config e) (g ++ fs)
      × ((x : Entry) → node_of x.event ≡ Acceptor a → acceptor_at config a (x ∷ es) ≡ p.0 → x.sent ≡ option_to_list p.1 → Projects config e (x ∷ es) (run (T config e) (g ++ fs)))
      × ((x : Entry) → acceptor_at config a (x ∷ es) ≡ p.0 → CastsHad x (g ++ fs))

  -- it has this vote now, or had it before
  had_now : (x : Entry) (u : AcceptorInEpoch) → acceptor_at config a (x ∷ es) ≡ u → u.epoch ≡ e → (t : core.Acceptor (T config e)) → acceptors.IsLike config a u.state t → HadVote config (x ∷ es) a e t.voted t.vote.history
  had_now x u is at t like = record {
    later = [];
    earlier = x ∷ es;
    parts = refl;
    epoch_is = ap (λ (k : AcceptorInEpoch). k.epoch) is ∙ at;
    round_is = ap (λ (k : AcceptorInEpoch). k.state.voted) is ∙ ap (λ (k : AcceptorState). k.voted) like.is;
    vote_is = ap (λ (k : AcceptorInEpoch). k.state.vote) is ∙ ap (λ (k : AcceptorState). k.vote) like.is;
  }

  had_then : (x : Entry) → s.epoch ≡ e → HadVote config (x ∷ es) a e (w.acceptors a).voted (w.acceptors a).vote.history
  had_then x q =
      let like = (pr.acceptors a).0 q in
      record {
        later = x ∷ [];
        earlier = es;
        parts = refl;
        epoch_is = q;
        round_is = ap (λ (k : AcceptorState). k.voted) like.is;
        vote_is = ap (λ (k : AcceptorState). k.vote) like.is;
      }

  new_cast : (x : Entry) (t : core.Acceptor (T config e)) → HadVote config (x ∷ es) a e t.voted t.vote.history → (b : ℕ) (r : Round) (v : Value)
      → Among ((a, t.voted, t.vote) ∷ w.cast) (b, r, v) → Among w.cast (b, r, v) ⊎ HadVote config (x ∷ es) b e r v.history
  new_cast x t had b r v p = elim p [
    | inl q ↦ inr (subst (λ (y : ℕ × Round × Value). HadVote config (x ∷ es) y.0 e y.1 y.2.history) q had)
    | inr n ↦ inl n
  ]

  -- the list stays
  stays : (p : AcceptorInEpoch × Option Stamped) → AcceptorAlike config e a p.0 (w.acceptors a) → AllForeign config e (option_to_list p.1) → AcceptorNext p
  stays p like foreign = ([], f, (λ x at is own. acceptor_stays config e es w pr a p x at is own like foreign), λ x is b r v m. inl m)

  -- nothing happens
  idle : AcceptorNext (s, None)
  idle = stays (s, None) (pr.acceptors a) (none_foreign config e)

  -- ---- steps in an epoch

  home : s.epoch ≡ e → (y : M config e) → Among w.sent y → AcceptorNext (stepped s (table.acceptor_take s.state (told config y)))
  home q y there =
      let fit = acceptors.take_like config a s.state (w.acceptors a) ((pr.acceptors a).0 q) y in (
        AcceptorTakes a y ∷ [],
        (f, (known, there)),
        (λ x at is own. acceptor_moved config e es w pr a (stepped s (table.acceptor_take s.state (told config y))) x at is own
            (core.acceptor_take (T config e) a (w.acceptors a) y).0 (core.acceptor_take (T config e) a (w.acceptors a) y).1
            ((λ z. fit.0), (λ z. absurd (omega (arith, q, z)))) (λ k. maybe_stamped (q k) (fit.1 k))),
        λ x is. new_cast x (core.acceptor_take (T config e) a (w.acceptors a) y).0 (had_now x (stepped s (table.acceptor_take s.state (told config y))).0 is q (core.acceptor_take (T config e) a (w.acceptors a) y).0 fit.0),
      )

  away : (s.epoch ≡ e → ⊥) → (u : AcceptorState × Option Message) → ((c : Command) → u.1 ≡ Some (Proposed c) → ⊥) → AcceptorNext (stepped s u)
  away d u h = stays (stepped s u) ((λ z. absurd (d z)), (pr.acceptors a).1) (away_foreign config e s.epoch d u.1 h)

  -- it enters a later epoch
  enters : (i : ℕ) → nat_lt i s.epoch ≡ false → AcceptorNext (entered s (suc i), None)
  enters i b =
      let d = ltb-false i s.epoch b in
      let k = acceptor_own config a es in
      stays (entered s (suc i), None) (
        (λ z. subst (λ (t : core.Acceptor (T config e)). acceptors.IsLike config a (state.opening s.state.config s.state.number) t) (sym ((pr.acceptors a).1 (omega (arith, d, z))))
            (subst (λ (u : AcceptorState). acceptors.IsLike config a u (core.acceptor_opening (T config e))) (λ j. state.opening (sym k.own_config j) (sym k.own_number j)) (acceptors.like_opening config a))),
        (λ z. (pr.acceptors a).1 (omega (arith, d, z))),
      ) (none_foreign config e)

  pub takes : (n : Stamped) → Among (messages es) n → AcceptorNext (take s n)
  takes (Offered c) p = elim (nat_cases s.epoch e) [
    | inl q ↦ let t = pr.sent (Offered c) p (Proposed c) refl in subst (λ (m : Message). AcceptorNext (stepped s (table.acceptor_take s.state m))) t.2 (home q t.0 t.1)
    | inr d ↦ away d (table.acceptor_take s.state (Proposed c)) (acceptor_proposes_nothing s.state (Proposed c))
  ]
  takes (InEpoch i m) p = cond_cases AcceptorNext (nat_eq i s.epoch) (stepped s (table.acceptor_take s.state m)) (s, None)
      (λ b. elim (nat_cases s.epoch e) [
        | inl q ↦ let t = pr.sent (InEpoch i m) p m (eqb-true i s.epoch b ∙ q, refl) in subst (λ (u : Message). AcceptorNext (stepped s (table.acceptor_take s.state u))) t.2 (home q t.0 t.1)
        | inr d ↦ away d (table.acceptor_take s.state m) (acceptor_proposes_nothing s.state m)
      ])
      (λ b. idle)
  takes (Final i l v) p = cond_cases (λ (u : AcceptorInEpoch). AcceptorNext (u, None)) (nat_lt i s.epoch) s (entered s (suc i)) (λ b. idle) (λ b. enters i b)

  -- ---- falls

  -- in its epoch, with what an event of the list leaves
  falls_home : s.epoch ≡ e → (part : _) (m : Option (M config e)) → Loose (T config e) (AcceptorFalls a m ∷ fs) → acceptors.IsLike config a (table.acceptor_fall s.state part) (core.acceptor_fall (T config e) a (w.acceptors a) m)
      → AcceptorNext (fall s (record { epoch = s.epoch; part = part }), None)
  falls_home q part m loose like = (
    AcceptorFalls a m ∷ [],
    loose,
    (λ x at is own. acceptor_moved config e es w pr a (fall s (record { epoch = s.epoch; part = part }), None) x at is own
        (core.acceptor_fall (T config e) a (w.acceptors a) m) None ((λ z. like), (λ z. absurd (omega (arith, q, z)))) refl),
    λ x is. new_cast x (core.acceptor_fall (T config e) a (w.acceptors a) m) (had_now x (fall s (record { epoch = s.epoch; part = part })) is q (core.acceptor_fall (T config e) a (w.acceptors a) m) like),
  )

  falls_away : (s.epoch ≡ e → ⊥) → (part : _) → AcceptorNext (fall s (record { epoch = s.epoch; part = part }), None)
  falls_away d part = stays (fall s (record { epoch = s.epoch; part = part }), None) ((λ z. absurd (d z)), (pr.acceptors a).1) (none_foreign config e)

  plain : AcceptorNext (fall s (durable s), None)
  plain = elim (nat_cases s.epoch e) [
    | inl q ↦ falls_home q (table.durable s.state) None (f, known) (acceptors.fall_plain config a s.state (w.acceptors a) ((pr.acceptors a).0 q))
    | inr d ↦ falls_away d (table.durable s.state)
  ]

  -- the list has the message that is kept, if the acceptor is in e
  keeps : (m : Message) → (s.epoch ≡ e → (y : M config e) × Among w.sent y × (told config y ≡ m)) → AcceptorNext (fall s (record { epoch = s.epoch; part = table.durable (table.acceptor_take s.state m).0 }), None)
  keeps m found = elim (nat_cases s.epoch e) [
    | inl q ↦
        let t = found q in
        subst (λ (u : Message). AcceptorNext (fall s (record { epoch = s.epoch; part = table.durable (table.acceptor_take s.state u).0 }), None)) t.2
        (falls_home q (table.durable (table.acceptor_take s.state (told config t.0)).0) (Some t.0) (f, (known, t.1)) (acceptors.fall_kept config a s.state (w.acceptors a) ((pr.acceptors a).0 q) t.0))
    | inr d ↦ falls_away d (table.durable (table.acceptor_take s.state m).0)
  ]

  -- it kept that it entered a later epoch; the list has its fall in the one that it left
  keeps_entered : (i : ℕ) → nat_lt i s.epoch ≡ false → AcceptorNext (entered s (suc i), None)
  keeps_entered i b = elim (nat_cases s.epoch e) [
    | inl q ↦
        let d = ltb-false i s.epoch b in (
          AcceptorFalls a None ∷ [],
          (f, known),
          (λ x at is own. acceptor_moved config e es w pr a (entered s (suc i), None) x at is own (core.acceptor_fall (T config e) a (w.acceptors a) None) None
              ((λ z. absurd (omega (arith, d, q, z))), (λ z. absurd (omega (arith, d, q, z)))) refl),
          λ x is. new_cast x (core.acceptor_fall (T config e) a (w.acceptors a) None) (had_then x q),
        )
    | inr d ↦ enters i b
  ]

  kept_one : (n : Stamped) → Among (messages es) n → AcceptorNext (fall s (durable (take s n).0), None)
  kept_one (Offered c) p = keeps (Proposed c) (λ q. pr.sent (Offered c) p (Proposed c) refl)
  kept_one (InEpoch i m) p = cond_cases (λ (u : AcceptorInEpoch × Option Stamped). AcceptorNext (fall s (durable u.0), None)) (nat_eq i s.epoch) (stepped s (table.acceptor_take s.state m)) (s, None)
      (λ b. keeps m (λ q. pr.sent (InEpoch i m) p m (eqb-true i s.epoch b ∙ q, refl)))
      (λ b. plain)
  kept_one (Final i l v) p = cond_cases (λ (u : AcceptorInEpoch). AcceptorNext (fall s (durable u), None)) (nat_lt i s.epoch) s (entered s (suc i)) (λ b. plain) (λ b. keeps_entered i b)

  pub falls : (what : Option Kept) → may_keep config (length (messages es)) (Acceptor a) what ≡ true → AcceptorNext (fall s (acceptor_kept s (messages es) what), None)
  falls None h = plain
  falls (Some (kept.Begin r)) h = absurd cc
  falls (Some (kept.Take k)) h =
      let n = stands_there (messages es) k (ltb-true k (length (messages es)) h) in
      subst (λ (o : Option Stamped). AcceptorNext (fall s (on_message (durable s) (λ m. durable (take s m).0) o), None)) (sym n.1) (kept_one n.0 n.2)
