-- The steps of a coordinator, in one epoch.
use Rattle.std.proofs.Common.{◌≡◌, ◌<◌, ℕ, suc, true, false, not, nat_eq, nat_lt, List, [], ◌∷◌, ◌++◌, Option, Some, None, filter, length, refl, sym, subst, ap, ◌∙◌, inl, inr, arith}
use Rattle.std.specs.Option.{option_to_list}
use Rattle.std.specs.FinSet as set
use Rattle.std.proofs.lemmas.Bool.{ltb-true, ltb-false, eqb-true}
use Rattle.gp_command.specs.declared.command.Command.{Command}
use Rattle.gp_history.specs.History.{History, has}
use Rattle.gp_round.specs.declared.round.Round.{Round}
use Rattle.gp_round.specs.Counts.{Counts}
use Rattle.gp_round.specs.Configs.{is_owner}
use Rattle.gp_msg.specs.declared.node.Node.TheVariants.{Coordinator}
use Rattle.gp_msg.specs.declared.event.Kept.{Kept}
use Rattle.gp_msg.specs.declared.event.Kept.TheVariants as kept
use Rattle.gp_msg.specs.Messages.{Message, Proposed, Stamped, Offered, InEpoch, Final, maybe_stamped, Entry}
use Rattle.gp_coordinator.specs.State.{CoordinatorState}
use Rattle.gp_coordinator.specs.Table as table
use Rattle.gp_msg.specs.Nodes.{node_of, may_keep}
use Rattle.gp_cstructs.specs.CStructs.{Among}
use Rattle.gp_cstructs.specs.Tables.{Propose, P1a, P1b, P2a, P2b}
use Rattle.gp_cstructs.specs.Coordinator as core
use Rattle.gp_cstructs.specs.Loose.{System, Event, Begin, CoordinatorTakes, CoordinatorFalls, run, Loose}
use Rattle.gp_cstructs.proofs.Lists.{cond_cases, nat_cases, stands_there}
use Rattle.gp_agreement.proofs.Told.{told}
use Rattle.gp_agreement.proofs.Coordinators as coordinators
use Rattle.gp_coordinator.specs.Epochs.{CoordinatorInEpoch, stepped, settled, entered, begin, take, durable, fall}
use Rattle.gp_run.specs.Messages.{messages, on_message}
use Rattle.gp_run.specs.States.{coordinator_kept, coordinator_at}
use Rattle.gp_agreement.proofs.Steps.{coordinator_own, coordinator_proposes_nothing, begin_proposes_nothing}
use Rattle.gp_agreement.proofs.Pending.{Stands}
use Rattle.gp_agreement.proofs.Projection.{T, M, IsLikeIn, CoordinatorAlike, Projects, AllForeign, none_foreign, away_foreign, coordinator_moved, coordinator_stays}

proposal_back : (config : Counts) (e : ℕ) (x : M config e) (c : Command) → told config x ≡ Proposed c → x ≡ Propose c
proposal_back config e (Propose d) c q = ap Propose (let r : d ≡ c = cc in r)
proposal_back config e (P1a r) c q = absurd cc
proposal_back config e (P1b r a i v) c q = absurd cc
proposal_back config e (P2a r b v) c q = absurd cc
proposal_back config e (P2b r a v) c q = absurd cc

module _ (config : Counts) (e : ℕ) (es : List Entry) (fs : List (Event (T config e))) (f : Loose (T config e) fs) (pr : Projects config e es (run (T config e) fs)) (c : ℕ) (known : c < config.coordinators)
    (stand : Stands (messages es) (coordinator_at config c es).state)
  where
    abbrev w : System (T config e)
    w = run (T config e) fs

    abbrev s : CoordinatorInEpoch
    s = coordinator_at config c es

    -- the list goes on as the coordinator does p
    abbrev pub CoordinatorNext : CoordinatorInEpoch × Option Stamped → Type 0
    CoordinatorNext p = (g : List (Event (T config e))) × Loose (T config e) (g ++ fs) × ((run (T config e) (g ++ fs)).cast ≡ w.cast)
        × ((x : Entry) → node_of x.event ≡ Coordinator c → coordinator_at config c (x ∷ es) ≡ p.0 → x.sent ≡ option_to_list p.1 → Projects config e (x ∷ es) (run (T config e) (g ++ fs)))

    stays : (p : CoordinatorInEpoch × Option Stamped) → CoordinatorAlike config e c p.0 (w.coordinators c) → AllForeign config e (option_to_list p.1) → CoordinatorNext p
    stays p like foreign = ([], f, refl, λ x at is own. coordinator_stays config e es w pr c p x at is own like foreign)

    idle : CoordinatorNext (s, None)
    idle = stays (s, None) (pr.coordinators c) (none_foreign config e)

    away : (s.epoch ≡ e → ⊥) → (u : CoordinatorState × Option Message) → ((d : Command) → u.1 ≡ Some (Proposed d) → ⊥) → CoordinatorNext (stepped s u)
    away d u h = stays (stepped s u) ((λ z. absurd (d z)), (pr.coordinators c).1) (away_foreign config e s.epoch d u.1 h)

    -- ---- steps in an epoch

    pub begins : (r : Round) → is_owner config.coordinators c r ≡ true → CoordinatorNext (begin s r)
    begins r owned = elim (nat_cases s.epoch e) [
      | inl q ↦
          let k = (pr.coordinators c).0 q in
          let fit = coordinators.begin_like config c s.state (record { core = w.coordinators c; pending = k.pending }) k.like r in (
            Begin c r ∷ [],
            (f, (known, owned)),
            refl,
            λ x at is own. coordinator_moved config e es w pr c (begin s r) x at is own
                (core.coordinator_begin (T config e) (w.coordinators c) r).0 (core.coordinator_begin (T config e) (w.coordinators c) r).1
                ((λ z. record { pending = k.pending; like = fit.0 }), (λ z. absurd (omega (arith, q, z)))) (λ j. maybe_stamped (q j) (fit.1 j)),
          )
      | inr d ↦ away d (table.coordinator_begin s.state r) (begin_proposes_nothing s.state r)
    ]

    -- what is pending was proposed in the list too
    proposed_there : (cs : List Command) → s.state.pending ≡ cs → (d : Command) → Among cs d → Among w.sent (Propose d)
    proposed_there cs q d m =
        let t = pr.sent (Offered d) (stand d (subst (λ (xs : List Command). Among xs d) (sym q) m)) (Proposed d) refl in
        subst (λ (x : M config e). Among w.sent x) (proposal_back config e t.0 d t.2) t.1

    home : s.epoch ≡ e → (y : M config e) → Among w.sent y → CoordinatorNext (stepped s (table.coordinator_take s.state (told config y)))
    home q y there =
        let k = (pr.coordinators c).0 q in
        let fit = coordinators.take_like config c s.state (record { core = w.coordinators c; pending = k.pending }) k.like y in (
          CoordinatorTakes c y k.pending ∷ [],
          (f, (known, there, proposed_there k.pending (ap (λ (u : CoordinatorState). u.pending) k.like.is))),
          refl,
          λ x at is own. coordinator_moved config e es w pr c (stepped s (table.coordinator_take s.state (told config y))) x at is own
              (core.coordinator_take (T config e) c (w.coordinators c) y k.pending).0 (core.coordinator_take (T config e) c (w.coordinators c) y k.pending).1
              ((λ z. record { pending = _; like = fit.0 }), (λ z. absurd (omega (arith, q, z)))) (λ j. maybe_stamped (q j) (fit.1 j)),
        )

    reads : (m : Message) → (s.epoch ≡ e → (y : M config e) × Among w.sent y × (told config y ≡ m)) → CoordinatorNext (stepped s (table.coordinator_take s.state m))
    reads m found = elim (nat_cases s.epoch e) [
      | inl q ↦ let t = found q in subst (λ (u : Message). CoordinatorNext (stepped s (table.coordinator_take s.state u))) t.2 (home q t.0 t.1)
      | inr d ↦ away d (table.coordinator_take s.state m) (coordinator_proposes_nothing s.state m)
    ]

    -- ---- closed epochs

    -- another list of what is pending changes nothing
    pending_like : (cs : List Command) (t : core.Coordinator (T config e)) → IsLikeIn config e c s.state t → IsLikeIn config e c (record s.state { pending = cs }) t
    pending_like cs t k = record {
      pending = cs;
      like = record { answers = k.like.answers; is = ap (λ (u : CoordinatorState). record u { pending = cs }) k.like.is; all = k.like.all; long = k.like.long };
    }

    settles : (v : History) → CoordinatorNext (settled s v, None)
    settles v = stays (settled s v, None) ((λ z. pending_like (filter (λ d. not (has v d)) s.state.pending) (w.coordinators c) ((pr.coordinators c).0 z)), (pr.coordinators c).1) (none_foreign config e)

    opening_like : (cs : List Command) → IsLikeIn config e c (record (table.opening config c) { pending = cs }) (core.coordinator_opening (T config e))
    opening_like cs =
        let o = coordinators.like_opening config c in
        record {
          pending = cs;
          like = record { answers = o.answers; is = ap (λ (u : CoordinatorState). record u { pending = cs }) o.is; all = o.all; long = o.long };
        }

    enters : (v : History) (i : ℕ) → nat_lt i s.epoch ≡ false → CoordinatorNext (entered (settled s v) (suc i), None)
    enters v i b =
        let d = ltb-false i s.epoch b in
        let k = coordinator_own config c es in
        stays (entered (settled s v) (suc i), None) (
          (λ z. subst (λ (t : core.Coordinator (T config e)). IsLikeIn config e c (entered (settled s v) (suc i)).state t) (sym ((pr.coordinators c).1 (omega (arith, d, z))))
              (subst (λ (u : CoordinatorState). IsLikeIn config e c u (core.coordinator_opening (T config e)))
              (λ j. record (table.opening (sym k.own_config j) (sym k.own_number j)) { pending = filter (λ x. not (has v x)) s.state.pending })
              (opening_like (filter (λ x. not (has v x)) s.state.pending)))),
          (λ z. (pr.coordinators c).1 (omega (arith, d, z))),
        ) (none_foreign config e)

    pub takes : (n : Stamped) → Among (messages es) n → CoordinatorNext (take s n)
    takes (Offered d) p = cond_cases CoordinatorNext (set.contains s.done d) (s, None) (stepped s (table.coordinator_take s.state (Proposed d))) (λ b. idle) (λ b. reads (Proposed d) (λ q. pr.sent (Offered d) p (Proposed d) refl))
    takes (InEpoch i m) p = cond_cases CoordinatorNext (nat_eq i s.epoch) (stepped s (table.coordinator_take s.state m)) (s, None)
        (λ b. reads m (λ q. pr.sent (InEpoch i m) p m (eqb-true i s.epoch b ∙ q, refl))) (λ b. idle)
    takes (Final i l v) p = cond_cases (λ (u : CoordinatorInEpoch). CoordinatorNext (u, None)) (nat_lt i s.epoch) (settled s v) (entered (settled s v) (suc i)) (λ b. settles v) (λ b. enters v i b)

    -- ---- falls

    falls_home : s.epoch ≡ e → (part : _) (k : core.Kept (T config e)) → Loose (T config e) (CoordinatorFalls c k ∷ fs) → coordinators.IsLike config c (table.coordinator_fall s.state part) (record { core = core.coordinator_fall (T config e) c (w.coordinators c) k; pending = [] })
        → CoordinatorNext (fall s (record { epoch = s.epoch; part = part }), None)
    falls_home q part k loose like = (
      CoordinatorFalls c k ∷ [],
      loose,
      refl,
      λ x at is own. coordinator_moved config e es w pr c (fall s (record { epoch = s.epoch; part = part }), None) x at is own
          (core.coordinator_fall (T config e) c (w.coordinators c) k) None ((λ z. record { pending = []; like = like }), (λ z. absurd (omega (arith, q, z)))) refl,
    )

    falls_away : (s.epoch ≡ e → ⊥) → (part : _) → CoordinatorNext (fall s (record { epoch = s.epoch; part = part }), None)
    falls_away d part = stays (fall s (record { epoch = s.epoch; part = part }), None) ((λ z. absurd (d z)), (pr.coordinators c).1) (none_foreign config e)

    plain : CoordinatorNext (fall s (durable s), None)
    plain = elim (nat_cases s.epoch e) [
      | inl q ↦
          let k = (pr.coordinators c).0 q in
          falls_home q (table.durable s.state) core.KeptNothing (f, (known, tt)) (coordinators.fall_plain config c s.state (record { core = w.coordinators c; pending = k.pending }) k.like)
      | inr d ↦ falls_away d (table.durable s.state)
    ]

    kept_begin : (r : Round) → is_owner config.coordinators c r ≡ true → CoordinatorNext (fall s (durable (begin s r).0), None)
    kept_begin r owned = elim (nat_cases s.epoch e) [
      | inl q ↦
          let k = (pr.coordinators c).0 q in
          falls_home q (table.durable (table.coordinator_begin s.state r).0) (core.KeptBegin r) (f, (known, owned)) (coordinators.fall_begin config c s.state (record { core = w.coordinators c; pending = k.pending }) k.like r)
      | inr d ↦ falls_away d (table.durable (table.coordinator_begin s.state r).0)
    ]

    keeps : (m : Message) → (s.epoch ≡ e → (y : M config e) × Among w.sent y × (told config y ≡ m)) → CoordinatorNext (fall s (record { epoch = s.epoch; part = table.durable (table.coordinator_take s.state m).0 }), None)
    keeps m found = elim (nat_cases s.epoch e) [
      | inl q ↦
          let t = found q in
          let k = (pr.coordinators c).0 q in
          subst (λ (u : Message). CoordinatorNext (fall s (record { epoch = s.epoch; part = table.durable (table.coordinator_take s.state u).0 }), None)) t.2
          (falls_home q (table.durable (table.coordinator_take s.state (told config t.0)).0) (core.KeptTake t.0) (f, (known, t.1)) (coordinators.fall_take config c s.state (record { core = w.coordinators c; pending = k.pending }) k.like t.0))
      | inr d ↦ falls_away d (table.durable (table.coordinator_take s.state m).0)
    ]

    -- what is forgotten with a fall does not matter
    keeps_settled : (v : History) → CoordinatorNext (fall s (durable (settled s v)), None)
    keeps_settled v = plain

    -- it kept that it entered a later epoch; the list has its fall in the one that it left
    keeps_entered : (v : History) (i : ℕ) → nat_lt i s.epoch ≡ false → CoordinatorNext (fall s (durable (entered (settled s v) (suc i))), None)
    keeps_entered v i b =
        let d = ltb-false i s.epoch b in
        elim (nat_cases s.epoch e) [
          | inl q ↦ (
            CoordinatorFalls c core.KeptNothing ∷ [],
            (f, (known, tt)),
            refl,
            λ x at is own. coordinator_moved config e es w pr c (fall s (durable (entered (settled s v) (suc i))), None) x at is own (core.coordinator_fall (T config e) c (w.coordinators c) core.KeptNothing) None
                ((λ z. absurd (omega (arith, d, q, z))), (λ z. absurd (omega (arith, d, q, z)))) refl,
          )
          | inr n ↦
              let k = coordinator_own config c es in
              stays (fall s (durable (entered (settled s v) (suc i))), None) (
                (λ z. subst (λ (t : core.Coordinator (T config e)). IsLikeIn config e c (fall s (durable (entered (settled s v) (suc i)))).state t) (sym ((pr.coordinators c).1 (omega (arith, d, z))))
                    (subst (λ (u : CoordinatorState). IsLikeIn config e c u (core.coordinator_opening (T config e))) (λ j. record (table.opening (sym k.own_config j) (sym k.own_number j)) { pending = [] }) (opening_like []))),
                (λ z. (pr.coordinators c).1 (omega (arith, d, z))),
              ) (none_foreign config e)
        ]

    kept_one : (n : Stamped) → Among (messages es) n → CoordinatorNext (fall s (durable (take s n).0), None)
    kept_one (Offered d) p = cond_cases (λ (u : CoordinatorInEpoch × Option Stamped). CoordinatorNext (fall s (durable u.0), None)) (set.contains s.done d) (s, None) (stepped s (table.coordinator_take s.state (Proposed d)))
        (λ b. plain) (λ b. keeps (Proposed d) (λ q. pr.sent (Offered d) p (Proposed d) refl))
    kept_one (InEpoch i m) p = cond_cases (λ (u : CoordinatorInEpoch × Option Stamped). CoordinatorNext (fall s (durable u.0), None)) (nat_eq i s.epoch) (stepped s (table.coordinator_take s.state m)) (s, None)
        (λ b. keeps m (λ q. pr.sent (InEpoch i m) p m (eqb-true i s.epoch b ∙ q, refl))) (λ b. plain)
    kept_one (Final i l v) p = cond_cases (λ (u : CoordinatorInEpoch). CoordinatorNext (fall s (durable u), None)) (nat_lt i s.epoch) (settled s v) (entered (settled s v) (suc i)) (λ b. keeps_settled v) (λ b. keeps_entered v i b)

    pub falls : (what : Option Kept) → may_keep config (length (messages es)) (Coordinator c) what ≡ true → CoordinatorNext (fall s (coordinator_kept s (messages es) what), None)
    falls None h = plain
    falls (Some (kept.Begin r)) h = kept_begin r h
    falls (Some (kept.Take k)) h =
        let n = stands_there (messages es) k (ltb-true k (length (messages es)) h) in
        subst (λ (o : Option Stamped). CoordinatorNext (fall s (on_message (durable s) (λ m. durable (take s m).0) o), None)) (sym n.1) (kept_one n.0 n.2)
