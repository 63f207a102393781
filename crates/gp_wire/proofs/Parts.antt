-- Seats that are split and joined, the first seat, and the last.
use Rattle.std.proofs.Common.{◌≡◌, ℕ, zero, suc, ◌<◌, ◌≤◌, ◌≢◌, ◌⊎◌, List, [], ◌∷◌, ◌++◌, length, set, sym, refl, ap, ◌∙◌, subst, inl, inr, ⊎_elim, arith, Option, Some, None, length-set, true, false, Bool, cond, ltb}
use Rattle.std.proofs.lemmas.Bool.{cases_lt, lt-ltb, le-ltb}
use Rattle.std.proofs.lemmas.List.{append-nil}
use mathlib.Core.Logic.{dite}
use mathlib.Core.Option as maybe
use mathlib.Core.Option.{some-injective}
use native.Mathlib.Decide.{ℕ_discrete}
use lib.ListN.{get_elem?}
use Rattle.atomic_table.specs.Table.{State, Splits, Joins, opening}
use Rattle.atomic_table.proofs.Lists.{at_set, set_else, at_longer}
use Rattle.gp_msg.specs.declared.node.Node.{Node}
use Rattle.gp_msg.specs.declared.record.Record.{Record}
use Rattle.gp_wire.specs.declared.view.Post.{Post}
use Rattle.gp_wire.specs.declared.view.Old.{Old}
use Rattle.gp_wire.specs.declared.view.View.{View}
use Rattle.gp_wire.specs.declared.view.Standing.TheVariants.{Idle}
use Rattle.gp_wire.specs.Lists.{Each, Has}
use Rattle.gp_wire.specs.Rule.{Slot, view, newcomer, IsForeign, IsLater, IsBelow, Knows, Begins, Stands, ticket, tickets, NotServing, Kept}
use Rattle.gp_wire.specs.Told.{longer, later, all_of, joined, nobody}
use Rattle.gp_wire.proofs.Words.{each_front, each_back, each_map, at_end, at_within, has_left, has_right, has_either, waiting_set, waiting_append}
use Rattle.gp_wire.proofs.Keeps.{at_one, set_there}

-- of two beginnings of one list the shorter begins the longer
pub prefix : {A : Type 0} (a ra b rb : List A) → a ++ ra ≡ b ++ rb → length a ≤ length b → (mid : List A) × (b ≡ a ++ mid) × (ra ≡ mid ++ rb)
prefix [] ra b rb e l = (b, refl, e)
prefix (x ∷ a) ra [] rb e l = absurd (omega arith)
prefix (x ∷ a) ra (y ∷ b) rb e l = let tails : a ++ ra ≡ b ++ rb = cc in let heads : x ≡ y = cc in let r = prefix a ra b rb tails (omega arith) in
    (r.0, (λ i. sym heads i ∷ r.1 i), r.2)

later_both : (t u : Option ℕ) (e : Post) → IsLater t e → IsLater u e → IsLater (later t u) e
later_both None u e a b = b
later_both (Some t) None e a b = a
later_both (Some t) (Some u) e a b = choose (ltb t u)
  where
    choose : (c : Bool) → IsLater (Some (cond c u t)) e
    choose true = b
    choose false = a

below_both : (t u : Option ℕ) (n : ℕ) → IsBelow t n → IsBelow u n → IsBelow (later t u) n
below_both None u n a b = b
below_both (Some t) None n a b = a
below_both (Some t) (Some u) n a b = choose (ltb t u)
  where
    choose : (c : Bool) → IsBelow (Some (cond c u t)) n
    choose true = b
    choose false = a

abbrev old_of : List Node → List Post → Option ℕ → Old
old_of ns a t = record { nodes = ns; seen = a; turn = t }

pub record Together (log : List Post) (ns ms : List Node) (t u : Option ℕ) (a b whole : List Post) : Type 0 where
  pub knows : Knows log (ns ++ ms) (later t u) whole
  pub one : Begins whole (old_of ns a t)
  pub two : Begins whole (old_of ms b u)

both_foreign : (ns ms : List Node) (es : List Post) → Each (IsForeign ns) es → Each (IsForeign ms) es → Each (IsForeign (ns ++ ms)) es
both_foreign ns ms [] a b = tt
both_foreign ns ms (e ∷ es) a b = (λ has. ⊎_elim a.0 b.0 (has_either e.item.node ns ms has), both_foreign ns ms es a.1 b.1)

both_later : (t u : Option ℕ) (es : List Post) → Each (IsLater t) es → Each (IsLater u) es → Each (IsLater (later t u)) es
both_later t u [] a b = tt
both_later t u (e ∷ es) a b = (later_both t u e a.0 b.0, both_later t u es a.1 b.1)

pub together : (log : List Post) (ns ms : List Node) (t u : Option ℕ) (a b : List Post) → Knows log ns t a → Knows log ms u b → Together log ns ms t u a b (longer a b)
together log ns ms t u a b ka kb = dite_lt (cases_lt (length a) (length b))
  where
    first : (mid : List Post) → b ≡ a ++ mid → ka.rest ≡ mid ++ kb.rest → Together log ns ms t u a b b
    first mid is rest = let fa = subst (Each (IsForeign ns)) rest ka.foreign in let la = subst (Each (IsLater t)) rest ka.later in record {
      knows = record { rest = kb.rest; split = kb.split; foreign = both_foreign ns ms kb.rest (each_back (IsForeign ns) mid kb.rest fa) kb.foreign; later = both_later t u kb.rest (each_back (IsLater t) mid kb.rest la) kb.later };
      one = record { rest = mid; split = is; foreign = each_front (IsForeign ns) mid kb.rest fa; later = each_front (IsLater t) mid kb.rest la };
      two = record { rest = []; split = sym (append-nil b); foreign = tt; later = tt };
    }

    second : (mid : List Post) → a ≡ b ++ mid → kb.rest ≡ mid ++ ka.rest → Together log ns ms t u a b a
    second mid is rest = let fb = subst (Each (IsForeign ms)) rest kb.foreign in let lb = subst (Each (IsLater u)) rest kb.later in record {
      knows = record { rest = ka.rest; split = ka.split; foreign = both_foreign ns ms ka.rest ka.foreign (each_back (IsForeign ms) mid ka.rest fb); later = both_later t u ka.rest ka.later (each_back (IsLater u) mid ka.rest lb) };
      one = record { rest = []; split = sym (append-nil a); foreign = tt; later = tt };
      two = record { rest = mid; split = is; foreign = each_front (IsForeign ms) mid ka.rest fb; later = each_front (IsLater u) mid ka.rest lb };
    }

    dite_lt : (length a < length b) ⊎ (length b ≤ length a) → Together log ns ms t u a b (longer a b)
    dite_lt (inl l) = let p = prefix a ka.rest b kb.rest (sym ka.split ∙ kb.split) (omega arith) in
        subst (λ c. Together log ns ms t u a b (cond c b a)) (sym (lt-ltb (length a) (length b) l)) (first p.0 p.1 p.2)
    dite_lt (inr l) = let p = prefix b kb.rest a ka.rest (sym kb.split ∙ ka.split) l in
        subst (λ c. Together log ns ms t u a b (cond c b a)) (sym (le-ltb (length a) (length b) l)) (second p.0 p.1 p.2)

module _ (L : List Record → Record → Type 0) (all : List Node) where
  abbrev St : Type 0
  St = State Slot View

  abbrev Rule : St → Type 0
  Rule = Kept L all

  -- what holds of each seat, where one has changed and one has come
  two_stay : (P : ℕ → View → Type 0) (vs : List View) (id : ℕ) (l r : View) → P id l → P (length vs) r → ((j : ℕ) (u : View) → j ≢ id → get_elem? vs j ≡ maybe.some u → P j u)
      → (j : ℕ) (u : View) → get_elem? (set vs id l ++ r ∷ []) j ≡ maybe.some u → P j u
  two_stay P vs id l r left right theirs j u e = ⊎_elim
      (λ (t : (j < length (set vs id l)) × (get_elem? (set vs id l) j ≡ maybe.some u)). ⊎_elim
      (λ (a : (j ≡ id) × (l ≡ u)). subst (λ (x : ℕ × View). P x.0 x.1) (λ i. (sym a.0 i, a.1 i)) left)
      (λ (a : (j ≢ id) × (get_elem? vs j ≡ maybe.some u)). theirs j u a.0 a.1) (at_set vs id j l u t.1))
      (λ (t : (j ≡ length (set vs id l)) × (r ≡ u)). subst (λ (x : ℕ × View). P x.0 x.1) (λ i. (sym (t.0 ∙ length-set vs id l) i, t.1 i)) right)
      (at_end (set vs id l) r u j e)

  -- a seat with no ticket and no old list is cut in two
  pub cuts : (id : ℕ) (v : View) (ns ms : List Node) → v.standing ≡ Idle → v.olds ≡ []
      → ((n : Node) → Has n ns → Has n v.nodes) → ((n : Node) → Has n ms → Has n v.nodes) → ((n : Node) → Has n ns → Has n ms → ⊥) → ((n : Node) → Has n v.nodes → Has n ns ⊎ Has n ms)
      → Splits Rule id v (view v.all ns v.seen v.standing v.turn v.olds) (view v.all ms v.seen Idle v.turn [])
  cuts id v ns ms idle none_old sub_l sub_r apart cover s k at =
      let l : View = view v.all ns v.seen v.standing v.turn v.olds in let r : View = view v.all ms v.seen Idle v.turn [] in let vs : List View = s.views in
      let know = k.knows id v at in let here : id < length vs = at_within vs v id at in
      let fresh : (j : ℕ) (u : View) → get_elem? vs j ≡ maybe.some u → j ≢ length vs = λ j u e same. let inside = at_within vs u j e in omega arith in
      let is_idle : tickets v.standing ≡ 0 = ap tickets idle in
      let same_set = waiting_set vs id v l at in let sum = waiting_append (set vs id l) (r ∷ []) in let c = k.counted in record {
        log = k.log;
        next = k.next;
        serving = k.serving;
        words = k.words;
        room = k.room;
        lawful = k.lawful;
        ours = k.ours;
        ascends = k.ascends;
        numbered = k.numbered;
        counted = omega arith;
        knows = two_stay (λ _ u. Knows k.log u.nodes u.turn u.seen) vs id l r
            (record { rest = know.rest; split = know.split; foreign = each_map (IsForeign v.nodes) (IsForeign ns) know.rest (λ e not has. not (sub_l e.item.node has)) know.foreign; later = know.later })
            (record { rest = know.rest; split = know.split; foreign = each_map (IsForeign v.nodes) (IsForeign ms) know.rest (λ e not has. not (sub_r e.item.node has)) know.foreign; later = know.later })
            (λ j u _ e. k.knows j u e);
        below = two_stay (λ _ u. IsBelow u.turn k.serving) vs id l r (k.below id v at) (k.below id v at) (λ j u _ e. k.below j u e);
        stands = two_stay (λ _ u. Stands k.log k.next k.serving s.homes u u.standing) vs id l r
            (subst (Stands k.log k.next k.serving s.homes l) (sym idle) (subst (λ os. Each (Begins v.seen) os) (sym none_old) tt)) tt (λ j u _ e. k.stands j u e);
        one_ticket = λ i j a b t ai bj ta tb. two_stay (λ x y. ticket y.standing ≡ Some t → x ≡ j) vs id l r
            (λ tl. let none = sym (ap ticket idle) ∙ tl in cc) (λ tr. cc)
            (λ x y n e ty. two_stay (λ p q. ticket q.standing ≡ Some t → x ≡ p) vs id l r (λ tl. let none = sym (ap ticket idle) ∙ tl in cc) (λ tr. cc) (λ p q n' e' tq. k.one_ticket x p y q t e e' ty tq) j b bj tb)
            i a ai ta;
        one_holder = λ i j a b n ai bj ha hb. two_stay (λ x y. Has n y.nodes → x ≡ j) vs id l r
            (λ hl. two_stay (λ p q. Has n q.nodes → id ≡ p) vs id l r (λ _. refl) (λ hr. absurd (apart n hl hr)) (λ p q _ e hq. k.one_holder id p v q n at e (sub_l n hl) hq) j b bj hb)
            (λ hr. two_stay (λ p q. Has n q.nodes → length vs ≡ p) vs id l r (λ hl. absurd (apart n hl hr)) (λ _. refl) (λ p q other e hq. absurd (other (sym (k.one_holder id p v q n at e (sub_r n hr) hq)))) j b bj hb)
            (λ x y other e hy. two_stay (λ p q. Has n q.nodes → x ≡ p) vs id l r
            (λ hl. k.one_holder x id y v n e at hy (sub_l n hl)) (λ hr. absurd (other (k.one_holder x id y v n e at hy (sub_r n hr)))) (λ p q _ e' hq. k.one_holder x p y q n e e' hy hq) j b bj hb)
            i a ai ha;
        inside = λ i u n e h. two_stay (λ _ x. Has n x.nodes → Has n all) vs id l r (λ hl. k.inside id v n at (sub_l n hl)) (λ hr. k.inside id v n at (sub_r n hr)) (λ j x _ ex. k.inside j x n ex) i u e h;
        told = λ i u n e h. two_stay (λ _ x. Has n x.nodes → x.all ≡ all) vs id l r (λ hl. k.told id v n at (sub_l n hl)) (λ hr. k.told id v n at (sub_r n hr)) (λ j x _ ex. k.told j x n ex) i u e h;
        held = λ n h. let was = k.held n h in let i : ℕ = was.0 in let u : View = was.1 in dite (ℕ_discrete i id)
            (λ same. let is : v ≡ u = at_one vs id v u at (subst (λ x. get_elem? vs x ≡ maybe.some u) same was.2) in
            ⊎_elim (λ hl. (id, l, at_longer (set vs id l) (r ∷ []) id l (set_there vs id v l at), hl))
            (λ hr. (length (set vs id l), r, last_one (set vs id l) r, hr)) (cover n (subst (λ (x : View). Has n x.nodes) (sym is) was.3)))
            (λ other. (i, u, at_longer (set vs id l) (r ∷ []) i u (set_else vs id i l other ∙ was.2), was.3));
        at_rest = λ none. k.at_rest (λ j u e. dite (ℕ_discrete j id)
            (λ same. let is : v ≡ u = at_one vs id v u at (subst (λ x. get_elem? vs x ≡ maybe.some u) same e) in subst (λ (x : View). NotServing x.standing) is (subst NotServing (sym idle) tt))
            (λ other. none j u (at_longer (set vs id l) (r ∷ []) j u (set_else vs id j l other ∙ e))));
      }
    where
      last_one : (l : List View) (a : View) → get_elem? (l ++ a ∷ []) (length l) ≡ maybe.some a
      last_one [] a = refl
      last_one (x ∷ xs) a = last_one xs a

  -- the first seat
  pub opens : (nodes : List Node) → nodes ≡ all → Rule (opening (0 ∷ 0 ∷ 0 ∷ []) (Some [] ∷ []) (newcomer nodes))
  opens nodes is = record {
    log = [];
    next = 0;
    serving = 0;
    words = refl;
    room = omega arith;
    lawful = tt;
    ours = tt;
    ascends = tt;
    numbered = tt;
    counted = refl;
    knows = λ i v e. only (λ _ u. Knows [] u.nodes u.turn u.seen) i v (record { rest = []; split = refl; foreign = tt; later = tt }) e;
    below = λ i v e. only (λ _ u. IsBelow u.turn 0) i v tt e;
    stands = λ i v e. only (λ _ u. Stands [] 0 0 (maybe.some (Some []) ∷ []) u u.standing) i v tt e;
    one_ticket = λ i j a b t ai bj ta tb. sym (first i a ai) ∙ first j b bj;
    one_holder = λ i j a b n ai bj ha hb. sym (first i a ai) ∙ first j b bj;
    inside = λ i u n e h. only (λ _ x. Has n x.nodes → Has n all) i u (subst (Has n) is) e h;
    told = λ i u n e h. only (λ _ x. Has n x.nodes → x.all ≡ all) i u (λ _. is) e h;
    held = λ n h. (0, newcomer nodes, refl, subst (Has n) (sym is) h);
    at_rest = λ _. (refl, tt);
  }
    where
      first : (i : ℕ) (u : View) → get_elem? (newcomer nodes ∷ []) i ≡ maybe.some u → 0 ≡ i
      first zero u e = refl
      first (suc i) u e = absurd (maybe.some-ne-none u (sym e))

      only : (P : ℕ → View → Type 0) (i : ℕ) (u : View) → P 0 (newcomer nodes) → get_elem? (newcomer nodes ∷ []) i ≡ maybe.some u → P i u
      only P zero u p e = subst (P 0) (some-injective (newcomer nodes) u e) p
      only P (suc i) u p e = absurd (maybe.some-ne-none u (sym e))

  -- a seat takes in another's list, turn and nodes, neither with a ticket or old lists
  pub joins : (id : ℕ) (v : View) (other : ℕ) (w : View) → v.standing ≡ Idle → w.standing ≡ Idle → Joins Rule id v other w (joined v w) nobody
  joins id v other w idle idle_too s k at apart there =
      let both : View = joined v w in let vs : List View = s.views in
      let there' : get_elem? vs other ≡ maybe.some w = sym (set_else vs id other both apart) ∙ there in
      let t = together k.log v.nodes w.nodes v.turn w.turn v.seen w.seen (k.knows id v at) (k.knows other w there') in
      let a : tickets v.standing ≡ 0 = ap tickets idle in let b : tickets w.standing ≡ 0 = ap tickets idle_too in
      let one = waiting_set vs id v both at in let two = waiting_set (set vs id both) other w nobody there in let c = k.counted in record {
        log = k.log;
        next = k.next;
        serving = k.serving;
        words = k.words;
        room = k.room;
        lawful = k.lawful;
        ours = k.ours;
        ascends = k.ascends;
        numbered = k.numbered;
        counted = omega arith;
        knows = stay (λ _ u. Knows k.log u.nodes u.turn u.seen) t.knows (record { rest = k.log; split = refl; foreign = every k.log (λ e none. none); later = every_later k.log }) (λ j u _ _ e. k.knows j u e);
        below = stay (λ _ u. IsBelow u.turn k.serving) (below_both v.turn w.turn k.serving (k.below id v at) (k.below other w there')) tt (λ j u _ _ e. k.below j u e);
        stands = stay (λ _ u. Stands k.log k.next k.serving s.homes u u.standing) (t.one, (t.two, tt)) tt (λ j u _ _ e. k.stands j u e);
        one_ticket = λ i j p q n ai bj tp tq. stay (λ x y. ticket y.standing ≡ Some n → x ≡ j) (λ t. cc) (λ t. cc)
            (λ x y _ _ e ty. stay (λ z u. ticket u.standing ≡ Some n → x ≡ z) (λ t. cc) (λ t. cc) (λ z u _ _ e' tu. k.one_ticket x z y u n e e' ty tu) j q bj tq) i p ai tp;
        one_holder = λ i j p q n ai bj hp hq. stay (λ x y. Has n y.nodes → x ≡ j)
            (λ hb. stay (λ z u. Has n u.nodes → id ≡ z) (λ _. refl) (λ none. absurd none) (λ z u na nb e hu. third vs k n z u na nb e hu hb) j q bj hq)
            (λ none. absurd none)
            (λ x y na nb e hy. stay (λ z u. Has n u.nodes → x ≡ z) (λ hb. sym (third vs k n x y na nb e hy hb)) (λ none. absurd none) (λ z u _ _ e' hu. k.one_holder x z y u n e e' hy hu) j q bj hq)
            i p ai hp;
        inside = λ i u n e h. stay (λ _ x. Has n x.nodes → Has n all) (λ hb. ⊎_elim (k.inside id v n at) (k.inside other w n there') (has_either n v.nodes w.nodes hb)) (λ none. absurd none) (λ j x _ _ ex. k.inside j x n ex) i u e h;
        told = λ i u n e h. stay (λ _ x. Has n x.nodes → x.all ≡ all) (λ hb. either_all v.nodes v.all w.all n hb (k.told id v) (k.told other w) at there') (λ none. absurd none) (λ j x _ _ ex. k.told j x n ex) i u e h;
        held = λ n h. let was = k.held n h in let i : ℕ = was.0 in let u : View = was.1 in dite (ℕ_discrete i other)
            (λ same. let is : w ≡ u = at_one vs other w u there' (subst (λ x. get_elem? vs x ≡ maybe.some u) same was.2) in
            (id, both, both_there, has_right n v.nodes w.nodes (subst (λ (x : View). Has n x.nodes) (sym is) was.3)))
            (λ not_other. dite (ℕ_discrete i id)
            (λ same. let is : v ≡ u = at_one vs id v u at (subst (λ x. get_elem? vs x ≡ maybe.some u) same was.2) in
            (id, both, both_there, has_left n v.nodes w.nodes (subst (λ (x : View). Has n x.nodes) (sym is) was.3)))
            (λ not_id. (i, u, set_else (set vs id both) other i nobody not_other ∙ (set_else vs id i both not_id ∙ was.2), was.3)));
        at_rest = λ none. k.at_rest (λ j u e. dite (ℕ_discrete j id)
            (λ same. let is : v ≡ u = at_one vs id v u at (subst (λ x. get_elem? vs x ≡ maybe.some u) same e) in subst (λ (x : View). NotServing x.standing) is (subst NotServing (sym idle) tt))
            (λ not_id. dite (ℕ_discrete j other)
            (λ same. let is : w ≡ u = at_one vs other w u there' (subst (λ x. get_elem? vs x ≡ maybe.some u) same e) in subst (λ (x : View). NotServing x.standing) is (subst NotServing (sym idle_too) tt))
            (λ not_other. none j u (set_else (set vs id both) other j nobody not_other ∙ (set_else vs id j both not_id ∙ e)))));
      }
    where
      either_all : (ns a b : List Node) (n : Node) → Has n (ns ++ w.nodes) → ((n : Node) → get_elem? s.views id ≡ maybe.some v → Has n ns → a ≡ all) → ((n : Node) → get_elem? s.views other ≡ maybe.some w → Has n w.nodes → b ≡ all)
          → get_elem? s.views id ≡ maybe.some v → get_elem? s.views other ≡ maybe.some w → all_of ns a b ≡ all
      either_all [] a b n h f g x y = g n y h
      either_all (m ∷ ms) a b n h f g x y = f m x (inl refl)

      every : (es : List Post) → ((e : Post) → IsForeign [] e) → Each (IsForeign []) es
      every [] f = tt
      every (e ∷ es) f = (f e, every es f)

      every_later : (es : List Post) → Each (IsLater None) es
      every_later [] = tt
      every_later (e ∷ es) = (tt, every_later es)

      stay : (P : ℕ → View → Type 0) → P id (joined v w) → P other nobody → ((j : ℕ) (u : View) → j ≢ id → j ≢ other → get_elem? s.views j ≡ maybe.some u → P j u)
          → (j : ℕ) (u : View) → get_elem? (set (set s.views id (joined v w)) other nobody) j ≡ maybe.some u → P j u
      stay P mine spent theirs j u e = ⊎_elim
          (λ (t : (j ≡ other) × (nobody ≡ u)). subst (λ (x : ℕ × View). P x.0 x.1) (λ i. (sym t.0 i, t.1 i)) spent)
          (λ (t : (j ≢ other) × (get_elem? (set s.views id (joined v w)) j ≡ maybe.some u)). ⊎_elim
          (λ (a : (j ≡ id) × (joined v w ≡ u)). subst (λ (x : ℕ × View). P x.0 x.1) (λ i. (sym a.0 i, a.1 i)) mine)
          (λ (a : (j ≢ id) × (get_elem? s.views j ≡ maybe.some u)). theirs j u a.0 t.0 a.1) (at_set s.views id j (joined v w) u t.1))
          (at_set (set s.views id (joined v w)) other j nobody u e)

      third : (vs : List View) (k : Rule s) (n : Node) (j : ℕ) (u : View) → j ≢ id → j ≢ other → get_elem? s.views j ≡ maybe.some u → Has n u.nodes → Has n (v.nodes ++ w.nodes) → id ≡ j
      third vs k n j u na nb e hu hb = absurd (⊎_elim (λ hv. na (k.one_holder j id u v n e at hu hv))
          (λ hw. nb (k.one_holder j other u w n e (sym (set_else s.views id other (joined v w) apart) ∙ there) hu hw)) (has_either n v.nodes w.nodes hb))

      both_there : get_elem? (set (set s.views id (joined v w)) other nobody) id ≡ maybe.some (joined v w)
      both_there = set_else (set s.views id (joined v w)) other id nobody (λ e. apart (sym e)) ∙ set_there s.views id v (joined v w) at
