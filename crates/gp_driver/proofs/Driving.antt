-- What drivers do to stages, one call after another.
use Rattle.std.proofs.Common.{◌≡◌, ℕ, zero, suc, ◌+◌, ◌<◌, ◌≤◌, Bool, true, false, cond, ◌&&◌, List, [], ◌∷◌, ◌++◌, length, Some, inl, inr, refl, sym, ap, ◌∙◌, subst, arith, append_assoc}
use Rattle.std.specs.Prelude.{take, drop, slice_get, nat_lt}
use Rattle.std.proofs.lemmas.List.{append-nil, length-append}
use Rattle.std.proofs.lemmas.Bool.{cases_eq, lt-ltb}
use Rattle.gp_round.specs.Counts.{Counts}
use Rattle.gp_msg.specs.declared.node.Node.{Node}
use Rattle.gp_msg.specs.declared.event.Event.{Event}
use Rattle.gp_msg.specs.Messages.{Stamped, Entry}
use Rattle.gp_msg.specs.declared.message.MsgKind.{MsgKind}
use Rattle.gp_run.specs.Messages.{messages}
use Rattle.gp_run.specs.Legal.{fits, sent_at}
use Rattle.gp_run.specs.Runs.{entry_after, run_onto}
use Rattle.gp_msg.specs.declared.event.Event.TheVariants.{Take}
use Rattle.gp_msg.specs.Nodes.{is_present}
use Rattle.gp_driver.specs.Sweeps.{is_of, is_there, places_from, first_place, places, takes, swept}
use Rattle.gp_driver.proofs.TakingAll.{grown, drop-at, there_is}
use native.Mathlib.Numerals.{add-one}

-- ---- sweeps

-- the messages that a run adds
more_messages : (config : Counts) (es : List Entry) (events : List Event) → (more : List Stamped) × (messages (run_onto config es events) ≡ messages es ++ more)
more_messages config es [] = ([], sym (append-nil (messages es)))
more_messages config es (event ∷ events) =
    let r = more_messages config (entry_after config es event ∷ es) events in
    (sent_at config es event ++ r.0, r.1 ∙ append_assoc (messages es) (sent_at config es event) r.0)

pub swept_messages : (config : Counts) (node : ℕ → Node) (n : ℕ) (ks : List ℕ) (es : List Entry) → (more : List Stamped) × (messages (swept config node n ks es) ≡ messages es ++ more)
swept_messages config node zero ks es = ([], sym (append-nil (messages es)))
swept_messages config node (suc n) ks es =
    let a = swept_messages config node n ks es in
    let b = more_messages config (swept config node n ks es) (takes (node n) ks) in
    (a.0 ++ b.0, b.1 ∙ ap (λ ms. ms ++ b.0) a.1 ∙ append_assoc (messages es) a.0 b.0)

pub swept_grows : (config : Counts) (node : ℕ → Node) (i n : ℕ) (ks : List ℕ) (es : List Entry) → i ≤ n → length (swept config node i ks es) ≤ length (swept config node n ks es)
swept_grows config node zero zero ks es h = omega arith
swept_grows config node (suc i) zero ks es h = absurd (omega (arith, h))
swept_grows config node i (suc n) ks es h = elim (cases_eq i (suc n)) [
  | inl e ↦ subst (λ j. length (swept config node i ks es) ≤ length (swept config node j ks es)) e (omega arith)
  | inr e ↦ let r = swept_grows config node i n ks es (omega (arith, h, e)) in let g = grown config (swept config node n ks es) (takes (node n) ks) in omega (arith, r, g)
]

-- the first i nodes are through
pub record Sweeping (config config_now : Counts) (es now : List Entry) (faults faults_now : ℕ) (ready : Type 0) (node : ℕ → Node) (ks : List ℕ) (i taken : ℕ) : Type 0 where
  pub same_config : config_now ≡ config
  pub steady : faults_now ≡ faults
  pub is_ready : ready
  pub done : now ≡ swept config node i ks es
  pub entries : length now ≡ length es + taken

pub take_all_of : {X : Type 0} (xs ys : List X) → take (length xs) (xs ++ ys) ≡ xs
take_all_of [] ys = refl
take_all_of (x ∷ xs) ys = ap (λ zs. x ∷ zs) (take_all_of xs ys)

module _ (config config_now : Counts) (es now : List Entry) (f0 f1 : ℕ) (ready : Type 0) (node : ℕ → Node) (ks : List ℕ) (i taken : ℕ) (s : Sweeping config config_now es now f0 f1 ready node ks i taken) where
  first_ones : take (length (messages es)) (messages now) ≡ messages es
  first_ones = let m = swept_messages config node i ks es in ap (λ zs. take (length (messages es)) (messages zs)) s.done ∙ ap (take (length (messages es))) m.1 ∙ take_all_of (messages es) m.0

  pub sweeping_within : length (messages es) ≤ length (messages now)
  sweeping_within = let m = swept_messages config node i ks es in let a = ap (λ zs. length (messages zs)) s.done in let b = ap length m.1 in let c = length-append (messages es) m.0 in omega (arith, a, b, c)

  pub sweeping_on : (kind : MsgKind) (start end : ℕ) (n : Node) → end ≡ length (messages es) → n ≡ node i → ks ≡ places kind start (messages es)
      → run_onto config_now now (takes n (places kind start (take end (messages now)))) ≡ swept config node (suc i) ks es
  sweeping_on kind start end n e q k =
      (λ j. run_onto (s.same_config j) now (takes (q j) (places kind start (take (e j) (messages now)))))
      ∙ (λ j. run_onto config (s.done j) (takes (node i) (places kind start (first_ones j))))
      ∙ (λ j. run_onto config (swept config node i ks es) (takes (node i) (sym k j)))

  pub sweeping_next : (c2 : Counts) (zs part : List Entry) (f2 : ℕ) (ready2 : Type 0) (n : ℕ) → c2 ≡ config_now → f2 ≡ f1 → zs ≡ part → part ≡ swept config node (suc i) ks es → length zs ≡ length now + n → ready2
      → Sweeping config c2 es zs f0 f2 ready2 node ks (i + 1) (taken + n)
  sweeping_next c2 zs part f2 ready2 n e l is to more r = record {
    same_config = e ∙ s.same_config;
    steady = l ∙ s.steady;
    is_ready = r;
    done = is ∙ to ∙ (λ j. swept config node (sym (add-one i) j) ks es);
    entries = let a = s.entries in omega (arith, a, more);
  }

-- ---- one message, taken by many

module _ (config config_now : Counts) (es now : List Entry) (f0 f1 : ℕ) (ready : Type 0) (node : ℕ → Node) (k i taken : ℕ) (s : Sweeping config config_now es now f0 f1 ready node (k ∷ []) i taken) where
  pub showing_fits : (n : Node) → n ≡ node i → is_present config (node i) ≡ true → k < length (messages es) → fits config_now now (Take n k) ≡ true
  showing_fits n q there l =
      (λ j. is_present (s.same_config j) (q j) && nat_lt k (length (messages now)))
      ∙ (λ j. there j && lt-ltb k (length (messages now)) (let w = sweeping_within config config_now es now f0 f1 ready node (k ∷ []) i taken s in omega (arith, w, l)) j)

  pub showing_on : (n : Node) → n ≡ node i → entry_after config_now now (Take n k) ∷ now ≡ swept config node (suc i) (k ∷ []) es
  showing_on n q = (λ j. entry_after (s.same_config j) (s.done j) (Take (q j) k) ∷ s.done j)

-- ---- a search

-- what is left to search has the first place that is meant
pub record Searching (config config_now : Counts) (es now : List Entry) (f0 f1 : ℕ) (ready ready_now : Type 0) (kind : MsgKind) (start k : ℕ) : Type 0 where
  pub same_config : config_now ≡ config
  pub same_run : now ≡ es
  pub steady : f1 ≡ f0
  pub is_ready : ready → ready_now
  pub left : first_place (places_from kind k (drop k (messages es))) ≡ first_place (places kind start (messages es))

search_at : (kind : MsgKind) (k : ℕ) (ms : List Stamped) (m : Stamped) → slice_get ms k ≡ Some m → (b : Bool) → is_of kind m ≡ b → first_place (places_from kind k (drop k ms)) ≡ first_place (cond b (k ∷ places_from kind (suc k) (drop (suc k) ms)) (places_from kind (suc k) (drop (suc k) ms)))
search_at kind k ms m h b is = (λ i. first_place (places_from kind k (drop-at k ms m h i))) ∙ (λ i. first_place (cond (is i) (k ∷ places_from kind (suc k) (drop (suc k) ms)) (places_from kind (suc k) (drop (suc k) ms))))

module _ (config config_now : Counts) (es now : List Entry) (f0 f1 : ℕ) (ready ready_now : Type 0) (kind : MsgKind) (start k : ℕ) (s : Searching config config_now es now f0 f1 ready ready_now kind start k) where
  pub found_here : k < length (messages es) → is_there kind (slice_get (messages now) k) ≡ true → Some k ≡ first_place (places kind start (messages es))
  found_here l t =
      let m = there_is k (messages es) l in
      sym (search_at kind k (messages es) m.0 m.1 true (sym (ap (is_there kind) m.1) ∙ ap (λ zs. is_there kind (slice_get (messages zs) k)) (sym s.same_run) ∙ t)) ∙ s.left

  pub search_on : (c2 : Counts) (zs : List Entry) (f2 : ℕ) (ready2 : Type 0) → k < length (messages es) → is_there kind (slice_get (messages now) k) ≡ false → c2 ≡ config_now → zs ≡ now → f2 ≡ f1 → (ready_now → ready2) → Searching config c2 es zs f0 f2 ready ready2 kind start (k + 1)
  search_on c2 zs f2 ready2 l t e n le r =
      let m = there_is k (messages es) l in
      record {
        same_config = e ∙ s.same_config;
        same_run = n ∙ s.same_run;
        steady = le ∙ s.steady;
        is_ready = λ h. r (s.is_ready h);
        left = (λ i. first_place (places_from kind (add-one k i) (drop (add-one k i) (messages es)))) ∙ sym (search_at kind k (messages es) m.0 m.1 false (sym (ap (is_there kind) m.1) ∙ ap (λ zs. is_there kind (slice_get (messages zs) k)) (sym s.same_run) ∙ t)) ∙ s.left;
      }
