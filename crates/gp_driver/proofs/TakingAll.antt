-- One node takes messages one after another, as a loop does it.
use Rattle.std.proofs.Common.{◌≡◌, ℕ, zero, suc, ◌+◌, ◌<◌, ◌≤◌, Bool, true, false, cond, List, [], ◌∷◌, ◌++◌, length, Some, refl, sym, ap, ◌∙◌, arith}
use Rattle.std.specs.Prelude.{slice_get, take, drop}
use Rattle.std.proofs.lemmas.List.{length-append}
use Rattle.gp_round.specs.Counts.{Counts}
use Rattle.gp_msg.specs.declared.node.Node.{Node}
use Rattle.gp_msg.specs.declared.event.Event.{Event}
use Rattle.gp_msg.specs.declared.event.Event.TheVariants.{Take}
use Rattle.gp_msg.specs.Messages.{Stamped, Entry}
use Rattle.gp_msg.specs.declared.message.MsgKind.{MsgKind}
use Rattle.gp_run.specs.Messages.{messages}
use Rattle.gp_run.specs.Legal.{sent_at}
use Rattle.gp_run.specs.Runs.{entry_after, run_onto}
use Rattle.gp_driver.specs.Sweeps.{is_of, is_there, places_from, takes}
use native.Mathlib.Numerals.{add-one}

-- ---- runs grow

pub grown : (config : Counts) (es : List Entry) (events : List Event) → length (run_onto config es events) ≡ length es + length events
grown config es [] = omega arith
grown config es (event ∷ events) = let r = grown config (entry_after config es event ∷ es) events in omega (arith, r)

-- the messages that stand are still the first
pub still_first : {X : Type 0} (n : ℕ) (xs ys : List X) → n ≤ length xs → take n (xs ++ ys) ≡ take n xs
still_first zero xs ys h = refl
still_first (suc n) [] ys h = absurd (omega (arith, h))
still_first (suc n) (x ∷ xs) ys h = ap (λ zs. x ∷ zs) (still_first n xs ys (omega (arith, h)))

get-take : {X : Type 0} (n k : ℕ) (xs : List X) → k < n → slice_get (take n xs) k ≡ slice_get xs k
get-take zero k xs h = absurd (omega (arith, h))
get-take (suc n) k [] h = refl
get-take (suc n) zero (x ∷ xs) h = refl
get-take (suc n) (suc k) (x ∷ xs) h = get-take n k xs (omega (arith, h))

-- the same message stands at a place before n
pub same_place : {X : Type 0} (n k : ℕ) (xs ys : List X) → k < n → take n xs ≡ take n ys → slice_get xs k ≡ slice_get ys k
same_place n k xs ys h e = sym (get-take n k xs h) ∙ ap (λ zs. slice_get zs k) e ∙ get-take n k ys h

pub drop-at : {X : Type 0} (k : ℕ) (xs : List X) (x : X) → slice_get xs k ≡ Some x → drop k xs ≡ x ∷ drop (suc k) xs
drop-at k [] x e = cc
drop-at zero (y ∷ xs) x e = let is : y ≡ x = cc in ap (λ z. z ∷ xs) is
drop-at (suc k) (y ∷ xs) x e = drop-at k xs x e

pub there_is : {X : Type 0} (k : ℕ) (xs : List X) → k < length xs → (x : X) × (slice_get xs k ≡ Some x)
there_is k [] h = absurd (omega (arith, h))
there_is zero (x ∷ xs) h = (x, refl)
there_is (suc k) (x ∷ xs) h = there_is k xs (omega (arith, h))

-- ---- the loop

-- what is left to take from place k on leads to the target
pub record Taking (config config_now : Counts) (es now target : List Entry) (faults faults_now : ℕ) (ready : Type 0) (node : Node) (kind : MsgKind) (end k taken : ℕ) : Type 0 where
  pub same_config : config_now ≡ config
  pub steady : faults_now ≡ faults
  pub is_ready : ready
  pub rest : run_onto config now (takes node (places_from kind k (drop k (take end (messages es))))) ≡ target
  pub same_start : take end (messages now) ≡ take end (messages es)
  pub within : end ≤ length (messages now)
  pub entries : length now ≡ length es + taken

module _ (config : Counts) (node : Node) (kind : MsgKind) (end : ℕ) where
  -- the message at place k is the first that is left
  left : (k : ℕ) (ms : List Stamped) (m : Stamped) → k < end → slice_get ms k ≡ Some m → drop k (take end ms) ≡ m ∷ drop (suc k) (take end ms)
  left k ms m h e = drop-at k (take end ms) m (get-take end k ms h ∙ e)

  -- it is taken
  pub one_taken : (k : ℕ) (es now target : List Entry) (m : Stamped) → k < end → slice_get (messages es) k ≡ Some m → is_of kind m ≡ true → run_onto config now (takes node (places_from kind k (drop k (take end (messages es))))) ≡ target
      → run_onto config (entry_after config now (Take node k) ∷ now) (takes node (places_from kind (suc k) (drop (suc k) (take end (messages es))))) ≡ target
  one_taken k es now target m h e is r =
      (λ i. run_onto config now (takes node (cond (sym is i) (k ∷ places_from kind (suc k) (drop (suc k) (take end (messages es)))) (places_from kind (suc k) (drop (suc k) (take end (messages es)))))))
      ∙ (λ i. run_onto config now (takes node (places_from kind k (sym (left k (messages es) m h e) i))))
      ∙ r

  -- it is passed over
  pub one_left : (k : ℕ) (es now target : List Entry) (m : Stamped) → k < end → slice_get (messages es) k ≡ Some m → is_of kind m ≡ false → run_onto config now (takes node (places_from kind k (drop k (take end (messages es))))) ≡ target
      → run_onto config now (takes node (places_from kind (suc k) (drop (suc k) (take end (messages es))))) ≡ target
  one_left k es now target m h e is r =
      (λ i. run_onto config now (takes node (cond (sym is i) (k ∷ places_from kind (suc k) (drop (suc k) (take end (messages es)))) (places_from kind (suc k) (drop (suc k) (take end (messages es)))))))
      ∙ (λ i. run_onto config now (takes node (places_from kind k (sym (left k (messages es) m h e) i))))
      ∙ r

  -- where one is taken the run is shorter than the target
  pub shorter : (k : ℕ) (es now target : List Entry) (m : Stamped) → k < end → slice_get (messages es) k ≡ Some m → is_of kind m ≡ true → run_onto config now (takes node (places_from kind k (drop k (take end (messages es))))) ≡ target → length now < length target
  shorter k es now target m h e is r =
      let a = ap length (one_taken k es now target m h e is r) in
      let b = grown config (entry_after config now (Take node k) ∷ now) (takes node (places_from kind (suc k) (drop (suc k) (take end (messages es))))) in
      omega (arith, a, b)

-- ---- one turn

record Here (kind : MsgKind) (es now : List Entry) (k : ℕ) (b : Bool) : Type 0 where
  pub message : Stamped
  pub there : slice_get (messages es) k ≡ Some message
  pub is : is_of kind message ≡ b

here : (kind : MsgKind) (es now : List Entry) (end k : ℕ) (b : Bool) → k < end → take end (messages now) ≡ take end (messages es) → end ≤ length (messages now) → is_there kind (slice_get (messages now) k) ≡ b → Here kind es now k b
here kind es now end k b h e w t =
    let m = there_is k (messages now) (omega (arith, h, w)) in
    record { message = m.0; there = sym (same_place end k (messages now) (messages es) h e) ∙ m.1; is = sym (ap (is_there kind) m.1) ∙ t }

module _ (config config_now : Counts) (es now target : List Entry) (faults faults_now : ℕ) (ready : Type 0) (node : Node) (kind : MsgKind) (end k taken : ℕ) (h : k < end) (t : Taking config config_now es now target faults faults_now ready node kind end k taken) where
  -- there is room for one more
  pub has_room : is_there kind (slice_get (messages now) k) ≡ true → length now < length target
  has_room is =
      let m = here kind es now end k true h t.same_start t.within is in
      shorter config node kind end k es now target m.message h m.there m.is t.rest

  pub next_taken : (c1 c2 : Counts) (now1 now2 : List Entry) (f1 f2 : ℕ) (ready2 : Type 0) → is_there kind (slice_get (messages now) k) ≡ true → c1 ≡ config_now → now1 ≡ now → f1 ≡ faults_now
      → now2 ≡ entry_after c1 now1 (Take node k) ∷ now1 → c2 ≡ c1 → f2 ≡ f1 → ready2 → Taking config c2 es now2 target faults f2 ready2 node kind end (k + 1) (taken + 1)
  next_taken c1 c2 now1 now2 f1 f2 ready2 is e1 n1 l1 n2 e2 l2 r =
      let m = here kind es now end k true h t.same_start t.within is in
      let made : now2 ≡ entry_after config now (Take node k) ∷ now = n2 ∙ (λ i. entry_after ((e1 ∙ t.same_config) i) (n1 i) (Take node k) ∷ n1 i) in
      let sent : messages now2 ≡ messages now ++ sent_at config now (Take node k) = ap messages made in
      record {
        same_config = e2 ∙ e1 ∙ t.same_config;
        steady = l2 ∙ l1 ∙ t.steady;
        is_ready = r;
        rest = (λ i. run_onto config (made i) (takes node (places_from kind (add-one k i) (drop (add-one k i) (take end (messages es)))))) ∙ one_taken config node kind end k es now target m.message h m.there m.is t.rest;
        same_start = ap (take end) sent ∙ still_first end (messages now) (sent_at config now (Take node k)) t.within ∙ t.same_start;
        within = let a = t.within in let b = ap length sent in let d = length-append (messages now) (sent_at config now (Take node k)) in omega (arith, a, b, d);
        entries = let a = t.entries in let b = ap length made in omega (arith, a, b);
      }

  pub next_left : (c1 : Counts) (now1 : List Entry) (f1 : ℕ) (ready1 : Type 0) → is_there kind (slice_get (messages now) k) ≡ false → c1 ≡ config_now → now1 ≡ now → f1 ≡ faults_now → ready1
      → Taking config c1 es now1 target faults f1 ready1 node kind end (k + 1) taken
  next_left c1 now1 f1 ready1 is e1 n1 l1 r =
      let m = here kind es now end k false h t.same_start t.within is in
      record {
        same_config = e1 ∙ t.same_config;
        steady = l1 ∙ t.steady;
        is_ready = r;
        rest = (λ i. run_onto config (n1 i) (takes node (places_from kind (add-one k i) (drop (add-one k i) (take end (messages es)))))) ∙ one_left config node kind end k es now target m.message h m.there m.is t.rest;
        same_start = ap (λ zs. take end (messages zs)) n1 ∙ t.same_start;
        within = let a = t.within in let b = ap (λ zs. length (messages zs)) n1 in omega (arith, a, b);
        entries = let a = t.entries in let b = ap length n1 in omega (arith, a, b);
      }
