-- What sweeps do: each node makes of the messages what its table makes of them one after another.
use Rattle.std.proofs.Common.{◌≡◌, ℕ, zero, suc, ◌+◌, ◌*◌, ◌<◌, ◌≤◌, ◌≢◌, Bool, true, ◌&&◌, List, [], ◌∷◌, ◌++◌, length, Some, refl, sym, ap, ◌∙◌, subst, arith, append_assoc, inl, inr}
use Rattle.std.specs.Prelude.{Option, slice_get, nat_lt}
use Rattle.std.specs.Option.{option_to_list}
use Rattle.std.proofs.lemmas.Option.{slice_get_within}
use Rattle.std.proofs.lemmas.List.{append-nil}
use Rattle.std.proofs.lemmas.Bool.{lt-ltb, cases_eq}
use Rattle.gp_round.specs.Counts.{Counts}
use Rattle.gp_msg.specs.declared.node.Node.{Node}
use Rattle.gp_msg.specs.declared.event.Event.TheVariants.{Take}
use Rattle.gp_msg.specs.Nodes.{is_present}
use Rattle.gp_msg.specs.Messages.{Stamped, Entry}
use Rattle.gp_run.specs.Messages.{messages}
use Rattle.gp_run.specs.Legal.{Legal, sent_at}
use Rattle.gp_run.specs.Runs.{entry_after, run_onto}
use Rattle.gp_driver.specs.Sweeps.{takes, swept}
use Rattle.gp_driver.proofs.Lists.{Picked, picked-append, outs}

-- the state after some messages, and all that is sent
abbrev pub run : {S : Type 0} → (S → Stamped → S × Option Stamped) → S → List Stamped → S × List Stamped
run act s [] = (s, [])
run act s (m ∷ ms) = ((run act (act s m).0 ms).0, option_to_list (act s m).1 ++ (run act (act s m).0 ms).1)

-- one message more
pub run-snoc : {S : Type 0} (act : S → Stamped → S × Option Stamped) (s : S) (ms : List Stamped) (m : Stamped)
    → run act s (ms ++ m ∷ []) ≡ ((act (run act s ms).0 m).0, (run act s ms).1 ++ option_to_list (act (run act s ms).0 m).1)
run-snoc act s [] m = λ i. ((act s m).0, append-nil (option_to_list (act s m).1) i)
run-snoc act s (x ∷ ms) m =
    let r = run-snoc act (act s x).0 ms m in
    λ i. ((r i).0, (ap (λ ys. option_to_list (act s x).1 ++ ys) (λ j. (r j).1) ∙ sym (append_assoc (option_to_list (act s x).1) (run act (act s x).0 ms).1 (option_to_list (act (run act (act s x).0 ms).0 m).1))) i)

-- all that n nodes send, each with its own
abbrev pub all_sent : (ℕ → List Stamped) → ℕ → List Stamped
all_sent f zero = []
all_sent f (suc n) = all_sent f n ++ f n

module _ {S : Type 0} (config : Counts) (node : ℕ → Node) (at : ℕ → List Entry → S) (act : S → Stamped → S × Option Stamped)
    (own : (es : List Entry) (i k : ℕ) (m : Stamped) → slice_get (messages es) k ≡ Some m → (at i (entry_after config es (Take (node i) k) ∷ es) ≡ (act (at i es) m).0) × (sent_at config es (Take (node i) k) ≡ option_to_list (act (at i es) m).1))
    (other : (es : List Entry) (i j k : ℕ) → i ≢ j → at j (entry_after config es (Take (node i) k) ∷ es) ≡ at j es)
  where
    -- node i took these messages
    pub record Took (i : ℕ) (xs : List Stamped) (es zs : List Entry) : Type 0 where
      pub state : at i zs ≡ (run act (at i es) xs).0
      pub sent : messages zs ≡ messages es ++ (run act (at i es) xs).1
      pub others : (j : ℕ) → i ≢ j → at j zs ≡ at j es
      pub legal : is_present config (node i) ≡ true → Legal config es → Legal config zs
      pub entries : length zs ≡ length es + length xs

    both_true : (a b : Bool) → a ≡ true → b ≡ true → (a && b) ≡ true
    both_true a b p q = λ k. p k && q k

    and_then : (i k : ℕ) (xs : List Stamped) (x : Stamped) (es zs : List Entry) → slice_get (messages es) k ≡ Some x → Took i xs (entry_after config es (Take (node i) k) ∷ es) zs → Took i (x ∷ xs) es zs
    and_then i k xs x es zs p rest = record {
      state = rest.state ∙ ap (λ s. (run act s xs).0) first.0;
      sent = rest.sent ∙ (λ j. (messages es ++ first.1 j) ++ (run act (first.0 j) xs).1) ∙ append_assoc (messages es) (option_to_list (act (at i es) x).1) (run act (act (at i es) x).0 xs).1;
      others = λ j n. rest.others j n ∙ other es i j k n;
      legal = λ there legal. rest.legal there (legal, record { own_node = refl; event_fits = both_true (is_present config (node i)) (nat_lt k (length (messages es))) there (lt-ltb k (length (messages es)) (slice_get_within (messages es) k x p)); own_messages = refl });
      entries = let e = rest.entries in omega (arith, e);
    } where
      first : (at i (entry_after config es (Take (node i) k) ∷ es) ≡ (act (at i es) x).0) × (sent_at config es (Take (node i) k) ≡ option_to_list (act (at i es) x).1)
      first = own es i k x p

    pub took : (i : ℕ) (ks : List ℕ) (xs : List Stamped) (es : List Entry) → Picked (messages es) ks xs → Took i xs es (run_onto config es (takes (node i) ks))
    took i [] [] es p = record {
      state = refl;
      sent = sym (append-nil (messages es));
      others = λ j n. refl;
      legal = λ there legal. legal;
      entries = omega arith;
    }
    took i [] (x ∷ xs) es p = absurd p
    took i (k ∷ ks) [] es p = absurd p
    took i (k ∷ ks) (x ∷ xs) es p =
        and_then i k xs x es (run_onto config (entry_after config es (Take (node i) k) ∷ es) (takes (node i) ks)) p.0
        (took i ks xs (entry_after config es (Take (node i) k) ∷ es) (picked-append (messages es) (sent_at config es (Take (node i) k)) ks xs p.1))

    -- the first n nodes took these messages
    pub record Swept (n : ℕ) (xs : List Stamped) (es zs : List Entry) : Type 0 where
      pub state : (i : ℕ) → i < n → at i zs ≡ (run act (at i es) xs).0
      pub rest : (i : ℕ) → n ≤ i → at i zs ≡ at i es
      pub sent : messages zs ≡ messages es ++ all_sent (λ i. (run act (at i es) xs).1) n
      pub legal : ((i : ℕ) → i < n → is_present config (node i) ≡ true) → Legal config es → Legal config zs
      pub entries : length zs ≡ length es + n * length xs

    one_more : (n : ℕ) (xs : List Stamped) (es ys zs : List Entry) → Swept n xs es ys → Took n xs ys zs → Swept (suc n) xs es zs
    one_more n xs es ys zs before last = record {
      state = λ i l. elim (cases_eq i n) [
        | inl e ↦ subst (λ j. at j zs ≡ (run act (at j es) xs).0) (sym e) (last.state ∙ ap (λ s. (run act s xs).0) here)
        | inr e ↦ last.others i (λ q. e (sym q)) ∙ before.state i (omega (arith, l, e))
      ];
      rest = λ i l. last.others i (λ q. omega (arith, q, l)) ∙ before.rest i (omega (arith, l));
      sent = last.sent ∙ (λ j. before.sent j ++ (run act (here j) xs).1) ∙ append_assoc (messages es) (all_sent (λ i. (run act (at i es) xs).1) n) (run act (at n es) xs).1;
      legal = λ there legal. last.legal (there n (omega arith)) (before.legal (λ i l. there i (omega (arith, l))) legal);
      entries = let e = last.entries in let f = before.entries in omega (arith, e, f);
    } where
      here : at n ys ≡ at n es
      here = before.rest n (omega arith)

    pub sweeps : (n : ℕ) (ks : List ℕ) (xs : List Stamped) (es : List Entry) → Picked (messages es) ks xs → Swept n xs es (swept config node n ks es)
    sweeps zero ks xs es p = record {
      state = λ i l. absurd (omega (arith, l));
      rest = λ i l. refl;
      sent = sym (append-nil (messages es));
      legal = λ there legal. legal;
      entries = omega arith;
    }
    sweeps (suc n) ks xs es p =
        let before = sweeps n ks xs es p in
        one_more n xs es (swept config node n ks es) (run_onto config (swept config node n ks es) (takes (node n) ks)) before
        (took n ks xs (swept config node n ks es) (subst (λ ms. Picked ms ks xs) (sym before.sent) (picked-append (messages es) (all_sent (λ i. (run act (at i es) xs).1) n) ks xs p)))

-- what no take of these nodes changes stays
module _ {X : Type 0} (config : Counts) (node : ℕ → Node) (g : List Entry → X) (stays : (es : List Entry) (i k : ℕ) → g (entry_after config es (Take (node i) k) ∷ es) ≡ g es) where
  pub stays_while_taking : (i : ℕ) (ks : List ℕ) (es : List Entry) → g (run_onto config es (takes (node i) ks)) ≡ g es
  stays_while_taking i [] es = refl
  stays_while_taking i (k ∷ ks) es = stays_while_taking i ks (entry_after config es (Take (node i) k) ∷ es) ∙ stays es i k

  pub stays_while_swept : (n : ℕ) (ks : List ℕ) (es : List Entry) → g (swept config node n ks es) ≡ g es
  stays_while_swept zero ks es = refl
  stays_while_swept (suc n) ks es = stays_while_taking n ks (swept config node n ks es) ∙ stays_while_swept n ks es

-- each of n nodes sends one message
pub all_sent_outs : (f : ℕ → List Stamped) (x : ℕ → Stamped) (n : ℕ) → ((i : ℕ) → i < n → f i ≡ x i ∷ []) → all_sent f n ≡ outs x n
all_sent_outs f x zero h = refl
all_sent_outs f x (suc n) h = λ k. all_sent_outs f x n (λ i l. h i (omega (arith, l))) k ++ h n (omega arith) k

-- none sends any
pub none_sent : (f : ℕ → List Stamped) (n : ℕ) → ((i : ℕ) → i < n → f i ≡ []) → all_sent f n ≡ []
none_sent f zero h = refl
none_sent f (suc n) h = λ k. none_sent f n (λ i l. h i (omega (arith, l))) k ++ h n (omega arith) k
