-- The records of a world as a run, one more at a time.
use Rattle.std.proofs.Common.{◌≡◌, inl, inr, ℕ, ◌+◌, ◌<◌, ◌≤◌, true, List, [], ◌∷◌, ◌++◌, length, map, take, drop, get_or, Some, sym, ap, subst, ◌∙◌, arith, add-one}
use Rattle.std.specs.Prelude.{slice_get, reverse, nat_lt, Result, Ok, Err}
use Rattle.std.specs.Result.{OnOk}
use Rattle.std.proofs.Math.Seq.{take-suc}
use Rattle.std.proofs.lemmas.Bool.{ltb-true}
use Rattle.std.proofs.lemmas.List.{take-append-drop, map-append, length-map, length-reverse, length-take-le, reverse-append}
use Rattle.std.proofs.lemmas.Option.{slice_get_cases}
use Rattle.gp_round.specs.Counts.{Counts}
use Rattle.gp_msg.specs.declared.node.Node.TheVariants.{Learner}
use Rattle.gp_msg.specs.declared.event.Event.{Event}
use Rattle.gp_msg.specs.declared.event.Event.TheVariants.{Take}
use Rattle.gp_msg.specs.declared.record.Record.{Record}
use Rattle.gp_msg.specs.Messages.{Stamped, Entry, entry_of}
use Rattle.gp_run.specs.Messages.{messages}
use Rattle.gp_msg.specs.Nodes.{is_present}
use Rattle.gp_run.specs.Legal.{Legal, fits}
use Rattle.gp_run.specs.Runs.{newest_first}
use Rattle.gp_run.proofs.Telling.{entries-push}
use Rattle.gp_agreement.proofs.Projected.{legal_rest}
use Rattle.gp_round.proofs.Counting.{right_true}
use Rattle.gp_audit.proofs.OwnEvents.{message_stays}

entries-append : (xs ys : List Record) → newest_first (xs ++ ys) ≡ newest_first ys ++ newest_first xs
entries-append xs ys = ap (map entry_of) (reverse-append xs ys) ∙ map-append entry_of (reverse ys) (reverse xs)

-- after the first records comes this one, and then others
pub record Next (config : Counts) (rs : List Record) (at : ℕ) (r : Record) : Type 0 where
  pub is : newest_first (take (at + 1) rs) ≡ entry_of r ∷ newest_first (take at rs)
  pub legal : Legal config (entry_of r ∷ newest_first (take at rs))
  pub later : List Entry
  pub parts : later ++ entry_of r ∷ newest_first (take at rs) ≡ newest_first rs
  pub count : length (newest_first (take at rs)) ≡ at

pub next_of : (config : Counts) (rs : List Record) (at : ℕ) (r : Record) → Legal config (newest_first rs) → at < length rs → r ≡ get_or rs at r → Next config rs at r
next_of config rs at r legal less is =
    let one : take (at + 1) rs ≡ take at rs ++ r ∷ [] = ap (λ (n : ℕ). take n rs) (add-one at) ∙ take-suc rs at r less ∙ ap (λ (z : Record). take at rs ++ z ∷ []) (sym is) in
    let entry : newest_first (take (at + 1) rs) ≡ entry_of r ∷ newest_first (take at rs) = ap newest_first one ∙ entries-push (take at rs) r in
    let later = newest_first (drop (at + 1) rs) in
    let whole : later ++ entry_of r ∷ newest_first (take at rs) ≡ newest_first rs =
    ap (λ (ys : List Entry). later ++ ys) (sym entry) ∙ sym (entries-append (take (at + 1) rs) (drop (at + 1) rs)) ∙ ap newest_first (take-append-drop (at + 1) rs) in
    let short : at ≤ length rs = omega (arith, less) in
    record {
      is = entry;
      legal = legal_rest config 0 later (entry_of r ∷ newest_first (take at rs)) (subst (Legal config) (sym whole) legal);
      later = later;
      parts = whole;
      count = length-map (reverse (take at rs)) entry_of ∙ length-reverse (take at rs) ∙ length-take-le at rs short;
    }

-- the message that the record names
pub record Named (rs : List Record) (es : List Entry) (k : ℕ) : Type 0 where
  pub message : Stamped
  pub then_there : slice_get (messages es) k ≡ Some message
  pub there : slice_get (messages (newest_first rs)) k ≡ Some message

pub named : (config : Counts) (rs : List Record) (at : ℕ) (r : Record) (l k : ℕ) → Next config rs at r → r.event ≡ Take (Learner l) k → Named rs (newest_first (take at rs)) k
named config rs at r l k next e =
    let es = newest_first (take at rs) in
    let fit : fits config es (Take (Learner l) k) ≡ true = ap (λ (event : Event). fits config es event) (sym e) ∙ next.legal.1.event_fits in
    let less = ltb-true k (length (messages es)) (right_true (is_present config (Learner l)) (nat_lt k (length (messages es))) fit) in
    elim (slice_get_cases (messages es) k).1 [
      | inl there ↦ record {
        message = there.0;
        then_there = there.2;
        there = subst (λ (ys : List Entry). slice_get (messages ys) k ≡ Some there.0) next.parts
            (message_stays next.later (entry_of r ∷ es) k there.0 (message_stays (entry_of r ∷ []) es k there.0 there.2));
      }
      | inr past ↦ absurd (let high = past.0 in omega (arith, less, high))
    ]

pub on_ok : {X E P Q : Type 0} (r : Result X E) → (P → Q) → OnOk r P → OnOk r Q
on_ok (Ok x) f p = f p
on_ok (Err e) f p = tt
