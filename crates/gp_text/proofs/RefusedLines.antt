-- Where a script is refused.
use Rattle.std.proofs.Common.{◌≡◌, inl, inr, ℕ, ◌+◌, true, false, List, [], ◌∷◌, ◌++◌, length, Option, Some, None, Result, Ok, Err, refl, sym, ap, subst, ◌∙◌, arith}
use Rattle.std.proofs.lemmas.List.Elements.{All-nil, All-cons}
use Rattle.gp_history.proofs.Tests.{by_cases}
use Rattle.gp_round.specs.Counts.{Counts}
use Rattle.gp_round.specs.Ranges.{AreInRange}
use Rattle.gp_service.specs.Languages.{Language}
use Rattle.gp_words.specs.Lines.{lines_of, text_of}
use Rattle.gp_script.specs.declared.reason.Reason.{Reason}
use Rattle.gp_script.specs.declared.reason.Reason.TheVariants.{TooLong, NoNodesLine, BadLine, NoMessage, TooManyCommands, TooManyEvents}
use Rattle.gp_script.specs.declared.items.Item.{Item}
use Rattle.gp_script.specs.declared.items.Item.TheVariants as item
use Rattle.gp_script.specs.Reasons.{is_of_report}
use Rattle.gp_script.proofs.OwnReasons.{Own, is_own, line_own, counts_own}
use Rattle.gp_text.specs.Reading.{Reading, Whole, Refused, Sofar, Script, nothing, said_so_far, is_passed, holds_limit, nodes_line, after_line, follow, reading_from, reading_in}
use Rattle.gp_text.specs.Refusals.{size_of, IsWrongNodes, IsFull, MayNotFollow, IsWrongLine, IsRefusedFirst, IsRefusedBehind, Breaks, BreaksFrom, BreaksAt, IsOfScript}
use Rattle.gp_text.proofs.SaidLegally.{nodes_in_range}
use Rattle.gp_text.proofs.WrongLines.{wrong_line, wrong_nodes}
use Rattle.gp_text.proofs.LineSteps.{reading_opens, reading_from_end, reading_from_too_long, reading_from_passed, reading_from_goes, reading_from_refused, follow_end, follow_too_long, follow_goes, follow_refused}

abbrev IsPassed : List ℕ → Type 0
IsPassed line = is_passed (text_of line) ≡ true

pub no_more : (place : ℕ) → place ≡ place + 0
no_more place = omega arith

one_more : (place size more : ℕ) → place + size + more ≡ place + (size + more)
one_more place size more = omega arith

module _ (language : Language) where
  -- ---- behind the `nodes` line

  -- of these lines, one of this number is the first that is refused
  record Stops (c : Counts) (n place : ℕ) (sofar : Sofar) (lines : List (List ℕ)) (number : ℕ) (reason : Reason) (before : Option Script) : Type 0 where
    front : List (List ℕ)
    rest : List (List ℕ)
    parts : lines ≡ front ++ rest
    numbered : number ≡ n + length front
    said : Sofar
    whole : follow language c n place sofar front ≡ Whole c said
    was : before ≡ said_so_far c said
    why : IsRefusedBehind language c said (place + size_of front) rest reason

  abbrev Follows : Counts → ℕ → ℕ → Sofar → List (List ℕ) → Reading → Type 0
  Follows c n place sofar lines (Whole d said) = Unit {0}
  Follows c n place sofar lines (Refused number reason before) = Stops c n place sofar lines number reason before

  -- the next line is the refused one
  here : (c : Counts) (n place : ℕ) (sofar : Sofar) (line : List ℕ) (lines : List (List ℕ)) (reason : Reason) → IsRefusedBehind language c sofar place (line ∷ lines) reason → Stops c n place sofar (line ∷ lines) n reason (said_so_far c sofar)
  here c n place sofar line lines reason why = record {
    front = [];
    rest = line ∷ lines;
    parts = refl;
    numbered = no_more n;
    said = sofar;
    whole = follow_end language c n place sofar;
    was = refl;
    why = subst (λ (k : ℕ). IsRefusedBehind language c sofar k (line ∷ lines) reason) (no_more place) why;
  }

  -- it stands behind the next line
  later : (c : Counts) (n place : ℕ) (sofar next : Sofar) (line : List ℕ) (lines : List (List ℕ)) → holds_limit place line ≡ false → after_line language c sofar (text_of line) ≡ Ok next → (read : Reading) → Follows c (n + 1) (place + length line) next lines read → Follows c n place sofar (line ∷ lines) read
  later c n place sofar next line lines short says (Whole d said) f = tt
  later c n place sofar next line lines short says (Refused number reason before) f =
      let numbered = f.numbered in
      record {
        front = line ∷ f.front;
        rest = f.rest;
        parts = ap (λ (ls : List (List ℕ)). line ∷ ls) f.parts;
        numbered = omega (arith, numbered);
        said = f.said;
        whole = follow_goes language c n place sofar next line f.front short says ∙ f.whole;
        was = f.was;
        why = subst (λ (k : ℕ). IsRefusedBehind language c f.said k f.rest reason) (one_more place (length line) (size_of f.front)) f.why;
      }

  after : (c : Counts) → AreInRange c.acceptors c.coordinators c.learners → (n place : ℕ) (sofar : Sofar) (line : List ℕ) (lines : List (List ℕ)) (r : Result Sofar Reason) → after_line language c sofar (text_of line) ≡ r → holds_limit place line ≡ false
      → ((next : Sofar) → Follows c (n + 1) (place + length line) next lines (follow language c (n + 1) (place + length line) next lines)) → Follows c n place sofar (line ∷ lines) (follow language c n place sofar (line ∷ lines))
  after c range n place sofar line lines (Ok next) says short go =
      subst (Follows c n place sofar (line ∷ lines)) (sym (follow_goes language c n place sofar next line lines short says)) (later c n place sofar next line lines short says (follow language c (n + 1) (place + length line) next lines) (go next))
  after c range n place sofar line lines (Err reason) says short go =
      subst (Follows c n place sofar (line ∷ lines)) (sym (follow_refused language c n place sofar line lines reason short says)) (let wrong = wrong_line language c range sofar (text_of line) reason says in here c n place sofar line lines reason (inr (short, wrong.0, wrong.1)))

  follows : (c : Counts) → AreInRange c.acceptors c.coordinators c.learners → (n place : ℕ) (sofar : Sofar) (lines : List (List ℕ)) → Follows c n place sofar lines (follow language c n place sofar lines)
  follows c range n place sofar [] = subst (Follows c n place sofar []) (sym (follow_end language c n place sofar)) tt
  follows c range n place sofar (line ∷ lines) =
      by_cases (holds_limit place line)
      (λ long. subst (Follows c n place sofar (line ∷ lines)) (sym (follow_too_long language c n place sofar line lines long)) (here c n place sofar line lines _ (inl (long, refl))))
      (λ short. after c range n place sofar line lines (after_line language c sofar (text_of line)) refl short (λ next. follows c range (n + 1) (place + length line) next lines))

  -- ---- from the first line on

  abbrev Opens : ℕ → ℕ → List (List ℕ) → Reading → Type 0
  Opens n place lines (Whole d said) = Unit {0}
  Opens n place lines (Refused number reason before) = BreaksFrom language n place lines number reason before

  first : (n place : ℕ) (lines : List (List ℕ)) (reason : Reason) → IsRefusedFirst place lines reason → BreaksFrom language n place lines n reason None
  first n place lines reason why = record {
    front = [];
    rest = lines;
    parts = refl;
    numbered = no_more n;
    breaks = (All-nil IsPassed, subst (λ (k : ℕ). IsRefusedFirst k lines reason) (no_more place) why);
  }

  over : (n place : ℕ) (line : List ℕ) (lines : List (List ℕ)) → holds_limit place line ≡ false → IsPassed line → (read : Reading) → Opens (n + 1) (place + length line) lines read → Opens n place (line ∷ lines) read
  over n place line lines short passed (Whole d said) o = tt
  over n place line lines short passed (Refused number reason None) o =
      let numbered = o.numbered in
      let breaks = o.breaks in
      record {
        front = line ∷ o.front;
        rest = o.rest;
        parts = ap (λ (ls : List (List ℕ)). line ∷ ls) o.parts;
        numbered = omega (arith, numbered);
        breaks = (All-cons IsPassed line o.front passed breaks.0, subst (λ (k : ℕ). IsRefusedFirst k o.rest reason) (one_more place (length line) (size_of o.front)) breaks.1);
      }
  over n place line lines short passed (Refused number reason (Some script)) o =
      let numbered = o.numbered in
      let breaks = o.breaks in
      record {
        front = line ∷ o.front;
        rest = o.rest;
        parts = ap (λ (ls : List (List ℕ)). line ∷ ls) o.parts;
        numbered = omega (arith, numbered);
        breaks = (
          breaks.0,
          breaks.1,
          reading_from_passed language n place line o.front short passed ∙ breaks.2,
          subst (λ (k : ℕ). IsRefusedBehind language script.config breaks.0 k o.rest reason) (one_more place (length line) (size_of o.front)) breaks.3,
        );
      }

  behind_nodes : (n place : ℕ) (line : List ℕ) (lines : List (List ℕ)) (c : Counts) → holds_limit place line ≡ false → is_passed (text_of line) ≡ false → nodes_line (text_of line) ≡ Ok c → (read : Reading)
      → Follows c (n + 1) (place + length line) nothing lines read → Opens n place (line ∷ lines) read
  behind_nodes n place line lines c short read_it says (Whole d said) f = tt
  behind_nodes n place line lines c short read_it says (Refused number reason before) f =
      let numbered = f.numbered in
      subst (BreaksFrom language n place (line ∷ lines) number reason) (sym f.was) (record {
        front = line ∷ f.front;
        rest = f.rest;
        parts = ap (λ (ls : List (List ℕ)). line ∷ ls) f.parts;
        numbered = omega (arith, numbered);
        breaks = (
          f.said,
          refl,
          reading_from_goes language n place line f.front c short read_it says ∙ f.whole,
          subst (λ (k : ℕ). IsRefusedBehind language c f.said k f.rest reason) (one_more place (length line) (size_of f.front)) f.why,
        );
      })

  at_nodes : (n place : ℕ) (line : List ℕ) (lines : List (List ℕ)) (r : Result Counts Reason) → nodes_line (text_of line) ≡ r → holds_limit place line ≡ false → is_passed (text_of line) ≡ false → Opens n place (line ∷ lines) (reading_from language n place (line ∷ lines))
  at_nodes n place line lines (Ok c) says short read_it =
      subst (Opens n place (line ∷ lines)) (sym (reading_from_goes language n place line lines c short read_it says))
      (behind_nodes n place line lines c short read_it says (follow language c (n + 1) (place + length line) nothing lines) (follows c (nodes_in_range (text_of line) c says) (n + 1) (place + length line) nothing lines))
  at_nodes n place line lines (Err reason) says short read_it =
      subst (Opens n place (line ∷ lines)) (sym (reading_from_refused language n place line lines reason short read_it says)) (first n place (line ∷ lines) reason (inr (short, read_it, wrong_nodes (text_of line) reason says)))

  opens : (n place : ℕ) (lines : List (List ℕ)) → Opens n place lines (reading_from language n place lines)
  opens n place [] = subst (Opens n place []) (sym (reading_from_end language n place)) (first n place [] _ refl)
  opens n place (line ∷ lines) =
      by_cases (holds_limit place line)
      (λ long. subst (Opens n place (line ∷ lines)) (sym (reading_from_too_long language n place line lines long)) (first n place (line ∷ lines) _ (inl (long, refl))))
      (λ short. by_cases (is_passed (text_of line))
      (λ passed. subst (Opens n place (line ∷ lines)) (sym (reading_from_passed language n place line lines short passed)) (over n place line lines short passed (reading_from language (n + 1) (place + length line) lines) (opens (n + 1) (place + length line) lines)))
      (λ read_it. at_nodes n place line lines (nodes_line (text_of line)) refl short read_it))

  pub breaks_at : (bytes : List ℕ) (number : ℕ) (reason : Reason) (before : Option Script) → reading_in language bytes ≡ Refused number reason before → BreaksAt language (lines_of bytes) number reason before
  breaks_at bytes number reason before refused = subst (Opens 1 0 (lines_of bytes)) (reading_opens language bytes ∙ refused) (opens 1 0 (lines_of bytes))

  -- ---- the reason

  is_full_own : (said : Sofar) (reason : Reason) → IsFull said reason → Own reason
  is_full_own said reason f = is_own TooManyEvents reason refl f.1

  follow_own : (c : Counts) (said : Sofar) (says : Item) (reason : Reason) → MayNotFollow c said says reason → Own reason
  follow_own c said (item.Offer proposer draft) reason (inl m) = is_own TooManyCommands reason refl m.1
  follow_own c said (item.Offer proposer draft) reason (inr f) = is_full_own said reason f
  follow_own c said (item.Begin coordinator round) reason f = is_full_own said reason f
  follow_own c said (item.Take node message) reason (inl m) = is_own NoMessage reason refl m.1
  follow_own c said (item.Take node message) reason (inr f) = is_full_own said reason f
  follow_own c said (item.Fall node what) reason (inl m) = is_own NoMessage reason refl m.1
  follow_own c said (item.Fall node what) reason (inr f) = is_full_own said reason f
  follow_own c said (item.Show learner) reason m = absurd m

  wrong_own : (c : Counts) (said : Sofar) (text : List ℕ) (reason : Reason) → IsWrongLine language c said text reason → Own reason
  wrong_own c said text reason (inl w) = is_own BadLine reason refl w.1
  wrong_own c said text reason (inr (form, is, inl b)) = line_own language c form reason b
  wrong_own c said text reason (inr (form, is, inr (says, of, m))) = follow_own c said says reason m

  nodes_own : (text : List ℕ) (reason : Reason) → IsWrongNodes text reason → Own reason
  nodes_own text reason (inl w) = is_own NoNodesLine reason refl w.1
  nodes_own text reason (inr (nodes, inl w)) = is_own BadLine reason refl w.1
  nodes_own text reason (inr (nodes, inr (form, is, b))) = counts_own form reason b

  first_own : (place : ℕ) (lines : List (List ℕ)) (reason : Reason) → IsRefusedFirst place lines reason → Own reason
  first_own place [] reason w = is_own NoNodesLine reason refl w
  first_own place (line ∷ lines) reason (inl w) = is_own TooLong reason refl w.1
  first_own place (line ∷ lines) reason (inr (short, read_it, w)) = nodes_own (text_of line) reason w

  behind_own : (c : Counts) (said : Sofar) (place : ℕ) (lines : List (List ℕ)) (reason : Reason) → IsRefusedBehind language c said place lines reason → Own reason
  behind_own c said place [] reason w = absurd w
  behind_own c said place (line ∷ lines) reason (inl w) = is_own TooLong reason refl w.1
  behind_own c said place (line ∷ lines) reason (inr (short, read_it, w)) = wrong_own c said (text_of line) reason w

  breaks_own : (n place : ℕ) (front rest : List (List ℕ)) (reason : Reason) (before : Option Script) → Breaks language n place front rest reason before → Own reason
  breaks_own n place front rest reason None b = first_own (place + size_of front) rest reason b.1
  breaks_own n place front rest reason (Some script) b = behind_own script.config b.0 (place + size_of front) rest reason b.3

  opened_own : (n place : ℕ) (lines : List (List ℕ)) (number : ℕ) (reason : Reason) (before : Option Script) → Opens n place lines (Refused number reason before) → Own reason
  opened_own n place lines number reason before b = breaks_own n place b.front b.rest reason before b.breaks

  -- a script is not refused for a reason of a report
  pub reason_own : (n place : ℕ) (lines : List (List ℕ)) (number : ℕ) (reason : Reason) (before : Option Script) → reading_from language n place lines ≡ Refused number reason before → is_of_report reason ≡ false
  reason_own n place lines number reason before refused = opened_own n place lines number reason before (subst (Opens n place lines) refused (opens n place lines))

pub of_script : (read : Reading) → ((line : ℕ) (reason : Reason) (before : Option Script) → read ≡ Refused line reason before → is_of_report reason ≡ false) → IsOfScript read
of_script (Whole config said) own = tt
of_script (Refused line reason before) own = own line reason before refl
