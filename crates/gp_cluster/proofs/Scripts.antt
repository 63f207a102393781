-- The commands that the offers of a script make.
use Rattle.std.proofs.Common.{◌≡◌, ℕ, zero, suc, ◌+◌, ◌<◌, ◌≤◌, Bool, true, false, not, cond, nat_eq, List, [], ◌∷◌, ◌++◌, length, map, Some, None, refl, sym, ap, ◌∙◌, subst, arith, inl, inr, All, append_assoc, length-append}
use Rattle.std.specs.Prelude.{slice_get}
use Rattle.std.specs.List.{list_any}
use Rattle.std.proofs.lemmas.Bool.{eq-eqb, eqb-true}
use Rattle.std.proofs.lemmas.List.Elements.{All-head, All-tail}
use Rattle.gp_command.specs.declared.command.Command.{Command}
use Rattle.gp_command.specs.Conflict.{same}
use Rattle.gp_command.specs.Views.{DraftView}
use Rattle.gp_command.proofs.ConflictLemmas.{same_itself, same-true}
use Rattle.gp_command.specs.declared.command.TheConstants.{PROPOSERS}
use Rattle.gp_history.specs.Sequence.{no_repeat}
use Rattle.gp_history.proofs.Tests.{In, both, left_of, right_of, one_of, not_true}
use Rattle.gp_cstructs.specs.CStructs.{Among}
use Rattle.gp_msg.specs.declared.node.Node.TheVariants.{Proposer}
use Rattle.gp_work.specs.declared.moves.Move.{Move}
use Rattle.gp_work.specs.declared.moves.Move.TheVariants as move
use Rattle.gp_work.specs.Moves.{event_of}
use Rattle.gp_seats.specs.Offering.{moves_of, IsKnown}
use Rattle.gp_cluster.specs.Offers.{command_after, commands_after, commands_of}
use Rattle.gp_cluster.proofs.Drafts.{drafts_in, IsMade, given_itself}

-- ---- drafts of a proposer

-- the draft of an offer, if it is one of proposer p
abbrev own_draft : ℕ → ℕ × DraftView → List DraftView
own_draft p o = cond (nat_eq p o.0) (o.1 ∷ []) []

-- the drafts of the offers of proposer p
abbrev pub drafts_by : ℕ → List (ℕ × DraftView) → List DraftView
drafts_by p [] = []
drafts_by p (o ∷ os) = own_draft p o ++ drafts_by p os

drafts_append : (p : ℕ) (xs ys : List (ℕ × DraftView)) → drafts_by p (xs ++ ys) ≡ drafts_by p xs ++ drafts_by p ys
drafts_append p [] ys = refl
drafts_append p (o ∷ xs) ys = ap (λ l. own_draft p o ++ l) (drafts_append p xs ys) ∙ sym (append_assoc (own_draft p o) (drafts_by p xs) (drafts_by p ys))

own_itself : (p : ℕ) (d : DraftView) → own_draft p (p, d) ≡ d ∷ []
own_itself p d = ap (λ b. cond {A = List DraftView} b (d ∷ []) []) (eq-eqb p p refl)

-- a draft of the offer is of its proposer
own_is : (p : ℕ) (o : ℕ × DraftView) (d : DraftView) → Among (own_draft p o) d → (p ≡ o.0) × (o.1 ≡ d)
own_is p o d = by (nat_eq p o.0) refl
  where
    by : (b : Bool) → nat_eq p o.0 ≡ b → Among (cond {A = List DraftView} b (o.1 ∷ []) []) d → (p ≡ o.0) × (o.1 ≡ d)
    by true e (inl is) = (eqb-true p o.0 e, is)
    by true e (inr n) = absurd n
    by false e n = absurd n

-- the events of the moves of a proposer give it its drafts
pub drafts_of_moves : (p : ℕ) (os : List (ℕ × DraftView)) → drafts_in p (map (event_of (Proposer p)) (moves_of (Proposer p) os)) ≡ drafts_by p os
drafts_of_moves p [] = refl
drafts_of_moves p (o ∷ os) = one_more (nat_eq p o.0) (moves_of (Proposer p) os) ∙ ap (λ l. own_draft p o ++ l) (drafts_of_moves p os)
  where
    one_more : (b : Bool) (ms : List Move) → drafts_in p (map (event_of (Proposer p)) (cond {A = List Move} b (move.Offer o.1 ∷ []) [] ++ ms)) ≡ cond {A = List DraftView} b (o.1 ∷ []) [] ++ drafts_in p (map (event_of (Proposer p)) ms)
    one_more true ms = ap (λ l. l ++ drafts_in p (map (event_of (Proposer p)) ms)) (given_itself p o.1)
    one_more false ms = refl

moves_length : (p : ℕ) (os : List (ℕ × DraftView)) → length (moves_of (Proposer p) os) ≡ length (drafts_by p os)
moves_length p [] = refl
moves_length p (o ∷ os) = one_more (nat_eq p o.0) (moves_length p os)
  where
    one_more : (b : Bool) → length (moves_of (Proposer p) os) ≡ length (drafts_by p os) → length (cond {A = List Move} b (move.Offer o.1 ∷ []) [] ++ moves_of (Proposer p) os) ≡ length (cond {A = List DraftView} b (o.1 ∷ []) [] ++ drafts_by p os)
    one_more true h = ap suc h
    one_more false h = h

-- ---- the commands after earlier offers

-- the command is made of one of these offers, by the number of its draft among them and the earlier ones
record IsAfter (earlier os : List (ℕ × DraftView)) (c : Command) : Type 0 where
  place : ℕ
  number : c.id.number ≡ length (drafts_by c.id.proposer earlier) + suc place
  there : slice_get (drafts_by c.id.proposer os) place ≡ Some c.draft

get_behind : {X : Type 0} (xs ys : List X) (k : ℕ) → slice_get (xs ++ ys) (length xs + k) ≡ slice_get ys k
get_behind [] ys k = ap (slice_get ys) (omega arith)
get_behind (x ∷ xs) ys k = ap (slice_get (x ∷ (xs ++ ys))) (next (length xs) k) ∙ get_behind xs ys k
  where
    next : (n m : ℕ) → suc n + m ≡ suc (n + m)
    next n m = omega arith

module _ (earlier : List (ℕ × DraftView)) (o : ℕ × DraftView) where
  abbrev later : List (ℕ × DraftView)
  later = earlier ++ o ∷ []

  -- how many drafts of a proposer there are with this offer
  later_length : (p : ℕ) → length (drafts_by p later) ≡ length (drafts_by p earlier) + length (own_draft p o)
  later_length p =
      let whole = ap length (drafts_append p earlier (o ∷ [])) in
      let first = length-append (drafts_by p earlier) (own_draft p o ++ []) in
      let last = length-append (own_draft p o) [] in
      omega arith

  first_after : (os : List (ℕ × DraftView)) → IsAfter earlier (o ∷ os) (command_after earlier o)
  first_after os = record {
    place = 0;
    number = let n = moves_length o.0 earlier in omega arith;
    there = ap (λ l. slice_get (l ++ drafts_by o.0 os) 0) (own_itself o.0 o.1);
  }

  then_after : (os : List (ℕ × DraftView)) (c : Command) → IsAfter later os c → IsAfter earlier (o ∷ os) c
  then_after os c h = record {
    place = length (own_draft c.id.proposer o) + h.place;
    number = let n = h.number in let m = later_length c.id.proposer in omega arith;
    there = get_behind (own_draft c.id.proposer o) (drafts_by c.id.proposer os) h.place ∙ h.there;
  }

  -- a command that is made of this offer is the one that it makes
  first_is : (c : Command) → c.id.number ≡ length (drafts_by c.id.proposer earlier) + 1 → (c.id.proposer ≡ o.0) × (o.1 ≡ c.draft) → command_after earlier o ≡ c
  first_is c n is =
      let number : length (moves_of (Proposer o.0) earlier) + 1 ≡ c.id.number =
      ap (λ p. length (moves_of (Proposer p) earlier) + 1) (sym is.0) ∙ (let m = moves_length c.id.proposer earlier in omega arith) in
      λ i. record { id = record { proposer = sym is.0 i; number = number i }; draft = is.1 i }

among_after : (earlier os : List (ℕ × DraftView)) (c : Command) → Among (commands_after earlier os) c → IsAfter earlier os c
among_after earlier [] c m = elim m [ ]
among_after earlier (o ∷ os) c m = elim m [
  | inl e ↦ subst (IsAfter earlier (o ∷ os)) e (first_after earlier o os)
  | inr n ↦ then_after earlier o os c (among_after (earlier ++ o ∷ []) os c n)
]

one_draft : (p : ℕ) (o : ℕ × DraftView) → length (own_draft p o) ≤ 1
one_draft p o = by (nat_eq p o.0)
  where
    by : (b : Bool) → length (cond {A = List DraftView} b (o.1 ∷ []) []) ≤ 1
    by true = omega arith
    by false = omega arith

-- a place in two lists is one of the first or one of the second
get_either : {X P : Type 0} (xs ys : List X) (k : ℕ) (x : X) → slice_get (xs ++ ys) k ≡ Some x → (Among xs x → k < length xs → P) → ((j : ℕ) → k ≡ length xs + j → slice_get ys j ≡ Some x → P) → P
get_either [] ys k x e f g = g k (omega arith) e
get_either (z ∷ xs) ys zero x e f g = f (inl (let is : z ≡ x = cc in is)) (omega arith)
get_either (z ∷ xs) ys (suc k) x e f g = get_either xs ys k x e (λ m l. f (inr m) (omega arith)) (λ j q r. g j (omega arith) r)

after_among : (earlier os : List (ℕ × DraftView)) (c : Command) → IsAfter earlier os c → Among (commands_after earlier os) c
after_among earlier [] c h = absurd (let none : None ≡ Some c.draft = h.there in cc)
after_among earlier (o ∷ os) c h =
    let n = h.number in get_either (own_draft c.id.proposer o) (drafts_by c.id.proposer os) h.place c.draft h.there
    (λ m l.
    let short = one_draft c.id.proposer o in
    inl (first_is earlier o c (omega arith) (own_is c.id.proposer o c.draft m)))
    (λ j q r.
    let more = later_length earlier o c.id.proposer in
    inr (after_among (earlier ++ o ∷ []) os c (record { place = j; number = omega arith; there = r })))

-- ---- all commands of a script

-- they are the commands that are made of the drafts of their proposers
pub script_made : (os : List (ℕ × DraftView)) (c : Command) → Among (commands_of os) c → IsMade (λ p. drafts_by p os) c.id.proposer c.id.number c.draft
script_made os c m = let h = among_after [] os c m in let n = h.number in record { place = h.place; numbers = omega arith; there = h.there }

pub made_script : (os : List (ℕ × DraftView)) (c : Command) → IsMade (λ p. drafts_by p os) c.id.proposer c.id.number c.draft → Among (commands_of os) c
made_script os c h = let n = h.numbers in after_among [] os c (record { place = h.place; number = omega arith; there = h.there })

known_after : (earlier os : List (ℕ × DraftView)) → All IsKnown os → (c : Command) → Among (commands_after earlier os) c → c.id.proposer < PROPOSERS
known_after earlier [] known c m = elim m [ ]
known_after earlier (o ∷ os) known c m = elim m [
  | inl e ↦ subst (λ (x : Command). x.id.proposer < PROPOSERS) e (All-head IsKnown o os known)
  | inr n ↦ known_after (earlier ++ o ∷ []) os (All-tail IsKnown o os known) c n
]

-- their proposers are some of the eight
pub script_known : (os : List (ℕ × DraftView)) → All IsKnown os → (c : Command) → Among (commands_of os) c → c.id.proposer < PROPOSERS
script_known os known c m = known_after [] os known c m

length_after : (earlier os : List (ℕ × DraftView)) → length (commands_after earlier os) ≡ length os
length_after earlier [] = refl
length_after earlier (o ∷ os) = ap suc (length_after (earlier ++ o ∷ []) os)

-- each offer makes one
pub script_length : (os : List (ℕ × DraftView)) → length (commands_of os) ≡ length os
script_length os = length_after [] os

-- ---- no two of them are equal

pub in_among : (xs : List Command) (c : Command) → In xs c → Among xs c
in_among [] c i = absurd (cc)
in_among (x ∷ xs) c i = one_of (same c x) (list_any (same c) xs) i (λ e. inl (sym (same-true c x e))) (λ m. inr (in_among xs c m))

pub among_in : (xs : List Command) (c : Command) → Among xs c → In xs c
among_in [] c m = elim m [ ]
among_in (x ∷ xs) c m = elim m [
  | inl e ↦ left_of (same c x) (list_any (same c) xs) (ap (same c) e ∙ same_itself c)
  | inr n ↦ right_of (same c x) (list_any (same c) xs) (among_in xs c n)
]

-- the command of an offer is none of those that are made after it
first_once : (earlier os : List (ℕ × DraftView)) (o : ℕ × DraftView) → Among (commands_after (earlier ++ o ∷ []) os) (command_after earlier o) → ⊥
first_once earlier os o m =
    let h = among_after (earlier ++ o ∷ []) os (command_after earlier o) m in
    let n = h.number in
    let own = moves_length o.0 earlier in
    let more = later_length earlier o o.0 in
    let one : length (own_draft o.0 o) ≡ 1 = ap length (own_itself o.0 o.1) in
    omega arith

once_after : (earlier os : List (ℕ × DraftView)) → no_repeat (commands_after earlier os) ≡ true
once_after earlier [] = refl
once_after earlier (o ∷ os) =
    let rest = commands_after (earlier ++ o ∷ []) os in both
    (ap not (not_true (list_any (same (command_after earlier o)) rest) (λ i. first_once earlier os o (in_among rest (command_after earlier o) i))))
    (once_after (earlier ++ o ∷ []) os)

pub script_no_repeat : (os : List (ℕ × DraftView)) → no_repeat (commands_of os) ≡ true
script_no_repeat os = once_after [] os
