-- The drafts that a proposer was given.
use Rattle.std.proofs.Common.{◌≡◌, ℕ, suc, ◌+◌, Bool, true, false, cond, nat_eq, List, [], ◌∷◌, ◌++◌, length, map, Option, Some, None, refl, sym, ap, ◌∙◌, subst, arith, append_assoc, length-append}
use Rattle.std.specs.Prelude.{slice_get}
use Rattle.std.proofs.lemmas.Bool.{eq-eqb, eqb-true}
use Rattle.std.proofs.lemmas.List.{append-nil}
use Rattle.gp_command.specs.Views.{DraftView}
use Rattle.gp_round.specs.Counts.{Counts}
use Rattle.gp_msg.specs.declared.node.Node.TheVariants.{Proposer}
use Rattle.gp_msg.specs.declared.event.Event.{Event}
use Rattle.gp_msg.specs.declared.event.Event.TheVariants.{Offer, Begin, Take, Fall}
use Rattle.gp_msg.specs.declared.record.Record.{Record}
use Rattle.gp_msg.specs.Messages.{Stamped, Offered, Entry, entry_of}
use Rattle.gp_proposer.specs.State.{ProposerState}
use Rattle.gp_proposer.specs.Table.{proposer_offer, numbered}
use Rattle.gp_msg.specs.Nodes.{node_of, same_node}
use Rattle.gp_run.specs.Legal.{Legal}
use Rattle.gp_run.specs.Runs.{newest_first}
use Rattle.gp_run.specs.States.{proposer_acts, proposer_at}
use Rattle.gp_wire.specs.Own.{own, own_events, event_in}
use Rattle.gp_cell.specs.Still.{entries_append}

-- the draft that an event gives to proposer p, if it offers one
abbrev pub given : ℕ → Event → List DraftView
given p (Offer q d) = cond (nat_eq p q) (d ∷ []) []
given p (Begin c r) = []
given p (Take node k) = []
given p (Fall node what) = []

-- the drafts that some events give to proposer p
abbrev pub drafts_in : ℕ → List Event → List DraftView
drafts_in p [] = []
drafts_in p (e ∷ es) = given p e ++ drafts_in p es

-- the drafts that proposer p was given in a run, the oldest first
abbrev pub drafts_at : ℕ → List Entry → List DraftView
drafts_at p [] = []
drafts_at p (e ∷ es) = drafts_at p es ++ given p e.event

-- the command has the number of a draft of its proposer, and is made of it
pub record IsMade (drafts : ℕ → List DraftView) (proposer number : ℕ) (draft : DraftView) : Type 0 where
  pub place : ℕ
  pub numbers : number ≡ suc place
  pub there : slice_get (drafts proposer) place ≡ Some draft

-- ---- how many

offers_after : (p : ℕ) (s : ProposerState) (event : Event) → (proposer_acts p s event).0.offers ≡ s.offers + length (given p event)
offers_after p s (Offer q d) = by (nat_eq p q)
  where
    by : (b : Bool) → (cond {A = ProposerState × Option Stamped} b ((proposer_offer s d).0, Some (Offered (numbered s d))) (s, None)).0.offers ≡ s.offers + length (cond {A = List DraftView} b (d ∷ []) [])
    by true = omega arith
    by false = omega arith
offers_after p s (Begin c r) = omega arith
offers_after p s (Take node k) = omega arith
offers_after p s (Fall node what) = omega arith

pub counted : (p : ℕ) (es : List Entry) → (proposer_at p es).offers ≡ length (drafts_at p es)
counted p [] = refl
counted p (e ∷ es) =
    let one = offers_after p (proposer_at p es) e.event in
    let both = length-append (drafts_at p es) (given p e.event) in
    let more = counted p es in
    omega arith

-- ---- one event

pub given_itself : (p : ℕ) (d : DraftView) → given p (Offer p d) ≡ d ∷ []
given_itself p d = ap (λ b. cond {A = List DraftView} b (d ∷ []) []) (eq-eqb p p refl)

-- an event that gives a draft offers it
pub given_is : (p : ℕ) (event : Event) (d : DraftView) (ds : List DraftView) → given p event ≡ d ∷ ds → event ≡ Offer p d
given_is p (Offer q x) d ds h = by (nat_eq p q) refl h
  where
    by : (b : Bool) → nat_eq p q ≡ b → cond {A = List DraftView} b (x ∷ []) [] ≡ d ∷ ds → Offer q x ≡ Offer p d
    by true e g = let same : p ≡ q = eqb-true p q e in let is : x ≡ d = cc in cc
    by false e g = absurd (cc)
given_is p (Begin c r) d ds h = absurd (cc)
given_is p (Take node k) d ds h = absurd (cc)
given_is p (Fall node what) d ds h = absurd (cc)

-- an event of another node gives nothing
other_gives_nothing : (p : ℕ) (event : Event) → same_node (Proposer p) (node_of event) ≡ false → given p event ≡ []
other_gives_nothing p (Offer q d) h = ap (λ b. cond {A = List DraftView} b (d ∷ []) []) h
other_gives_nothing p (Begin c r) h = refl
other_gives_nothing p (Take node k) h = refl
other_gives_nothing p (Fall node what) h = refl

-- ---- a list

-- each entry is of the node of its event
AreOwn : List Entry → Type 0
AreOwn [] = Unit {0}
AreOwn (e ∷ es) = (e.node ≡ node_of e.event) × AreOwn es

legal_own : (config : Counts) (es : List Entry) → Legal config es → AreOwn es
unfolding AreOwn
legal_own config [] legal = tt
legal_own config (e ∷ es) legal = (legal.1.own_node, legal_own config es legal.0)

own_before : (xs : List Entry) (e : Entry) → AreOwn (xs ++ e ∷ []) → AreOwn xs × (e.node ≡ node_of e.event)
unfolding AreOwn
own_before [] e h = (tt, h.0)
own_before (x ∷ xs) e h = let r = own_before xs e h.1 in ((h.0, r.0), r.1)

drafts_before : (p : ℕ) (xs : List Entry) (e : Entry) → drafts_at p (xs ++ e ∷ []) ≡ given p e.event ++ drafts_at p xs
drafts_before p [] e = sym (append-nil (given p e.event))
drafts_before p (x ∷ xs) e = ap (λ l. l ++ given p x.event) (drafts_before p xs e) ∙ append_assoc (given p e.event) (drafts_at p xs) (given p x.event)

one_more : (p : ℕ) (r : Record) (rest : List Record) → r.node ≡ node_of r.event → (b : Bool) → same_node (Proposer p) r.node ≡ b
    → drafts_in p (map event_in (cond {A = List Record} b (r ∷ rest) rest)) ≡ given p r.event ++ drafts_in p (map event_in rest)
one_more p r rest own true e = refl
one_more p r rest own false e = ap (λ l. l ++ drafts_in p (map event_in rest)) (sym (other_gives_nothing p r.event (ap (same_node (Proposer p)) (sym own) ∙ e)))

listed : (p : ℕ) (rs : List Record) → AreOwn (newest_first rs) → drafts_at p (newest_first rs) ≡ drafts_in p (own_events (Proposer p) rs)
listed p [] h = refl
listed p (r ∷ rs) h =
    let split : newest_first (r ∷ rs) ≡ newest_first rs ++ entry_of r ∷ [] = entries_append (r ∷ []) rs in
    let parts = own_before (newest_first rs) (entry_of r) (subst AreOwn split h) in
    ap (drafts_at p) split
    ∙ drafts_before p (newest_first rs) (entry_of r)
    ∙ ap (λ l. given p r.event ++ l) (listed p rs parts.0)
    ∙ sym (one_more p r (own (Proposer p) rs) parts.1 (same_node (Proposer p) r.node) refl)

-- the drafts that a proposer was given in a legal run are those of its events
pub drafts_of_list : (config : Counts) (p : ℕ) (list : List Record) → Legal config (newest_first list) → drafts_at p (newest_first list) ≡ drafts_in p (own_events (Proposer p) list)
drafts_of_list config p list legal = listed p list (legal_own config (newest_first list) legal)
