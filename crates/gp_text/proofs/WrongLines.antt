-- What is wrong with a line that is refused.
use Rattle.std.proofs.Common.{◌≡◌, inl, inr, ℕ, Bool, true, false, cond, leb, List, length, Ok, Err, refl}
use Rattle.std.specs.Prelude.{count_by}
use Rattle.std.specs.Option.{ok_or}
use Rattle.std.proofs.lemmas.Bool.{leb-true}
use Rattle.gp_round.specs.Counts.{Counts}
use Rattle.gp_round.specs.Ranges.{AreInRange}
use Rattle.gp_msg.specs.declared.event.Event.{Event}
use Rattle.gp_msg.specs.declared.event.Event.TheVariants.{Offer, Begin, Take, Fall}
use Rattle.gp_words.specs.Tokens.{tokens_of}
use Rattle.gp_memory.specs.Results.{◌>>=◌}
use Rattle.gp_service.specs.Languages.{Language}
use Rattle.gp_script.specs.declared.reason.Reason.{Reason}
use Rattle.gp_script.specs.declared.reason.Reason.TheVariants.{NoNodesLine, BadLine, NoMessage, TooManyCommands, TooManyEvents}
use Rattle.gp_script.specs.declared.items.Item.{Item}
use Rattle.gp_script.specs.declared.items.Item.TheVariants as item
use Rattle.gp_script.specs.Forms.{form_of}
use Rattle.gp_script.specs.Items.{item_of, counts_of}
use Rattle.gp_script.proofs.Steps.{ok_or_says, step_fails, ok_or_fails, fails_or}
use Rattle.gp_script.proofs.BrokenTokens.{line_breaks, counts_break}
use Rattle.gp_store.proofs.ReadingLemmas.{bound}
use Rattle.gp_text.specs.declared.limits.TheConstants.{MOST_OFFERS, MOST_EVENTS}
use Rattle.gp_text.specs.Reading.{Sofar, messages_after, is_offer, lacks_kept, add_event, add_item, item_in, table_line, is_passed, after_line, is_nodes, nodes_line}
use Rattle.gp_text.specs.Refusals.{IsWrongNodes, IsFull, MayNotFollow, IsWrongLine}

by_nodes : (b : Bool) (text : List ℕ) (why : Reason) → is_nodes (tokens_of text) ≡ b → cond b (ok_or (form_of (tokens_of text)) BadLine >>= counts_of) (Err NoNodesLine) ≡ Err why → IsWrongNodes text why
by_nodes true text why is e =
    inr (
      is,
      elim (step_fails (ok_or (form_of (tokens_of text)) BadLine) counts_of why e) [
        | inl none ↦ inl (ok_or_fails (form_of (tokens_of text)) BadLine why none)
        | inr f ↦ inr (f.0, ok_or_says (form_of (tokens_of text)) f.0 BadLine f.1, counts_break f.0 why f.2)
      ],
    )
by_nodes false text why is e = inl (is, cc)

pub wrong_nodes : (text : List ℕ) (why : Reason) → nodes_line text ≡ Err why → IsWrongNodes text why
unfolding nodes_line
wrong_nodes text why e = by_nodes (is_nodes (tokens_of text)) text why refl e

event_fails : (said : Sofar) (event : Event) (why : Reason) → add_event said event ≡ Err why → IsFull said why
unfolding add_event
event_fails said event why e =
    elim (fails_or (leb MOST_EVENTS (length said.events)) TooManyEvents _ why e) [
      | inl full ↦ (leb-true MOST_EVENTS (length said.events) full.0, full.1)
      | inr bad ↦ absurd cc
    ]

item_fails : (c : Counts) (said : Sofar) (says : Item) (why : Reason) → add_item c said says ≡ Err why → MayNotFollow c said says why
unfolding add_item
item_fails c said (item.Offer proposer draft) why e =
    elim (fails_or (leb MOST_OFFERS (count_by is_offer said.events)) TooManyCommands _ why e) [
      | inl many ↦ inl (leb-true MOST_OFFERS (count_by is_offer said.events) many.0, many.1)
      | inr later ↦ inr (event_fails said (Offer proposer draft) why later)
    ]
item_fails c said (item.Begin coordinator round) why e = event_fails said (Begin coordinator round) why e
item_fails c said (item.Take node message) why e =
    elim (fails_or (leb (messages_after c said.events) message) NoMessage _ why e) [
      | inl none ↦ inl (leb-true (messages_after c said.events) message none.0, none.1)
      | inr later ↦ inr (event_fails said (Take node message) why later)
    ]
item_fails c said (item.Fall node what) why e =
    elim (fails_or (lacks_kept (messages_after c said.events) what) NoMessage _ why e) [
      | inl none ↦ inl none
      | inr later ↦ inr (event_fails said (Fall node what) why later)
    ]
item_fails c said (item.Show learner) why e = absurd cc

table_fails : (language : Language) (c : Counts) → AreInRange c.acceptors c.coordinators c.learners → (said : Sofar) (text : List ℕ) (why : Reason) → table_line language c said text ≡ Err why → IsWrongLine language c said text why
unfolding table_line item_in
table_fails language c range said text why e =
    elim (step_fails (item_in language c text) (λ says. add_item c said says) why e) [
      | inl unsaid ↦ elim (step_fails (ok_or (form_of (tokens_of text)) BadLine) (item_of language c) why unsaid) [
        | inl none ↦ inl (ok_or_fails (form_of (tokens_of text)) BadLine why none)
        | inr f ↦ inr (f.0, ok_or_says (form_of (tokens_of text)) f.0 BadLine f.1, inl (line_breaks c range language f.0 why f.2))
      ]
      | inr i ↦
          let f = bound (ok_or (form_of (tokens_of text)) BadLine) (item_of language c) i.0 i.1 in
          inr (f.0, ok_or_says (form_of (tokens_of text)) f.0 BadLine f.1, inr (i.0, f.2, item_fails c said i.0 why i.2))
    ]

by_passed : (b : Bool) (language : Language) (c : Counts) → AreInRange c.acceptors c.coordinators c.learners → (said : Sofar) (text : List ℕ) (why : Reason) → is_passed text ≡ b → cond b (Ok said) (table_line language c said text) ≡ Err why
    → (is_passed text ≡ false) × IsWrongLine language c said text why
by_passed true language c range said text why is e = absurd cc
by_passed false language c range said text why is e = (is, table_fails language c range said text why e)

pub wrong_line : (language : Language) (c : Counts) → AreInRange c.acceptors c.coordinators c.learners → (said : Sofar) (text : List ℕ) (why : Reason) → after_line language c said text ≡ Err why → (is_passed text ≡ false) × IsWrongLine language c said text why
unfolding after_line
wrong_line language c range said text why e = by_passed (is_passed text) language c range said text why refl e
