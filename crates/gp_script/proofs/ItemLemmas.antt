-- What a line says is admitted, and what is admitted has one line that says it.
use Rattle.std.proofs.Common.{◌≡◌, ℕ, ◌<◌, ◌≤◌, ◌^◌, true, ◌&&◌, eqb, ltb, leb, List, Option, Some, None, Result, Ok, Err, refl, sym, ap, subst, ◌∙◌, arith}
use Rattle.std.specs.Prelude.{decimal}
use Rattle.std.specs.Option.{ok_or}
use Rattle.std.proofs.lemmas.Bool.{and_parts, eqb-true, ltb-true, leb-true, lt-ltb, le-leb, eq-eqb}
use Rattle.gp_command.specs.declared.command.TheConstants.{PROPOSERS}
use Rattle.gp_round.specs.Counts.{Counts}
use Rattle.gp_round.specs.Ranges.{AreInRange}
use Rattle.gp_round.specs.Configs.{is_between, is_owner, lead_of, round_of}
use Rattle.gp_round.specs.declared.round.Round.{Round}
use Rattle.gp_msg.specs.declared.node.Node.{Node}
use Rattle.gp_msg.specs.declared.node.Node.TheVariants.{Proposer, Coordinator, Acceptor, Learner}
use Rattle.gp_msg.specs.declared.event.Kept.{Kept}
use Rattle.gp_msg.specs.declared.event.Kept.TheVariants as kept
use Rattle.gp_msg.specs.Nodes.{node_number, is_present, may_fall, may_keep}
use Rattle.gp_words.specs.Tokens.{tokens_of}
use Rattle.gp_store.specs.declared.form.OpFault.{OpFault}
use Rattle.gp_service.specs.Languages.{Language, IsLanguage}
use Rattle.gp_service.proofs.Spoken.{said_spoken}
use Rattle.gp_store.proofs.ReadingLemmas.{bound}
use Rattle.gp_script.specs.declared.reason.Reason.TheVariants.{BadLine, BadFall}
use Rattle.gp_script.specs.declared.items.Item.{Item}
use Rattle.gp_script.specs.declared.items.Item.TheVariants.{Offer, Begin, Take, Fall, Show}
use Rattle.gp_script.specs.Reasons.{or_reason}
use Rattle.gp_script.specs.Names.{number, node_of, proposer_of, coordinator_of, learner_of}
use Rattle.gp_script.specs.Forms.{KeptForm, NothingKept, TakeKept, BeginKept, Form, NodesLine, OfferLine, BeginLine, TakeLine, FallLine, ShowLine}
use Rattle.gp_script.specs.Items.{round_count, step_in, kept_of, fall_of, offer_of, plain_item_of, item_of}
use Rattle.gp_script.specs.Admitted.{IsInPlace, IsAdmitted}
use Rattle.gp_script.specs.Spelling.{node_word}
use Rattle.gp_script.proofs.Steps.{test_then, ok_or_says}
use Rattle.gp_script.proofs.NameLemmas.{number_says, number_read, count_says, count_read, IsNamed, node_says, proposer_says, coordinator_says, learner_says, node_read}

-- the form of the line that says an item
abbrev pub kept_line : Option Kept → KeptForm
kept_line None = NothingKept
kept_line (Some (kept.Take message)) = TakeKept (decimal message)
kept_line (Some (kept.Begin round)) = BeginKept (decimal round.count) round.mode

abbrev pub line_for : Item → Form
line_for (Offer proposer draft) = OfferLine (node_word (Proposer proposer)) (tokens_of draft.body)
line_for (Begin coordinator round) = BeginLine (node_word (Coordinator coordinator)) (decimal round.count) round.mode
line_for (Take node message) = TakeLine (node_word node) (decimal message)
line_for (Fall node what) = FallLine (node_word node) (kept_line what)
line_for (Show learner) = ShowLine (node_word (Learner learner))

-- the form is that of the item's line, and the item is admitted
pub record IsRead (language : Language) (c : Counts) (form : Form) (item : Item) : Type 0 where
  pub same : form ≡ line_for item
  pub admitted : IsAdmitted language c item

-- ---- rounds

-- the round is in range, and it is the one that this coordinator begins with its count and mode
pub record IsOwn (coordinator : ℕ) (round : Round) : Type 0 where
  pub least : 1 ≤ round.count
  pub most : round.count ≤ 1000000
  pub made : round_of coordinator round.count round.mode ≡ round

own_owned : (many n : ℕ) (round : Round) → n < many → IsOwn n round → is_owner many n round ≡ true
own_owned many n round lt own =
    subst (λ (r : Round). is_owner many n r ≡ true) own.made
    (rw (le-leb 1 round.count own.least, le-leb round.count 1000000 own.most, lt-ltb n many lt, eq-eqb (lead_of round.mode n) (lead_of round.mode n) refl) refl)

pub owner_there : (many n : ℕ) (round : Round) → is_owner many n round ≡ true → n < many
owner_there many n round e = ltb-true n many (and_parts (is_between 1 1000000 round.count) (ltb n many) (and_parts (is_between 1 1000000 round.count && ltb n many) (eqb round.lead (lead_of round.mode n)) e).0).1

pub owned_own : (many n : ℕ) (round : Round) → is_owner many n round ≡ true → IsOwn n round
owned_own many n round e =
    let (front, led) = and_parts (is_between 1 1000000 round.count && ltb n many) (eqb round.lead (lead_of round.mode n)) e in
    let (between, there) = and_parts (is_between 1 1000000 round.count) (ltb n many) front in
    let (least, most) = and_parts (leb 1 round.count) (leb round.count 1000000) between in
    let with_lead : ℕ → Round = λ lead. record { count = round.count; mode = round.mode; lead = lead } in
    record {
      least = leb-true 1 round.count least;
      most = leb-true round.count 1000000 most;
      made = ap with_lead (sym (eqb-true round.lead (lead_of round.mode n) led));
    }

-- ---- what is read is admitted

or_reason_says : {X : Type 0} (r : Result X OpFault) (x : X) → or_reason r ≡ Ok x → r ≡ Ok x
or_reason_says (Ok made) x e = cc
or_reason_says (Err fault) x e = absurd cc

-- what a crash keeps is right, whoever crashes
abbrev IsKept : ℕ → Option Kept → Type 0
IsKept n None = Unit {0}
IsKept n (Some (kept.Take message)) = message < 2 ^ 64
IsKept n (Some (kept.Begin round)) = IsOwn n round

record IsKeptRead (n : ℕ) (form : KeptForm) (what : Option Kept) : Type 0 where
  same : form ≡ kept_line what
  right : IsKept n what

kept_read : (n : ℕ) (form : KeptForm) (what : Option Kept) → kept_of n form ≡ Ok what → IsKeptRead n form what
kept_read n NothingKept what e = let same : None ≡ what = cc in subst (IsKeptRead n NothingKept) same (record { same = refl; right = tt })
kept_read n (TakeKept token) what e =
    let (message, is, e) = bound (number token) _ what e in
    let (written, small) = number_says token message is in
    let same : Some (kept.Take message) ≡ what = cc in
    subst (IsKeptRead n (TakeKept token)) same (record { same = ap TakeKept written; right = small })
kept_read n (BeginKept token mode) what e =
    let (count, is, e) = bound (round_count token) _ what e in
    let said = count_says 1 1000000 token count is in
    let same : Some (kept.Begin (round_of n count mode)) ≡ what = cc in
    subst (IsKeptRead n (BeginKept token mode)) same (record { same = ap (λ (t : List ℕ). BeginKept t mode) said.written; right = record { least = said.least; most = said.most; made = refl } })

can_keep : (c : Counts) (node : Node) (what : Option Kept) → is_present c node ≡ true → may_fall node (step_in (kept_line what)) ≡ true → IsKept (node_number node) what → may_keep c (2 ^ 64) node what ≡ true
can_keep c (Proposer n) what there may right = absurd cc
can_keep c (Coordinator n) None there may right = refl
can_keep c (Coordinator n) (Some (kept.Take message)) there may right = lt-ltb message (2 ^ 64) right
can_keep c (Coordinator n) (Some (kept.Begin round)) there may right = own_owned c.coordinators n round (ltb-true n c.coordinators there) right
can_keep c (Acceptor n) None there may right = refl
can_keep c (Acceptor n) (Some (kept.Take message)) there may right = lt-ltb message (2 ^ 64) right
can_keep c (Acceptor n) (Some (kept.Begin round)) there may right = absurd cc
can_keep c (Learner n) None there may right = refl
can_keep c (Learner n) (Some (kept.Take message)) there may right = absurd cc
can_keep c (Learner n) (Some (kept.Begin round)) there may right = absurd cc

fall_read : (language : Language) (c : Counts) (token : List ℕ) (node : Node) (form : KeptForm) (item : Item) → IsNamed c token node → fall_of node form ≡ Ok item → IsRead language c (FallLine token form) item
fall_read language c token node form item named e =
    let (may, e) = test_then (may_fall node (step_in form)) _ item BadFall e in
    let (what, is, e) = bound (kept_of (node_number node) form) _ item e in
    let read = kept_read (node_number node) form what is in
    let same : Fall node what ≡ item = cc in
    subst (IsRead language c (FallLine token form)) same (record {
      same = cc (named.written, read.same);
      admitted = (named.there, can_keep c node what named.there (subst (λ (f : KeptForm). may_fall node (step_in f) ≡ true) read.same may) read.right);
    })

offer_read : (language : Language) → IsLanguage language → (c : Counts) (token : List ℕ) (words : List (List ℕ)) (item : Item) → offer_of language c token words ≡ Ok item → IsRead language c (OfferLine token words) item
unfolding offer_of
offer_read language spelled c token words item e =
    let (said, is, e) = bound (ok_or (language words) BadLine) _ item e in
    let (proposer, of_node, e) = bound (proposer_of c token) _ item e in
    let (draft, of_words, e) = bound (or_reason said) _ item e in
    let named = proposer_says c token proposer of_node in
    let says : language words ≡ Some (Ok draft) = ok_or_says (language words) said BadLine is ∙ ap Some (or_reason_says said draft of_words) in
    let same : Offer proposer draft ≡ item = cc in
    subst (IsRead language c (OfferLine token words)) same (record {
      same = (λ i. OfferLine (named.written i) ((spelled words draft says).tokens i));
      admitted = (ltb-true proposer PROPOSERS named.there, said_spoken language spelled words draft says);
    })

-- a form that says an item is that of its line, and the item is admitted
pub item_read : (language : Language) → IsLanguage language → (c : Counts) (form : Form) (item : Item) → item_of language c form ≡ Ok item → IsRead language c form item
unfolding plain_item_of
item_read language spelled c (NodesLine a k l) item e = absurd cc
item_read language spelled c (OfferLine token words) item e = offer_read language spelled c token words item e
item_read language spelled c (BeginLine token counted mode) item e =
    let (coordinator, is, e) = bound (coordinator_of c token) _ item e in
    let (count, is_count, e) = bound (round_count counted) _ item e in
    let named = coordinator_says c token coordinator is in
    let said = count_says 1 1000000 counted count is_count in
    let same : Begin coordinator (round_of coordinator count mode) ≡ item = cc in
    subst (IsRead language c (BeginLine token counted mode)) same (record {
      same = cc (named.written, said.written);
      admitted = own_owned c.coordinators coordinator (round_of coordinator count mode) (ltb-true coordinator c.coordinators named.there) (record { least = said.least; most = said.most; made = refl });
    })
item_read language spelled c (TakeLine token counted) item e =
    let (node, is, e) = bound (node_of c token) _ item e in
    let (message, is_message, e) = bound (number counted) _ item e in
    let named = node_says c token node is in
    let (written, small) = number_says counted message is_message in
    let same : Take node message ≡ item = cc in
    subst (IsRead language c (TakeLine token counted)) same (record { same = cc (named.written, written); admitted = (named.there, small) })
item_read language spelled c (FallLine token form) item e =
    let (node, is, e) = bound (node_of c token) _ item e in
    fall_read language c token node form item (node_says c token node is) e
item_read language spelled c (ShowLine token) item e =
    let (learner, is, e) = bound (learner_of c token) _ item e in
    let named = learner_says c token learner is in
    let same : Show learner ≡ item = cc in
    subst (IsRead language c (ShowLine token)) same (record { same = ap ShowLine named.written; admitted = ltb-true learner c.learners named.there })

-- what a line says is admitted
pub item_admitted : (language : Language) → IsLanguage language → (c : Counts) (form : Form) (item : Item) → item_of language c form ≡ Ok item → IsAdmitted language c item
item_admitted language spelled c form item e = (item_read language spelled c form item e).admitted

-- what is admitted is in place
pub in_place : (language : Language) (c : Counts) (item : Item) → IsAdmitted language c item → IsInPlace c item
in_place language c (Offer proposer draft) a = a.0
in_place language c (Begin coordinator round) a = a
in_place language c (Take node message) a = a
in_place language c (Fall node what) a = a
in_place language c (Show learner) a = a

-- ---- what is admitted is read

fall_again : (c : Counts) (node : Node) (what : Option Kept) → may_keep c (2 ^ 64) node what ≡ true → fall_of node (kept_line what) ≡ Ok (Fall node what)
fall_again c (Proposer n) what can = absurd cc
fall_again c (Coordinator n) None can = refl
fall_again c (Coordinator n) (Some (kept.Take message)) can = rw (number_read message (ltb-true message (2 ^ 64) can)) refl
fall_again c (Coordinator n) (Some (kept.Begin round)) can =
    let own = owned_own c.coordinators n round can in
    rw (count_read 1 1000000 round.count (let most = own.most in omega arith) own.least own.most) (ap (λ (r : Round). Ok (Fall (Coordinator n) (Some (kept.Begin r)))) own.made)
fall_again c (Acceptor n) None can = refl
fall_again c (Acceptor n) (Some (kept.Take message)) can = rw (number_read message (ltb-true message (2 ^ 64) can)) refl
fall_again c (Acceptor n) (Some (kept.Begin round)) can = absurd cc
fall_again c (Learner n) None can = refl
fall_again c (Learner n) (Some (kept.Take message)) can = absurd cc
fall_again c (Learner n) (Some (kept.Begin round)) can = absurd cc

-- the form of an admitted item's line says the item
pub item_again : (language : Language) (c : Counts) (item : Item) → AreInRange c.acceptors c.coordinators c.learners → IsAdmitted language c item → item_of language c (line_for item) ≡ Ok item
unfolding offer_of plain_item_of
item_again language c (Offer proposer draft) range a = rw (a.1, node_read c (Proposer proposer) range (lt-ltb proposer PROPOSERS a.0)) refl
item_again language c (Begin coordinator round) range a =
    let own = owned_own c.coordinators coordinator round a in
    rw (node_read c (Coordinator coordinator) range (lt-ltb coordinator c.coordinators (owner_there c.coordinators coordinator round a)), count_read 1 1000000 round.count (let most = own.most in omega arith) own.least own.most)
    (ap (λ (r : Round). Ok (Begin coordinator r)) own.made)
item_again language c (Take node message) range a = rw (node_read c node range a.0, number_read message a.1) refl
item_again language c (Fall node what) range a = rw (node_read c node range a.0) (fall_again c node what a.1)
item_again language c (Show learner) range a = rw (node_read c (Learner learner) range (lt-ltb learner c.learners a)) refl
