-- The line of a configuration.
use Rattle.std.proofs.Common.{◌≡◌, ◌≢◌, ℕ, ◌<◌, ◌≤◌, ◌^◌, false, List, [], ◌∷◌, ◌++◌, length, Ok, refl, sym, ap, subst, ◌∙◌, arith, append_assoc}
use Rattle.std.specs.Prelude.{decimal, codes}
use Rattle.std.proofs.lemmas.Fmt.{length-decimal-le}
use Rattle.gp_round.specs.Counts.{Counts}
use Rattle.gp_round.specs.Ranges.{AreInRange}
use Rattle.gp_words.specs.Bytes.{Lacks}
use Rattle.gp_words.specs.Lines.{is_line_feed}
use Rattle.gp_words.specs.Spacing.{joined}
use Rattle.gp_words.specs.Tokens.{tokens_of, has_empty}
use Rattle.gp_words.proofs.NumberLemmas.{decimal_spaceless, decimal_feedless}
use Rattle.gp_words.proofs.TokenLemmas.{tokens_split, joined_tokens}
use Rattle.gp_store.proofs.ReadingLemmas.{bound}
use Rattle.gp_store.proofs.SpellingLemmas.{value_some}
use Rattle.gp_script.specs.Names.{count_of}
use Rattle.gp_script.specs.Forms.{Form, NodesLine, OfferLine, BeginLine, TakeLine, FallLine, ShowLine, form_of}
use Rattle.gp_script.specs.Items.{counts_of}
use Rattle.gp_script.specs.Spelling.{nodes_text, SaysCounts}
use Rattle.gp_script.proofs.NameLemmas.{count_says, count_read}
use Rattle.gp_script.specs.Rows.{HasWords}
use Rattle.gp_script.proofs.FormLemmas.{form_says, form_read}
use Rattle.gp_script.proofs.LineLemmas.{spaced_apart, feedless_apart, length_apart}

-- the form of the line that says a configuration
abbrev pub nodes_line_for : Counts → Form
nodes_line_for c = NodesLine (decimal c.acceptors) (decimal c.coordinators) (decimal c.learners)

abbrev pub nodes_words : Counts → List (List ℕ)
nodes_words c = codes "nodes" ∷ decimal c.acceptors ∷ decimal c.coordinators ∷ decimal c.learners ∷ []

-- the form is that of the configuration's line, and the configuration is in range
pub record IsCounts (form : Form) (c : Counts) : Type 0 where
  pub same : form ≡ nodes_line_for c
  pub range : AreInRange c.acceptors c.coordinators c.learners

pub counts_read : (form : Form) (c : Counts) → counts_of form ≡ Ok c → IsCounts form c
unfolding counts_of
counts_read (NodesLine a k l) c e =
    let (acceptors, is_a, e) = bound (count_of 3 7 a) _ c e in
    let (coordinators, is_k, e) = bound (count_of 1 5 k) _ c e in
    let (learners, is_l, e) = bound (count_of 1 4 l) _ c e in
    let sa = count_says 3 7 a acceptors is_a in
    let sk = count_says 1 5 k coordinators is_k in
    let sl = count_says 1 4 l learners is_l in
    let made : Counts = record { acceptors = acceptors; coordinators = coordinators; learners = learners } in
    let same : made ≡ c = cc in
    subst (IsCounts (NodesLine a k l)) same (record {
      same = cc (sa.written, sk.written, sl.written);
      range = record { three_acceptors = sa.least; seven_acceptors = sa.most; one_coordinator = sk.least; five_coordinators = sk.most; one_learner = sl.least; four_learners = sl.most };
    })
counts_read (OfferLine node words) c e = absurd cc
counts_read (BeginLine node count mode) c e = absurd cc
counts_read (TakeLine node message) c e = absurd cc
counts_read (FallLine node form) c e = absurd cc
counts_read (ShowLine node) c e = absurd cc

-- a configuration that a line says is in range
pub counts_in_range : (form : Form) (c : Counts) → counts_of form ≡ Ok c → AreInRange c.acceptors c.coordinators c.learners
counts_in_range form c e = (counts_read form c e).range

counts_again : (c : Counts) → AreInRange c.acceptors c.coordinators c.learners → counts_of (nodes_line_for c) ≡ Ok c
unfolding counts_of
counts_again c range =
    rw (
      count_read 3 7 c.acceptors (omega arith) range.three_acceptors range.seven_acceptors,
      count_read 1 5 c.coordinators (omega arith) range.one_coordinator range.five_coordinators,
      count_read 1 4 c.learners (omega arith) range.one_learner range.four_learners,
    ) refl

nodes_joined : (c : Counts) → joined (nodes_words c) ≡ nodes_text c
nodes_joined c =
    let a = decimal c.acceptors in
    let k = decimal c.coordinators in
    let l = decimal c.learners in
    ap (λ (t : List ℕ). codes "nodes " ++ t)
    (spaced_apart a (k ++ 32 ∷ l) ∙ sym (append_assoc (a ++ codes " ") k (32 ∷ l)) ∙ spaced_apart (a ++ codes " " ++ k) l)

-- its three numbers are below 2^64
record CountsFit (c : Counts) : Type 0 where
  acceptors : c.acceptors < 2 ^ 64
  coordinators : c.coordinators < 2 ^ 64
  learners : c.learners < 2 ^ 64

counts_fit : (c : Counts) → AreInRange c.acceptors c.coordinators c.learners → CountsFit c
counts_fit c range = record { acceptors = omega arith; coordinators = omega arith; learners = omega arith }

nodes_there : (c : Counts) → nodes_words c ≢ []
nodes_there c e = cc

-- the tokens of a configuration's line are its words
pub nodes_tokens : (c : Counts) → AreInRange c.acceptors c.coordinators c.learners → tokens_of (nodes_text c) ≡ nodes_words c
nodes_tokens c range =
    let f = counts_fit c range in
    ap tokens_of (sym (nodes_joined c))
    ∙ tokens_split (nodes_words c) (nodes_there c)
    (refl, (decimal_spaceless c.acceptors f.acceptors, (decimal_spaceless c.coordinators f.coordinators, (decimal_spaceless c.learners f.learners, tt))))

nodes_some : (c : Counts) → CountsFit c → has_empty (nodes_words c) ≡ false
nodes_some c f = rw (value_some c.acceptors f.acceptors, value_some c.coordinators f.coordinators, value_some c.learners f.learners) refl

-- the line of a configuration says the configuration
pub nodes_say : (c : Counts) → AreInRange c.acceptors c.coordinators c.learners → SaysCounts (tokens_of (nodes_text c)) c
nodes_say c range =
    let f = counts_fit c range in
    record {
      form = nodes_line_for c;
      of_tokens = ap form_of (nodes_tokens c range) ∙ form_read (nodes_line_for c) (nodes_words c) (nodes_some c f) refl;
      said = counts_again c range;
    }

-- a text that says a configuration is the configuration's line
pub only_nodes : (text : List ℕ) (c : Counts) → SaysCounts (tokens_of text) c → text ≡ nodes_text c
only_nodes text c says =
    let read = counts_read says.form c says.said in
    let has = (form_says (tokens_of text) says.form says.of_tokens).1 in
    let words = subst (λ (form : Form). HasWords form (tokens_of text)) read.same has in
    sym (joined_tokens text) ∙ ap joined words ∙ nodes_joined c

pub nodes_feedless : (c : Counts) → AreInRange c.acceptors c.coordinators c.learners → Lacks is_line_feed (nodes_text c)
nodes_feedless c range =
    let f = counts_fit c range in
    let a = decimal c.acceptors in
    let k = decimal c.coordinators in
    feedless_apart (a ++ codes " " ++ k) (decimal c.learners)
    (feedless_apart a k (decimal_feedless c.acceptors f.acceptors) (decimal_feedless c.coordinators f.coordinators)) (decimal_feedless c.learners f.learners)

pub nodes_short : (c : Counts) → AreInRange c.acceptors c.coordinators c.learners → length (nodes_text c) ≤ 11
nodes_short c range =
    let a = decimal c.acceptors in
    let k = decimal c.coordinators in
    let outer = length_apart (a ++ codes " " ++ k) (decimal c.learners) in
    let inner = length_apart a k in
    let first = length-decimal-le 1 c.acceptors (omega arith) (omega arith) (omega arith) in
    let second = length-decimal-le 1 c.coordinators (omega arith) (omega arith) (omega arith) in
    let third = length-decimal-le 1 c.learners (omega arith) (omega arith) (omega arith) in
    omega arith
