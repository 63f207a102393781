-- How many bytes a report has.
use Rattle.std.proofs.Common.{◌≡◌, ℕ, zero, suc, ◌+◌, ◌*◌, ◌<◌, ◌≤◌, ◌^◌, List, [], ◌∷◌, ◌++◌, length, map, refl, arith}
use Rattle.std.specs.Prelude.{codes, decimal, count_by}
use Rattle.std.specs.List.{flat_map, range_with_len}
use Rattle.std.specs.FinMap.{empty, entries}
use Rattle.std.proofs.lemmas.Fmt.{length-decimal-le}
use Rattle.std.proofs.lemmas.List.{length-append, length-map}
use Rattle.gp_command.specs.declared.command.Command.{Command}
use Rattle.gp_command.specs.declared.command.CommandId.{CommandId}
use Rattle.gp_history.specs.History.{History}
use Rattle.gp_history.specs.Canonical.{canonical}
use Rattle.gp_round.specs.Counts.{Counts}
use Rattle.gp_round.specs.Ranges.{AreInRange}
use Rattle.gp_msg.specs.Messages.{Entry}
use Rattle.gp_run.specs.Legal.{Legal}
use Rattle.gp_run.specs.Learned.{learned_at}
use Rattle.gp_run.specs.Messages.{messages}
use Rattle.gp_run.specs.Runs.{oldest_first}
use Rattle.gp_words.specs.Spacing.{spaced, joined}
use Rattle.gp_words.proofs.NumberLemmas.{decimal_short}
use Rattle.gp_replica.specs.declared.reply.Reply.{Reply}
use Rattle.gp_replica.specs.Machines.{state_of, replies_to, replies_from}
use Rattle.gp_replica.specs.Runs.{by_identity}
use Rattle.gp_store.specs.Pairs.{Pairs}
use Rattle.gp_store.specs.Effects.{after_command, reply_to_command, store_rules}
use Rattle.gp_service.specs.Stores.{store_profile}
use Rattle.gp_report.specs.Texts.{identity, pair_text, reply_text, reply_item, commands_line, state_line, replies_line, history_lines, learner_text, totals_line, report_for, report}
use Rattle.gp_text.specs.declared.limits.TheConstants.{MOST_OFFERS}
use Rattle.gp_text.specs.Reading.{is_offer}
use Rattle.gp_verdict.proofs.OfferCounts.{IsKnown, AreKnown, held}
use Rattle.gp_verdict.proofs.StoreSizes.{AreSmall, IsBounded, after_bounded, state_bounded, empty_bounded, command_short}

-- ---- texts of several parts

len3 : (a b c : List ℕ) → length (a ++ b ++ c) ≡ length a + length b + length c
len3 a b c = let x = length-append (a ++ b) c in let y = length-append a b in omega (arith, x, y)

len5 : (a b c d e : List ℕ) → length (a ++ b ++ c ++ d ++ e) ≡ length a + length b + length c + length d + length e
len5 a b c d e = let x = len3 (a ++ b ++ c) d e in let y = len3 a b c in omega (arith, x, y)

len7 : (a b c d e f g : List ℕ) → length (a ++ b ++ c ++ d ++ e ++ f ++ g) ≡ length a + length b + length c + length d + length e + length f + length g
len7 a b c d e f g = let x = len3 (a ++ b ++ c ++ d ++ e) f g in let y = len5 a b c d e in omega (arith, x, y)

-- ---- words with spaces between

-- each of these words has at most this many bytes
abbrev AreWithin : ℕ → List (List ℕ) → Type 0
AreWithin most [] = Unit {0}
AreWithin most (word ∷ words) = (length word ≤ most) × AreWithin most words

-- as many bytes for each word, and one more
room : ℕ → List (List ℕ) → ℕ
room most [] = 0
room most (word ∷ words) = (most + 1) + room most words

joined_within : (most : ℕ) (words : List (List ℕ)) → AreWithin most words → length (joined words) ≤ room most words
unfolding room
joined_within most [] all = omega arith
joined_within most (word ∷ []) all = let one = all.0 in omega (arith, one)
joined_within most (word ∷ next ∷ words) all =
    let one = all.0 in
    let rest = joined_within most (next ∷ words) all.1 in
    let sum = length-append word (32 ∷ joined (next ∷ words)) in
    omega (arith, one, rest, sum)

spaced_within : (most : ℕ) (words : List (List ℕ)) → AreWithin most words → length (spaced words) ≤ 1 + room most words
spaced_within most [] all = omega arith
spaced_within most (word ∷ words) all = let j = joined_within most (word ∷ words) all in omega (arith, j)

room_23 : (words : List (List ℕ)) → room 23 words ≡ 24 * length words
unfolding room
room_23 [] = omega arith
room_23 (word ∷ words) = let r = room_23 words in omega (arith, r)

room_37 : (words : List (List ℕ)) → room 37 words ≡ 38 * length words
unfolding room
room_37 [] = omega arith
room_37 (word ∷ words) = let r = room_37 words in omega (arith, r)

room_44 : (words : List (List ℕ)) → room 44 words ≡ 45 * length words
unfolding room
room_44 [] = omega arith
room_44 (word ∷ words) = let r = room_44 words in omega (arith, r)

-- ---- words of a learner

identity_short : (most : ℕ) (id : CommandId) → most < 2 ^ 64 → IsKnown most id → length (identity id) ≤ 23
identity_short most id low known =
    let there = known.0 in let number = known.1 in
    let p : length (decimal id.proposer) ≤ 1 = length-decimal-le 1 id.proposer (omega arith) (omega (arith, there)) (omega (arith, there)) in
    let n : length (decimal id.number) ≤ 20 = decimal_short id.number (omega (arith, number, low)) in
    let x = length-append (codes "p" ++ decimal id.proposer ++ codes ".") (decimal id.number) in
    let y = len3 (codes "p") (decimal id.proposer) (codes ".") in
    omega (arith, p, n, x, y)

identities_within : (most : ℕ) (commands : List Command) → most < 2 ^ 64 → AreKnown most commands → AreWithin 23 (map (λ (c : Command). identity c.id) commands)
identities_within most [] low known = tt
identities_within most (c ∷ cs) low known = (identity_short most c.id low known.0, identities_within most cs low known.1)

pair_short : (pair : List ℕ × ℕ) → length pair.0 ≤ 16 → pair.1 < 2 ^ 64 → length (pair_text pair) ≤ 37
pair_short pair short low =
    let v = decimal_short pair.1 low in
    let x = len3 pair.0 (codes "=") (decimal pair.1) in
    omega (arith, v, x, short)

pairs_within : (pairs : List (List ℕ × ℕ)) → AreSmall pairs → AreWithin 37 (map pair_text pairs)
pairs_within [] small = tt
pairs_within (pair ∷ pairs) small = (pair_short pair small.0.0 small.0.1, pairs_within pairs small.1)

item_short : (most : ℕ) (id : CommandId) (reply : Reply) → most < 2 ^ 64 → IsKnown most id → length (reply_text reply) ≤ 20 → length (reply_item (id, reply)) ≤ 44
item_short most id reply low known short =
    let i = identity_short most id low known in
    let x = len3 (identity id) (codes "=") (reply_text reply) in
    omega (arith, i, x, short)

items_within : (most few : ℕ) (pairs : Pairs) (commands : List Command) → most < 2 ^ 64 → IsBounded pairs few → AreKnown most commands
    → AreWithin 44 (map reply_item (by_identity (replies_from store_rules pairs commands)))
items_within most few pairs [] low b known = tt
items_within most few pairs (c ∷ cs) low b known =
    (item_short most c.id (reply_to_command pairs c) low known.0 (command_short pairs few c b), items_within most (few + 1) (after_command pairs c) cs low (after_bounded pairs few c b) known.1)

items_many : (pairs : Pairs) (commands : List Command) → length (map reply_item (by_identity (replies_from store_rules pairs commands))) ≡ length commands
items_many pairs [] = refl
items_many pairs (c ∷ cs) = let r = items_many (after_command pairs c) cs in omega (arith, r)

-- ---- lines of a learner

commands_size : (learner most : ℕ) (commands : List Command) → learner < 2 ^ 64 → most < 2 ^ 64 → length commands < 2 ^ 64 → AreKnown most commands → length (commands_line learner commands) ≤ 54 + 24 * length commands
unfolding commands_line
commands_size learner most commands there low few known =
    let words = map (λ (c : Command). identity c.id) commands in
    let a = decimal_short learner there in
    let b = decimal_short (length commands) few in
    let s = spaced_within 23 words (identities_within most commands low known) in
    let r = room_23 words in
    let m = length-map commands (λ (c : Command). identity c.id) in
    let x = len7 (codes "l") (decimal learner) (codes " learned ") (decimal (length commands)) (codes ": ") (spaced words) (codes "\n") in
    omega (arith, a, b, s, r, m, x)

state_size : (learner most : ℕ) (pairs : Pairs) → learner < 2 ^ 64 → IsBounded pairs most → length (state_line learner pairs) ≤ 31 + 38 * most
unfolding state_line
state_size learner most pairs there b =
    let words = map pair_text (entries pairs) in
    let a = decimal_short learner there in
    let few = b.few in
    let s = spaced_within 37 words (pairs_within (entries pairs) b.small) in
    let r = room_37 words in
    let m = length-map (entries pairs) pair_text in
    let x = len5 (codes "l") (decimal learner) (codes " state: ") (spaced words) (codes "\n") in
    omega (arith, a, few, s, r, m, x)

replies_size : (learner most : ℕ) (commands : List Command) → learner < 2 ^ 64 → most < 2 ^ 64 → AreKnown most commands → length (replies_line learner (by_identity (replies_to store_rules commands))) ≤ 33 + 45 * length commands
unfolding replies_line
replies_size learner most commands there low known =
    let words = map reply_item (by_identity (replies_to store_rules commands)) in
    let a = decimal_short learner there in
    let s = spaced_within 44 words (items_within most 0 empty commands low empty_bounded known) in
    let r = room_44 words in
    let m = items_many empty commands in
    let x = len5 (codes "l") (decimal learner) (codes " replies: ") (spaced words) (codes "\n") in
    omega (arith, a, s, r, m, x)

learner_size : (learner most : ℕ) (h : History) → learner < 2 ^ 64 → most < 2 ^ 64 → length (canonical h) ≤ MOST_OFFERS → AreKnown most (canonical h) → length (history_lines store_profile learner h) ≤ 110000
learner_size learner most h there low few known =
    let commands = canonical h in
    let c = commands_size learner most commands there low (omega (arith, few)) known in
    let s = state_size learner (0 + length commands) (state_of store_rules h) there (state_bounded commands empty 0 empty_bounded) in
    let r = replies_size learner most commands there low known in
    let x = len3 (commands_line learner commands) (state_line learner (state_of store_rules h)) (replies_line learner (by_identity (replies_to store_rules commands))) in
    let y = length-append (commands_line learner commands ++ state_line learner (state_of store_rules h) ++ replies_line learner (by_identity (replies_to store_rules commands))) [] in
    omega (arith, c, s, r, x, y, few)

-- ---- the report

learners_size : (config : Counts) (run : List Entry) (first count : ℕ) → first + count ≤ 4 → ((l : ℕ) → l < 4 → length (learner_text store_profile config run l) ≤ 110000)
    → length (flat_map (learner_text store_profile config run) (range_with_len first count)) ≤ count * 110000
learners_size config run first zero few each = omega arith
learners_size config run first (suc count) few each =
    let one = each first (omega (arith, few)) in
    let rest = learners_size config run (first + 1) count (omega (arith, few)) each in
    let sum = length-append (learner_text store_profile config run first) (flat_map (learner_text store_profile config run) (range_with_len (first + 1) count)) in
    omega (arith, one, rest, sum)

totals_size : (events messages : ℕ) → events < 2 ^ 64 → messages < 2 ^ 64 → length (totals_line events messages) ≤ 58
totals_size events messages few less =
    let a = decimal_short events few in
    let b = decimal_short messages less in
    let x = len5 (codes "events ") (decimal events) (codes " messages ") (decimal messages) (codes "\n") in
    omega (arith, a, b, x)

pub report_size : (config : Counts) (run : List Entry) → AreInRange config.acceptors config.coordinators config.learners → Legal config run → length run < 2 ^ 64 → length (messages run) < 2 ^ 64 → count_by is_offer (oldest_first run) ≤ MOST_OFFERS
    → length (report config run) ≤ 440058
unfolding report_for
report_size config run range legal few less offers =
    let three = range.three_acceptors in
    let four = range.four_learners in
    let learners = learners_size config run 0 config.learners (omega (arith, four)) (λ l there.
    (let h = held config run (omega (arith, three)) legal l in
    let many = h.few in
    learner_size l (length run) (learned_at config l run) (omega (arith, there)) few (omega (arith, many, offers)) h.known)) in
    let totals = totals_size (length run) (length (messages run)) few less in
    let sum = length-append (flat_map (learner_text store_profile config run) (range_with_len 0 config.learners)) (totals_line (length run) (length (messages run))) in
    omega (arith, learners, totals, sum, four)
