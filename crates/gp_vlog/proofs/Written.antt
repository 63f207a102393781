-- The body that is written stands for the durable part.
use Rattle.std.proofs.Common.{◌≡◌, ℕ, suc, ◌<◌, ◌≤◌, ◌^◌, Bool, true, false, List, [], ◌∷◌, ◌++◌, length, Option, Some, None, Result, Ok, Err, refl, sym, ap, subst, ◌∙◌, append_assoc, arith, ◌-◌, get_or, take, drop}
use Rattle.std.specs.Prelude.{not, ◌&&◌, nat_le, nat_eq, nat_lt, IfOk, OnOk}
use Rattle.std.specs.Option.{option_map}
use Rattle.std.specs.Int.{w32, to_le_bytes}
use Rattle.std.specs.List.{flat_map, All}
use Rattle.std.proofs.lemmas.Bool.{eqb-true, leb-true}
use Rattle.std.proofs.lemmas.List.{drop_at, take_rest, append-nil, length-append}
use Rattle.std.proofs.lemmas.Nat.{from_le_bytes-to_le_bytes_4}
use Rattle.gp_command.specs.declared.command.Command.{Command}
use Rattle.gp_command.specs.Spelling.{spelling, IsNumbered}
use Rattle.gp_command.specs.Reading.{when}
use Rattle.gp_history.specs.History.{History, IsHistory, IsPrefix, empty, pushes, size}
use Rattle.gp_history.specs.Sequence.{history_of}
use Rattle.gp_history.proofs.Joins.{history_of_is}
use Rattle.gp_history.proofs.Bound.{empty_is_history}
use Rattle.gp_history.proofs.Tests.{both, fst_of, snd_of, one_of}
use Rattle.gp_round.specs.declared.round.Mode.{Mode}
use Rattle.gp_round.specs.declared.round.Mode.TheVariants.{Single, Multi, Fast}
use Rattle.gp_round.specs.declared.round.Round.{Round}
use Rattle.gp_round.specs.Rounds.{mode_number, earlier}
use Rattle.gp_msg.specs.declared.durable.Durable.{Durable}
use Rattle.gp_msg.specs.declared.durable.Durable.TheVariants.{Acceptor, Coordinator}
use Rattle.gp_msg.specs.Messages.{EpochPart, part_of}
use Rattle.gp_history.proofs.Many.{empty_below}
use Rattle.gp_command.proofs.Fields.{when_some}
use Rattle.gp_vlog.specs.declared.reading.Kind.{Kind}
use Rattle.gp_vlog.specs.declared.reading.Kind.TheVariants.{Whole, Coordinating, Adding}
use Rattle.gp_vlog.specs.Prefixes.{is_prefix, additions, adds}
use Rattle.gp_vlog.specs.Bodies.{LogEntry, kind_of, epoch_at, acceptors, coordinators, is_round, is_zero, most_lead, round_spelling, ◌>>=◌, is_end, number_at, mode_at, round_of, round_at, found, command_at, commands_at, acceptor_at, coordinator_at, part_at, part_before, entry_with, entry_of, fits_version, base_or_empty, first_byte, vote_before, base_for, vote_spelling, acceptor_body, votes_body, coordinator_body, body_of, IsReadAgain}
use Rattle.gp_vlog.proofs.Added.{add_up, adds_additions, all_added}
use Rattle.gp_vlog.specs.Logs.{KeepsRules, entry_for}
use Rattle.gp_vlog.proofs.PrefixTests.{prefix_from_test}

pub bind_is : {A B : Type 0} (o : Option A) (f : A → Option B) (x : A) (p : Option B) → o ≡ Some x → f x ≡ p → (o >>= f) ≡ p
bind_is o f x p e k = ap (λ (q : Option _). q >>= f) e ∙ k

number_back : (n : ℕ) (rest : List ℕ) → n < 2 ^ 32 → number_at (to_le_bytes w32 n ++ rest) ≡ Some (n, rest)
number_back n rest fits = ap (λ (m : ℕ). Some (m, rest)) (from_le_bytes-to_le_bytes_4 n fits)

mode_back : (m : Mode) (rest : List ℕ) → mode_at (mode_number m ∷ rest) ≡ Some (m, rest)
mode_back Single rest = refl
mode_back Multi rest = refl
mode_back Fast rest = refl

record IsSmall (r : Round) : Type 0 where
  pub count : r.count < 2 ^ 32
  pub lead : r.lead < 2 ^ 32

most_four : (m : Mode) → most_lead m ≤ 4
most_four Single = omega arith
most_four Multi = omega arith
most_four Fast = omega arith

small : (r : Round) → is_round r ≡ true → IsSmall r
small r e = one_of (is_zero r) (nat_le 1 r.count && (nat_le r.count 1000000 && nat_le r.lead (most_lead r.mode))) e
    (λ z.
    let count = eqb-true r.count 0 (fst_of (nat_eq r.count 0) (nat_eq (mode_number r.mode) 0 && nat_eq r.lead 0) z) in
    let lead = eqb-true r.lead 0 (snd_of (nat_eq (mode_number r.mode) 0) (nat_eq r.lead 0) (snd_of (nat_eq r.count 0) (nat_eq (mode_number r.mode) 0 && nat_eq r.lead 0) z)) in
    record { count = omega (arith, count); lead = omega (arith, lead) })
    (λ b.
    let rest = snd_of (nat_le 1 r.count) (nat_le r.count 1000000 && nat_le r.lead (most_lead r.mode)) b in
    let count = leb-true r.count 1000000 (fst_of (nat_le r.count 1000000) (nat_le r.lead (most_lead r.mode)) rest) in
    let lead = leb-true r.lead (most_lead r.mode) (snd_of (nat_le r.count 1000000) (nat_le r.lead (most_lead r.mode)) rest) in
    let four = most_four r.mode in
    record { count = omega (arith, count); lead = omega (arith, lead, four) })

when_true : {A : Type 0} (b : Bool) (x : A) → b ≡ true → when b x ≡ Some x
when_true b x e = ap (λ c. when c x) e

pub round_back : (r : Round) (rest : List ℕ) → is_round r ≡ true → round_at (round_spelling r ++ rest) ≡ Some (r, rest)
unfolding round_at
round_back r rest ok =
    let s = small r ok in
    let after_lead = λ (mode : Mode × List ℕ) (count : ℕ × List ℕ). number_at mode.1 >>= λ lead. when (is_round (round_of count.0 mode.0 lead.0)) (round_of count.0 mode.0 lead.0, lead.1) in
    let all = round_spelling r ++ rest in
    let regrouped : all ≡ to_le_bytes w32 r.count ++ (mode_number r.mode ∷ (to_le_bytes w32 r.lead ++ rest)) = append_assoc (to_le_bytes w32 r.count) (mode_number r.mode ∷ to_le_bytes w32 r.lead) rest in
    let count = ap number_at regrouped ∙ number_back r.count (mode_number r.mode ∷ (to_le_bytes w32 r.lead ++ rest)) s.count in
    bind_is (number_at all) (λ count. mode_at count.1 >>= λ mode. after_lead mode count) (r.count, mode_number r.mode ∷ (to_le_bytes w32 r.lead ++ rest)) (Some (r, rest)) count
    (bind_is (mode_at (mode_number r.mode ∷ (to_le_bytes w32 r.lead ++ rest))) (λ mode. after_lead mode (r.count, mode_number r.mode ∷ (to_le_bytes w32 r.lead ++ rest))) (r.mode, to_le_bytes w32 r.lead ++ rest) (Some (r, rest)) (mode_back r.mode (to_le_bytes w32 r.lead ++ rest))
    (bind_is (number_at (to_le_bytes w32 r.lead ++ rest)) (λ lead. when (is_round (round_of r.count r.mode lead.0)) (round_of r.count r.mode lead.0, lead.1)) (r.lead, rest) (Some (r, rest)) (number_back r.lead rest s.lead)
    (when_true (is_round (round_of r.count r.mode r.lead)) (round_of r.count r.mode r.lead, rest) ok)))

command_back : (c : Command) (rest : List ℕ) → IsReadAgain c → command_at (spelling c ++ rest) ≡ Some (c, rest)
unfolding command_at
command_back c rest again = ap (found (spelling c ++ rest)) (again rest) ∙ ap (λ (l : List ℕ). Some (c, l)) (drop_at (spelling c) rest (length (spelling c)) refl)

pub commands_back : (cs : List Command) (rest : List ℕ) → All IsReadAgain cs → commands_at (length cs) (flat_map spelling cs ++ rest) ≡ Some (cs, rest)
unfolding commands_at
commands_back [] rest again = refl
commands_back (c ∷ cs) rest again =
    let more = flat_map spelling cs ++ rest in
    let first = ap command_at (append_assoc (spelling c) (flat_map spelling cs) rest) ∙ command_back c more (again 0 c (omega arith)) in
    bind_is (command_at (flat_map spelling (c ∷ cs) ++ rest)) (λ first. commands_at (length cs) first.1 >>= λ others. Some (first.0 ∷ others.0, others.1)) (c, more) (Some (c ∷ cs, rest)) first
    (bind_is (commands_at (length cs) more) (λ others. Some (c ∷ others.0, others.1)) (cs, rest) (Some (c ∷ cs, rest)) (commands_back cs rest (λ k d lt. again (suc k) d (omega arith))) refl)

-- the fields of an acceptor's body, behind its epoch
abbrev votes : Round → Round → List Command → List ℕ
votes r q cs = round_spelling r ++ (round_spelling q ++ vote_spelling cs)

acceptor_back : (epoch : ℕ) (base v : History) (r q : Round) → IsHistory base → IsHistory v → IsPrefix base v → is_round r ≡ true → is_round q ≡ true → earlier r q ≡ false
    → All IsReadAgain (additions base v) → length (additions base v) < 2 ^ 32 → acceptor_at epoch base (votes r q (additions base v)) ≡ Some (acceptors epoch r q v)
unfolding acceptor_at
acceptor_back epoch base v r q hb hv below ok_r ok_q not_after again few =
    let cs = additions base v in
    let made = λ (round : Round) (voted : Round) (commands : List Command × List ℕ). when (is_end commands.1 && (not (earlier round voted) && adds base commands.0)) (acceptors epoch round voted (pushes base commands.0)) in
    let after_count = λ (round : Round) (voted : Round) (count : ℕ × List ℕ). commands_at count.0 count.1 >>= made round voted in
    let after_voted = λ (round : Round) (voted : Round × List ℕ). number_at voted.1 >>= after_count round voted.0 in
    let text = flat_map spelling cs in
    let ends : (is_end [] && (not (earlier r q) && adds base cs)) ≡ true = both (ap not not_after) (adds_additions base v hb hv below) in
    let read = ap (commands_at (length cs)) (sym (append-nil text)) ∙ commands_back cs [] again in
    bind_is (round_at (votes r q cs)) (λ round. round_at round.1 >>= after_voted round.0) (r, round_spelling q ++ vote_spelling cs) (Some (acceptors epoch r q v)) (round_back r (round_spelling q ++ vote_spelling cs) ok_r)
    (bind_is (round_at (round_spelling q ++ vote_spelling cs)) (after_voted r) (q, vote_spelling cs) (Some (acceptors epoch r q v)) (round_back q (vote_spelling cs) ok_q)
    (bind_is (number_at (vote_spelling cs)) (after_count r q) (length cs, text) (Some (acceptors epoch r q v)) (number_back (length cs) text few)
    (bind_is (commands_at (length cs) text) (made r q) (cs, []) (Some (acceptors epoch r q v)) read
    (when_true (is_end [] && (not (earlier r q) && adds base cs)) (acceptors epoch r q (pushes base cs)) ends ∙ ap (λ (u : History). Some (acceptors epoch r q u)) (add_up base v hb hv below)))))

coordinator_back : (epoch : ℕ) (r : Round) → is_round r ≡ true → coordinator_at epoch (round_spelling r) ≡ Some (coordinators epoch r)
unfolding coordinator_at
coordinator_back epoch r ok =
    bind_is (round_at (round_spelling r)) (λ round. when (is_end round.1) (coordinators epoch round.0)) (r, []) (Some (coordinators epoch r)) (ap round_at (sym (append-nil (round_spelling r))) ∙ round_back r [] ok) refl

-- ---- the whole body

pub bind_some : {A B : Type 0} (o : Option A) (f : A → Option B) (y : B) → (o >>= f) ≡ Some y → (x : A) × (o ≡ Some x) × (f x ≡ Some y)
bind_some (Some x) f y e = (x, refl, e)
bind_some None f y e = absurd cc

-- the vote that an addition is added to
record IsBase (before : Option EpochPart) (epoch : ℕ) (v base : History) : Type 0 where
  pub there : vote_before before epoch ≡ Some base
  pub below : is_prefix base v ≡ true

base_found : (before : Option EpochPart) (epoch : ℕ) (v base : History) → base_for before epoch v ≡ Some base → IsBase before epoch v base
base_found before epoch v base e =
    let b = bind_some (vote_before before epoch) (λ u. when (is_prefix u v) u) base e in
    let w = when_some (is_prefix b.0 v) b.0 base b.2 in
    record { there = b.1 ∙ ap (λ (u : History). Some u) w.1; below = ap (λ u. is_prefix u v) (sym w.1) ∙ w.0 }

abbrev pub finish : Option LogEntry → Bool → EpochPart → Option LogEntry
finish before old part = when (fits_version before old) (entry_with old part)

entered : (before : Option LogEntry) (kind : Kind) (epoch : ℕ) (rest : List ℕ) (part : EpochPart) → epoch < 2 ^ 32 → fits_version before false ≡ true → part_at kind (part_before before) epoch rest ≡ Some part
    → (number_at (to_le_bytes w32 epoch ++ rest) >>= λ e. part_at kind (part_before before) e.0 e.1 >>= finish before false) ≡ Some (entry_with false part)
entered before kind epoch rest part fits version is =
    bind_is (number_at (to_le_bytes w32 epoch ++ rest)) (λ e. part_at kind (part_before before) e.0 e.1 >>= finish before false) (epoch, rest) (Some (entry_with false part)) (number_back epoch rest fits)
    (bind_is (part_at kind (part_before before) epoch rest) (finish before false) part (Some (entry_with false part)) is (when_true (fits_version before false) (entry_with false part) version))

pub votes_mean : (before : Option LogEntry) (epoch : ℕ) (r q : Round) (v : History) (o : Option History) → base_for (part_before before) epoch v ≡ o → epoch < 2 ^ 32 → fits_version before false ≡ true
    → ((base : History) → vote_before (part_before before) epoch ≡ Some base → IsHistory base) → IsHistory v → is_round r ≡ true → is_round q ≡ true → earlier r q ≡ false
    → All IsReadAgain (additions (base_or_empty o) v) → length (additions (base_or_empty o) v) < 2 ^ 32
    → entry_of before (votes_body epoch r q v o) ≡ Some (entry_with false (acceptors epoch r q v))
unfolding entry_of
votes_mean before epoch r q v None is fits version histories hv ok_r ok_q not_after again few =
    entered before Whole epoch (votes r q (additions empty v)) (acceptors epoch r q v) fits version (acceptor_back epoch empty v r q empty_is_history hv (empty_below v) ok_r ok_q not_after again few)
votes_mean before epoch r q v (Some base) is fits version histories hv ok_r ok_q not_after again few =
    let b = base_found (part_before before) epoch v base is in
    let part = bind_is (vote_before (part_before before) epoch) (λ u. acceptor_at epoch u (votes r q (additions base v))) base (Some (acceptors epoch r q v)) b.there
    (acceptor_back epoch base v r q (histories base b.there) hv (prefix_from_test base v hv b.below) ok_r ok_q not_after again few) in
    entered before Adding epoch (votes r q (additions base v)) (acceptors epoch r q v) fits version part

pub coordinator_means : (before : Option LogEntry) (epoch : ℕ) (r : Round) → epoch < 2 ^ 32 → fits_version before false ≡ true → is_round r ≡ true → entry_of before (coordinator_body epoch r) ≡ Some (entry_with false (coordinators epoch r))
unfolding entry_of
coordinator_means before epoch r fits version ok = entered before Coordinating epoch (round_spelling r) (coordinators epoch r) fits version (coordinator_back epoch r ok)

-- ---- what the code makes of a durable part

spelling_long : (c : Command) → 1 ≤ length (spelling c)
unfolding spelling
spelling_long c = omega arith

many_long : (cs : List Command) → length cs ≤ length (flat_map spelling cs)
many_long [] = omega arith
many_long (c ∷ cs) = let one = spelling_long c in let rest = many_long cs in let sum = length-append (spelling c) (flat_map spelling cs) in omega arith

pub commands_few : (first epoch : ℕ) (r q : Round) (cs : List Command) → length cs ≤ length (acceptor_body first epoch r q cs)
commands_few first epoch r q cs =
    let many = many_long cs in
    let a = length-append (to_le_bytes w32 epoch) (round_spelling r ++ (round_spelling q ++ vote_spelling cs)) in
    let b = length-append (round_spelling r) (round_spelling q ++ vote_spelling cs) in
    let d = length-append (round_spelling q) (vote_spelling cs) in
    let e = length-append (to_le_bytes w32 (length cs)) (flat_map spelling cs) in
    omega (arith, many, a, b, d, e)

part_kept : (old : Bool) (o : Option Durable) → part_before (option_map (entry_for old) o) ≡ option_map part_of o
part_kept old None = refl
part_kept old (Some d) = refl

version_kept : (o : Option Durable) → fits_version (option_map (entry_for false) o) false ≡ true
version_kept None = refl
version_kept (Some d) = refl

base_is_history : (o : Option Durable) (epoch : ℕ) (base : History) → vote_before (option_map part_of o) epoch ≡ Some base → IsHistory base
base_is_history None epoch base e = absurd cc
base_is_history (Some (Coordinator x r)) epoch base e = absurd cc
base_is_history (Some (Acceptor x r q u)) epoch base e = let w = when_some (nat_eq x epoch && nat_lt 0 (size (history_of u))) (history_of u) base e in subst IsHistory w.1 (history_of_is u)

pub votes_written : (o : Option Durable) (d : Durable) (epoch : ℕ) (r q : Round) (v : List Command) (base : Option History) (first : ℕ) (cs : List Command) → d ≡ Acceptor epoch r q v → base ≡ base_for (option_map part_of o) epoch (history_of v) → first ≡ first_byte base → cs ≡ additions (base_or_empty base) (history_of v)
    → acceptor_body first epoch r q cs ≡ body_of (option_map part_of o) (part_of d)
unfolding body_of
votes_written o d epoch r q v base first cs is base_is first_is cs_is =
    ap (λ n. acceptor_body n epoch r q cs) first_is
    ∙ ap (acceptor_body (first_byte base) epoch r q) cs_is
    ∙ ap (votes_body epoch r q (history_of v)) base_is
    ∙ sym (ap (λ x. body_of (option_map part_of o) (part_of x)) is)

pub round_written : (o : Option Durable) (d : Durable) (epoch : ℕ) (r : Round) → d ≡ Coordinator epoch r → coordinator_body epoch r ≡ body_of (option_map part_of o) (part_of d)
unfolding body_of
round_written o d epoch r is = sym (ap (λ x. body_of (option_map part_of o) (part_of x)) is)

pub votes_meant : (o : Option Durable) (d : Durable) (epoch : ℕ) (r q : Round) (v : List Command) (base : Option History) (first : ℕ) (cs : List Command) → d ≡ Acceptor epoch r q v → base ≡ base_for (option_map part_of o) epoch (history_of v) → first ≡ first_byte base → cs ≡ additions (base_or_empty base) (history_of v)
    → KeepsRules d → epoch < 2 ^ 32 → All IsReadAgain cs → length (acceptor_body first epoch r q cs) < 2 ^ 32 → entry_of (option_map (entry_for false) o) (acceptor_body first epoch r q cs) ≡ Some (entry_for false d)
votes_meant o d epoch r q v base first cs is base_is first_is cs_is rules fits again short =
    let k = subst KeepsRules is rules in
    let before = option_map (entry_for false) o in
    let parts = part_kept false o in
    let few = commands_few first epoch r q cs in
    let base_here : base_for (part_before before) epoch (history_of v) ≡ base = ap (λ p. base_for p epoch (history_of v)) parts ∙ sym base_is in
    let text : acceptor_body first epoch r q cs ≡ votes_body epoch r q (history_of v) base = ap (λ n. acceptor_body n epoch r q cs) first_is ∙ ap (acceptor_body (first_byte base) epoch r q) cs_is in
    let mean = votes_mean before epoch r q (history_of v) base base_here fits (version_kept o) (λ b e. base_is_history o epoch b (ap (λ p. vote_before p epoch) (sym parts) ∙ e)) (history_of_is v) k.0 k.1 k.2
    (subst (All IsReadAgain) cs_is again) (subst (λ (l : List Command). length l < 2 ^ 32) cs_is (omega (arith, few, short))) in
    ap (entry_of before) text ∙ mean ∙ ap (λ (x : Durable). Some (entry_for false x)) (sym is)

pub round_meant : (o : Option Durable) (d : Durable) (epoch : ℕ) (r : Round) → d ≡ Coordinator epoch r → KeepsRules d → epoch < 2 ^ 32 → entry_of (option_map (entry_for false) o) (coordinator_body epoch r) ≡ Some (entry_for false d)
round_meant o d epoch r is rules fits = coordinator_means (option_map (entry_for false) o) epoch r fits (version_kept o) (subst KeepsRules is rules) ∙ ap (λ (x : Durable). Some (entry_for false x)) (sym is)

pub meaning_told : {X E : Type 0} (result : Result X E) (items : X → List ℕ) (text : List ℕ) (Again : Type 0) (before : Option LogEntry) (e : LogEntry) → IfOk result (λ b. items b ≡ text) → OnOk result Again → (Again → length text < 2 ^ 32 → entry_of before text ≡ Some e)
    → IfOk result (λ b. length (items b) < 2 ^ 32 → entry_of before (items b) ≡ Some e)
meaning_told (Ok b) items text Again before e is again f = λ short. ap (entry_of before) is ∙ f again (subst (λ (l : List ℕ). length l < 2 ^ 32) is short)
meaning_told (Err x) items text Again before e is again f = tt

pub numbered : (d : Durable) (epoch : ℕ) (r q : Round) (v : List Command) (base : History) (cs : List Command) → d ≡ Acceptor epoch r q v → KeepsRules d → cs ≡ additions base (history_of v) → All (λ c. IsNumbered c.id) cs
numbered d epoch r q v base cs is rules cs_is = subst (All (λ c. IsNumbered c.id)) (sym cs_is) (all_added (λ c. IsNumbered c.id) base v (subst KeepsRules is rules).3)

pub meaning_always : {X E : Type 0} (result : Result X E) (items : X → List ℕ) (text : List ℕ) (before : Option LogEntry) (e : LogEntry) → IfOk result (λ b. items b ≡ text) → entry_of before text ≡ Some e → IfOk result (λ b. length (items b) < 2 ^ 32 → entry_of before (items b) ≡ Some e)
meaning_always (Ok b) items text before e is f = λ short. ap (entry_of before) is ∙ f
meaning_always (Err x) items text before e is f = tt

-- ---- what the code reads, field by field

body_is : (body : List ℕ) → 1 ≤ length body → body ≡ get_or body 0 0 ∷ take (length body - 1) (drop 1 body)
body_is [] some = absurd (omega (arith, some))
body_is (first ∷ rest) some = ap (λ l. first ∷ l) (sym (take_rest (first ∷ rest) 1))

fields_read : (before : Option LogEntry) (first : ℕ) (bytes : List ℕ) (version : Bool) (kind : Kind) (epoch : ℕ) (rest : List ℕ) → kind_of first ≡ Some (version, kind) → epoch_at version bytes ≡ Some (epoch, rest)
    → entry_of before (first ∷ bytes) ≡ (part_at kind (part_before before) epoch rest >>= finish before version)
unfolding entry_of
fields_read before first bytes version kind epoch rest is_kind is_epoch =
    ap (λ (k : Option (Bool × Kind)). k >>= λ k. epoch_at k.0 bytes >>= λ e. part_at k.1 (part_before before) e.0 e.1 >>= finish before k.0) is_kind
    ∙ ap (λ (e : Option (ℕ × List ℕ)). e >>= λ e. part_at kind (part_before before) e.0 e.1 >>= finish before version) is_epoch

-- a body whose fields are all right is an entry if it is of the version of the entries before it
pub entry_read : (o : Option Durable) (old : Bool) (body : List ℕ) (version : Bool) (kind : Kind) (epoch : ℕ) (rest : List ℕ) (part : EpochPart) (fits : Bool)
    → 1 ≤ length body → kind_of (get_or body 0 0) ≡ Some (version, kind) → epoch_at version (take (length body - 1) (drop 1 body)) ≡ Some (epoch, rest) → part_at kind (option_map part_of o) epoch rest ≡ Some part
    → fits ≡ fits_version (option_map (entry_for old) o) version → entry_of (option_map (entry_for old) o) body ≡ when fits (entry_with version part)
entry_read o old body version kind epoch rest part fits some is_kind is_epoch is_part is_fit =
    let before = option_map (entry_for old) o in
    ap (entry_of before) (body_is body some)
    ∙ fields_read before (get_or body 0 0) (take (length body - 1) (drop 1 body)) version kind epoch rest is_kind is_epoch
    ∙ ap (λ b. part_at kind b epoch rest >>= finish before version) (part_kept old o)
    ∙ ap (λ (p : Option EpochPart). p >>= finish before version) is_part
    ∙ ap (λ b. when b (entry_with version part)) (sym is_fit)
