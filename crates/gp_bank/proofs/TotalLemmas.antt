-- The sums that are taken over what a replica has run, place by place.
use Rattle.std.proofs.Common.{◌≡◌, ℕ, zero, suc, ◌+◌, ◌*◌, ◌<◌, ◌≤◌, ◌^◌, true, List, [], ◌∷◌, length, take, Option, Some, refl, sym, ap, ◌∙◌, arith, add-one, get_or}
use Rattle.std.specs.Prelude.{slice_get}
use Rattle.std.specs.List.{sum_by}
use Rattle.std.proofs.lemmas.List.{take_all}
use Rattle.std.proofs.lemmas.List.Sums.{sum_by-cons}
use Rattle.std.proofs.lemmas.Option.{slice_get-get_or}
use Rattle.gp_command.specs.declared.command.Command.{Command}
use Rattle.gp_command.specs.declared.command.CommandId.{CommandId}
use Rattle.gp_replica.specs.declared.reply.Reply.{Reply}
use Rattle.gp_history.specs.Sequence.{history_of, no_repeat}
use Rattle.gp_replica.specs.Machines.{Rules, replies_from, replies_to, state_of}
use Rattle.gp_replica.proofs.Histories.{state_is}
use Rattle.gp_replica.specs.Runs.{by_identity}
use Rattle.gp_bank.specs.declared.op.BankOp.{BankOp}
use Rattle.gp_bank.specs.Drafts.{bank_op}
use Rattle.gp_bank.specs.Accounts.{Accounts}
use Rattle.gp_bank.specs.Effects.{bank_rules}
use Rattle.gp_bank.specs.Commuting.{independent}
use Rattle.gp_bank.specs.Sums.{held, brought, taken, deposits, withdrawals}
use Rattle.gp_bank.proofs.SumLemmas.{conserved}

sum_suc : {X : Type 0} (f : X → ℕ) (xs : List X) (i : ℕ) (x : X) → slice_get xs i ≡ Some x → sum_by f (take (suc i) xs) ≡ sum_by f (take i xs) + f x
sum_suc f [] i x e = absurd cc
sum_suc f (y ∷ xs) zero x e = let same : y ≡ x = cc in ap (λ (y : _). 0 + f y) same
sum_suc f (y ∷ xs) (suc i) x e =
    let rest = sum_suc f xs i x e in
    let behind = sum_by-cons f y (take (suc i) xs) in
    let before = sum_by-cons f y (take i xs) in
    omega (arith, rest, behind, before)

pub sum_more : {X : Type 0} (f : X → ℕ) (xs : List X) (i : ℕ) (x : X) → slice_get xs i ≡ Some x → sum_by f (take (i + 1) xs) ≡ sum_by f (take i xs) + f x
sum_more f xs i x e = ap (λ (n : ℕ). sum_by f (take n xs)) (add-one i) ∙ sum_suc f xs i x e

module _ {S : Type 0} (r : Rules S) where
  pub replies_length : (s : S) (cs : List Command) → length (by_identity (replies_from r s cs)) ≡ length cs
  replies_length s [] = refl
  replies_length s (c ∷ cs) = ap suc (replies_length (r.after s c) cs)

  pub runs_length : (s : S) (cs : List Command) → length (replies_from r s cs) ≡ length cs
  runs_length s [] = refl
  runs_length s (c ∷ cs) = ap suc (runs_length (r.after s c) cs)

  -- the reply at a place is that to the command there
  pub reply_at : (s : S) (cs : List Command) (i : ℕ) (c : Command) (e : CommandId × Reply) → slice_get cs i ≡ Some c → slice_get (by_identity (replies_from r s cs)) i ≡ Some e → slice_get (replies_from r s cs) i ≡ Some (c, e.1)
  reply_at s [] i c e there kept = absurd cc
  reply_at s (x ∷ cs) zero c e there kept =
      let same : x ≡ c = cc in
      let pair : ◌≡◌ {A = CommandId × Reply} (x.id, r.reply s x) e = cc in
      let reply : r.reply s x ≡ e.1 = ap (λ (e : CommandId × Reply). e.1) pair in
      λ i. Some (same i, reply i)
  reply_at s (x ∷ cs) (suc i) c e there kept = reply_at (r.after s x) cs i c e there kept

-- one more command
pub deposits_next : (cs : List Command) (i : ℕ) (c : Command) (o : Option BankOp) (sum amount : ℕ) → slice_get cs i ≡ Some c → o ≡ bank_op c.draft → sum ≡ deposits (take i cs) → amount ≡ brought o → sum + amount ≡ deposits (take (i + 1) cs)
deposits_next cs i c o sum amount there is e f =
    (λ k. e k + (f ∙ ap brought is) k) ∙ sym (sum_more (λ (c : Command). brought (bank_op c.draft)) cs i c there)

-- and the reply to it
pub withdrawals_next : (cs : List Command) (kept : List (CommandId × Reply)) (i : ℕ) (c : Command) (o : Option BankOp) (sum amount : ℕ) (d : CommandId × Reply) → kept ≡ by_identity (replies_to bank_rules cs) → slice_get cs i ≡ Some c → o ≡ bank_op c.draft → i < length kept → sum ≡ withdrawals (take i (replies_to bank_rules cs)) → amount ≡ taken o (get_or kept i d).1 → sum + amount ≡ withdrawals (take (i + 1) (replies_to bank_rules cs))
withdrawals_next cs kept i c o sum amount d whole there is within e f =
    let reply = get_or kept i d in
    let found = sym (ap (λ (rs : List (CommandId × Reply)). slice_get rs i) whole) ∙ slice_get-get_or kept i d within in
    (λ k. e k + (f ∙ ap (λ (o : Option BankOp). taken o reply.1) is) k)
    ∙ sym (sum_more (λ (r : Command × Reply). taken (bank_op r.0.draft) r.1) (replies_to bank_rules cs) i (c, reply.1) (reply_at bank_rules bank_rules.opening cs i c reply there found))

-- all of them
pub all_deposits : (cs : List Command) (i sum : ℕ) → length cs ≤ i → sum ≡ deposits (take i cs) → sum ≡ deposits cs
all_deposits cs i sum all e = e ∙ ap (λ (cs : List Command). deposits cs) (take_all i cs all)

pub all_withdrawals : (cs : List Command) (i sum : ℕ) → length cs ≤ i → sum ≡ withdrawals (take i (replies_to bank_rules cs)) → sum ≡ withdrawals (replies_to bank_rules cs)
all_withdrawals cs i sum all e =
    let same = runs_length bank_rules bank_rules.opening cs in
    e ∙ ap (λ (rs : List (Command × Reply)). withdrawals rs) (take_all i (replies_to bank_rules cs) (omega (arith, same, all)))

-- what a history of fewer than 2^32 commands brought is held or was taken, in whatever order it was run
pub conserved_in : (cs : List Command) → no_repeat cs ≡ true → length cs < 2 ^ 32 → held (state_of bank_rules (history_of cs)) + withdrawals (replies_to bank_rules cs) ≡ deposits cs
conserved_in cs distinct few =
    ap (λ (a : Accounts). held a + withdrawals (replies_to bank_rules cs)) (sym (state_is bank_rules independent cs distinct)) ∙ conserved cs few

-- ---- balances

abbrev Entries : Type 0
Entries = List (List ℕ × ℕ)

abbrev total : Entries → ℕ
total es = sum_by (λ e. e.1) es

-- the sum of the balances before the rest
pub record Sums (all rest : Entries) (sum : ℕ) : Type 0 where
  pub whole : sum + total rest ≡ total all
  pub small : sum + length rest * 2 ^ 64 ≤ length all * 2 ^ 64

pub sums_first : (all rest : Entries) → all ≡ rest → Sums all rest 0
sums_first all rest e =
    let same = ap (λ (es : Entries). total es) e in
    let alike = ap (λ (es : Entries). length es) e in
    record { whole = omega (arith, same); small = omega (arith, alike) }

pub sums_next : (all rest more : Entries) (sum next : ℕ) (x : List ℕ × ℕ) → Sums all rest sum → rest ≡ x ∷ more → next ≡ sum + x.1 → next < sum + 2 ^ 64 → Sums all more next
sums_next all rest more sum next x s e is step =
    let same = ap (λ (es : Entries). total es) e ∙ sum_by-cons (λ (e : List ℕ × ℕ). e.1) x more in
    let alike = ap (λ (es : Entries). length es) e in
    let whole = s.whole in
    let small = s.small in
    record { whole = omega (arith, same, whole, is); small = omega (arith, alike, small, step) }

pub sums_few : (all rest : Entries) (sum : ℕ) → length all < 2 ^ 63 → Sums all rest sum → sum < 2 ^ 127
sums_few all rest sum few s = let small = s.small in omega (arith, small, few)

pub sums_last : (all rest : Entries) (sum : ℕ) → Sums all rest sum → rest ≡ [] → sum ≡ total all
sums_last all rest sum s e =
    let same = ap (λ (es : Entries). total es) e in
    let whole = s.whole in
    omega (arith, same, whole)
