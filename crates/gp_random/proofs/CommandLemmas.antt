-- Every command that is drawn is an operation.
use Rattle.std.proofs.Common.{◌≡◌, ℕ, ◌%◌, ◌<◌, Bool, true, false, ◌||◌, List, [], ◌∷◌, length, refl, arith}
use Rattle.std.specs.Prelude.{decimal, IsTrue, nat_lt, nat_eq}
use Rattle.std.specs.Char.{is_ascii_digit}
use Rattle.std.specs.List.{list_all}
use Rattle.std.proofs.lemmas.Bool.{and_parts, and_from, le-leb}
use Rattle.std.proofs.lemmas.Fmt.{digits_decimal, length-decimal-le}
use Rattle.rand_chacha.specs.ChaCha.{ChaCha}
use Rattle.gp_command.specs.Key.{is_key, is_key_byte}
use Rattle.gp_words.proofs.NumberLemmas.{own}
use Rattle.gp_store.specs.declared.op.Op.{Op}
use Rattle.gp_store.specs.declared.op.Op.TheVariants.{Checkpoint}
use Rattle.gp_store.specs.Operations.{IsOp}
use Rattle.gp_random.specs.Draws.{draw}
use Rattle.gp_random.specs.Commands.{numbered_key, op_of_kind, drawn_op, op_at}
use Rattle.gp_random.proofs.DrawLemmas.{by_test, draw_below}

or_second : (a b c : Bool) → b ≡ true → ((a || b) || c) ≡ true
or_second true b c e = refl
or_second false b c e = rw e refl

key_digits : (digits : List ℕ) → list_all is_ascii_digit digits ≡ true → list_all is_key_byte digits ≡ true
key_digits [] all = refl
key_digits (d ∷ digits) all =
    let parts = and_parts (is_ascii_digit d) _ all in
    and_from _ _ (or_second _ _ _ parts.0) (key_digits digits parts.1)

-- `k` and a number below 16 are a key
pub numbered_key_is_key : (n : ℕ) → n < 16 → IsTrue (is_key (numbered_key n))
numbered_key_is_key n lt =
    let short = length-decimal-le 2 n (omega arith) (omega arith) (omega arith) in
    let digits = key_digits (decimal n) (digits_decimal own n (omega arith)) in
    and_from _ _ (and_from _ _ (le-leb 1 (length (numbered_key n)) (omega arith)) (le-leb (length (numbered_key n)) 16 (omega arith))) digits

pub op_of_kind_in_range : (kind : ℕ) (key : List ℕ) (v w : ℕ) → IsTrue (is_key key) → v < 1000 → w < 1000 → IsOp (op_of_kind kind key v w)
op_of_kind_in_range kind key v w is small other =
    by_test IsOp (nat_lt kind 2) _ _ (λ _. (is, omega arith))
    (λ _. by_test IsOp (nat_lt kind 4) _ _ (λ _. (is, omega arith))
    (λ _. by_test IsOp (nat_lt kind 6) _ _ (λ _. is)
    (λ _. by_test IsOp (nat_lt kind 7) _ _ (λ _. is) (λ _. (is, omega arith, omega arith)))))

drawn_op_in_range : (g : ChaCha) → IsOp (drawn_op g).0
drawn_op_in_range g =
    let kind = draw g 8 in
    let key = draw kind.1 16 in
    let v = draw key.1 1000 in
    op_of_kind_in_range kind.0 (numbered_key key.0) v.0 (draw v.1 1000).0 (numbered_key_is_key key.0 (draw_below kind.1 16 (omega arith))) (draw_below key.1 1000 (omega arith)) (draw_below v.1 1000 (omega arith))

pub op_in_range : (i : ℕ) (g : ChaCha) → IsOp (op_at i g).0
op_in_range i g = by_test (λ (r : Op × ChaCha). IsOp r.0) (nat_eq (i % 32) 0) (Checkpoint, g) (drawn_op g) (λ _. tt) (λ _. drawn_op_in_range g)
