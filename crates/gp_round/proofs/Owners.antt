-- What it means that a coordinator owns a round.
use Rattle.std.proofs.Common.{◌≡◌, ℕ, ◌≤◌, true, ◌&&◌}
use Rattle.std.specs.Prelude.{nat_lt, nat_le, nat_eq}
use Rattle.std.proofs.lemmas.Bool.{leb-true}
use Rattle.gp_round.specs.declared.round.Round.{Round}
use Rattle.gp_round.specs.Configs.{is_between, is_owner, lead_of}
use Rattle.gp_round.proofs.Counting.{left_true, right_true}

pub record Owned (n c : ℕ) (r : Round) : Type 0 where
  pub counted : 1 ≤ r.count
  pub there : nat_lt c n ≡ true
  pub led : nat_eq r.lead (lead_of r.mode c) ≡ true

pub owned : (n c : ℕ) (r : Round) → is_owner n c r ≡ true → Owned n c r
owned n c r o =
    let front = left_true (is_between 1 1000000 r.count && nat_lt c n) (nat_eq r.lead (lead_of r.mode c)) o in
    let count = left_true (is_between 1 1000000 r.count) (nat_lt c n) front in
    record {
      counted = leb-true 1 r.count (left_true (nat_le 1 r.count) (nat_le r.count 1000000) count);
      there = right_true (is_between 1 1000000 r.count) (nat_lt c n) front;
      led = right_true (is_between 1 1000000 r.count && nat_lt c n) (nat_eq r.lead (lead_of r.mode c)) o;
    }
