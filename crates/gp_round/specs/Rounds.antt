-- Rounds and their order.
use Rattle.std.specs.Prelude.{ℕ, Bool, true, false}
use Rattle.std.specs.declared.cmp.Ordering.{Ordering}
use Rattle.std.specs.Cmp.{IsTotalOrder, then_total, on_total, nat_cmp_total}
use Rattle.std.specs.Ordering.{nat_cmp, on, then_cmp, is_lt, eq_by_cmp}
use Rattle.gp_round.specs.declared.round.Mode.{Mode}
use Rattle.gp_round.specs.declared.round.Mode.TheVariants.{Single, Multi, Fast}
use Rattle.gp_round.specs.declared.round.Round.{Round}

abbrev pub mode_number : Mode → ℕ
mode_number Single = 0
mode_number Multi = 1
mode_number Fast = 2

abbrev pub is_multi : Mode → Bool
is_multi Single = false
is_multi Multi = true
is_multi Fast = false

abbrev pub is_fast : Mode → Bool
is_fast Single = false
is_fast Multi = false
is_fast Fast = true

-- by count, then mode, then lead
abbrev pub round_cmp : Round → Round → Ordering
round_cmp = then_cmp (on (λ r. r.count) nat_cmp) (then_cmp (on (λ r. mode_number r.mode) nat_cmp) (on (λ r. r.lead) nat_cmp))

-- one round is below the other
abbrev pub earlier : Round → Round → Bool
earlier i j = is_lt (round_cmp i j)

-- neither is below the other
abbrev pub same_round : Round → Round → Bool
same_round = eq_by_cmp round_cmp

pub round_cmp_total : IsTotalOrder round_cmp
round_cmp_total = then_total (on_total (λ (r : Round). r.count) nat_cmp_total) (then_total (on_total (λ (r : Round). mode_number r.mode) nat_cmp_total) (on_total (λ (r : Round). r.lead) nat_cmp_total))

-- below all rounds that a coordinator may begin
abbrev pub round_zero : Round
round_zero = record { count = 0; mode = Single; lead = 0 }
