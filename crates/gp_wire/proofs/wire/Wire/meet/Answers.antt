use Rattle.std.proofs.Common.{rules, ap, inr}
use Rattle.gp_wire.proofs.Parts.{cuts, joins}
use Rattle.gp_wire.proofs.Keeps.{learns}
use Rattle.gp_wire.proofs.wire.Wire.meet.Goals as goal

pub split_seat-all-requires : goal.split_seat-all-requires
split_seat-all-requires g c = (search rules, search rules, cuts _ _ _ c.other.inside.seat.me.0 _ _ c.other.invariant.0.0 c.other.invariant.0.1 (λ n none. absurd none) (λ n h. h) (λ n none _. absurd none) (λ n h. inr h))

pub join_seat-requires : goal.join_seat-requires
join_seat-requires g c = (
  search rules,
  search rules,
  search rules,
  search rules,
  joins _ _ _ c.pass.inside.seat.me.0 _ c.split_seat-all.result.me.0 c.pass.invariant.0.0 (ap (λ m. m.0.standing) c.split_seat-all.ensures.4),
)

pub load-pass-inside-requires : goal.load-pass-inside-requires
load-pass-inside-requires g c = (search rules, search rules, learns _ _ _ _ _ (ap (λ m. m.0.standing) c.join_seat.ensures.2))
