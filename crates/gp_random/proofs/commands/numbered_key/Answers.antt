use Rattle.std.proofs.Common.{◌≡◌, ℕ, ap}
use Rattle.gp_random.specs.Commands.{numbered_key}
use Rattle.gp_random.proofs.CommandLemmas.{numbered_key_is_key}
use Rattle.gp_random.proofs.commands.numbered_key.Goals as goal

pub unreachable-requires : goal.unreachable-requires
unreachable-requires c =
    let name : c.deref.result.now ≡ numbered_key c.args.number = rw (c.deref.ensures.value, c.in_ok-push_number.ensures.written, c.in_ok-push.ensures.items, c.new-name.ensures.items) (ap (λ (n : ℕ). numbered_key n) c.from.ensures) in
    absurd (let refused = c.in-Err.ensures.accepted.1 (rw name (numbered_key_is_key c.args.number c.requires)) in cc)
