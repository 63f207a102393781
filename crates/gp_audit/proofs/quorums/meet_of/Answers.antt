use Rattle.std.proofs.Common.{rules, ◌≡◌, ◌&&◌, ℕ, Bool, true, None, sym, ap}
use Rattle.gp_round.specs.Sets.{bit}
use Rattle.gp_safe.specs.Meets.{if_whole, everyone}
use Rattle.gp_safe.proofs.Gathering.{not_whole}
use Rattle.gp_learner.specs.Table.{vote_of}
use Rattle.gp_audit.proofs.quorums.meet_of.Goals as goal

pub returns-in_default : goal.returns-in_default
returns-in_default c =
    let f = vote_of c.args.votes.now.entries c.args.round in
    let p : ℕ → Bool = λ i. bit c.args.mask i && everyone i in
    let counts : p c.loop-i.i ≡ true = search rules in
    let missing : f c.loop-i.i ≡ None = search rules in
    sym (ap if_whole (not_whole f p c.loop-i.i c.args.n counts missing c.loop-i-test.true))
