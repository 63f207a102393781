use Rattle.std.proofs.Common.{rules, ◌≡◌, None}
use Rattle.gp_history.specs.Sequence.{history_of}
use Rattle.gp_epoch.specs.Cut.{first_checkpoint}
use Rattle.gp_learner.proofs.Parts.{joined_fits}
use Rattle.gp_learner.proofs.learner.Learner.learn.Goals as goal

pub invariant_of-self-2 : goal.invariant_of-self-2
invariant_of-self-2 c =
    let unmarked : first_checkpoint (history_of c.args.part) ≡ None = search rules in
    let part : c.hold.new.self.learned ≡ history_of c.args.part = search rules in
    joined_fits c.self.inside.learned c.args.part c.in_ok-learned.learned c.hold.new.self.learned part c.in_ok-learned.ensures unmarked
