use Rattle.std.proofs.lemmas.Bool.{true≢false}
use Rattle.gp_views.proofs.feed.Feed.publish.Goals as goal

pub invariant_of-self : goal.invariant_of-self
invariant_of-self g c = rw c.append.ensures.desk (c.self-2.invariant.0, c.self-2.invariant.1, c.self-2.invariant.2, λ never. absurd (true≢false never))

pub invariant_of-self-in_err-replace_with : goal.invariant_of-self-in_err-replace_with
invariant_of-self-in_err-replace_with g c =
    rw (c.in_err-replace_with.ensures.1.1.1, c.append.ensures.desk) (c.self-2.invariant.0, c.self-2.invariant.1, c.self-2.invariant.2, λ never. absurd (true≢false never))
