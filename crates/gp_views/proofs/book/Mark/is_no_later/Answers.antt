use Rattle.std.proofs.Common.{◌≤◌, List, length, ap, subst, arith}
use Rattle.std.proofs.lemmas.Bool.{leb-true, leb-false}
use mathlib.Core.List.{IsPrefix}
use Rattle.gp_command.specs.declared.command.Command.{Command}
use Rattle.gp_views.proofs.Commits.{in_order}
use Rattle.gp_views.proofs.book.Mark.is_no_later.Goals as goal

pub returns-clause-no_later : goal.returns-clause-no_later
returns-clause-no_later c = λ yes.
    let both = c.learn.new.self.log in
    let this : IsPrefix c.self.inside.seen.log both = subst (λ (l : List (List Command)). IsPrefix l both) (ap (λ s. s.log) c.again-both.ensures) c.learn.ensures.2 in
    let test = leb-true c.self.inside.lists c.other.inside.lists yes in
    let less : length c.self.inside.seen.log ≤ length c.other.inside.seen.log = omega (arith, c.self.invariant, c.other.invariant, test) in
    rw (← c.self.view_is, ← c.other.view_is) (in_order c.self.inside.seen.log c.other.inside.seen.log both c.learn.ensures.4.0 this c.learn.ensures.3 c.learn.ensures.4.1 less)

pub returns-clause-later : goal.returns-clause-later
returns-clause-later c = λ not.
    let both = c.learn.new.self.log in
    let this : IsPrefix c.self.inside.seen.log both = subst (λ (l : List (List Command)). IsPrefix l both) (ap (λ s. s.log) c.again-both.ensures) c.learn.ensures.2 in
    let test = leb-false c.self.inside.lists c.other.inside.lists not in
    let less : length c.other.inside.seen.log ≤ length c.self.inside.seen.log = omega (arith, c.self.invariant, c.other.invariant, test) in
    rw (← c.self.view_is, ← c.other.view_is) (in_order c.other.inside.seen.log c.self.inside.seen.log both c.learn.ensures.4.0 c.learn.ensures.3 this c.learn.ensures.4.1 less)
