use Rattle.std.proofs.Common.{rules, ◌≡◌, false, nat_eq, ◌∙◌, sym, arith, eq-eqb}
use Rattle.std.proofs.lemmas.Bool.{ne_eqb}
use Rattle.gp_round.specs.Sets.{members, bit}
use Rattle.gp_round.proofs.Masks.{mask_taken, mask_passed}
use Rattle.gp_round.proofs.subsets.SubsetsIterator.next.Goals as goal

pub returns-then-count_members-self-clause-steps :
    goal.returns-then-count_members-self-clause-steps
returns-then-count_members-self-clause-steps c =
    mask_taken _ _ _ _ _ c.loop-self-test.true c.loop-self.invariant.0 (eq-eqb _ _ (sym c.count_members.ensures ∙ c.if-count_members-self.true))

pub returns-then-count_members-self-clause-goes : goal.returns-then-count_members-self-clause-goes
returns-then-count_members-self-clause-goes c =
    let e = mask_taken _ _ _ _ _ c.loop-self-test.true c.loop-self.invariant.0 (eq-eqb _ _ (sym c.count_members.ensures ∙ c.if-count_members-self.true)) in
    rw e (search rules)

pub loop-self-preserved : goal.loop-self-preserved
loop-self-preserved c =
    let other : nat_eq (members (bit c.loop-self.self-inside.next) c.loop-self.self-inside.n) c.loop-self.self-inside.size ≡ false =
    ne_eqb _ _ (λ e. c.if-count_members-self.false (c.count_members.ensures ∙ e)) in
    (mask_passed _ _ _ _ _ c.loop-self-test.true c.loop-self.invariant.0 other, c.loop-self.invariant.1, omega arith, c.loop-self.invariant.3)
