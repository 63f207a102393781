use Rattle.std.proofs.Common.{◌≡◌, ◌++◌, ℕ, List, ap, ◌∙◌, subst, append_assoc}
use Rattle.std.specs.Prelude.{codes, decimal}
use Rattle.std.proofs.lemmas.Result.{on_err_weaker}
use Rattle.gp_replica.proofs.Steps.{on_err}
use Rattle.gp_words.specs.Beginnings.{AppendsBeginning}
use Rattle.gp_words.proofs.BeginningLemmas.{none_begun, more_begun}
use Rattle.gp_report.specs.Texts.{identity}
use Rattle.gp_report.proofs.learned.push_identity.Goals as goal

-- the letter was appended, and the beginning of the rest
after_letter : (old a new : List ℕ) (p n : ℕ) → a ≡ old ++ codes "p" → AppendsBeginning a new (decimal p ++ (codes "." ++ decimal n)) → AppendsBeginning old new (codes "p" ++ decimal p ++ codes "." ++ decimal n)
after_letter old a new p n is b =
    let same : codes "p" ++ (decimal p ++ (codes "." ++ decimal n)) ≡ codes "p" ++ decimal p ++ codes "." ++ decimal n = simp append_assoc in
    subst (λ (t : List ℕ). AppendsBeginning old new t) same (more_begun old a new (codes "p") (decimal p ++ (codes "." ++ decimal n)) is b)

-- the letter and the proposer were appended, and the beginning of the rest
after_proposer : (old a b new : List ℕ) (p q n : ℕ) → a ≡ old ++ codes "p" → b ≡ a ++ decimal q → q ≡ p → AppendsBeginning b new (codes "." ++ decimal n) → AppendsBeginning old new (codes "p" ++ decimal p ++ codes "." ++ decimal n)
after_proposer old a b new p q n is number same s =
    after_letter old a new p n is (more_begun a b new (decimal p) (codes "." ++ decimal n) (number ∙ ap (λ k. a ++ decimal k) same) s)

pub returns-in_err-push-clause-begun : goal.returns-in_err-push-clause-begun
returns-in_err-push-clause-begun c = on_err c.from_residual.result (none_begun c.args.to.now.items c.push.new.self.items (identity c.args.id) c.in_err-push.ensures.items)

pub returns-in_err-push_number-clause-begun : goal.returns-in_err-push_number-clause-begun
returns-in_err-push_number-clause-begun c =
    on_err c.from_residual-in_err-push_number.result
    (after_letter c.args.to.now.items c.push.new.self.items c.push_number.new.to.items c.args.id.proposer c.args.id.number c.in_ok-push.ensures.items
    (none_begun c.push.new.self.items c.push_number.new.to.items (decimal c.args.id.proposer ++ (codes "." ++ decimal c.args.id.number)) c.in_err-push_number.ensures.unchanged))

pub returns-in_err-push-2-clause-begun : goal.returns-in_err-push-2-clause-begun
returns-in_err-push-2-clause-begun c =
    on_err c.from_residual-in_err-push-2.result
    (after_proposer c.args.to.now.items c.push.new.self.items c.push_number.new.to.items c.push-2.new.self.items c.args.id.proposer c.from.result c.args.id.number c.in_ok-push.ensures.items c.in_ok-push_number.ensures.written c.from.ensures
    (none_begun c.push_number.new.to.items c.push-2.new.self.items (codes "." ++ decimal c.args.id.number) c.in_err-push-2.ensures.items))

pub returns-clause-begun : goal.returns-clause-begun
returns-clause-begun c =
    let number = c.args.id.number in
    on_err_weaker c.push_number-2.result
    (λ same. after_proposer c.args.to.now.items c.push.new.self.items c.push_number.new.to.items c.push_number-2.new.to.items c.args.id.proposer c.from.result number c.in_ok-push.ensures.items c.in_ok-push_number.ensures.written c.from.ensures
    (more_begun c.push_number.new.to.items c.push-2.new.self.items c.push_number-2.new.to.items (codes ".") (decimal number) c.in_ok-push-2.ensures.items
    (none_begun c.push-2.new.self.items c.push_number-2.new.to.items (decimal number) same)))
    c.push_number-2.ensures.unchanged
