use Rattle.std.proofs.Common.{◌≡◌, ◌++◌, ℕ, List, ap, ◌∙◌, subst, append_assoc}
use Rattle.std.specs.Prelude.{codes, decimal}
use Rattle.gp_replica.proofs.Steps.{on_err}
use Rattle.gp_words.specs.Beginnings.{AppendsBeginning}
use Rattle.gp_words.proofs.BeginningLemmas.{none_begun, more_begun, piece_begun}
use Rattle.gp_service.specs.Banks.{amount_text, totals_line}
use Rattle.gp_service.proofs.bank.push_line.Goals as goal

-- the line is its pieces, one after another
in_line : (old new : List ℕ) (learner held brought taken : ℕ)
    → AppendsBeginning old new (codes "l" ++ (decimal learner ++ (amount_text (codes " total ") held ++ (amount_text (codes " deposits ") brought ++ (amount_text (codes " withdrawals ") taken ++ codes "\n")))))
    → AppendsBeginning old new (totals_line learner held brought taken)
in_line old new learner held brought taken b =
    let same : codes "l" ++ (decimal learner ++ (amount_text (codes " total ") held ++ (amount_text (codes " deposits ") brought ++ (amount_text (codes " withdrawals ") taken ++ codes "\n")))) ≡ totals_line learner held brought taken = simp append_assoc in
    subst (λ (t : List ℕ). AppendsBeginning old new t) same b

-- the letter and the learner were appended, and the beginning of the rest
after_learner : (old a b new : List ℕ) (p n : ℕ) (rest : List ℕ) → a ≡ old ++ codes "l" → b ≡ a ++ decimal p → p ≡ n → AppendsBeginning b new rest → AppendsBeginning old new (codes "l" ++ (decimal n ++ rest))
after_learner old a b new p n rest is number same s = more_begun old a new (codes "l") (decimal n ++ rest) is (more_begun a b new (decimal n) rest (number ∙ ap (λ k. a ++ decimal k) same) s)

pub returns-in_err-push-clause-begun : goal.returns-in_err-push-clause-begun
returns-in_err-push-clause-begun c =
    let t = c.args.totals in
    on_err c.from_residual.result (none_begun c.args.to.now.items c.push.new.self.items (totals_line c.args.learner t.held t.deposits t.withdrawals) c.in_err-push.ensures.items)

pub returns-in_err-push_number-clause-begun : goal.returns-in_err-push_number-clause-begun
returns-in_err-push_number-clause-begun c =
    let t = c.args.totals in
    let rest = amount_text (codes " total ") t.held ++ (amount_text (codes " deposits ") t.deposits ++ (amount_text (codes " withdrawals ") t.withdrawals ++ codes "\n")) in
    on_err c.from_residual-in_err-push_number.result
    (in_line c.args.to.now.items c.push_number.new.to.items c.args.learner t.held t.deposits t.withdrawals
    (more_begun c.args.to.now.items c.push.new.self.items c.push_number.new.to.items (codes "l") (decimal c.args.learner ++ rest) c.in_ok-push.ensures.items
    (none_begun c.push.new.self.items c.push_number.new.to.items (decimal c.args.learner ++ rest) c.in_err-push_number.ensures.unchanged)))

pub returns-in_err-push_amount-clause-begun : goal.returns-in_err-push_amount-clause-begun
returns-in_err-push_amount-clause-begun c =
    let t = c.args.totals in
    let held = amount_text (codes " total ") t.held in
    let rest = amount_text (codes " deposits ") t.deposits ++ (amount_text (codes " withdrawals ") t.withdrawals ++ codes "\n") in
    on_err c.from_residual-in_err-push_amount.result
    (in_line c.args.to.now.items c.push_amount.new.to.items c.args.learner t.held t.deposits t.withdrawals
    (after_learner c.args.to.now.items c.push.new.self.items c.push_number.new.to.items c.push_amount.new.to.items c.from.result c.args.learner (held ++ rest) c.in_ok-push.ensures.items c.in_ok-push_number.ensures.written c.from.ensures
    (piece_begun c.push_number.new.to.items c.push_amount.new.to.items held rest c.in_err-push_amount.ensures.begun)))

pub returns-in_err-push_amount-2-clause-begun : goal.returns-in_err-push_amount-2-clause-begun
returns-in_err-push_amount-2-clause-begun c =
    let t = c.args.totals in
    let held = amount_text (codes " total ") t.held in
    let brought = amount_text (codes " deposits ") t.deposits in
    let rest = amount_text (codes " withdrawals ") t.withdrawals ++ codes "\n" in
    on_err c.from_residual-in_err-push_amount-2.result
    (in_line c.args.to.now.items c.push_amount-2.new.to.items c.args.learner t.held t.deposits t.withdrawals
    (after_learner c.args.to.now.items c.push.new.self.items c.push_number.new.to.items c.push_amount-2.new.to.items c.from.result c.args.learner (held ++ (brought ++ rest)) c.in_ok-push.ensures.items c.in_ok-push_number.ensures.written c.from.ensures
    (more_begun c.push_number.new.to.items c.push_amount.new.to.items c.push_amount-2.new.to.items held (brought ++ rest) c.in_ok-push_amount.ensures.written
    (piece_begun c.push_amount.new.to.items c.push_amount-2.new.to.items brought rest c.in_err-push_amount-2.ensures.begun))))

pub returns-in_err-push_amount-3-clause-begun : goal.returns-in_err-push_amount-3-clause-begun
returns-in_err-push_amount-3-clause-begun c =
    let t = c.args.totals in
    let held = amount_text (codes " total ") t.held in
    let brought = amount_text (codes " deposits ") t.deposits in
    let taken = amount_text (codes " withdrawals ") t.withdrawals in
    on_err c.from_residual-in_err-push_amount-3.result
    (in_line c.args.to.now.items c.push_amount-3.new.to.items c.args.learner t.held t.deposits t.withdrawals
    (after_learner c.args.to.now.items c.push.new.self.items c.push_number.new.to.items c.push_amount-3.new.to.items c.from.result c.args.learner (held ++ (brought ++ (taken ++ codes "\n"))) c.in_ok-push.ensures.items c.in_ok-push_number.ensures.written c.from.ensures
    (more_begun c.push_number.new.to.items c.push_amount.new.to.items c.push_amount-3.new.to.items held (brought ++ (taken ++ codes "\n")) c.in_ok-push_amount.ensures.written
    (more_begun c.push_amount.new.to.items c.push_amount-2.new.to.items c.push_amount-3.new.to.items brought (taken ++ codes "\n") c.in_ok-push_amount-2.ensures.written
    (piece_begun c.push_amount-2.new.to.items c.push_amount-3.new.to.items taken (codes "\n") c.in_err-push_amount-3.ensures.begun)))))

pub returns-in_err-push-2-clause-begun : goal.returns-in_err-push-2-clause-begun
returns-in_err-push-2-clause-begun c =
    let t = c.args.totals in
    let held = amount_text (codes " total ") t.held in
    let brought = amount_text (codes " deposits ") t.deposits in
    let taken = amount_text (codes " withdrawals ") t.withdrawals in
    on_err c.from_residual-in_err-push-2.result
    (in_line c.args.to.now.items c.push-2.new.self.items c.args.learner t.held t.deposits t.withdrawals
    (after_learner c.args.to.now.items c.push.new.self.items c.push_number.new.to.items c.push-2.new.self.items c.from.result c.args.learner (held ++ (brought ++ (taken ++ codes "\n"))) c.in_ok-push.ensures.items c.in_ok-push_number.ensures.written c.from.ensures
    (more_begun c.push_number.new.to.items c.push_amount.new.to.items c.push-2.new.self.items held (brought ++ (taken ++ codes "\n")) c.in_ok-push_amount.ensures.written
    (more_begun c.push_amount.new.to.items c.push_amount-2.new.to.items c.push-2.new.self.items brought (taken ++ codes "\n") c.in_ok-push_amount-2.ensures.written
    (more_begun c.push_amount-2.new.to.items c.push_amount-3.new.to.items c.push-2.new.self.items taken (codes "\n") c.in_ok-push_amount-3.ensures.written
    (none_begun c.push_amount-3.new.to.items c.push-2.new.self.items (codes "\n") c.in_err-push-2.ensures.items))))))
