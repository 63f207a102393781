use Rattle.std.proofs.Common.{◌≡◌, ◌++◌, ℕ, List, ap, ◌∙◌, subst, append_assoc}
use Rattle.std.specs.Prelude.{codes, decimal}
use Rattle.std.proofs.lemmas.Result.{on_err_weaker}
use Rattle.gp_round.specs.declared.round.Round.{Round}
use Rattle.gp_replica.proofs.Steps.{on_err}
use Rattle.gp_script.specs.Spelling.{mode_word}
use Rattle.gp_words.specs.Beginnings.{AppendsBeginning}
use Rattle.gp_words.proofs.BeginningLemmas.{none_begun, more_begun}
use Rattle.gp_text.specs.Logs.{dotted_round}
use Rattle.gp_text.proofs.logs.push_dotted.Goals as goal

-- the count was appended, then the dot, then the mode, each with the beginning of the rest
after_count : (old a new : List ℕ) (n : ℕ) (r : Round) → a ≡ old ++ decimal n → n ≡ r.count → AppendsBeginning a new (codes "." ++ (mode_word r.mode ++ (codes "." ++ decimal r.lead))) → AppendsBeginning old new (dotted_round r)
after_count old a new n r is same s =
    let whole : decimal r.count ++ (codes "." ++ (mode_word r.mode ++ (codes "." ++ decimal r.lead))) ≡ dotted_round r = simp append_assoc in
    subst (λ (t : List ℕ). AppendsBeginning old new t) whole
    (more_begun old a new (decimal r.count) (codes "." ++ (mode_word r.mode ++ (codes "." ++ decimal r.lead))) (is ∙ ap (λ k. old ++ decimal k) same) s)

after_dot : (old a b new : List ℕ) (n : ℕ) (r : Round) → a ≡ old ++ decimal n → n ≡ r.count → b ≡ a ++ codes "." → AppendsBeginning b new (mode_word r.mode ++ (codes "." ++ decimal r.lead)) → AppendsBeginning old new (dotted_round r)
after_dot old a b new n r is same dot s = after_count old a new n r is same (more_begun a b new (codes ".") (mode_word r.mode ++ (codes "." ++ decimal r.lead)) dot s)

after_mode : (old a b d new : List ℕ) (n : ℕ) (r : Round) → a ≡ old ++ decimal n → n ≡ r.count → b ≡ a ++ codes "." → d ≡ b ++ mode_word r.mode → AppendsBeginning d new (codes "." ++ decimal r.lead) → AppendsBeginning old new (dotted_round r)
after_mode old a b d new n r is same dot mode s = after_dot old a b new n r is same dot (more_begun b d new (mode_word r.mode) (codes "." ++ decimal r.lead) mode s)

pub returns-in_err-push_number-clause-begun : goal.returns-in_err-push_number-clause-begun
returns-in_err-push_number-clause-begun c =
    on_err c.from_residual.result (none_begun c.args.to.now.items c.push_number.new.to.items (dotted_round c.args.round) c.in_err-push_number.ensures.unchanged)

pub returns-in_err-push-clause-begun : goal.returns-in_err-push-clause-begun
returns-in_err-push-clause-begun c =
    let r = c.args.round in
    on_err c.from_residual-in_err-push.result
    (after_count c.args.to.now.items c.push_number.new.to.items c.push.new.self.items c.from.result r c.in_ok-push_number.ensures.written c.from.ensures
    (none_begun c.push_number.new.to.items c.push.new.self.items (codes "." ++ (mode_word r.mode ++ (codes "." ++ decimal r.lead))) c.in_err-push.ensures.items))

pub returns-in_err-push_mode-clause-begun : goal.returns-in_err-push_mode-clause-begun
returns-in_err-push_mode-clause-begun c =
    let r = c.args.round in
    on_err c.from_residual-in_err-push_mode.result
    (after_dot c.args.to.now.items c.push_number.new.to.items c.push.new.self.items c.push_mode.new.to.items c.from.result r c.in_ok-push_number.ensures.written c.from.ensures c.in_ok-push.ensures.items
    (none_begun c.push.new.self.items c.push_mode.new.to.items (mode_word r.mode ++ (codes "." ++ decimal r.lead)) c.in_err-push_mode.ensures.unchanged))

pub returns-in_err-push-2-clause-begun : goal.returns-in_err-push-2-clause-begun
returns-in_err-push-2-clause-begun c =
    let r = c.args.round in
    on_err c.from_residual-in_err-push-2.result
    (after_mode c.args.to.now.items c.push_number.new.to.items c.push.new.self.items c.push_mode.new.to.items c.push-2.new.self.items c.from.result r c.in_ok-push_number.ensures.written c.from.ensures c.in_ok-push.ensures.items c.in_ok-push_mode.ensures.written
    (none_begun c.push_mode.new.to.items c.push-2.new.self.items (codes "." ++ decimal r.lead) c.in_err-push-2.ensures.items))

pub returns-clause-begun : goal.returns-clause-begun
returns-clause-begun c =
    let r = c.args.round in
    on_err_weaker c.push_number-2.result
    (λ same. after_mode c.args.to.now.items c.push_number.new.to.items c.push.new.self.items c.push_mode.new.to.items c.push_number-2.new.to.items c.from.result r c.in_ok-push_number.ensures.written c.from.ensures c.in_ok-push.ensures.items c.in_ok-push_mode.ensures.written
    (more_begun c.push_mode.new.to.items c.push-2.new.self.items c.push_number-2.new.to.items (codes ".") (decimal r.lead) c.in_ok-push-2.ensures.items
    (none_begun c.push-2.new.self.items c.push_number-2.new.to.items (decimal r.lead) same)))
    c.push_number-2.ensures.unchanged
