use Rattle.std.proofs.Common.{rules, ◌≡◌, List, [], ◌∷◌, sym, subst, inl}
use Rattle.gp_wire.specs.Known.{PassState}
use Rattle.gp_wire.specs.Ends.{IsHeld}
use Rattle.gp_thread_tests.proofs.one_list.closed_by.Goals as goal

pub close-requires-clause-all : goal.close-requires-clause-all
close-requires-clause-all c n has =
    let one : c.push.new.self.items ≡ c.args.whole ∷ [] = search rules in
    subst (λ (ps : List PassState). IsHeld n ps) (sym one) (inl (c.requires.all n has))
