use Rattle.std.proofs.Common.{◌≡◌, ◌+◌, [], ◌∷◌, ◌++◌, take, sym, ap, ◌∙◌}
use Rattle.std.proofs.lemmas.List.{take_more}
use Rattle.gp_seats.specs.Offering.{own_move, moves_of}
use Rattle.gp_seats.proofs.Offered.{moves_more}
use Rattle.gp_seats.proofs.offering.moves_of.Goals as goal

pub loop-offer-preserved : goal.loop-offer-preserved
loop-offer-preserved c =
    let n = c.args.node in let os = c.args.offers.now in let i = c.loop-offer.offer-index in let o = c.offer-item.result in
    let next : take (i + 1) os ≡ take i os ++ o ∷ [] = take_more os i o c.loop-offer-test.true ∙ ap (λ x. take i os ++ x ∷ []) (sym c.offer-item.is) in
    c.in_ok-push_own.ensures ∙ ap (λ l. l ++ own_move n o) c.loop-offer.invariant ∙ sym (moves_more n (take i os) o) ∙ ap (moves_of n) (sym next)
