use Rattle.std.proofs.Common.{◌≡◌, ◌<◌, length, get_or, ◌∙◌, arith}
use Rattle.std.proofs.lemmas.Option.{slice_get-get_or}
use Rattle.gp_stage.proofs.Pairing.{has_met, front_is, back_is, new_front, new_back, new_other}
use Rattle.gp_stage.proofs.gathering.meet_at.Goals as goal

pub meet-requires-clause-own_too : goal.meet-requires-clause-own_too
meet-requires-clause-own_too g c =
    let v = c.split_at_mut-front.ensures in let front = c.split_at_mut-front.result.0.now in let back = c.split_at_mut-front.result.1.now in
    let long : length front ≡ c.args.other = v.front_len in let rest = v.back_len in let t = c.requires.there in
    c.requires.own_too (get_or back 0 c.index-back-0.result) (back_is c.args.cells.now front back c.args.other v.value long ∙ slice_get-get_or back 0 c.index-back-0.result (omega (arith, rest, t)))

pub meet-requires-clause-holder : goal.meet-requires-clause-holder
meet-requires-clause-holder g c =
    let v = c.split_at_mut-front.ensures in let front = c.split_at_mut-front.result.0.now in let back = c.split_at_mut-front.result.1.now in
    let long : length front ≡ c.args.other = v.front_len in let rest = v.back_len in let t = c.requires.there in let l = c.if-at-other.true in
    c.requires.holder (get_or front c.args.at c.index-front-at.result) (get_or back 0 c.index-back-0.result)
    (front_is c.args.cells.now front back c.args.other v.value long c.args.at l ∙ slice_get-get_or front c.args.at c.index-front-at.result (omega (arith, long, l)))
    (back_is c.args.cells.now front back c.args.other v.value long ∙ slice_get-get_or back 0 c.index-back-0.result (omega (arith, rest, t)))

pub returns-then-at-other : goal.returns-then-at-other
returns-then-at-other g c =
    let v = c.split_at_mut-front.ensures in let front = c.split_at_mut-front.result.0.now in let back = c.split_at_mut-front.result.1.now in
    let long : length front ≡ c.args.other = v.front_len in let rest = v.back_len in let t = c.requires.there in let l = c.if-at-other.true in
    let some : 0 < length back = omega (arith, rest, t) in let e = c.meet.ensures in
    has_met c.args.cells.now _ c.args.at c.args.other (get_or front c.args.at c.index-front-at.result) (get_or back 0 c.index-back-0.result) c.meet.new.self c.meet.new.other
    (front_is c.args.cells.now front back c.args.other v.value long c.args.at l ∙ slice_get-get_or front c.args.at c.index-front-at.result (omega (arith, long, l)))
    (back_is c.args.cells.now front back c.args.other v.value long ∙ slice_get-get_or back 0 c.index-back-0.result some)
    (new_front c.args.cells.now front back c.args.other v.value long c.args.at c.meet.new.self c.meet.new.other l)
    (new_back c.args.cells.now front back c.args.other v.value long c.args.at c.meet.new.self c.meet.new.other l some)
    (λ k n m. new_other c.args.cells.now front back c.args.other v.value long c.args.at c.meet.new.self c.meet.new.other l k n m)
    e.rest e.rest_too e.pass e.other e.lists.0 e.lists.1

pub meet-requires-else-at-other-clause-own : goal.meet-requires-else-at-other-clause-own
meet-requires-else-at-other-clause-own g c =
    let v = c.split_at_mut-front-else-at-other.ensures in let front = c.split_at_mut-front-else-at-other.result.0.now in let back = c.split_at_mut-front-else-at-other.result.1.now in
    let long : length front ≡ c.args.at = v.front_len in let rest = v.back_len in let t = c.requires.here in
    c.requires.own (get_or back 0 c.index-back-0-else-at-other.result) (back_is c.args.cells.now front back c.args.at v.value long ∙ slice_get-get_or back 0 c.index-back-0-else-at-other.result (omega (arith, rest, t)))

pub meet-requires-else-at-other-clause-own_too : goal.meet-requires-else-at-other-clause-own_too
meet-requires-else-at-other-clause-own_too g c =
    let v = c.split_at_mut-front-else-at-other.ensures in let front = c.split_at_mut-front-else-at-other.result.0.now in let back = c.split_at_mut-front-else-at-other.result.1.now in
    let long : length front ≡ c.args.at = v.front_len in let f = c.if-at-other.false in let n = c.requires.two in let l : c.args.other < c.args.at = omega (arith, f, n) in
    c.requires.own_too (get_or front c.args.other c.index-front-other.result)
    (front_is c.args.cells.now front back c.args.at v.value long c.args.other l ∙ slice_get-get_or front c.args.other c.index-front-other.result (omega (arith, long, l)))

pub meet-requires-else-at-other-clause-holder : goal.meet-requires-else-at-other-clause-holder
meet-requires-else-at-other-clause-holder g c =
    let v = c.split_at_mut-front-else-at-other.ensures in let front = c.split_at_mut-front-else-at-other.result.0.now in let back = c.split_at_mut-front-else-at-other.result.1.now in
    let long : length front ≡ c.args.at = v.front_len in let rest = v.back_len in let t = c.requires.here in let f = c.if-at-other.false in let n = c.requires.two in
    let l : c.args.other < c.args.at = omega (arith, f, n) in
    c.requires.holder (get_or back 0 c.index-back-0-else-at-other.result) (get_or front c.args.other c.index-front-other.result)
    (back_is c.args.cells.now front back c.args.at v.value long ∙ slice_get-get_or back 0 c.index-back-0-else-at-other.result (omega (arith, rest, t)))
    (front_is c.args.cells.now front back c.args.at v.value long c.args.other l ∙ slice_get-get_or front c.args.other c.index-front-other.result (omega (arith, long, l)))

pub returns-else-at-other : goal.returns-else-at-other
returns-else-at-other g c =
    let v = c.split_at_mut-front-else-at-other.ensures in let front = c.split_at_mut-front-else-at-other.result.0.now in let back = c.split_at_mut-front-else-at-other.result.1.now in
    let long : length front ≡ c.args.at = v.front_len in let rest = v.back_len in let t = c.requires.here in let f = c.if-at-other.false in let n = c.requires.two in
    let l : c.args.other < c.args.at = omega (arith, f, n) in let some : 0 < length back = omega (arith, rest, t) in let e = c.meet-else-at-other.ensures in
    let s = c.meet-else-at-other.new.self in let o = c.meet-else-at-other.new.other in
    has_met c.args.cells.now _ c.args.at c.args.other (get_or back 0 c.index-back-0-else-at-other.result) (get_or front c.args.other c.index-front-other.result) s o
    (back_is c.args.cells.now front back c.args.at v.value long ∙ slice_get-get_or back 0 c.index-back-0-else-at-other.result some)
    (front_is c.args.cells.now front back c.args.at v.value long c.args.other l ∙ slice_get-get_or front c.args.other c.index-front-other.result (omega (arith, long, l)))
    (new_back c.args.cells.now front back c.args.at v.value long c.args.other o s l some)
    (new_front c.args.cells.now front back c.args.at v.value long c.args.other o s l)
    (λ k n m. new_other c.args.cells.now front back c.args.at v.value long c.args.other o s l k m n)
    e.rest e.rest_too e.pass e.other e.lists.0 e.lists.1
