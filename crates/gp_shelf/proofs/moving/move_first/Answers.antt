use Rattle.std.proofs.Common.{◌≡◌, ◌+◌, ◌++◌, ◌∷◌, [], get_or, length, take, drop, sym, ap, ◌∙◌, arith, append_assoc, length-drop, length-append}
use Rattle.std.proofs.lemmas.List.{length-take-le, drop-drop, take_more, get_or-drop}
use Rattle.gp_shelf.proofs.moving.move_first.Goals as goal

pub remove-requires : goal.remove-requires
remove-requires g c =
    let k = c.loop.invariant in
    omega (arith, c.loop.from.ok.0, ap length k.1, length-drop c.loop.counter c.args.from.now.items)

pub push_reserved-requires : goal.push_reserved-requires
push_reserved-requires g c =
    let k = c.loop.invariant in
    omega (
      arith,
      c.loop.to.ok.0,
      c.args.to.now.ok.0,
      k.2,
      ap length k.0,
      length-append c.args.to.now.items (take c.loop.counter c.args.from.now.items),
      length-take-le c.loop.counter c.args.from.now.items (omega arith),
    )

pub loop-preserved : goal.loop-preserved
loop-preserved g c =
    let k = c.loop.invariant in
    let all = c.args.from.now.items in
    let i = c.loop.counter in
    let x = c.remove.result in
    let is : x ≡ get_or all i x = c.remove.ensures.value ∙ ap (λ l. get_or l 0 x) k.1 ∙ get_or-drop i all 0 x ∙ ap (λ m. get_or all m x) (let e : i + 0 ≡ i = omega arith in e) in
    let more = take_more all i x (omega arith) in (
      c.push_reserved.ensures.items ∙ ap (λ l. l ++ x ∷ []) k.0 ∙ append_assoc c.args.to.now.items (take i all) (x ∷ [])
          ∙ ap (λ l. c.args.to.now.items ++ l) (ap (λ y. take i all ++ y ∷ []) is ∙ sym more),
      c.remove.ensures.items ∙ ap (drop 1) k.1 ∙ drop-drop 1 i all,
      c.push_reserved.ensures.capacity ∙ k.2,
      c.remove.ensures.capacity ∙ k.3,
    )
