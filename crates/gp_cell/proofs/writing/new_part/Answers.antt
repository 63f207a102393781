use Rattle.std.proofs.Common.{◌≡◌, sym, ◌∙◌}
use Rattle.std.specs.Bool.{IsTrue}
use Rattle.std.proofs.lemmas.Bool.{true≢false}
use Rattle.std.proofs.lemmas.Option.{same_Some}
use Rattle.gp_msg.specs.Messages.{part_of}
use Rattle.gp_cell.proofs.writing.new_part.Goals as goal

pub returns-then-keeps_rules-clause-other : goal.returns-then-keeps_rules-clause-other
returns-then-keeps_rules-clause-other c p =
    let before = c.in-Some-Some.before in let after = c.in-Some-Some.after in
    let own = rw c.in-Some-Some.is-0 at c.in_ok-durable_part.ensures in
    let same : part_of before ≡ part_of after = same_Some (part_of before) (part_of after) (own ∙ p) in
    let told : IsTrue c.is_same.result = c.is_same.ensures.1 same in
    true≢false (sym told ∙ c.if-is_same.false)
