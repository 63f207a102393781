use Rattle.std.proofs.Common.{◌≡◌, suc, ◌+◌, ◌-◌, ◌<◌, ap, ◌∙◌, length, get_or, arith}
use Rattle.std.proofs.lemmas.List.{get_or_default}
use Rattle.gp_index.specs.Epochs.{checkpoints, epoch_start}
use Rattle.gp_index.proofs.Starts.{length_starts, starts_at}
use Rattle.gp_index.proofs.parts.Parts.epoch_start.Goals as goal

pub index-requires : goal.index-requires
index-requires c = omega (arith, c.requires, ap length c.self.invariant.cut, length_starts 0 c.self.inside.commands.items, ap checkpoints c.self.view_is)

pub returns-else-i-eq0 : goal.returns-else-i-eq0
returns-else-i-eq0 c =
    let xs = c.self.inside.commands.items in
    let i = c.args.i in
    let some : i - 1 < checkpoints xs = omega (arith, c.requires, ap checkpoints c.self.view_is) in
    let within : i - 1 < length c.self.inside.starts.items = omega (arith, some, ap length c.self.invariant.cut, length_starts 0 xs) in
    let at : get_or c.self.inside.starts.items (i - 1) 0 ≡ 0 + epoch_start xs (suc (i - 1)) = ap (λ s. get_or s (i - 1) 0) c.self.invariant.cut ∙ starts_at 0 xs (i - 1) some in
    let next : suc (i - 1) ≡ i = omega arith in
    let none : 0 + epoch_start xs (suc (i - 1)) ≡ epoch_start xs (suc (i - 1)) = omega arith in
    c.index.ensures ∙ get_or_default c.self.inside.starts.items (i - 1) c.index.result.now 0 within ∙ at ∙ none ∙ ap (epoch_start xs) next ∙ ap (λ ys. epoch_start ys i) c.self.view_is
