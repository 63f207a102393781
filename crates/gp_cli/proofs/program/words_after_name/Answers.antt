use Rattle.std.proofs.Common.{ℕ, ap, sym, subst, ◌∙◌, Ok}
use Rattle.std.specs.Vec.Iter.{into_iter_items, into_iter_len}
use Rattle.std.proofs.lemmas.Iterator.{items_from_collect}
use Rattle.std.proofs.lemmas.Iterator.Adapters.{YieldsList-from_vec, YieldsList-from_skip}
use Rattle.gp_cli.specs.Subcommands.{texts_of}
use Rattle.gp_cli.specs.Program.{AreWords}
use Rattle.gp_cli.proofs.program.words_after_name.Goals as goal

pub returns-in_ok-collect-in-Ok-clause-words : goal.returns-in_ok-collect-in-Ok-clause-words
returns-in_ok-collect-in-Ok-clause-words c =
    let given = c.in-Ok.given in
    let words = c.in_ok-collect-in-Ok.field-0 in
    let all = YieldsList-from_vec (into_iter_items given) (ap into_iter_items c.skip.ensures.source) (ap into_iter_len c.skip.ensures.source ∙ given.rest.ok.0) in
    let collected = items_from_collect {E = ℕ} (Ok words) c.in_ok-collect-in-Ok.ensures.ran (YieldsList-from_skip 1 all c.skip.ensures.count) in
    subst (λ a. AreWords a (texts_of words.items)) (sym c.in-Ok.is) (ap texts_of collected)
