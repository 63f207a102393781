use Rattle.std.proofs.Common.{◌+◌, ◌-◌, drop, length, sym, arith, length-drop}
use Rattle.std.proofs.lemmas.List.{take_all}
use Rattle.gp_words.proofs.TokenLemmas.{split_at_space, split_nowhere}
use Rattle.gp_words.proofs.tokens.split_token.Goals as goal

pub returns-in-Some : goal.returns-in-Some
returns-in-Some c =
    let rest = drop (c.in-Some.place + 1) c.args.text.now in
    let all = take_all (length c.args.text.now - (c.in-Some.place + 1)) rest (simp length-drop (omega arith)) in
    rw all (split_at_space c.args.text.now c.in-Some.place (sym c.in-Some.ensures))

pub returns-in-None : goal.returns-in-None
returns-in-None c = split_nowhere c.args.text.now (sym c.in-None.ensures)
