use Rattle.std.proofs.Common.{sym, rules}
use Rattle.gp_words.proofs.NumberLemmas.{is_utf8, number_not, number_read}
use Rattle.gp_words.proofs.numbers.number_of.Goals as goal

pub returns-then-not-is_decimal : goal.returns-then-not-is_decimal
returns-then-not-is_decimal c = sym (number_not c.args.token.now (search rules))

pub returns-in_default : goal.returns-in_default
returns-in_default c = absurd (c.in_default.ensures.cases.0 (is_utf8 c.args.token.now (search rules)))

pub returns-in-Ok-parse : goal.returns-in-Ok-parse
returns-in-Ok-parse c =
    let m = number_read c.args.token.now c.parse.result (search rules) (rw (sym c.in-Ok.ensures.cases.0) c.parse.ensures.value.0) in
    sym (rw c.in-Ok-parse.is at m)

pub returns-in-Err : goal.returns-in-Err
returns-in-Err c =
    let m = number_read c.args.token.now c.parse.result (search rules) (rw (sym c.in-Ok.ensures.cases.0) c.parse.ensures.value.0) in
    sym (rw c.in-Err.is at m)
