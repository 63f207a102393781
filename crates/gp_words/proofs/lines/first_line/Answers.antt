use Rattle.std.proofs.Common.{◌≡◌, suc, ◌+◌, sym, arith}
use Rattle.gp_words.specs.Lines.{is_line_feed}
use Rattle.gp_words.proofs.LineLemmas.{position_found, position_absent, first_feed, last_line}
use Rattle.gp_words.proofs.lines.first_line.Goals as goal

pub returns-in-Some-clause-first : goal.returns-in-Some-clause-first
returns-in-Some-clause-first c =
    let f = position_found is_line_feed c.args.bytes.now c.in-Some.place (sym c.in-Some.ensures) in
    let k : suc c.in-Some.place ≡ c.in-Some.place + 1 = omega arith in
    rw (c.split_at.ensures.front, c.split_at.ensures.back, ← k, ← f.1) (first_feed c.args.bytes.now f.0)

pub returns-in-None-clause-first : goal.returns-in-None-clause-first
returns-in-None-clause-first c =
    rw (c.split_at-in-None.ensures.front, c.split_at-in-None.ensures.back) (last_line c.args.bytes.now (position_absent is_line_feed c.args.bytes.now (sym c.in-None.ensures)) c.requires)
