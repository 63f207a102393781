use Rattle.std.proofs.Common.{rules}
use Rattle.gp_words.specs.Lines.{lines_of}
use Rattle.gp_verdict.specs.Verdicts.{lines_verdict}
use Rattle.gp_verdict.proofs.Judged.{judged_short, judged_long}
use Rattle.gp_verdict.proofs.judging.judge.Goals as goal

pub returns-then-bytes-le-MOST_BYTES : goal.returns-then-bytes-le-MOST_BYTES
returns-then-bytes-le-MOST_BYTES c = judged_short c.args.bytes.now c.judge_lines.result (search rules) c.judge_lines.ensures

pub returns : goal.returns
returns c =
    let short = c.short_head-short.ensures in
    judged_long c.args.bytes.now c.short_head-short.result.bytes.now c.short_head-short.result.lines c.too_long_after.result (search rules) short.head short.count
    (c.too_long_after.ensures (lines_verdict (lines_of c.short_head-short.result.bytes.now)) c.judge_lines-2.ensures)
