use Rattle.std.proofs.lemmas.Result.{err_from_is_err_and}
use Rattle.gp_verdict.proofs.Judged.{trace_refused, trace_text, trace_played}
use Rattle.gp_verdict.proofs.judging.judge_lines.Goals as goal

pub judge_ending-requires-clause-text : goal.judge_ending-requires-clause-text
judge_ending-requires-clause-text c = trace_text c.args.bytes.now c.trace_head-trace.result.bytes.now c.in_ok-played.played c.trace_head-trace.ensures.head c.in_ok-played.ensures.plays

pub returns-in_err-played : goal.returns-in_err-played
returns-in_err-played c =
    let p = err_from_is_err_and c.from_residual.result c.from_residual.ensures.1 in
    let refuses = trace_refused c.args.bytes.now c.trace_head-trace.result.bytes.now c.in_err-played.field-0.0 c.trace_head-trace.ensures.head c.in_err-played.ensures.plays in
    rw (p.1, p.2) refuses

pub returns : goal.returns
returns c =
    let plays = c.in_ok-played.ensures.plays in
    let t = c.trace_head-trace.ensures in
    trace_played c.args.bytes.now c.trace_head-trace.result.bytes.now c.trace_head-trace.result.rest.now c.trace_head-trace.result.lines c.in_ok-played.played c.judge_ending.result t.head t.rest t.count plays
    (c.judge_ending.ensures plays.said.events plays.run)
