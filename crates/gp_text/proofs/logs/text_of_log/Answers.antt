use Rattle.std.proofs.Common.{◌++◌, List, ℕ, length, ap, ◌∙◌}
use Rattle.gp_msg.specs.Messages.{part_of}
use Rattle.gp_text.specs.Logs.{head_line, part_line}
use Rattle.gp_text.proofs.LogLines.{lines_more}
use Rattle.gp_text.proofs.logs.text_of_log.Goals as goal

pub loop-i-preserved : goal.loop-i-preserved
loop-i-preserved g c =
    c.in_ok-push_entry.ensures
    ∙ ap (λ (t : List ℕ). t ++ part_line (part_of c.entry.result.now)) c.loop-i.invariant
    ∙ lines_more (head_line c.args.number (length c.args.log.now.entries) c.args.log.now.size) c.args.log.now.entries c.loop-i.i c.entry.result.now c.entry.ensures
