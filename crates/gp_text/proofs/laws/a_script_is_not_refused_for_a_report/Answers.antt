use Rattle.std.proofs.Common.{◌∙◌}
use Rattle.gp_words.specs.Lines.{lines_of}
use Rattle.gp_text.specs.Reading.{reading_in}
use Rattle.gp_text.proofs.LineSteps.{reading_opens}
use Rattle.gp_text.proofs.RefusedLines.{reason_own, of_script}
use Rattle.gp_text.proofs.laws.a_script_is_not_refused_for_a_report.Goals as goal

pub returns : goal.returns
returns g c bytes =
    let language = g.S.Service.profile.language in
    of_script (reading_in language bytes) (λ line reason before refused. reason_own language 1 0 (lines_of bytes) line reason before (reading_opens language bytes ∙ refused))
