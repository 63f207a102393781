use Rattle.std.proofs.Common.{sym, ◌∙◌, length}
use Rattle.gp_run.specs.Messages.{messages}
use Rattle.gp_run.proofs.Fitting.{refused_where, none_told, none_tells}
use Rattle.gp_run.proofs.laws.an_event_is_refused_exactly_if_it_does_not_fit.Goals as goal

pub returns : goal.returns
returns g = λ config es event. (
  λ h. sym (refused_where config (length (messages es)) event) ∙ none_tells _ h,
  λ h. none_told _ (refused_where config (length (messages es)) event ∙ h),
)
