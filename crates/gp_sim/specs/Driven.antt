-- The run of commands that are driven one by one.
use Rattle.std.specs.Prelude.{ℕ, ◌+◌, List, map, codes}
use Rattle.std.specs.List.{range_with_len}
use Rattle.gp_command.specs.declared.draft.Draft.{Draft}
use Rattle.gp_round.specs.Counts.{Counts}
use Rattle.gp_msg.specs.Messages.{Entry}
use Rattle.gp_store.specs.declared.op.Op.TheVariants.{Put}
use Rattle.gp_store.specs.Operations.{draft_for}
use Rattle.gp_driver.specs.Driving.{drive_multi}

-- the drafts `put k 1` to `put k n`
abbrev pub puts : ℕ → List Draft
puts n = map (λ before. draft_for (Put (codes "k") (before + 1))) (range_with_len 0 n)

-- the run in which these are driven
abbrev pub driven : Counts → ℕ → List Entry
driven config n = drive_multi config (puts n)
