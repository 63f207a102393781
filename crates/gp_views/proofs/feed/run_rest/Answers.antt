use Rattle.std.proofs.Common.{◌≡◌, List, ◌++◌, drop, map}
use Rattle.std.proofs.lemmas.Result.{on_ok_weaker}
use Rattle.gp_command.specs.declared.command.Command.{Command}
use Rattle.gp_views.specs.declared.image.Change.{Change}
use Rattle.gp_views.specs.declared.image.Change.TheVariants.{Run}
use Rattle.gp_views.proofs.Runs.{listed_rest, listed_anew}
use Rattle.gp_views.proofs.feed.run_rest.Goals as goal

pub returns-in_ok-put-clause-listed : goal.returns-in_ok-put-clause-listed
returns-in_ok-put-clause-listed c =
    let old = c.args.end.now in
    let put = c.put.new.end in
    let new = c.run_from.new.end in
    let ran : List Command = c.args.ran.now in
    let before : List Change = drop old.behind old.log.items in
    let between : List Change = drop put.behind put.log.items in
    let after : List Change = drop new.behind new.log.items in
    on_ok_weaker c.run_from.result (λ (is : after ≡ between ++ map Run ran). listed_anew ran old.desk.shown.value.goal.list before between after c.in_ok-put.ensures.appended is) c.run_from.ensures.appended

pub returns-else-stale-clause-listed : goal.returns-else-stale-clause-listed
returns-else-stale-clause-listed c =
    let old = c.args.end.now in
    let new = c.run_from-else-stale.new.end in
    let ran : List Command = c.args.ran.now in
    let before : List Change = drop old.behind old.log.items in
    let after : List Change = drop new.behind new.log.items in
    on_ok_weaker c.run_from-else-stale.result (λ (is : after ≡ before ++ map Run (drop c.args.before ran)). listed_rest ran old.desk.shown.value.goal.list c.args.before before after c.requires.more.0 c.requires.more.1 (c.requires.fresh c.if-stale.false) is)
    c.run_from-else-stale.ensures.appended
