use Rattle.std.proofs.Common.{◌≡◌, List, [], ◌∷◌, ◌++◌, drop, ap, sym, ◌∙◌}
use Rattle.std.proofs.lemmas.Result.{on_ok_weaker}
use Rattle.gp_views.specs.Ends.{Published}
use Rattle.gp_views.specs.declared.image.Change.{Change}
use Rattle.gp_views.specs.declared.image.Change.TheVariants.{Reach}
use Rattle.gp_views.specs.Images.{shown_of}
use Rattle.gp_views.proofs.Runs.{may_follow}
use Rattle.gp_views.proofs.feed.append.Goals as goal

pub returns-clause-follows : goal.returns-clause-follows
returns-clause-follows c =
    let shown = c.args.end.now.desk.shown.value in
    let run = c.run_rest.new.end in
    let new = c.put.new.end in
    let changes : List Change = drop run.behind run.log.items in
    let all : List Change = drop new.behind new.log.items in
    let is : Published = c.args.batch in
    on_ok_weaker c.put.result (λ (e : all ≡ changes ++ Reach is ∷ []). may_follow (shown_of shown) shown.goal.list is changes all c.requires.whole
    (ap (λ (p : Published). p.feed) c.requires.batch) (c.in_ok-run_rest.ensures.listed ∙ sym (ap (λ (p : Published). p.list) c.requires.batch)) e) c.put.ensures.appended
