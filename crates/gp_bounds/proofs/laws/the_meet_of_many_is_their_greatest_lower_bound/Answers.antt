use Rattle.std.proofs.Common.{◌≡◌, refl, None, Some}
use Rattle.std.specs.Prelude.{IsSome}
use Rattle.gp_history.specs.Bounds.{meet_all}
use Rattle.gp_history.proofs.Many.{meet_all_is_greatest, meet_all_some}
use Rattle.gp_bounds.proofs.laws.the_meet_of_many_is_their_greatest_lower_bound.Goals as goal

pub returns-clause-greatest : goal.returns-clause-greatest
returns-clause-greatest g = meet_all_is_greatest

pub returns-clause-some : goal.returns-clause-some
returns-clause-some g = λ mask hs some within. elim (meet_all mask hs) as (λ o. meet_all mask hs ≡ o → IsSome o) [ None ↦ λ e. absurd (meet_all_some mask hs some within e) | Some m ↦ λ e. refl ] refl
