use Rattle.std.proofs.Common.{◌≡◌, ℕ, ◌+◌, List, [], ◌∷◌, ◌++◌, Some, slice_get, map, take, ap, sym, ◌∙◌, rules}
use Rattle.std.proofs.lemmas.List.{map-append}
use Rattle.gp_command.specs.declared.command.Command.{Command}
use Rattle.gp_command.specs.declared.command.CommandId.{CommandId}
use Rattle.gp_history.proofs.Places.{take_next}
use Rattle.gp_onlookers.proofs.catching.ids_of.Goals as goal

abbrev id_of : Command → CommandId
id_of c = c.id

more_ids : (ran : List Command) (i : ℕ) (d : Command) (ids now : List CommandId) (id : CommandId) → ids ≡ map id_of (take i ran) → slice_get ran i ≡ Some d → id ≡ id_of d → now ≡ ids ++ id ∷ [] → now ≡ map id_of (take (i + 1) ran)
more_ids ran i d ids now id before there same is =
    let next : map id_of (take (i + 1) ran) ≡ map id_of (take i ran) ++ id_of d ∷ [] = ap (map id_of) (take_next ran i d there) ∙ map-append id_of (take i ran) (d ∷ []) in
    is ∙ (ap (λ (l : List CommandId). l ++ id ∷ []) before ∙ (ap (λ (e : CommandId). map id_of (take i ran) ++ e ∷ []) same ∙ sym next))

pub loop-place-preserved : goal.loop-place-preserved
loop-place-preserved c = (
  more_ids c.args.ran.now c.loop-place.place c.at.result.now c.loop-place.ids.items c.push.new.self.items c.id.result c.loop-place.invariant.0 c.at.ensures c.id.ensures c.in_ok-push.ensures.items,
  search rules,
)
