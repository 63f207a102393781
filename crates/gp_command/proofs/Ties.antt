-- What the orders tie is equal.
use Rattle.std.specs.Prelude.{true, false, ◌≡◌, refl}
use Rattle.std.specs.declared.cmp.Ordering.{Ordering}
use Rattle.std.specs.declared.cmp.Ordering.TheVariants.{Equal, Less, Greater}
use Rattle.std.specs.FinMap.{IsAntisymmetric, slice_cmp-IsAntisymmetric, nat_cmp-IsAntisymmetric}
use Rattle.std.specs.Ordering.{nat_cmp, bool_cmp, ordering_then}
use Rattle.gp_command.specs.declared.touch.Access.{Access}
use Rattle.gp_command.specs.declared.touch.Access.TheVariants.{Read, Add, Write}
use Rattle.gp_command.specs.Key.{key_cmp}
use Rattle.gp_command.specs.Order.{access_number, touch_cmp, draft_cmp, id_cmp, command_cmp}

-- two comparisons in a row tie where both do
both_tie : (r s : Ordering) → ordering_then r s ≡ Equal → (r ≡ Equal) × (s ≡ Equal)
both_tie Equal s h = (refl, h)
both_tie Less s h = cc
both_tie Greater s h = cc

tied_access : (a b : Access) → nat_cmp (access_number a) (access_number b) ≡ Equal → a ≡ b
tied_access Read Read h = refl
tied_access Add Add h = refl
tied_access Write Write h = refl
tied_access Read Add h = cc
tied_access Read Write h = cc
tied_access Add Read h = cc
tied_access Add Write h = cc
tied_access Write Read h = cc
tied_access Write Add h = cc

tied_mark : IsAntisymmetric bool_cmp
tied_mark true true h = refl
tied_mark false false h = refl
tied_mark true false h = cc
tied_mark false true h = cc

pub tied_key : IsAntisymmetric key_cmp
tied_key = slice_cmp-IsAntisymmetric nat_cmp-IsAntisymmetric

tied_touch : IsAntisymmetric touch_cmp
tied_touch s t h =
    let both = both_tie (key_cmp s.key t.key) (nat_cmp (access_number s.access) (access_number t.access)) h in
    let key = tied_key s.key t.key both.0 in
    let access = tied_access s.access t.access both.1 in
    λ i. record { key = key i; access = access i }

pub tied_draft : IsAntisymmetric draft_cmp
tied_draft d e h =
    let both = both_tie _ _ h in
    let rest = both_tie _ _ both.1 in
    let mark = tied_mark d.checkpoint e.checkpoint both.0 in
    let foot = slice_cmp-IsAntisymmetric tied_touch d.foot e.foot rest.0 in
    let body = slice_cmp-IsAntisymmetric nat_cmp-IsAntisymmetric d.body e.body rest.1 in
    λ i. record { checkpoint = mark i; foot = foot i; body = body i }

tied_id : IsAntisymmetric id_cmp
tied_id i j h =
    let both = both_tie (nat_cmp i.proposer j.proposer) (nat_cmp i.number j.number) h in
    let proposer = nat_cmp-IsAntisymmetric i.proposer j.proposer both.0 in
    let number = nat_cmp-IsAntisymmetric i.number j.number both.1 in
    λ k. record { proposer = proposer k; number = number k }

-- commands that the order ties are equal
pub tied_command : IsAntisymmetric command_cmp
tied_command c d h =
    let both = both_tie (id_cmp c.id d.id) (draft_cmp c.draft d.draft) h in
    let id = tied_id c.id d.id both.0 in
    let draft = tied_draft c.draft d.draft both.1 in
    λ i. record { id = id i; draft = draft i }
