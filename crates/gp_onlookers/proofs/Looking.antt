-- Looks along lists that grow, and along their beginnings.
use Rattle.std.proofs.Common.{◌≡◌, ◌≤◌, ℕ, Option, List, [], ◌∷◌, ◌++◌, length, take, drop, get_or, refl, ap, sym, subst, ◌∙◌, arith}
use Rattle.std.proofs.lemmas.List.{append-nil, length-append, take-append-le, take-append-drop, take_all}
use Rattle.std.proofs.lemmas.List.Elements.{All-push}
use Rattle.std.proofs.lemmas.List.Sorted.{IsNonDecreasingBy-push}
use Rattle.gp_command.specs.declared.command.Command.{Command}
use Rattle.gp_replica.specs.Machines.{state_after}
use Rattle.gp_store.specs.Effects.{store_rules}
use Rattle.gp_store.specs.Pairs.{value_at}
use Rattle.gp_views.specs.Lists.{Extends}
use Rattle.gp_onlookers.specs.declared.looks.Look.{Look}
use Rattle.gp_onlookers.specs.Looks.{look_after, IsLook, HasLooked}

-- a sequence that begins with another
pub goes_on : (before after : List Command) → take (length before) after ≡ before → Extends after before
goes_on before after start = (drop (length before) after, sym (take-append-drop (length before) after) ∙ ap (λ (z : List Command). z ++ drop (length before) after) start)

pub no_longer : (whole start : List Command) → Extends whole start → length start ≤ length whole
no_longer whole start p = omega (arith, ap length p.1, length-append start p.0)

nothing_left : (rest : List Command) → length rest ≡ 0 → rest ≡ []
nothing_left [] e = refl
nothing_left (c ∷ rest) e = absurd (omega arith)

-- what extends a list and is no longer is that list
pub no_more : (whole start : List Command) → Extends whole start → length whole ≤ length start → whole ≡ start
no_more whole start p le =
    let none : length p.0 ≡ 0 = omega (arith, le, ap length p.1, length-append start p.0) in
    p.1 ∙ (ap (λ (z : List Command). start ++ z) (nothing_left p.0 none) ∙ append-nil start)

-- the first so many commands of both
same_start : (whole start : List Command) (n : ℕ) → Extends whole start → n ≤ length start → take n whole ≡ take n start
same_start whole start n p le = ap (take n) p.1 ∙ take-append-le n start p.0 le

module _ (key : List ℕ) where
  abbrev value_after : List Command → Option ℕ
  value_after cs = value_at (state_after store_rules cs) key

  pub look_itself : (cs : List Command) → IsLook key cs (look_after key cs)
  look_itself cs = record { within = omega arith; value = ap value_after (sym (take_all (length cs) cs (omega arith))) }

  longer : (before after : List Command) (look : Look) → Extends after before → IsLook key before look → IsLook key after look
  longer before after look p is =
      let less = no_longer after before p in
      let within = is.within in
      record { within = omega (arith, within, less); value = is.value ∙ ap value_after (sym (same_start after before look.seen p within)) }

  pub shorter : (before after : List Command) (look : Look) → Extends after before → look.seen ≤ length before → IsLook key after look → IsLook key before look
  shorter before after look p less is = record { within = less; value = is.value ∙ ap value_after (same_start after before look.seen p less) }

  -- what was seen stays so along a longer list
  looks_stay : (before after : List Command) (looks : List Look) → HasLooked key before looks → Extends after before → HasLooked key after looks
  looks_stay before after looks h p = record { each = λ k d low. longer before after (get_or looks k d) p (h.each k d low); ascending = h.ascending }

  -- one look more, along a longer list
  looks_more : (before after : List Command) (looks : List Look) → HasLooked key before looks → Extends after before → HasLooked key after (looks ++ look_after key after ∷ [])
  looks_more before after looks h p =
      let stay = looks_stay before after looks h p in
      let seen : Look → ℕ = λ look. look.seen in
      record {
        each = All-push (IsLook key after) looks (look_after key after) stay.each (look_itself after);
        ascending = IsNonDecreasingBy-push seen looks (look_after key after) h.ascending (λ d some. (stay.each _ d (omega (arith, some))).within);
      }

  pub same_look : (cs : List Command) (seen : ℕ) (value : Option ℕ) → seen ≡ length cs → value ≡ value_after cs → record { seen = seen; value = value } ≡ look_after key cs
  same_look cs seen value e f = λ i. record { seen = e i; value = f i }

  pub looks_kept : (before after : List Command) (looks now : List Look) (look : Look) → HasLooked key before looks → Extends after before → look ≡ look_after key after → now ≡ looks ++ look ∷ [] → HasLooked key after now
  looks_kept before after looks now look h p same is = subst (HasLooked key after) (sym (is ∙ ap (λ (l : Look). looks ++ l ∷ []) same)) (looks_more before after looks h p)

  -- a look that could not be kept
  pub looks_left : (before after : List Command) (looks now : List Look) → HasLooked key before looks → Extends after before → now ≡ looks → HasLooked key after now
  looks_left before after looks now h p is = subst (HasLooked key after) (sym is) (looks_stay before after looks h p)
