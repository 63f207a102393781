-- Different drafts have different codes.
use Rattle.std.proofs.Common.{◌≡◌, ◌↔◌, IsTrue, ℕ, Bool, true, false, List, [], ◌∷◌, ◌++◌, take, length, refl, sym, ap, ◌∙◌, arith}
use Rattle.std.specs.List.{flat_map}
use Rattle.std.specs.Ordering.{is_eq, eq_by_cmp}
use Rattle.std.proofs.Math.Seq.{take-append_seam}
use Rattle.std.proofs.lemmas.List.{append_cancel_left, append_assoc}
use Rattle.std.proofs.lemmas.Cmp.{tied_itself}
use Rattle.std.proofs.lemmas.Map.Views.{tells_apart}
use Rattle.gp_command.specs.declared.touch.Access.{Access}
use Rattle.gp_command.specs.declared.touch.Access.TheVariants.{Read, Add, Write}
use Rattle.gp_command.specs.declared.touch.Touch.{Touch}
use Rattle.gp_command.specs.Code.{draft_code}
use Rattle.gp_command.specs.Order.{access_number, draft_cmp, draft_cmp_total}
use Rattle.gp_command.specs.Spelling.{mark_number, touch_spelling}
use Rattle.gp_command.specs.Views.{DraftView}
use Rattle.gp_command.proofs.Truth.{iff_true}
use Rattle.gp_command.proofs.Ties.{tied_draft}

-- ---- lists that begin alike

same_head : (m n : ℕ) (xs ys : List ℕ) → m ∷ xs ≡ n ∷ ys → m ≡ n
same_head m n xs ys e = cc

same_tail : (m n : ℕ) (xs ys : List ℕ) → m ∷ xs ≡ n ∷ ys → xs ≡ ys
same_tail m n xs ys e = cc

same_front : (xs ys us vs : List ℕ) → length xs ≡ length us → xs ++ ys ≡ us ++ vs → xs ≡ us
same_front xs ys us vs l e = sym (take-append_seam xs ys) ∙ (λ i. take (l i) (e i)) ∙ take-append_seam us vs

same_back : (xs ys us vs : List ℕ) → length xs ≡ length us → xs ++ ys ≡ us ++ vs → ys ≡ vs
same_back xs ys us vs l e = append_cancel_left us ys vs (ap (λ zs. zs ++ ys) (sym (same_front xs ys us vs l e)) ∙ e)

-- ---- touches

same_mark : (a b : Bool) → mark_number a ≡ mark_number b → a ≡ b
same_mark true true e = refl
same_mark false false e = refl
same_mark true false e = absurd (omega (arith, e))
same_mark false true e = absurd (omega (arith, e))

same_access : (a b : Access) → access_number a ≡ access_number b → a ≡ b
same_access Read Read e = refl
same_access Add Add e = refl
same_access Write Write e = refl
same_access Read Add e = absurd (omega (arith, e))
same_access Read Write e = absurd (omega (arith, e))
same_access Add Read e = absurd (omega (arith, e))
same_access Add Write e = absurd (omega (arith, e))
same_access Write Read e = absurd (omega (arith, e))
same_access Write Add e = absurd (omega (arith, e))

touch_apart : (t u : Touch) (x y : List ℕ) → touch_spelling t ++ x ≡ touch_spelling u ++ y → (t ≡ u) × (x ≡ y)
touch_apart t u x y e =
    let len = same_head (length t.key) (length u.key) _ _ e in
    let rest : t.key ++ (access_number t.access ∷ x) ≡ u.key ++ (access_number u.access ∷ y) =
    sym (append_assoc t.key (access_number t.access ∷ []) x) ∙ same_tail (length t.key) (length u.key) _ _ e ∙ append_assoc u.key (access_number u.access ∷ []) y in
    let key = same_front t.key _ u.key _ len rest in
    let behind = same_back t.key _ u.key _ len rest in
    let access = same_access t.access u.access (same_head _ _ x y behind) in
    ((λ i. record { key = key i; access = access i }), same_tail _ _ x y behind)

foot_apart : (f g : List Touch) (x y : List ℕ) → length f ≡ length g → flat_map touch_spelling f ++ x ≡ flat_map touch_spelling g ++ y → (f ≡ g) × (x ≡ y)
foot_apart [] [] x y l e = (refl, e)
foot_apart [] (u ∷ g) x y l e = absurd (omega (arith, l))
foot_apart (t ∷ f) [] x y l e = absurd (omega (arith, l))
foot_apart (t ∷ f) (u ∷ g) x y l e =
    let first = touch_apart t u (flat_map touch_spelling f ++ x) (flat_map touch_spelling g ++ y)
    (sym (append_assoc (touch_spelling t) (flat_map touch_spelling f) x) ∙ e ∙ append_assoc (touch_spelling u) (flat_map touch_spelling g) y) in
    let rest = foot_apart f g x y (omega (arith, l)) first.1 in
    ((λ i. first.0 i ∷ rest.0 i), rest.1)

-- ---- drafts

abbrev pub code : DraftView → List ℕ
code d = draft_code d.checkpoint d.foot d.body

codes_apart : (d e : DraftView) → code d ≡ code e → d ≡ e
codes_apart d e is =
    let mark = same_mark d.checkpoint e.checkpoint (same_head _ _ _ _ is) in
    let rest = same_tail (mark_number d.checkpoint) (mark_number e.checkpoint) _ _ is in
    let parts = foot_apart d.foot e.foot d.body e.body (same_head _ _ _ _ rest) (same_tail (length d.foot) (length e.foot) _ _ rest) in
    λ i. record { checkpoint = mark i; foot = parts.0 i; body = parts.1 i }

pub equal_codes : (d e : DraftView) (b : Bool) → IsTrue b ↔ (code d ≡ code e) → b ≡ eq_by_cmp draft_cmp d e
equal_codes d e b same = iff_true b (eq_by_cmp draft_cmp d e)
    (λ yes. ap (eq_by_cmp draft_cmp d) (sym (codes_apart d e (same.0 yes))) ∙ ap is_eq (tied_itself draft_cmp_total d))
    (λ tied. same.1 (ap code (tells_apart tied_draft d e tied)))
