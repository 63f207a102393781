-- The first difference between the lines of two texts.
use Rattle.std.proofs.Common.{◌≡◌, ◌≢◌, ℕ, ◌+◌, ◌<◌, true, false, Bool, List, [], ◌∷◌, ◌++◌, length, Option, Some, None, refl, sym, ap, ◌∙◌, arith}
use Rattle.std.specs.List.{flat_map}
use Rattle.std.specs.Str.{bytes_eq}
use Rattle.std.proofs.lemmas.Slice.Eq.{bytes_eq-Decides}
use Rattle.gp_words.specs.Lines.{lines_of, text_of}
use Rattle.gp_words.proofs.LineLemmas.{lines_whole}
use Rattle.gp_text.proofs.LineSteps.{no_lines}
use Rattle.gp_verdict.specs.Parts.{texts_of, first_difference, Differ, PartAt}

pub alike_goes : (n : ℕ) (text other : List ℕ) (texts others : List (List ℕ)) → bytes_eq text other ≡ true → first_difference n (text ∷ texts) (other ∷ others) ≡ first_difference (n + 1) texts others
unfolding first_difference
alike_goes n text other texts others same = rw same refl

pub differs_here : (n : ℕ) (text other : List ℕ) (texts others : List (List ℕ)) → bytes_eq text other ≡ false → first_difference n (text ∷ texts) (other ∷ others) ≡ Some n
unfolding first_difference
differs_here n text other texts others differ = rw differ refl

pub all_alike : (n : ℕ) → first_difference n [] [] ≡ None
unfolding first_difference
all_alike n = refl

-- one of two texts that are over or go on
pub one_is_over : (n : ℕ) (texts others : List (List ℕ)) (text : List ℕ) → first_difference n (text ∷ texts) [] ≡ Some n
unfolding first_difference
one_is_over n texts others text = refl

pub other_is_over : (n : ℕ) (others : List (List ℕ)) (text : List ℕ) → first_difference n [] (text ∷ others) ≡ Some n
unfolding first_difference
other_is_over n others text = refl

-- no difference: the texts are the same
alike_at : (n : ℕ) (text other : List ℕ) (texts others : List (List ℕ)) (same : Bool) → bytes_eq text other ≡ same → (first_difference (n + 1) texts others ≡ None → texts ≡ others)
    → first_difference n (text ∷ texts) (other ∷ others) ≡ None → text ∷ texts ≡ other ∷ others
alike_at n text other texts others true is ih e =
    let heads : text ≡ other = (bytes_eq-Decides text other).0 is in
    let tails = ih (sym (alike_goes n text other texts others is) ∙ e) in
    rw (heads, tails) refl
alike_at n text other texts others false is ih e = let differ : Some n ≡ None = sym (differs_here n text other texts others is) ∙ e in absurd cc

pub none_differs : (n : ℕ) (texts others : List (List ℕ)) → first_difference n texts others ≡ None → texts ≡ others
unfolding first_difference
none_differs n [] [] e = refl
none_differs n [] (other ∷ others) e = absurd cc
none_differs n (text ∷ texts) [] e = absurd cc
none_differs n (text ∷ texts) (other ∷ others) e = alike_at n text other texts others (bytes_eq text other) refl (none_differs (n + 1) texts others) e

eq_self : (text : List ℕ) → bytes_eq text text ≡ true
eq_self text = (bytes_eq-Decides text text).1 refl

-- a text does not differ from itself
pub self_alike : (n : ℕ) (texts : List (List ℕ)) → first_difference n texts texts ≡ None
self_alike n [] = all_alike n
self_alike n (text ∷ texts) = alike_goes n text text texts texts (eq_self text) ∙ self_alike (n + 1) texts

-- ---- where texts part

sooner : (n place : ℕ) (text other : List ℕ) (texts others : List (List ℕ)) → text ≡ other → PartAt (n + 1) texts others place → PartAt n (text ∷ texts) (other ∷ others) place
sooner n place text other texts others same p =
    let is = p.place_is in
    record {
      common = text ∷ p.common;
      left = p.left;
      right = p.right;
      texts_are = ap (λ (ts : List (List ℕ)). text ∷ ts) p.texts_are;
      others_are = ap (λ (t : List ℕ). t ∷ others) (sym same) ∙ ap (λ (ts : List (List ℕ)). text ∷ ts) p.others_are;
      place_is = omega (arith, is);
      differ = p.differ;
    }

part_here : (n place : ℕ) (texts others : List (List ℕ)) → ◌≡◌ {A = Option ℕ} (Some n) (Some place) → Differ texts others → PartAt n texts others place
part_here n place texts others e differ =
    let same : n ≡ place = cc in
    record { common = []; left = texts; right = others; texts_are = refl; others_are = refl; place_is = omega (arith, same); differ = differ }

parts_after : (n place : ℕ) (text other : List ℕ) (texts others : List (List ℕ)) (same : Bool) → bytes_eq text other ≡ same → (first_difference (n + 1) texts others ≡ Some place → PartAt (n + 1) texts others place)
    → first_difference n (text ∷ texts) (other ∷ others) ≡ Some place → PartAt n (text ∷ texts) (other ∷ others) place
parts_after n place text other texts others true is ih e =
    sooner n place text other texts others ((bytes_eq-Decides text other).0 is) (ih (sym (alike_goes n text other texts others is) ∙ e))
parts_after n place text other texts others false is ih e =
    part_here n place (text ∷ texts) (other ∷ others) (sym (differs_here n text other texts others is) ∙ e) (λ same. (let yes_it_is = sym is ∙ (bytes_eq-Decides text other).1 same in absurd cc))

pub difference_parts : (n place : ℕ) (texts others : List (List ℕ)) → first_difference n texts others ≡ Some place → PartAt n texts others place
unfolding first_difference
difference_parts n place [] [] e = absurd cc
difference_parts n place [] (other ∷ others) e = part_here n place [] (other ∷ others) e tt
difference_parts n place (text ∷ texts) [] e = part_here n place (text ∷ texts) [] e tt
difference_parts n place (text ∷ texts) (other ∷ others) e = parts_after n place text other texts others (bytes_eq text other) refl (difference_parts (n + 1) place texts others) e

not_alike : (text other : List ℕ) (same : Bool) → bytes_eq text other ≡ same → text ≢ other → bytes_eq text other ≡ false
not_alike text other true is differ = absurd (differ ((bytes_eq-Decides text other).0 is))
not_alike text other false is differ = is

differ_found : (n : ℕ) (left right : List (List ℕ)) → Differ left right → first_difference n left right ≡ Some n
differ_found n [] [] differ = absurd differ
differ_found n [] (other ∷ others) differ = other_is_over n others other
differ_found n (text ∷ texts) [] differ = one_is_over n texts [] text
differ_found n (text ∷ texts) (other ∷ others) differ = differs_here n text other texts others (not_alike text other (bytes_eq text other) refl differ)

common_found : (n : ℕ) (common left right : List (List ℕ)) → Differ left right → first_difference n (common ++ left) (common ++ right) ≡ Some (n + length common)
common_found n [] left right differ = differ_found n left right differ ∙ ap Some (omega arith)
common_found n (text ∷ common) left right differ =
    alike_goes n text text (common ++ left) (common ++ right) (eq_self text) ∙ common_found (n + 1) common left right differ ∙ ap Some (omega arith)

pub parts_differ : (n place : ℕ) (texts others : List (List ℕ)) → PartAt n texts others place → first_difference n texts others ≡ Some place
parts_differ n place texts others p =
    ap (λ ts. first_difference n ts others) p.texts_are ∙ ap (λ ts. first_difference n (p.common ++ p.left) ts) p.others_are
    ∙ common_found n p.common p.left p.right p.differ ∙ ap Some (sym p.place_is)

pub same_alike : (n : ℕ) (texts others : List (List ℕ)) → texts ≡ others → first_difference n texts others ≡ None
same_alike n texts others same = ap (λ ts. first_difference n texts ts) (sym same) ∙ self_alike n texts

-- ---- the lines of two texts

pub lines_differ : (n : ℕ) (printed wanted line after other more : List ℕ) → lines_of printed ≡ line ∷ lines_of after → lines_of wanted ≡ other ∷ lines_of more → bytes_eq (text_of line) (text_of other) ≡ false
    → first_difference n (texts_of (lines_of printed)) (texts_of (lines_of wanted)) ≡ Some n
lines_differ n printed wanted line after other more first second differ =
    rw (first, second) (differs_here n (text_of line) (text_of other) (texts_of (lines_of after)) (texts_of (lines_of more)) differ)

pub lines_alike : (n : ℕ) (printed wanted line after other more : List ℕ) → lines_of printed ≡ line ∷ lines_of after → lines_of wanted ≡ other ∷ lines_of more → bytes_eq (text_of line) (text_of other) ≡ true
    → first_difference n (texts_of (lines_of printed)) (texts_of (lines_of wanted)) ≡ first_difference (n + 1) (texts_of (lines_of after)) (texts_of (lines_of more))
lines_alike n printed wanted line after other more first second same =
    rw (first, second) (alike_goes n (text_of line) (text_of other) (texts_of (lines_of after)) (texts_of (lines_of more)) same)

-- the wanted text is over
pub wanted_over : (n : ℕ) (printed wanted line after : List ℕ) → lines_of printed ≡ line ∷ lines_of after → wanted ≡ [] → first_difference n (texts_of (lines_of printed)) (texts_of (lines_of wanted)) ≡ Some n
wanted_over n printed wanted line after first over =
    ap (λ ls. first_difference n (texts_of ls) (texts_of (lines_of wanted))) first
    ∙ ap (λ ls. first_difference n (texts_of (line ∷ lines_of after)) (texts_of ls)) (ap lines_of over ∙ no_lines) ∙ one_is_over n (texts_of (lines_of after)) [] (text_of line)

-- both are over
pub both_over : (n : ℕ) (printed wanted : List ℕ) → printed ≡ [] → wanted ≡ [] → first_difference n (texts_of (lines_of printed)) (texts_of (lines_of wanted)) ≡ None
both_over n printed wanted over too =
    ap (λ ls. first_difference n (texts_of ls) (texts_of (lines_of wanted))) (ap lines_of over ∙ no_lines)
    ∙ ap (λ ls. first_difference n [] (texts_of ls)) (ap lines_of too ∙ no_lines) ∙ all_alike n

-- the printed text is over, and the wanted one has more
some_lines : (n : ℕ) (wanted : List ℕ) (lines : List (List ℕ)) → lines_of wanted ≡ lines → 0 < length wanted → first_difference n [] (texts_of lines) ≡ Some n
some_lines n wanted [] e some = absurd (let none : [] ≡ wanted = ap (λ ls. flat_map (λ (l : List ℕ). l) ls) (sym e) ∙ lines_whole wanted in let size = ap length none in omega (arith, size, some))
some_lines n wanted (line ∷ lines) e some = other_is_over n (texts_of lines) (text_of line)

pub printed_over : (n : ℕ) (printed wanted : List ℕ) → printed ≡ [] → 0 < length wanted → first_difference n (texts_of (lines_of printed)) (texts_of (lines_of wanted)) ≡ Some n
printed_over n printed wanted over some =
    ap (λ ls. first_difference n (texts_of ls) (texts_of (lines_of wanted))) (ap lines_of over ∙ no_lines) ∙ some_lines n wanted (lines_of wanted) refl some
