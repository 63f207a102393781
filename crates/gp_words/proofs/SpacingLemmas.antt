-- Words one behind another.
use Rattle.std.proofs.Common.{◌≡◌, ℕ, List, [], ◌∷◌, ◌++◌, length, refl, sym, ap, ◌∙◌, append_assoc}
use Rattle.std.proofs.lemmas.List.{append-nil}
use Rattle.gp_words.specs.Spacing.{joined, spaced, gap, dash}

behind_one : (word : List ℕ) (words : List (List ℕ)) (next : List ℕ) → joined (word ∷ words ++ next ∷ []) ≡ joined (word ∷ words) ++ 32 ∷ next
behind_one word [] next = refl
behind_one word (w ∷ words) next = ap (λ (t : List ℕ). word ++ 32 ∷ t) (behind_one w words next) ∙ sym (append_assoc word (32 ∷ joined (w ∷ words)) (32 ∷ next))

-- one more word, behind its gap
pub joined_more : (words : List (List ℕ)) (word : List ℕ) → joined (words ++ word ∷ []) ≡ joined words ++ gap (length words) ++ word
joined_more [] word = refl
joined_more (first ∷ words) word = behind_one first words word ∙ sym (append_assoc (joined (first ∷ words)) (32 ∷ []) word)

-- the words are ended by their dash
pub spaced_ended : (words : List (List ℕ)) → spaced words ≡ joined words ++ dash (length words)
spaced_ended [] = refl
spaced_ended (word ∷ words) = sym (append-nil (joined (word ∷ words)))
