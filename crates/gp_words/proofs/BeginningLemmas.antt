-- Texts that were appended in part: piece by piece.
use Rattle.std.proofs.Common.{◌≡◌, ℕ, ◌+◌, List, ◌++◌, length, take, inl, inr, sym, ap, ◌∙◌, append_assoc, arith}
use Rattle.std.proofs.Math.Seq.{take-append_seam, take-append-add}
use Rattle.std.proofs.lemmas.Bool.Decides.{leb_tells}
use Rattle.std.proofs.lemmas.List.{append-nil, take-append-le, take_all}
use Rattle.gp_words.specs.Beginnings.{AppendsBeginning}

-- nothing was appended
pub none_begun : (old new text : List ℕ) → new ≡ old → AppendsBeginning old new text
none_begun old new text same = (0, same ∙ sym (append-nil old))

-- the first piece was appended, and the beginning of the others
pub more_begun : (old mid new piece text : List ℕ) → mid ≡ old ++ piece → AppendsBeginning mid new text → AppendsBeginning old new (piece ++ text)
more_begun old mid new piece text is b = (
  length piece + b.0,
  b.1 ∙ ap (λ (t : List ℕ). t ++ take b.0 text) is ∙ append_assoc old piece (take b.0 text) ∙ ap (λ (t : List ℕ). old ++ t) (sym (take-append-add piece text b.0)),
)

-- the beginning of the first piece was appended
pub piece_begun : (old new piece text : List ℕ) → AppendsBeginning old new piece → AppendsBeginning old new (piece ++ text)
piece_begun old new piece text b =
    elim (leb_tells b.0 (length piece)) [
      | inl within ↦ (b.0, b.1 ∙ ap (λ (t : List ℕ). old ++ t) (sym (take-append-le b.0 piece text within.1)))
      | inr past ↦ (
        length piece,
        b.1 ∙ ap (λ (t : List ℕ). old ++ t) (take_all b.0 piece (let p = past.1 in omega (arith, p)) ∙ sym (take-append_seam piece text)),
      )
    ]
