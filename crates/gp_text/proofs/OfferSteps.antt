-- How reading goes from line to line.
use Rattle.std.proofs.Common.{◌≡◌, ℕ, ◌+◌, true, false, List, [], ◌∷◌, length, Option, None, Ok, Err, refl, ap, ◌∙◌}
use Rattle.gp_words.specs.Lines.{lines_of, text_of}
use Rattle.gp_script.specs.declared.reason.Reason.{Reason}
use Rattle.gp_script.specs.declared.reason.Reason.TheVariants.{TooLong}
use Rattle.gp_script.specs.declared.fault.LineFault.{LineFault}
use Rattle.gp_script.specs.declared.fault.LineFault.TheVariants as fault
use Rattle.gp_script.specs.Faults.{Fails}
use Rattle.gp_text.specs.Reading.{holds_limit}
use Rattle.gp_text.proofs.LineSteps.{Within}
use Rattle.gp_text.specs.declared.offers.Offers.{Offers}
use Rattle.gp_text.specs.Offering.{RefusedAt, after_line, on_line, ended, follow, offers_reading}
use Rattle.gp_text.specs.OfferAnswers.{Reads, unread_at}

pub reading_opens : (bytes : List ℕ) → follow 1 0 None (lines_of bytes) ≡ offers_reading bytes
unfolding offers_reading
reading_opens bytes = refl

pub follow_end : (n place : ℕ) (so_far : Option Offers) → follow n place so_far [] ≡ ended n so_far
unfolding follow
follow_end n place so_far = refl

pub follow_too_long : (n place : ℕ) (so_far : Option Offers) (line : List ℕ) (lines : List (List ℕ)) → holds_limit place line ≡ true → follow n place so_far (line ∷ lines) ≡ RefusedAt n TooLong
unfolding follow
follow_too_long n place so_far line lines long = rw long refl

follow_says : (n place : ℕ) (so_far : Option Offers) (line : List ℕ) (lines : List (List ℕ)) → holds_limit place line ≡ false
    → follow n place so_far (line ∷ lines) ≡ on_line (after_line so_far (text_of line)) (λ more. follow (n + 1) (place + length line) more lines) n
unfolding follow
follow_says n place so_far line lines long = rw long refl

pub follow_goes : (n place : ℕ) (so_far more : Option Offers) (line : List ℕ) (lines : List (List ℕ)) → holds_limit place line ≡ false → after_line so_far (text_of line) ≡ Ok more
    → follow n place so_far (line ∷ lines) ≡ follow (n + 1) (place + length line) more lines
follow_goes n place so_far more line lines long e =
    follow_says n place so_far line lines long ∙ ap (λ said. on_line said (λ more. follow (n + 1) (place + length line) more lines) n) e

pub follow_refused : (n place : ℕ) (so_far : Option Offers) (line : List ℕ) (lines : List (List ℕ)) (reason : Reason) → holds_limit place line ≡ false → after_line so_far (text_of line) ≡ Err reason
    → follow n place so_far (line ∷ lines) ≡ RefusedAt n reason
follow_refused n place so_far line lines reason long e =
    follow_says n place so_far line lines long ∙ ap (λ said. on_line said (λ more. follow (n + 1) (place + length line) more lines) n) e

-- the line is not read, and nothing behind it
pub follow_stops : (n place : ℕ) (so_far : Option Offers) (line : List ℕ) (lines : List (List ℕ)) (why : LineFault) → holds_limit place line ≡ false → Fails why (after_line so_far (text_of line))
    → Reads (follow n place so_far (line ∷ lines)) (Err (unread_at n why))
follow_stops n place so_far line lines fault.NoMemory long fails = tt
follow_stops n place so_far line lines (fault.Refused reason) long fails = follow_refused n place so_far line lines reason long fails

-- what was read so far, and the lines that are left, are the script
pub record ReadsOn (bytes rest : List ℕ) (n place : ℕ) (so_far : Option Offers) : Type 0 where
  pub reads : follow n place so_far (lines_of rest) ≡ offers_reading bytes
  pub within : Within bytes rest n place
