-- The result of reading a script of `run`.
use Rattle.std.specs.Prelude.{◌≡◌, ℕ, Result, Ok, Err}
use Rattle.gp_script.specs.declared.fault.LineFault.{LineFault}
use Rattle.gp_script.specs.declared.fault.LineFault.TheVariants as fault
use Rattle.gp_text.specs.declared.offers.Offers.{Offers}
use Rattle.gp_text.specs.declared.offers.Unread.{Unread}
use Rattle.gp_text.specs.declared.offers.Unread.TheVariants.{Bad, NoMemory}
use Rattle.gp_text.specs.Offering.{OffersReading, Offered, RefusedAt}

-- a line with this number was not read
abbrev pub unread_at : ℕ → LineFault → Unread
unread_at line fault.NoMemory = NoMemory
unread_at line (fault.Refused reason) = Bad line reason

-- the result is what the script says, or its first refused line with the reason, unless memory ran out
abbrev pub Reads : OffersReading → Result Offers Unread → Type 0
Reads read (Ok offers) = read ≡ Offered offers
Reads read (Err (Bad line reason)) = read ≡ RefusedAt line reason
Reads read (Err NoMemory) = Unit {0}
