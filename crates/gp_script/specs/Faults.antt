-- What reading a line returns.
use Rattle.std.specs.Prelude.{◌≡◌, Result, Ok, Err}
use Rattle.gp_script.specs.declared.reason.Reason.{Reason}
use Rattle.gp_script.specs.declared.fault.LineFault.{LineFault}
use Rattle.gp_script.specs.declared.fault.LineFault.TheVariants.{Refused, NoMemory}

-- the fault is the reason of the refused line, unless memory ran out
abbrev pub Fails : {X : Type 0} → LineFault → Result X Reason → Type 0
Fails NoMemory said = Unit {0}
Fails (Refused reason) said = said ≡ Err reason

-- the result is what the line says, or the fault with which reading it failed
abbrev pub Says : {X : Type 0} → Result X LineFault → Result X Reason → Type 0
Says (Ok x) said = said ≡ Ok x
Says (Err e) said = Fails e said
