-- Touches without the array that holds them.
use Rattle.std.specs.Prelude.{List, []}
use Rattle.gp_command.specs.declared.touch.Touch.{Touch}
use Rattle.gp_bank.specs.declared.touches.Touches.{Touches}
use Rattle.gp_bank.specs.declared.touches.Touches.TheVariants.{None, One, Two}

abbrev pub touched : Touches → List Touch
touched None = []
touched (One touches) = touches
touched (Two touches) = touches
