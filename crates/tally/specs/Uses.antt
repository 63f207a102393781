-- How commands work on the tally.
use Rattle.std.specs.Prelude.{List, [], ◌∷◌, Option, Some, None, codes, bytes_eq, if◌then◌else◌}
use Rattle.gp_command.specs.declared.touch.Access.{Access}
use Rattle.gp_command.specs.declared.touch.Touch.{Touch}

-- how a command with this footprint works on the tally: by its only touch, if that is of the key `n`
abbrev pub use_in : List Touch → Option Access
use_in [] = None
use_in (touch ∷ []) = if bytes_eq touch.key (codes "n") then Some touch.access else None
use_in (touch ∷ other ∷ others) = None
