-- The six ways in which bytes break the format of a log, each with its place.
use Rattle.std.specs.Prelude.{◌≡◌, ◌≢◌, ◌≤◌, ◌<◌, ◌⊎◌, ℕ, zero, suc, ◌+◌, ◌-◌, Bool, true, false, List, length, take, drop, get_or, Option, Some, None, Result, Ok, Err}
use Rattle.std.specs.Int.{w32, from_le_bytes}
use Rattle.gp_vlog.specs.Bodies.{LogEntry, entry_of}
use Rattle.gp_vlog.specs.Gates.{length_at}
use Rattle.gp_vlog.specs.Files.{Contents, magic, is_second, first_gate}

-- the limit, which is at place 8
abbrev pub limit_in : List ℕ → ℕ
limit_in s = from_le_bytes w32 (take 4 (drop 8 s))

-- the place where the active area begins; the switch is at place 12
abbrev pub area_start : List ℕ → ℕ
area_start s = first_gate (limit_in s) (is_second (get_or s 12 0))

-- the bytes from the first gate of the active area on; a place in them is counted from that gate
abbrev pub area_bytes : List ℕ → List ℕ
area_bytes s = drop (area_start s) s

-- a gate inside the area that is not closed
abbrev pub IsOpen : List ℕ → ℕ → Type 0
IsOpen area g = (g < length area) × (get_or area g 0 ≢ 0)

-- the place of the gate after the entry of an open gate
abbrev pub next_gate : List ℕ → ℕ → ℕ
next_gate area g = g + (5 + length_at (drop (g + 1) area))

-- the body of that entry
abbrev pub body_behind : List ℕ → ℕ → List ℕ
body_behind area g = take (length_at (drop (g + 1) area)) (drop 4 (drop (g + 1) area))

module _ {E : Type 0} (meaning : Option E → List ℕ → Option E) (room : ℕ) (area : List ℕ) where
  -- an open gate whose next gate is inside the file and below the room, and whose body is that of an entry
  pub record IsWhole (before : Option E) (g : ℕ) (e : E) : Type 0 where
    pub is_open : IsOpen area g
    pub inside : next_gate area g < length area
    pub below : next_gate area g < room
    pub means : meaning before (body_behind area g) ≡ Some e

  -- from one gate, with the entry before it, n whole entries lead to another
  abbrev pub LeadsTo : ℕ → Option E → ℕ → Option E → ℕ → Type 0
  LeadsTo zero before from last g = (g ≡ from) × (last ≡ before)
  LeadsTo (suc n) before from last g = (e : E) × IsWhole before from e × LeadsTo n (Some e) (next_gate area from) last g

  -- an open gate whose next gate is not inside the file, or not below the room, or whose body breaks a rule
  pub record IsBroken (before : Option E) (g : ℕ) : Type 0 where
    pub is_open : IsOpen area g
    pub why : (length area ≤ next_gate area g) ⊎ ((room ≤ next_gate area g) ⊎ (meaning before (body_behind area g) ≡ None))

-- a limit that is in range, and a switch
abbrev pub HasArea : (ℕ → Bool) → List ℕ → Type 0
HasArea in_range s = (in_range (limit_in s) ≡ true) × (12 < length s)

-- the bytes break the format at this place
pub data Breaks (in_range : ℕ → Bool) (s : List ℕ) (p : ℕ) : Type 0 where
  -- the file has ended before the first gate
  Ended : p < 17 → length s ≤ p → Breaks in_range s p
  -- a wrong byte of the name
  WrongName : p < 8 → p < length s → get_or s p 0 ≢ get_or magic p 0 → Breaks in_range s p
  -- a limit out of range
  WrongLimit : p ≡ 8 → 12 ≤ length s → in_range (limit_in s) ≡ false → Breaks in_range s p
  -- a byte after the switch that is not zero
  NotZero : 13 ≤ p → p < 16 → p < length s → get_or s p 0 ≢ 0 → Breaks in_range s p
  -- the first gate of the active area is not inside the file
  NoGate : HasArea in_range s → p ≡ area_start s → length s ≤ p → Breaks in_range s p
  -- an open gate of the active area without a whole entry after it
  NoEntry : HasArea in_range s → (n g : ℕ) (last : Option LogEntry) → p ≡ area_start s + g
      → LeadsTo entry_of (limit_in s - 16) (area_bytes s) n None 0 last g → IsBroken entry_of (limit_in s - 16) (area_bytes s) last g → Breaks in_range s p

-- the bytes break the format at this place and at no smaller one
pub record BreaksFirst (in_range : ℕ → Bool) (s : List ℕ) (p : ℕ) : Type 0 where
  pub there : Breaks in_range s p
  pub smallest : (q : ℕ) → Breaks in_range s q → p ≤ q

-- the result is an error at the smallest place of a break, or no error if there is no break
abbrev pub IsFirstBreak : (ℕ → Bool) → List ℕ → Result Contents ℕ → Type 0
IsFirstBreak in_range s (Ok x) = (q : ℕ) → Breaks in_range s q → ⊥
IsFirstBreak in_range s (Err p) = BreaksFirst in_range s p
