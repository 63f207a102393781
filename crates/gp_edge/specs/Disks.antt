-- What the calls of a disk do, and what a crash may leave.
use Rattle.std.specs.Prelude.{◌≡◌, ◌⊎◌, ℕ, ◌+◌, ◌-◌, ◌≤◌, min, max, List, ◌++◌, length, take, drop, replicate, Option, Some, None, Result}
use Rattle.gp_edge.specs.declared.refusal.Refused.{Refused}
use Rattle.gp_edge.specs.Faults.{Rose, HasFailed}

-- if the object reveals its content, P holds of it
abbrev pub IfRevealed : Option (List ℕ) → (List ℕ → Type 0) → Type 0
IfRevealed None P = Unit {0}
IfRevealed (Some s) P = P s

-- it reveals its content before and after, or neither time
abbrev pub RevealsAlike : Option (List ℕ) → Option (List ℕ) → Type 0
RevealsAlike None None = Unit {0}
RevealsAlike (Some s) (Some t) = Unit {0}
RevealsAlike (Some s) None = ⊥
RevealsAlike None (Some t) = ⊥

-- the list, made at least `len` long by zeros at its end
abbrev pub padded : ℕ → List ℕ → List ℕ
padded len old = old ++ replicate (len - length old) 0

-- the bytes after a write at this place; if the end is before the place, the bytes between are zero
abbrev pub put : ℕ → List ℕ → List ℕ → List ℕ
put at bytes old = take at (padded at old) ++ bytes ++ drop (at + length bytes) old

-- if the content before and after a call is revealed, P holds of both
abbrev pub IfBothRevealed : (List ℕ → List ℕ → Type 0) → Option (List ℕ) → Option (List ℕ) → Type 0
IfBothRevealed P old new = IfRevealed old (λ s. IfRevealed new (λ t. P s t))

-- n bytes from this place on are at the front of the buffer, as many as there are and as it has room for
pub record ReadsAt (s : List ℕ) (at n : ℕ) (before after : List ℕ) : Type 0 where
  pub count : n ≡ min (length before) (length s - at)
  pub front : take n after ≡ take n (drop at s)

-- after a write of n bytes that a crash cuts short: any bytes in the range and past the old end, the same elsewhere
pub record Torn (at n : ℕ) (old new : List ℕ) : Type 0 where
  pub before : take (min at (length old)) new ≡ take at old
  pub after : drop (at + n) new ≡ drop (at + n) old
  pub no_shorter : length old ≤ length new
  pub no_longer : length new ≤ max (length old) (at + n)

-- after a cut that a crash cuts short: a length between the old one and the new one
pub record Shortened (n : ℕ) (old new : List ℕ) : Type 0 where
  pub no_shorter : min n (length old) ≤ length new
  pub front : take (length new) old ≡ new

-- each new image is an old one after this step
abbrev pub Follows : (List ℕ → List ℕ → Type 0) → (List ℕ → Type 0) → (List ℕ → Type 0) → Type 0
Follows step old new = (c : List ℕ) → new c → (d : List ℕ) × old d × step d c

-- no new images
abbrev pub NoMore : (List ℕ → Type 0) → (List ℕ → Type 0) → Type 0
NoMore old new = (c : List ℕ) → new c → old c

-- a crash leaves this and nothing else
abbrev pub Only : List ℕ → (List ℕ → Type 0) → Type 0
Only s image = (c : List ℕ) → image c → c ≡ s

-- time goes on: a crash since t might have left what it might have left before the call, or what it may leave now
pub record Elapses (before now : ℕ) (past since : ℕ → List ℕ → Type 0) (image : List ℕ → Type 0) : Type 0 where
  pub later : before ≤ now
  pub nothing_else : (t : ℕ) (c : List ℕ) → t ≤ before → since t c → past t c ⊎ image c
  pub keeps : (t : ℕ) (c : List ℕ) → t ≤ before → past t c → since t c

-- the count of faults does not decrease; it increased if the call failed, and is unchanged otherwise
pub record Counts {T : Type 0} (before now : ℕ) (result : Result T Refused) : Type 0 where
  pub never_falls : before ≤ now
  pub failed : HasFailed result → Rose before now
  pub steady : ¬ HasFailed result → now ≡ before

-- a crash at any moment since `old` leaves bytes with P
pub record LeavesOnly {D : Type 0} (moment : D → ℕ) (since : D → ℕ → List ℕ → Type 0) (old new : D) (P : List ℕ → Type 0) : Type 0 where
  pub later : moment old ≤ moment new
  pub each : (c : List ℕ) → since new (moment old) c → P c
  -- for an earlier moment: what it might have left by then, or bytes with P
  pub before : (t : ℕ) (c : List ℕ) → t ≤ moment old → since new t c → since old t c ⊎ P c
