-- Which epochs the messages of a run closed, and values that are histories.
use Rattle.std.proofs.Common.{◌≡◌, ℕ, zero, suc, ◌<◌, ◌≤◌, List, [], ◌∷◌, ◌++◌, Some, None, refl, ap, arith}
use Rattle.std.specs.Prelude.{Option, slice_get, max}
use Rattle.std.specs.Option.{option_to_list}
use Rattle.gp_history.specs.History.{History, IsHistory}
use Rattle.gp_msg.specs.Messages.{Message, Proposed, Asked, Answered, Sent, Voted, Stamped, Offered, InEpoch, Final, maybe_stamped}

-- ---- epochs that are closed

-- n epochs are closed, and after the message perhaps more
abbrev pub raised : ℕ → Stamped → ℕ
raised n (Offered c) = n
raised n (InEpoch e m) = n
raised n (Final e l v) = max n (suc e)

abbrev pub closed_from : ℕ → List Stamped → ℕ
closed_from n [] = n
closed_from n (m ∷ ms) = closed_from (raised n m) ms

-- the first epoch that no message closes
abbrev pub closed_by : List Stamped → ℕ
closed_by ms = closed_from 0 ms

-- it closes none but the first open epoch, or one that was closed before
abbrev pub IsInOrder : ℕ → Stamped → Type 0
IsInOrder n (Offered c) = Unit {0}
IsInOrder n (InEpoch e m) = Unit {0}
IsInOrder n (Final e l v) = e ≤ n

abbrev pub AreInOrder : ℕ → List Stamped → Type 0
AreInOrder n [] = Unit {0}
AreInOrder n (m ∷ ms) = IsInOrder n m × AreInOrder (raised n m) ms

pub raised_grows : (n : ℕ) (m : Stamped) → n ≤ raised n m
raised_grows n (Offered c) = omega arith
raised_grows n (InEpoch e m) = omega arith
raised_grows n (Final e l v) = omega arith

pub closed_grows : (n : ℕ) (ms : List Stamped) → n ≤ closed_from n ms
closed_grows n [] = omega arith
closed_grows n (m ∷ ms) = let a = raised_grows n m in let b = closed_grows (raised n m) ms in omega (arith, a, b)

pub closed-append : (n : ℕ) (xs ys : List Stamped) → closed_from n (xs ++ ys) ≡ closed_from (closed_from n xs) ys
closed-append n [] ys = refl
closed-append n (m ∷ xs) ys = closed-append (raised n m) xs ys

pub in_order-append : (n : ℕ) (xs ys : List Stamped) → AreInOrder n xs → AreInOrder (closed_from n xs) ys → AreInOrder n (xs ++ ys)
in_order-append n [] ys a b = b
in_order-append n (m ∷ xs) ys a b = (a.0, in_order-append (raised n m) xs ys a.1 b)

-- an epoch with a Final message that stands is closed
pub standing_closes : (n : ℕ) (ms : List Stamped) (k e l : ℕ) (v : History) → slice_get ms k ≡ Some (Final e l v) → e < closed_from n ms
standing_closes n [] k e l v h = cc
standing_closes n (m ∷ ms) zero e l v h =
    let is : m ≡ Final e l v = cc in
    let g = closed_grows (raised n m) ms in
    let r : raised n m ≡ max n (suc e) = ap (raised n) is in
    omega (arith, g, r)
standing_closes n (m ∷ ms) (suc k) e l v h = standing_closes (raised n m) ms k e l v h

-- ---- what is sent

abbrev pub after : ℕ → Option Stamped → ℕ
after n None = n
after n (Some m) = raised n m

pub after_is : (n : ℕ) (o : Option Stamped) → closed_from n (option_to_list o) ≡ after n o
after_is n None = refl
after_is n (Some m) = refl

pub after_grows : (n : ℕ) (o : Option Stamped) → n ≤ after n o
after_grows n None = omega arith
after_grows n (Some m) = raised_grows n m

-- it is no Final message
abbrev pub IsQuiet : Option Stamped → Type 0
IsQuiet None = Unit {0}
IsQuiet (Some (Offered c)) = Unit {0}
IsQuiet (Some (InEpoch e m)) = Unit {0}
IsQuiet (Some (Final e l v)) = ⊥

abbrev pub MaybeInOrder : ℕ → Option Stamped → Type 0
MaybeInOrder n None = Unit {0}
MaybeInOrder n (Some m) = IsInOrder n m

pub quiet_in_order : (n : ℕ) (o : Option Stamped) → IsQuiet o → MaybeInOrder n o
quiet_in_order n None q = tt
quiet_in_order n (Some (Offered c)) q = tt
quiet_in_order n (Some (InEpoch e m)) q = tt
quiet_in_order n (Some (Final e l v)) q = absurd q

-- ---- values that are histories

abbrev pub HasHistory : Message → Type 0
HasHistory (Proposed c) = Unit {0}
HasHistory (Asked r) = Unit {0}
HasHistory (Answered r a q v) = IsHistory v
HasHistory (Sent r c v) = IsHistory v
HasHistory (Voted r a v) = IsHistory v

abbrev pub MaybeHistory : Option Message → Type 0
MaybeHistory None = Unit {0}
MaybeHistory (Some m) = HasHistory m

-- a message of an epoch is no proposal, which is of none
abbrev pub IsTold : Message → Type 0
IsTold (Proposed c) = ⊥
IsTold (Asked r) = Unit {0}
IsTold (Answered r a q v) = IsHistory v
IsTold (Sent r c v) = IsHistory v
IsTold (Voted r a v) = IsHistory v

pub told_history : (m : Message) → IsTold m → HasHistory m
told_history (Proposed c) h = tt
told_history (Asked r) h = tt
told_history (Answered r a q v) h = h
told_history (Sent r c v) h = h
told_history (Voted r a v) h = h

abbrev pub IsSound : Stamped → Type 0
IsSound (Offered c) = Unit {0}
IsSound (InEpoch e m) = IsTold m
IsSound (Final e l v) = IsHistory v

abbrev pub MaybeSound : Option Stamped → Type 0
MaybeSound None = Unit {0}
MaybeSound (Some m) = IsSound m

-- what a role's table sends in an epoch
pub record IsSent (o : Option Stamped) : Type 0 where
  pub sound : MaybeSound o
  pub quiet : IsQuiet o

pub nothing_sent : IsSent None
nothing_sent = record { sound = tt; quiet = tt }

pub sent_in_epoch : (e : ℕ) (o : Option Message) → MaybeHistory o → IsSent (maybe_stamped e o)
sent_in_epoch e None h = record { sound = tt; quiet = tt }
sent_in_epoch e (Some (Proposed c)) h = record { sound = tt; quiet = tt }
sent_in_epoch e (Some (Asked r)) h = record { sound = tt; quiet = tt }
sent_in_epoch e (Some (Answered r a q v)) h = record { sound = h; quiet = tt }
sent_in_epoch e (Some (Sent r c v)) h = record { sound = h; quiet = tt }
sent_in_epoch e (Some (Voted r a v)) h = record { sound = h; quiet = tt }

-- all that stand are sound
abbrev pub AllSound : List Stamped → Type 0
AllSound ms = (k : ℕ) (m : Stamped) → slice_get ms k ≡ Some m → IsSound m
