-- Moves, and what making them posts.
use Rattle.std.specs.Prelude.{◌≡◌, ◌⊎◌, ℕ, ◌-◌, ◌^◌, ◌<◌, ◌≤◌, Bool, true, false, List, [], ◌∷◌, ◌++◌, Option}
use Rattle.gp_round.specs.Counts.{Counts}
use Rattle.gp_round.specs.Configs.{is_owner}
use Rattle.gp_msg.specs.declared.node.Node.{Node}
use Rattle.gp_msg.specs.declared.node.Node.TheVariants.{Proposer, Coordinator, Acceptor, Learner}
use Rattle.gp_msg.specs.declared.event.Event.{Event}
use Rattle.gp_msg.specs.declared.event.Event.TheVariants as event
use Rattle.gp_msg.specs.declared.event.Kept.{Kept}
use Rattle.gp_work.specs.declared.moves.Move.{Move}
use Rattle.gp_work.specs.declared.moves.Move.TheVariants.{Offer, Begin, Take}
use Rattle.gp_work.specs.Doing.{posted, have}

-- the number of a node among those of its role
abbrev pub number_of : Node → ℕ
number_of (Proposer n) = n
number_of (Coordinator n) = n
number_of (Acceptor n) = n
number_of (Learner n) = n

-- the event of a move at a node
abbrev pub event_of : Node → Move → Event
event_of n (Offer d) = event.Offer (number_of n) d
event_of n (Begin r) = event.Begin (number_of n) r
event_of n (Take k) = event.Take n k

-- the move is one of a node of this role, and a round that it begins is its own
abbrev pub Fits : Counts → Node → Move → Type 0
Fits config (Proposer p) (Offer d) = Unit {0}
Fits config (Coordinator c) (Begin r) = is_owner config.coordinators c r ≡ true
Fits config n (Take k) = Unit {0}
Fits config n m = ⊥

-- a proposer can number one more offer
abbrev pub HasRoom : ℕ → Move → Type 0
HasRoom posted (Offer d) = posted < 2 ^ 32 - 1
HasRoom posted (Begin r) = Unit {0}
HasRoom posted (Take k) = Unit {0}

-- the move takes a message that is not among the first n
abbrev pub IsBeyond : ℕ → Move → Type 0
IsBeyond n (Offer d) = ⊥
IsBeyond n (Begin r) = ⊥
IsBeyond n (Take k) = n ≤ k

-- a move was made; or it was left out, because the message that it takes is not among those that the node had seen at the end of this step; or the node crashed instead, which it does at most once
abbrev pub One : Node → ℕ → Move → List Event → Bool → Bool → Type 0
One n seen m es f g =
    ((es ≡ event_of n m ∷ []) × (g ≡ f))
    ⊎ ((es ≡ []) × (g ≡ f) × IsBeyond seen m)
    ⊎ ((kept : Option Kept) × (es ≡ event.Fall n kept ∷ []) × (f ≡ false) × (g ≡ true))

-- each of the moves, in their order, was made, was left out, or was replaced by a crash; the node had seen `before` messages at first, `seen` after each step, and `now` at the end
abbrev pub Does : Node → ℕ → ℕ → List Move → List Event → Bool → Bool → Type 0
Does n before now [] es f g = (es ≡ []) × (g ≡ f) × (before ≤ now)
Does n before now (m ∷ ms) es f g = (first : List Event) × (rest : List Event) × (mid : Bool) × (seen : ℕ) × (before ≤ seen)
    × (es ≡ first ++ rest) × One n seen m first f mid × Does n seen now ms rest mid g

-- a message was taken, or the node crashed instead
abbrev pub OneTake : Node → ℕ → Event → Bool → Bool → Type 0
OneTake n k e f g =
    ((e ≡ event.Take n k) × (g ≡ f))
    ⊎ ((kept : Option Kept) × (e ≡ event.Fall n kept) × (f ≡ false) × (g ≡ true))

-- each of the messages, in this order, was taken, or was replaced by a crash
abbrev pub Takes : Node → List ℕ → List Event → Bool → Bool → Type 0
Takes n [] es f g = (es ≡ []) × (g ≡ f)
Takes n (k ∷ ks) es f g = (e : Event) × (rest : List Event) × (mid : Bool) × (es ≡ e ∷ rest) × OneTake n k e f mid × Takes n ks rest mid g

-- all moves may be made, one after another
abbrev pub AllFit : Counts → Node → List Move → Type 0
AllFit config n [] = Unit {0}
AllFit config n (m ∷ ms) = Fits config n m × AllFit config n ms

-- the move is an offer
abbrev pub is_offer : Move → Bool
is_offer (Offer d) = true
is_offer (Begin r) = false
is_offer (Take k) = false

-- one of the moves is an offer
abbrev pub HasOffer : List Move → Type 0
HasOffer [] = ⊥
HasOffer (m ∷ ms) = (is_offer m ≡ true) ⊎ HasOffer ms
