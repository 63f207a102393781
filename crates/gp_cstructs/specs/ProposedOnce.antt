-- Each command is proposed once.
use Rattle.std.specs.Prelude.{◌≡◌, ◌≤◌, ℕ, List, Some, slice_get}
use Rattle.gp_cstructs.specs.CStructs.{Among}
use Rattle.gp_cstructs.specs.Tables.{Tables, Message, Propose}
use Rattle.gp_cstructs.specs.Loose.{System}

-- the messages propose no two commands of one identity, and none with a number above its proposer's count of offers
pub record AreOnce (T : Tables) (offers : ℕ → ℕ) (ms : List (Message T)) : Type 0 where
  pub once : (i j : ℕ) (c d : T.Command) → slice_get ms i ≡ Some (Propose c) → slice_get ms j ≡ Some (Propose d)
      → T.proposer_of c ≡ T.proposer_of d → T.number_of c ≡ T.number_of d → i ≡ j
  pub counted : (c : T.Command) → Among ms (Propose c) → T.number_of c ≤ offers (T.proposer_of c)

abbrev pub AreProposedOnce : (T : Tables) → System T → Type 0
AreProposedOnce T w = AreOnce T w.offers w.sent
