-- When two replicas hold and replied the same.
use Rattle.std.proofs.Common.{◌≡◌, ℕ, zero, suc, ◌+◌, Bool, List, Decides, refl, sym, ap, ◌∙◌, arith}
use Rattle.std.specs.Prelude.{◌↔◌, ◌&&◌, nat_eq, IsTrue}
use Rattle.std.specs.Str.{bytes_eq}
use Rattle.std.specs.FinMap.{entries, same_entries_map}
use Rattle.std.specs.Cmp.Lexicographic.{pointwise, pointwise_decides}
use Rattle.std.proofs.lemmas.Bool.Decides.{Decides-and, Decides-eqb, same_from_decides}
use Rattle.std.proofs.lemmas.Slice.Eq.{bytes_eq-Decides}
use Rattle.gp_command.specs.declared.command.Command.{Command}
use Rattle.gp_command.specs.declared.command.CommandId.{CommandId}
use Rattle.gp_replica.specs.declared.reply.Reply.{Reply}
use Rattle.gp_replica.specs.declared.reply.Reply.TheVariants.{Done, Absent, Yes, No, Value}
use Rattle.gp_replica.specs.Machines.{is_same_id}
use Rattle.gp_store.specs.Pairs.{Pairs}
use Rattle.gp_report.specs.Summaries.{held_after, replied_to, reply_number, is_same_pair, is_same_item, are_alike, AreAlike}

-- ---- a test of two pairs, and of two replies

pair_decides : (pair other : List ℕ × ℕ) → Decides (is_same_pair pair other) (pair ≡ other)
pair_decides pair other =
    let d = Decides-and (bytes_eq pair.0 other.0) (nat_eq pair.1 other.1) (bytes_eq-Decides pair.0 other.0) (Decides-eqb pair.1 other.1) in (
      (λ t. let p = d.0 t in λ i. (p.0 i, p.1 i)),
      λ e. d.1 (ap (λ (p : List ℕ × ℕ). p.0) e, ap (λ (p : List ℕ × ℕ). p.1) e),
    )

pub id_decides : (id other : CommandId) → Decides (is_same_id id other) (id ≡ other)
id_decides id other =
    let d = Decides-and (nat_eq id.proposer other.proposer) (nat_eq id.number other.number) (Decides-eqb id.proposer other.proposer) (Decides-eqb id.number other.number) in (
      (λ t. let p = d.0 t in λ i. record { proposer = p.0 i; number = p.1 i }),
      λ e. d.1 (ap (λ (c : CommandId). c.proposer) e, ap (λ (c : CommandId). c.number) e),
    )

-- the reply of a number
reply_of_number : ℕ → Reply
reply_of_number zero = Done
reply_of_number (suc zero) = Absent
reply_of_number (suc (suc zero)) = Yes
reply_of_number (suc (suc (suc zero))) = No
reply_of_number (suc (suc (suc (suc n)))) = Value n

numbered : (reply : Reply) → reply_of_number (reply_number reply) ≡ reply
unfolding reply_of_number
numbered Done = refl
numbered Absent = refl
numbered Yes = refl
numbered No = refl
numbered (Value value) = let e : 4 + value ≡ suc (suc (suc (suc value))) = omega arith in ap reply_of_number e

same_number : (reply other : Reply) → reply_number reply ≡ reply_number other → reply ≡ other
same_number reply other e = sym (numbered reply) ∙ ap reply_of_number e ∙ numbered other

item_decides : (item other : CommandId × Reply) → Decides (is_same_item item other) (item ≡ other)
item_decides item other =
    let d = Decides-and (is_same_id item.0 other.0) (nat_eq (reply_number item.1) (reply_number other.1)) (id_decides item.0 other.0) (Decides-eqb (reply_number item.1) (reply_number other.1)) in (
      (λ t. let p = d.0 t in let same = same_number item.1 other.1 p.1 in λ i. (p.0 i, same i)),
      λ e. d.1 (ap (λ (p : CommandId × Reply). p.0) e, ap (λ (p : CommandId × Reply). reply_number p.1) e),
    )

-- ---- two replicas

-- **the test says whether states and replies are equal**
pub alike_tells : (ran other : List Command) → Decides (are_alike ran other) (AreAlike ran other)
unfolding are_alike
alike_tells ran other =
    let pairs = pointwise_decides pair_decides (entries (held_after ran)) (entries (held_after other)) in
    let items = pointwise_decides item_decides (replied_to ran) (replied_to other) in
    let d = Decides-and (pointwise is_same_pair (entries (held_after ran)) (entries (held_after other))) (pointwise is_same_item (replied_to ran) (replied_to other)) pairs items in (
      (λ t. let p = d.0 t in record { state = same_entries_map (held_after ran) (held_after other) p.0; replies = p.1 }),
      λ a. d.1 (ap (λ (m : Pairs). entries m) a.state, a.replies),
    )

-- what was found of the states and of the replies
pub told_alike : (ran other : List Command) (same_pairs same_replies : Bool) → IsTrue same_pairs ↔ (held_after ran ≡ held_after other) → IsTrue same_replies ↔ (replied_to ran ≡ replied_to other)
    → (same_pairs && same_replies) ≡ are_alike ran other
told_alike ran other same_pairs same_replies pairs items =
    let d = Decides-and same_pairs same_replies (pairs.0, pairs.1) (items.0, items.1) in
    let both : Decides (same_pairs && same_replies) (AreAlike ran other) = ((λ t. let p = d.0 t in record { state = p.0; replies = p.1 }), λ a. d.1 (a.state, a.replies)) in
    same_from_decides (same_pairs && same_replies) (are_alike ran other) both (alike_tells ran other)
