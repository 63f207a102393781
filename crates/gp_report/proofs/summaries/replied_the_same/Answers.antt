use Rattle.std.proofs.Common.{◌≡◌, ℕ, Bool, Decides, refl, ap}
use Rattle.std.specs.Prelude.{◌&&◌}
use Rattle.std.proofs.lemmas.Bool.Decides.{Decides-and, Decides-eqb}
use Rattle.std.proofs.lemmas.Slice.Eq.{slice_eq-Decides}
use Rattle.gp_command.specs.declared.command.CommandId.{CommandId}
use Rattle.gp_replica.specs.declared.reply.Reply.{Reply}
use Rattle.gp_replica.specs.declared.reply.Reply.TheVariants.{Done, Absent, Yes, No, Value}
use Rattle.gp_replica.specs.contracts.reply.ReplyPartialEq.TheImpl as reply_eq
use Rattle.gp_replica.specs.Machines.{is_same_id}
use Rattle.gp_report.proofs.Alike.{id_decides}
use Rattle.gp_report.proofs.summaries.replied_the_same.Goals as goal

-- what `==` says of two replies
abbrev same_reply : Reply → Reply → Bool
same_reply = (reply_eq.ghosts).eq

value_of : (value other : ℕ) → Value value ≡ Value other → value ≡ other
value_of value other e = cc

reply_decides : (reply other : Reply) → Decides (same_reply reply other) (reply ≡ other)
reply_decides Done Done = ((λ t. refl), λ e. refl)
reply_decides Done Absent = ((λ t. absurd cc), λ e. absurd cc)
reply_decides Done Yes = ((λ t. absurd cc), λ e. absurd cc)
reply_decides Done No = ((λ t. absurd cc), λ e. absurd cc)
reply_decides Done (Value value) = ((λ t. absurd cc), λ e. absurd cc)
reply_decides Absent Done = ((λ t. absurd cc), λ e. absurd cc)
reply_decides Absent Absent = ((λ t. refl), λ e. refl)
reply_decides Absent Yes = ((λ t. absurd cc), λ e. absurd cc)
reply_decides Absent No = ((λ t. absurd cc), λ e. absurd cc)
reply_decides Absent (Value value) = ((λ t. absurd cc), λ e. absurd cc)
reply_decides Yes Done = ((λ t. absurd cc), λ e. absurd cc)
reply_decides Yes Absent = ((λ t. absurd cc), λ e. absurd cc)
reply_decides Yes Yes = ((λ t. refl), λ e. refl)
reply_decides Yes No = ((λ t. absurd cc), λ e. absurd cc)
reply_decides Yes (Value value) = ((λ t. absurd cc), λ e. absurd cc)
reply_decides No Done = ((λ t. absurd cc), λ e. absurd cc)
reply_decides No Absent = ((λ t. absurd cc), λ e. absurd cc)
reply_decides No Yes = ((λ t. absurd cc), λ e. absurd cc)
reply_decides No No = ((λ t. refl), λ e. refl)
reply_decides No (Value value) = ((λ t. absurd cc), λ e. absurd cc)
reply_decides (Value value) Done = ((λ t. absurd cc), λ e. absurd cc)
reply_decides (Value value) Absent = ((λ t. absurd cc), λ e. absurd cc)
reply_decides (Value value) Yes = ((λ t. absurd cc), λ e. absurd cc)
reply_decides (Value value) No = ((λ t. absurd cc), λ e. absurd cc)
reply_decides (Value value) (Value other) = let d = Decides-eqb value other in ((λ t. ap Value (d.0 t)), λ e. d.1 (value_of value other e))

item_decides : (item other : CommandId × Reply) → Decides (is_same_id item.0 other.0 && same_reply item.1 other.1) (item ≡ other)
item_decides item other =
    let d = Decides-and (is_same_id item.0 other.0) (same_reply item.1 other.1) (id_decides item.0 other.0) (reply_decides item.1 other.1) in (
      (λ t. let p = d.0 t in λ i. (p.0 i, p.1 i)),
      λ e. d.1 (ap (λ (p : CommandId × Reply). p.0) e, ap (λ (p : CommandId × Reply). p.1) e),
    )

pub returns : goal.returns
returns c = let d = slice_eq-Decides item_decides c.args.replies.now c.args.others.now c.eq.result c.eq.ensures in (d.0, d.1)
