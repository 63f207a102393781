use Rattle.std.proofs.Common.{rules, ◌≡◌, [], ◌∷◌, ◌++◌, length, map, max, sym, ap, ◌∙◌}
use Rattle.gp_msg.specs.Records.{messages_in}
use Rattle.gp_msg.specs.Messages.{message_of}
use Rattle.gp_run.specs.TopCount.{top_of_messages}
use Rattle.gp_world.specs.Places.{messages_at, all_there}
use Rattle.gp_world.proofs.Showing.{tops-push}
use Rattle.gp_world.proofs.Placing.{placed_with, placed_without}
use Rattle.gp_world.proofs.log.Log.post.Goals as goal
use Rattle.gp_world.proofs.log.Log.post.Goals.{then-not-is_empty, else-not-is_empty}

pub invariant_of-self : goal.invariant_of-self
invariant_of-self c =
    let records = c.args.self.now.records.items in
    let places = c.args.self.now.places.items in
    let placed = c.args.self.now.placed in
    let grown : c.push-2.new.self.items ≡ records ++ c.args.last ∷ [] = search rules in
    let sent = c.top_of_messages.ensures ∙ ap (λ ms. top_of_messages (map message_of ms)) c.as_slice.ensures in
    record {
      topped = c.max-self.ensures ∙ (λ i. max (c.args.self.now.topped i) (sent i)) ∙ tops-push records c.args.last ∙ ap (λ rs. top_of_messages (map message_of (messages_in rs))) (sym grown);
      placed = elim c.if-not-is_empty.branch [
        | then-not-is_empty w ↦
            let some : length c.args.last.out ≡ 0 → ⊥ = search rules in
            let more : c.if-not-is_empty.self.1.1.0.items ≡ places ++ length records ∷ [] = search rules in
            (λ i. messages_at (grown i) (more i))
            ∙ placed_with records c.args.last places some c.requires.at_most_one placed
            ∙ ap (λ rs. all_there (messages_in rs)) (sym grown)
        | else-not-is_empty w ↦
            let none : length c.args.last.out ≡ 0 = search rules in
            let same : c.if-not-is_empty.self.1.1.0.items ≡ places = search rules in
            (λ i. messages_at (grown i) (same i))
            ∙ placed_without records c.args.last places none placed
            ∙ ap (λ rs. all_there (messages_in rs)) (sym grown)
      ];
    }
