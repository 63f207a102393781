use Rattle.std.proofs.Common.{◌≡◌, ◌++◌, ◌∷◌, [], false, not, cond, sym, ap, ◌∙◌}
use Rattle.std.specs.List.{list_any}
use Rattle.gp_command.specs.Conflict.{same}
use Rattle.gp_history.specs.History.{has}
use Rattle.gp_history.specs.Sequence.{history_of, place_in}
use Rattle.gp_history.proofs.Sets.{has_history_of}
use Rattle.gp_index.proofs.Searches.{there_if_found}
use Rattle.gp_index.proofs.parts.Parts.push.Goals as goal

pub returns-in-Ok-clause-added : goal.returns-in-Ok-clause-added
returns-in-Ok-clause-added c =
    let there = there_if_found c.args.self.now c.args.c c.in-Ok.field-0 (c.in-Ok.ensures.found ∙ ap (λ xs. place_in xs c.args.c) (c.deref.ensures.value ∙ c.self.view_is)) in
    ap not (sym there)

pub returns-in-Ok-clause-pushed : goal.returns-in-Ok-clause-pushed
returns-in-Ok-clause-pushed c =
    let there = there_if_found c.args.self.now c.args.c c.in-Ok.field-0 (c.in-Ok.ensures.found ∙ ap (λ xs. place_in xs c.args.c) (c.deref.ensures.value ∙ c.self.view_is)) in
    ap (λ b. cond b c.args.self.now (c.args.self.now ++ c.args.c ∷ [])) (sym there)

pub returns-in_ok-append-in-Err-clause-added : goal.returns-in_ok-append-in-Err-clause-added
returns-in_ok-append-in-Err-clause-added c =
    let lacks : has (history_of c.args.self.now) c.args.c ≡ false = has_history_of c.args.self.now c.args.c ∙ ap (λ xs. list_any (same c.args.c) xs) (sym (c.deref.ensures.value ∙ c.self.view_is)) ∙ c.in-Err.ensures.absent in
    ap not (sym lacks)

pub returns-in_ok-append-in-Err-clause-pushed : goal.returns-in_ok-append-in-Err-clause-pushed
returns-in_ok-append-in-Err-clause-pushed c =
    let lacks : has (history_of c.args.self.now) c.args.c ≡ false = has_history_of c.args.self.now c.args.c ∙ ap (λ xs. list_any (same c.args.c) xs) (sym (c.deref.ensures.value ∙ c.self.view_is)) ∙ c.in-Err.ensures.absent in
    c.in_ok-append-in-Err.ensures.appended ∙ ap (λ xs. xs ++ c.args.c ∷ []) c.self.view_is ∙ ap (λ b. cond b c.args.self.now (c.args.self.now ++ c.args.c ∷ [])) (sym lacks)
