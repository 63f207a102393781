use Rattle.std.proofs.Common.{◌≡◌, ◌+◌, ◌++◌, ◌∷◌, [], length, drop, Some, None, sym, ap, ◌∙◌, arith, rules}
use Rattle.std.specs.Option.{option_copied, option_map}
use Rattle.std.proofs.lemmas.List.{take_rest, length-append}
use Rattle.std.proofs.lemmas.List.Elements.{All-push}
use Rattle.gp_vlog.specs.Bodies.{entry_of}
use Rattle.gp_vlog.specs.Gates.{area, body_at, meant_by}
use Rattle.gp_vlog.specs.Logs.{entry_for, log_entries, last, KeepsRules}
use Rattle.gp_vlog.proofs.Areas.{after}
use Rattle.gp_vlog.proofs.AreaLoop.{walk_closed, walk_end, walk_broken, walk_more, Step, kept_grown, last_grown, last_keeps}
use Rattle.gp_vlog.proofs.area.Area.read.Goals as goal

pub returns-then-bytes-at-eq0-clause-read : goal.returns-then-bytes-at-eq0-clause-read
returns-then-bytes-at-eq0-clause-read c =
    walk_closed entry_of c.args.room c.args.bytes.now _ (log_entries c.loop-at.first_version c.loop-at.entries.items) (option_map (entry_for c.loop-at.first_version) (last c.loop-at.entries.items)) c.loop-at.at c.loop-at.invariant.read c.loop-at-test.true c.if-bytes-at-eq0.true

pub returns-in_default-clause-read : goal.returns-in_default-clause-read
returns-in_default-clause-read c =
    let before = option_map (entry_for c.loop-at.first_version) (last c.loop-at.entries.items) in
    let rest = take_rest c.args.bytes.now (c.loop-at.at + 1) in
    let gone : body_at c.args.room c.loop-at.at (drop (c.loop-at.at + 1) c.args.bytes.now) ≡ None = ap (body_at c.args.room c.loop-at.at) (sym rest) ∙ sym c.in_default.ensures in
    walk_broken entry_of c.args.room c.args.bytes.now _ (log_entries c.loop-at.first_version c.loop-at.entries.items) before c.loop-at.at c.loop-at.invariant.read c.loop-at-test.true c.if-bytes-at-eq0.false (ap (meant_by (entry_of before)) gone)

pub returns-in-Err-Wrong-clause-read : goal.returns-in-Err-Wrong-clause-read
returns-in-Err-Wrong-clause-read c =
    let before = option_map (entry_for c.loop-at.first_version) (last c.loop-at.entries.items) in
    let rest = take_rest c.args.bytes.now (c.loop-at.at + 1) in
    let there : body_at c.args.room c.loop-at.at (drop (c.loop-at.at + 1) c.args.bytes.now) ≡ Some c.in-Some.body.now = ap (body_at c.args.room c.loop-at.at) (sym rest) ∙ sym c.in-Some.ensures in
    let before_is : option_copied c.last.result ≡ last c.loop-at.entries.items = c.last.ensures.value ∙ ap last c.deref.ensures.value in
    let wrong = ap (λ o. entry_of (option_map (entry_for c.loop-at.first_version) o) c.in-Some.body.now) (sym before_is) ∙ (rw c.in-Err-Wrong.field-0-is at c.in-Err-Wrong.ensures.read) in
    walk_broken entry_of c.args.room c.args.bytes.now _ (log_entries c.loop-at.first_version c.loop-at.entries.items) before c.loop-at.at c.loop-at.invariant.read c.loop-at-test.true c.if-bytes-at-eq0.false (ap (meant_by (entry_of before)) there ∙ wrong)

pub loop-at-preserved : goal.loop-at-preserved
loop-at-preserved c =
    let old = c.loop-at.first_version in
    let items = c.loop-at.entries.items in
    let v = c.in-Ok.read.0 in
    let d = c.in-Ok.read.1 in
    let body = c.in-Some.body.now in
    let before = option_map (entry_for old) (last items) in
    let rest = take_rest c.args.bytes.now (c.loop-at.at + 1) in
    let there : body_at c.args.room c.loop-at.at (drop (c.loop-at.at + 1) c.args.bytes.now) ≡ Some body = ap (body_at c.args.room c.loop-at.at) (sym rest) ∙ sym c.in-Some.ensures in
    let before_is : option_copied c.last.result ≡ last items = c.last.ensures.value ∙ ap last c.deref.ensures.value in
    let means : entry_of before body ≡ Some (entry_for v d) = ap (λ o. entry_of (option_map (entry_for old) o) body) (sym before_is) ∙ c.in-Ok.ensures.read in
    let grown : c.push.new.self.items ≡ items ++ d ∷ [] = search rules in
    let step : Step entry_of c.args.room c.args.bytes.now (area entry_of c.args.room None 0 0 c.args.bytes.now) (log_entries old items) before c.loop-at.at body (entry_for v d) = record {
      sofar = c.loop-at.invariant.read;
      inside = c.loop-at-test.true;
      is_open = c.if-bytes-at-eq0.false;
      there = there;
      means = means;
    } in
    let next = walk_more entry_of c.args.room c.args.bytes.now _ (log_entries old items) before c.loop-at.at body (entry_for v d) step in
    let place = c.loop-at.at + (5 + length body) in
    let within = next.within in
    record {
      read =
          next.sofar
          ∙ ap (λ l. after entry_of c.args.room l (area entry_of c.args.room (Some (entry_for v d)) place 0 (drop place c.args.bytes.now))) (kept_grown old v items c.push.new.self.items d body means grown)
          ∙ ap (λ o. after entry_of c.args.room (log_entries v c.push.new.self.items) (area entry_of c.args.room o place 0 (drop place c.args.bytes.now))) (last_grown v items c.push.new.self.items d grown);
      rules = rw grown (All-push KeepsRules items d c.loop-at.invariant.rules c.in-Ok.ensures.rules);
      some = λ _. let more = ap length grown in let sum = length-append items (d ∷ []) in omega (arith, more, sum);
      within = omega (arith, within);
      below = λ _. next.below;
    }

pub returns-clause-read : goal.returns-clause-read
returns-clause-read c =
    walk_end entry_of c.args.room c.args.bytes.now _ (log_entries c.loop-at.first_version c.loop-at.entries.items) (option_map (entry_for c.loop-at.first_version) (last c.loop-at.entries.items)) c.loop-at.at c.loop-at.invariant.read (omega (arith, c.loop-at-test.false))

pub entry_of-requires : goal.entry_of-requires
entry_of-requires c = last_keeps KeepsRules c.loop-at.entries.items _ c.loop-at.invariant.rules (c.last.ensures.value ∙ ap last c.deref.ensures.value)
