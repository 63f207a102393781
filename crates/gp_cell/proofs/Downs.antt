-- What is on the disk of a cell that is down.
use Rattle.std.proofs.Common.{◌≡◌, ◌≢◌, ℕ, ◌⊎◌, ◌≤◌, Bool, true, false, List, [], ◌∷◌, ◌++◌, map, refl, sym, ap, ◌∙◌, subst, Option, Some, None, Result, Ok, Err, inl, inr, ⊎_elim, append_assoc}
use Rattle.std.specs.Prelude.{IfErr, IsErrAnd}
use Rattle.std.proofs.lemmas.Bool.{false≢true}
use Rattle.std.proofs.lemmas.List.{map-append}
use Rattle.gp_round.specs.Counts.{Counts}
use Rattle.gp_msg.specs.declared.node.Node.{Node}
use Rattle.gp_msg.specs.declared.durable.Durable.{Durable}
use Rattle.gp_msg.specs.declared.record.Record.{Record}
use Rattle.gp_msg.specs.Messages.{Stamped, EpochPart}
use Rattle.gp_run.specs.Messages.{messages}
use Rattle.gp_run.specs.Runs.{newest_first}
use Rattle.gp_run.proofs.Telling.{messages-append}
use Rattle.gp_vlog.specs.Bodies.{LogEntry, entry_with}
use Rattle.gp_vlog.specs.Files.{is_limit}
use Rattle.gp_vlog.specs.Logs.{LogState, Shows, HoldsEntries, log_entries, has_old}
use Rattle.gp_vlog.proofs.Moments.{tell, told, tells_back}
use Rattle.gp_vlog.proofs.Openings.{no_break_again, sized_in_range}
use Rattle.gp_vlog.proofs.Standing.{IsSized, read_in_range}
use Rattle.gp_work.specs.declared.moves.Move.{Move}
use Rattle.gp_work.specs.Moves.{event_of, Fits}
use Rattle.gp_work.specs.declared.faults.RiseFault.{RiseFault}
use Rattle.gp_work.specs.declared.faults.RiseFault.TheVariants as rise
use Rattle.gp_cell.specs.declared.roles.Core.{Core}
use Rattle.gp_cell.specs.Cores.{opening, acts, part_in}
use Rattle.gp_cell.specs.Still.{entries_append}
use Rattle.gp_cell.specs.Cells.{CellState, IsSound, IsLogged, Keeps, HasLog, last_or}
use Rattle.gp_cell.specs.Plans.{IsNamed, named}
use Rattle.gp_cell.specs.Passing.{GoesOn}
use Rattle.gp_wire.specs.declared.view.Post.{Post}
use Rattle.gp_wire.specs.Rule.{items}
use Rattle.gp_wire.specs.Known.{PassState, record_of, records}
use Rattle.gp_cell.specs.Crashes.{AddsToLog, OldOrWritten, LeavesWritten, HoldsSame, last_part}
use Rattle.gp_cell.specs.Founds.{LogBreaksWhere, IsOldLog, EndsWith, IsChanged, RiseCause}
use Rattle.gp_cell.specs.Refusals.{HasAdded, limit_of}
use Rattle.gp_cell.specs.Downs.{HoldsOneOf, MayHold, HoldsEither, StaysEither, AlikeLogs, LeavesSame, IsOpenedLog, IsOfLog, HidesLog}
use Rattle.gp_cell.proofs.Crashing.{last_shown, last_added}

-- a cell that is up
pub either_up : {D : Type 0} (content : D → Option (List ℕ)) (image : D → List ℕ → Type 0) (config : Counts) (n : Node) (core : Core) (log : Option (LogState D)) (ms : List Stamped) (down : Option Move) → down ≡ None
    → StaysEither content image config n core log ms down
either_up content image config n core log ms down up mv e = absurd (let wrong : None ≡ Some mv = sym up ∙ e in cc)

-- more messages were sent
pub either_later : {D : Type 0} (content : D → Option (List ℕ)) (image : D → List ℕ → Type 0) (config : Counts) (n : Node) (core : Core) (log : Option (LogState D)) (rs more all : List Record) (down : Option Move)
    → all ≡ rs ++ more → StaysEither content image config n core log (messages (newest_first rs)) down → StaysEither content image config n core log (messages (newest_first all)) down
either_later content image config n core log rs more all down e k mv d =
    let h = k mv d in
    let sent : messages (newest_first all) ≡ messages (newest_first rs) ++ messages (newest_first more) =
    ap (λ l. messages (newest_first l)) e ∙ ap messages (entries_append rs more) ∙ messages-append (newest_first more) (newest_first rs) in record {
      after = h.after;
      after_is = λ x. ap (λ ms. part_in (acts n core (ms ++ x) (event_of n mv)).0) sent
          ∙ ap (λ ms. part_in (acts n core ms (event_of n mv)).0) (append_assoc (messages (newest_first rs)) (messages (newest_first more)) x) ∙ h.after_is (messages (newest_first more) ++ x);
      holds = h.holds;
    }

pub either_goes : {D : Type 0} (content : D → Option (List ℕ)) (image : D → List ℕ → Type 0) (config : Counts) (n : Node) (core : Core) (log : Option (LogState D)) (p q : PassState) (down : Option Move)
    → GoesOn p q → StaysEither content image config n core log (messages (newest_first (records p))) down → StaysEither content image config n core log (messages (newest_first (records q))) down
either_goes content image config n core log p q down g k = either_later content image config n core log (records p) g.more (records q) down g.grown k

pub either_longer : {D : Type 0} (content : D → Option (List ℕ)) (image : D → List ℕ → Type 0) (config : Counts) (n : Node) (core : Core) (log : Option (LogState D)) (p q : PassState) (rest : List Post) (down : Option Move)
    → q.seen ≡ p.seen ++ rest → StaysEither content image config n core log (messages (newest_first (records p))) down → StaysEither content image config n core log (messages (newest_first (records q))) down
either_longer content image config n core log p q rest down e k = either_later content image config n core log (records p) (items rest) (records q) down (ap (map record_of) e ∙ map-append record_of p.seen rest) k

-- a cell goes down in a move, and its log is another one
pub sound_down : {D : Type 0} (config : Counts) (n : Node) (core : Core) (log other : Option (LogState D)) (p : PassState) (posted : ℕ) (down now : Option Move) (mv : Move) → IsSound config n core log p posted down → now ≡ Some mv → IsLogged n → HasLog other
    → Fits config n mv → IsNamed mv (named (messages (newest_first (records p))) mv) → IsSound config n core other p posted now
sound_down config n core log other p posted down now mv s is logged there fits stands = record {
  node_is = s.node_is;
  present = s.present;
  core_is = s.core_is;
  posted_is = s.posted_is;
  lawful = s.lawful;
  log_is = λ e. absurd (let wrong : None ≡ Some mv = sym e ∙ is in cc);
  down_is = λ m e. let same : Some mv ≡ Some m = sym is ∙ e in let which : mv ≡ m = cc in record {
    logged = logged;
    there = there;
    fits = subst (Fits config n) which fits;
    stands = subst (λ x. IsNamed x (named (messages (newest_first (records p))) x)) which stands;
  };
}

pub either_down : {D : Type 0} (content : D → Option (List ℕ)) (image : D → List ℕ → Type 0) (config : Counts) (n : Node) (core : Core) (log : Option (LogState D)) (ms : List Stamped) (now : Option Move) (mv : Move) (after : Option EpochPart) → now ≡ Some mv
    → ((more : List Stamped) → part_in (acts n core (ms ++ more) (event_of n mv)).0 ≡ after) → MayHold content image (part_in (opening config n)) (part_in core) after log → StaysEither content image config n core log ms now
either_down content image config n core log ms now mv after is f h m e =
    let same : Some mv ≡ Some m = sym is ∙ e in let which : mv ≡ m = cc in
    subst (HoldsEither content image config n core log ms) which (record { after = after; after_is = f; holds = h })

none_old : (ds : List Durable) → has_old (log_entries false ds) ≡ false
none_old [] = refl
none_old (d ∷ ds) = none_old ds

none_old_more : (ds : List Durable) (next : EpochPart) → has_old (log_entries false ds ++ entry_with false next ∷ []) ≡ false
none_old_more [] next = refl
none_old_more (d ∷ ds) next = none_old_more ds next

holds_one : (limit : ℕ) (first part : EpochPart) (ds : List Durable) (next : EpochPart) (s : List ℕ) → last_or first ds ≡ part → OldOrWritten limit (log_entries false ds) (entry_with false next) s → HoldsOneOf limit (Some first) (Some part) (Some next) s
holds_one limit first part ds next s e (inl h) = record { entries = log_entries false ds; holds = h; current = none_old ds; ends = inl (ap Some (sym e) ∙ last_shown first ds) }
holds_one limit first part ds next s e (inr (inl h)) = record { entries = log_entries false ds ++ entry_with false next ∷ []; holds = h; current = none_old_more ds next; ends = inr (last_added (Some first) (log_entries false ds) (entry_with false next)) }
holds_one limit first part ds next s e (inr (inr h)) = record { entries = entry_with false next ∷ []; holds = h; current = refl; ends = inr refl }

some_limit : (a b : ℕ) → ◌≡◌ {A = Option ℕ} (Some a) (Some b) → a ≡ b
some_limit a b e = cc

module _ {D : Type 0} (content : D → Option (List ℕ)) (image : D → List ℕ → Type 0) (moment : D → ℕ) (since : D → ℕ → List ℕ → Type 0) (counts_now : (d : D) (t : ℕ) (c : List ℕ) → t ≤ moment d → image d c → since d t c) where
  -- a log that was written
  pub written_holds : (first part : Option EpochPart) (next : EpochPart) (old new : Option (LogState D)) → Keeps first part old → LeavesWritten content moment since old new next → AlikeLogs content old new → limit_of new ≡ limit_of old
      → MayHold content image first part (Some next) new
  written_holds first part next old None k h a l = tt
  written_holds None None next None (Some new) k h a l = absurd a
  written_holds None None next (Some log) (Some new) k h a l = absurd k
  written_holds None (Some part) next None (Some new) k h a l = absurd k
  written_holds None (Some part) next (Some log) (Some new) k h a l = absurd k
  written_holds (Some first) None next None (Some new) k h a l = absurd k
  written_holds (Some first) None next (Some log) (Some new) k h a l = absurd k
  written_holds (Some first) (Some part) next None (Some new) k h a l = absurd k
  written_holds (Some first) (Some part) next (Some log) (Some new) k h a l = tell (content new.disk) _ (λ t e c left.
      let before = tells_back (content log.disk) (content new.disk) t e a in
      let only = told (content log.disk) _ before.0 before.1 h in
      let here = only.each c (counts_now new.disk (moment log.disk) c only.later left) in
      subst (λ n. HoldsOneOf n (Some first) (Some part) (Some next) c) (sym (some_limit new.limit log.limit l)) (holds_one log.limit first part log.entries next c k.1 here))

  -- a log that was read again
  pub reopened_holds : (first before after : Option EpochPart) (old new : Option (LogState D)) → MayHold content image first before after old → HoldsSame content old new → LeavesSame image moment since old new → limit_of new ≡ limit_of old
      → MayHold content image first before after new
  reopened_holds first before after old None h s k l = tt
  reopened_holds first before after None (Some new) h s k l = absurd k
  reopened_holds first before after (Some log) (Some new) h s k l = tell (content new.disk) _ (λ t e c left.
      let was = told (content log.disk) _ t (sym s ∙ e) h in
      let here = was c (k.each c (counts_now new.disk (moment log.disk) c k.later left)) in
      subst (λ n. HoldsOneOf n first before after c) (sym (some_limit new.limit log.limit l)) here)

  pub either_reopened : (config : Counts) (n : Node) (core : Core) (old new : Option (LogState D)) (ms : List Stamped) (down : Option Move) → StaysEither content image config n core old ms down → HoldsSame content old new → LeavesSame image moment since old new → limit_of new ≡ limit_of old
      → StaysEither content image config n core new ms down
  either_reopened config n core old new ms down k s m l mv e = let h = k mv e in record {
    after = h.after;
    after_is = h.after_is;
    holds = reopened_holds (part_in (opening config n)) (part_in core) h.after old new h.holds s m l;
  }

-- ---- a node that did not recover

same_entries : (limit limit' size' : ℕ) (es es' : List LogEntry) (s : List ℕ) → HoldsEntries limit es s → Shows limit' es' size' s → es ≡ es'
same_entries limit limit' size' es es' s a b = let x = a.1.reads in let y = b.reads in let same : a.1.contents ≡ b.contents = cc in sym a.1.entries_are ∙ ap (λ c. c.entries) same ∙ b.entries_are

true_old : (b : Bool) (ds : List Durable) → b ≡ has_old (log_entries b ds) → has_old (log_entries b ds) ≡ false → b ≡ true → ⊥
true_old b ds is none old = false≢true (sym (is ∙ none) ∙ old)

module _ {D : Type 0} (content : D → Option (List ℕ)) (image : D → List ℕ → Type 0) (shows : (d : D) (s : List ℕ) → content d ≡ Some s → image d s) where
  -- the content of the disk, if it reveals it
  by_content : (o : Option (List ℕ)) → ((s : List ℕ) → o ≡ Some s → ⊥) → o ≡ None
  by_content None f = refl
  by_content (Some s) f = absurd (f s refl)

  -- the bytes are a log
  pub not_broken : (first before after : Option EpochPart) (log : Option (LogState D)) (at : ℕ) → HasLog log → MayHold content image first before after log → LogBreaksWhere content log (rise.NotLog at) → HidesLog content log
  not_broken first before after None at there h b = absurd there
  not_broken first before after (Some log) at there h b = by_content (content log.disk) (λ s e.
      let held = told (content log.disk) _ s e h s (shows log.disk s e) in
      let broken = told (content log.disk) _ s e b in
      let sized : IsSized log.limit = subst IsSized held.holds.1.limit_is (sized_in_range held.holds.1.contents.limit (read_in_range is_limit s held.holds.1.contents held.holds.1.reads)) in
      no_break_again log.limit held.entries s at sized held.holds broken)

  -- the log ends with one of the two parts
  pub not_changed : (first before after : Option EpochPart) (old new : Option (LogState D)) → MayHold content image first before after old → IsOpenedLog content image new → HoldsSame content old new
      → IsOldLog new ⊎ ((part : EpochPart) × EndsWith first new part × (before ≢ Some part) × (after ≢ Some part)) → HidesLog content old
  not_changed first before after None None h o s other = absurd o
  not_changed first before after None (Some new) h o s other = absurd s
  not_changed first before after (Some old) None h o s other = absurd o
  not_changed first before after (Some old) (Some new) h o s other = by_content (content old.disk) (λ t e.
      let held = told (content old.disk) _ t e h t (shows old.disk t e) in
      let ready = told (content new.disk) _ t (s ∙ e) o.0 in
      let same = same_entries old.limit new.limit new.size held.entries (log_entries new.is_old new.entries) t held.holds ready.0 in
      let current : has_old (log_entries new.is_old new.entries) ≡ false = ap has_old (sym same) ∙ held.current in
      let young : new.is_old ≡ false = o.1 ∙ current in
      let listed : held.entries ≡ log_entries false new.entries = same ∙ ap (λ b. log_entries b new.entries) young in
      ⊎_elim (λ (is : new.is_old ≡ true). false≢true (sym young ∙ is)) (λ k. neither first new.entries k.0 held.entries listed held.ends (ends_with first k.0 k.1) k.2 k.3) other)
    where
      ends_with : (first : Option EpochPart) (part : EpochPart) → EndsWith first (Some new) part → last_part first (log_entries false new.entries) ≡ Some part
      ends_with None part k = absurd k
      ends_with (Some f) part k = sym (last_shown f new.entries) ∙ ap Some k

      neither : (first : Option EpochPart) (ds : List Durable) (part : EpochPart) (es : List LogEntry) → es ≡ log_entries false ds → (before ≡ last_part first es) ⊎ (after ≡ last_part first es) → last_part first (log_entries false ds) ≡ Some part
          → before ≢ Some part → after ≢ Some part → ⊥
      neither first ds part es is (inl b) l f g = f (b ∙ ap (last_part first) is ∙ l)
      neither first ds part es is (inr a) l f g = g (a ∙ ap (last_part first) is ∙ l)

pub hides_same : {D : Type 0} (content : D → Option (List ℕ)) (old new : Option (LogState D)) → HoldsSame content old new → HidesLog content old → HidesLog content new
hides_same content None None s h = h
hides_same content None (Some new) s h = absurd h
hides_same content (Some old) None s h = absurd s
hides_same content (Some old) (Some new) s h = s ∙ h

pub err_any : {T E : Type 0} (r : Result T E) (P : E → Type 0) → ((e : E) → P e) → IfErr r P
err_any (Ok x) P f = tt
err_any (Err e) P f = f e

pub err_same : {T E : Type 0} (r : Result T E) (x : E) (P : E → Type 0) → IsErrAnd r (λ y. y ≡ x) → P x → IfErr r P
err_same (Ok v) x P e p = absurd e
err_same (Err y) x P e p = subst P (sym e) p

-- a recovery that was refused for what is on the disk
pub hidden : {D : Type 0} (content : D → Option (List ℕ)) (image : D → List ℕ → Type 0) (shows : (d : D) (s : List ℕ) → content d ≡ Some s → image d s)
    (o q : CellState D) (mv : Move) (f : RiseFault) → HasLog o.log → HoldsEither content image o.config o.node o.core o.log (messages (newest_first (records o.pass))) mv → q.config ≡ o.config → q.node ≡ o.node → q.core ≡ o.core
    → GoesOn o.pass q.pass → HoldsSame content o.log q.log → (IsChanged f → IsOpenedLog content image q.log) → RiseCause content o q mv f → IsOfLog f → HidesLog content o.log
hidden content image shows o q mv rise.NoMemory there h config node core goes same opened cause of = absurd of
hidden content image shows o q mv rise.Disk there h config node core goes same opened cause of = absurd of
hidden content image shows o q mv (rise.NotLog at) there h config node core goes same opened cause of = not_broken content image shows (part_in (opening o.config o.node)) (part_in o.core) h.after o.log at there h.holds cause
hidden content image shows o q mv (rise.Changed found) there h config node core goes same opened cause of =
    let sent : messages (newest_first (records q.pass)) ≡ messages (newest_first (records o.pass)) ++ messages (newest_first goes.more) =
    ap (λ l. messages (newest_first l)) goes.grown ∙ ap messages (entries_append (records o.pass) goes.more) ∙ messages-append (newest_first goes.more) (newest_first (records o.pass)) in
    let first : part_in (opening q.config q.node) ≡ part_in (opening o.config o.node) = λ i. part_in (opening (config i) (node i)) in
    let after : part_in (acts q.node q.core (messages (newest_first (records q.pass))) (event_of q.node mv)).0 ≡ h.after = (λ i. part_in (acts (node i) (core i) (sent i) (event_of (node i) mv)).0) ∙ h.after_is (messages (newest_first goes.more)) in
    not_changed content image shows (part_in (opening o.config o.node)) (part_in o.core) h.after o.log q.log h.holds (opened tt) same
    (⊎_elim inl (λ k. inr (k.0, subst (λ x. EndsWith x q.log k.0) first k.1, (λ e. k.2.0 (ap part_in core ∙ e)), (λ e. k.2.1 (after ∙ e)))) cause.1)

pub has_added : {D : Type 0} (old new : Option (LogState D)) (d : Durable) → AddsToLog old new d → HasAdded old new
has_added None new d a = absurd a
has_added (Some old) None d a = absurd a
has_added (Some old) (Some new) d a = (d, a.0)
