-- A watch that sees the messages of a list.
use Rattle.std.proofs.Common.{◌≡◌, ◌≤◌, ℕ, zero, suc, ◌+◌, List, [], ◌∷◌, ◌++◌, length, take, Some, None, refl, sym, ap, ◌∙◌, subst, arith}
use Rattle.std.specs.Prelude.{slice_get}
use Rattle.std.specs.Option.{option_map}
use Rattle.std.proofs.lemmas.List.Sums.{fold-append}
use Rattle.std.proofs.lemmas.Option.{slice_get_within}
use Rattle.gp_msg.specs.declared.message.Msg.{Msg}
use Rattle.gp_msg.specs.declared.record.Record.{Record}
use Rattle.gp_msg.specs.Messages.{message_of}
use Rattle.gp_run.specs.Messages.{messages}
use Rattle.gp_run.specs.Runs.{newest_first}
use Rattle.gp_run.proofs.Telling.{message-entries}
use Rattle.gp_msg.specs.Records.{messages_in}
use Rattle.gp_wire.specs.Known.{PassState, records}
use Rattle.gp_cell.specs.Passing.{GoesOn}
use Rattle.gp_collide.specs.Watched.{after_message, opening, watched}
use Rattle.gp_collide.proofs.Bringing.{round-after_message}
use Rattle.gp_caller.specs.Sights.{SightState, Saw, SawAll, saw_lasts}

pub saw_on : (s : SightState) (p q : PassState) → GoesOn p q → Saw s (records p) → Saw s (records q)
saw_on s p q g h = subst (Saw s) (sym g.grown) (saw_lasts s (records p) g.more h)

-- the message at a place is among the first of one more
pub take_more : {A : Type 0} (xs : List A) (k : ℕ) (x : A) → slice_get xs k ≡ Some x → take (suc k) xs ≡ take k xs ++ x ∷ []
take_more [] k x e = absurd (cc)
take_more (y ∷ xs) zero x e = let is : y ≡ x = cc in ap (λ z. z ∷ []) is
take_more (y ∷ xs) (suc k) x e = ap (λ l. y ∷ l) (take_more xs k x e)

none_left : {A : Type 0} (xs : List A) (k : ℕ) → slice_get xs k ≡ None → k ≤ length xs → take k xs ≡ xs
none_left [] zero e l = refl
none_left [] (suc k) e l = absurd (none l) where
  none : suc k ≤ 0 → ⊥
  none l = omega (arith, l)
none_left (x ∷ xs) zero e l = absurd (cc)
none_left (x ∷ xs) (suc k) e l = ap (λ t. x ∷ t) (none_left xs k e (omega (arith, l)))

-- the watch saw one more message
abbrev pub shown : SightState → Msg → SightState
shown s m = record { watch = after_message s.watch (message_of m); looked = s.looked + 1 }

pub saw_more : (s : SightState) (rs : List Record) (m : Msg) → slice_get (messages_in rs) s.looked ≡ Some m → Saw s rs → Saw (shown s m) rs
saw_more s rs m at h =
    let ms = messages (newest_first rs) in
    let there : slice_get ms s.looked ≡ Some (message_of m) = message-entries rs s.looked ∙ ap (option_map message_of) at in record {
      within = let l = slice_get_within ms s.looked (message_of m) there in omega (arith, l);
      watch_is = ap (λ w. after_message w (message_of m)) h.watch_is
          ∙ sym (fold-append after_message (opening s.watch.round) (take s.looked ms) (message_of m ∷ []))
          ∙ ap (watched s.watch.round) (sym (take_more ms s.looked (message_of m) there) ∙ ap (λ k. take k ms) (let e : suc s.looked ≡ s.looked + 1 = omega arith in e))
          ∙ ap (λ r. watched r (take (s.looked + 1) ms)) (sym (round-after_message s.watch (message_of m)));
    }

pub saw_all : (s : SightState) (rs : List Record) → slice_get (messages_in rs) s.looked ≡ None → Saw s rs → SawAll s rs
saw_all s rs at h =
    let ms = messages (newest_first rs) in
    h.watch_is ∙ ap (watched s.watch.round) (none_left ms s.looked (message-entries rs s.looked ∙ ap (option_map message_of) at) h.within)
