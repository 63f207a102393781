-- What a pass has seen no more is of turns after its last one.
use Rattle.std.proofs.Common.{◌≡◌, ℕ, ◌+◌, ◌<◌, ◌≤◌, List, [], ◌∷◌, ◌++◌, length, map, slice_get, sym, refl, ap, ◌∙◌, subst, inl, inr, suc, zero, arith, append_assoc, length-append, Option, Some, None}
use Rattle.std.proofs.lemmas.List.{append-nil}
use Rattle.std.proofs.lemmas.Option.{slice_get_within}
use Rattle.gp_msg.specs.declared.message.Msg.{Msg}
use Rattle.gp_msg.specs.declared.record.Record.{Record}
use Rattle.gp_msg.specs.Records.{messages_in}
use Rattle.gp_wire.specs.declared.view.Post.{Post}
use Rattle.gp_wire.specs.Lists.{Each}
use Rattle.gp_wire.specs.Rule.{IsLater, IsBelow}
use Rattle.gp_wire.specs.Known.{PassState, record_of, records}
use Rattle.gp_wire.specs.Passes.{HadTurn, nothing, only}
use Rattle.gp_wire.specs.Ends.{AllBegin}
use Rattle.gp_wire.specs.Looks.{IsCall, AreCalls, IsOneOf, in_turn, turns_of, NoLookMissed, EachHasTurn}
use Rattle.gp_wire.proofs.Words.{each_append, each_map, later_of_below, none_beyond}
use Rattle.gp_wire.proofs.Ends.{IsUpTo, later_up, up_same, up_left}

-- what a list has more than the pass is of turns after the pass's last one
pub record SeesAll (log : List Post) (p : PassState) : Type 0 where
  pub rest : List Post
  pub split : log ≡ p.seen ++ rest
  pub later : Each (IsLater p.turn) rest

-- the pass has seen more, of later turns
pub record GoesOn (p q : PassState) : Type 0 where
  pub more : SeesAll q.seen p
  pub up : IsUpTo p.turn q.turn

up_below : (u : Option ℕ) (n : ℕ) → IsBelow u n → IsUpTo u (Some n)
up_below None n b = tt
up_below (Some t) n b = omega arith

-- all posts of that turn are later
posts_later : (u : Option ℕ) (n : ℕ) (posts : List Post) → IsBelow u n → Each (λ (e : Post). e.turn ≡ n) posts → Each (IsLater u) posts
posts_later u n posts b e = each_map (λ (x : Post). x.turn ≡ n) (IsLater u) posts (λ x is. later_of_below u x (subst (IsBelow u) (sym is) b)) e

turn_goes : (p q : PassState) (posts : ℕ → List Post) → ((n : ℕ) → Each (λ (e : Post). e.turn ≡ n) (posts n)) → HadTurn p q posts → GoesOn p q
turn_goes p q posts all t = record {
  more = record {
    rest = t.more ++ posts t.turn;
    split = ap (λ (x : PassState). x.seen) t.after ∙ append_assoc p.seen t.more (posts t.turn);
    later = each_append (IsLater p.turn) t.more (posts t.turn) t.later (posts_later p.turn t.turn (posts t.turn) t.risen (all t.turn));
  };
  up = subst (IsUpTo p.turn) (sym (ap (λ (x : PassState). x.turn) t.after)) (up_below p.turn t.turn t.risen);
}

same_goes : (p : PassState) → GoesOn p p
same_goes p = record { more = record { rest = []; split = sym (append-nil p.seen); later = tt }; up = up_same p.turn }

call_goes : (p q : PassState) → IsCall p q → GoesOn p q
call_goes p q (inl t) = turn_goes p q nothing (λ n. tt) t
call_goes p q (inr (inl t)) = turn_goes p q (only t.0) (λ n. (refl, tt)) t.1
call_goes p q (inr (inr (inl m))) = record {
  more = record { rest = m.2.rest; split = m.2.split; later = m.2.later };
  up = subst (IsUpTo p.turn) (sym (ap (λ (x : PassState). x.turn) m.1)) (up_left p.turn m.0.turn);
}
call_goes p q (inr (inr (inr s))) = subst (GoesOn p) (sym s) (record { more = record { rest = []; split = sym (append-nil p.seen); later = tt }; up = up_same p.turn })

sees_on : (log : List Post) (p q : PassState) → GoesOn p q → SeesAll log q → SeesAll log p
sees_on log p q g s = record {
  rest = g.more.rest ++ s.rest;
  split = s.split ∙ (ap (λ l. l ++ s.rest) g.more.split ∙ append_assoc p.seen g.more.rest s.rest);
  later = each_append (IsLater p.turn) g.more.rest s.rest g.more.later (each_map (IsLater q.turn) (IsLater p.turn) s.rest (λ e l. later_up p.turn q.turn e g.up l) s.later);
}

calls_see : (log : List Post) (p : PassState) (rs : List PassState) (q : PassState) → AreCalls p rs q → SeesAll log q → SeesAll log p
calls_see log p [] q e s = subst (SeesAll log) (sym e) s
calls_see log p (r ∷ rs) q c s = sees_on log p r (call_goes p r c.0) (calls_see log r rs q c.1 s)

closed_sees : (log : List Post) (q : PassState) (ps : List PassState) → IsOneOf q ps → AllBegin log ps → SeesAll log q
closed_sees log q [] h a = absurd h
closed_sees log q (p ∷ ps) (inl e) a = subst (SeesAll log) (sym e) (record { rest = a.0.rest; split = a.0.split; later = a.0.later })
closed_sees log q (p ∷ ps) (inr h) a = closed_sees log q ps h a.1

-- ---- messages and their turns

many : (t : ℕ) (ms : List Msg) → length (in_turn t ms) ≡ length ms
many t [] = refl
many t (m ∷ ms) = ap suc (many t ms)

pub as_many : (es : List Post) → length (turns_of es) ≡ length (messages_in (map record_of es))
as_many [] = refl
as_many (e ∷ es) = length-append (in_turn e.turn e.item.out) (turns_of es) ∙ (ap (λ n. n + length (turns_of es)) (many e.turn e.item.out) ∙ (ap (λ n. length e.item.out + n) (as_many es) ∙ sym (length-append e.item.out (messages_in (map record_of es)))))

turns_append : (xs ys : List Post) → turns_of (xs ++ ys) ≡ turns_of xs ++ turns_of ys
turns_append [] ys = refl
turns_append (x ∷ xs) ys = ap (λ l. in_turn x.turn x.item.out ++ l) (turns_append xs ys) ∙ sym (append_assoc (in_turn x.turn x.item.out) (turns_of xs) (turns_of ys))

each_in_turn : (P : ℕ → Type 0) (t : ℕ) (ms : List Msg) → P t → Each P (in_turn t ms)
each_in_turn P t [] p = tt
each_in_turn P t (m ∷ ms) p = (p, each_in_turn P t ms p)

each_turn : (t : ℕ) (es : List Post) → Each (IsLater (Some t)) es → Each (λ u. t < u) (turns_of es)
each_turn t [] a = tt
each_turn t (e ∷ es) a = each_append (λ u. t < u) (in_turn e.turn e.item.out) (turns_of es) (each_in_turn (λ u. t < u) e.turn e.item.out a.0) (each_turn t es a.1)

-- what stands in the second of two lists
past : (P : ℕ → Type 0) (xs ys : List ℕ) (k u : ℕ) → length xs ≤ k → slice_get (xs ++ ys) k ≡ Some u → Each P ys → P u
past P [] [] k u l e a = let none = slice_get_within [] k u e in absurd (omega arith)
past P [] (y ∷ ys) zero u l e a = let same : y ≡ u = cc in subst P same a.0
past P [] (y ∷ ys) (suc k) u l e a = past P [] ys k u (omega arith) e a.1
past P (x ∷ xs) ys zero u l e a = absurd (omega arith)
past P (x ∷ xs) ys (suc k) u l e a = past P xs ys k u (omega arith) e a

missed_none : (log : List Post) (p : PassState) (t k u : ℕ) → SeesAll log p → p.turn ≡ Some t → slice_get (messages_in (records p)) k ≡ None → slice_get (turns_of log) k ≡ Some u → t < u
missed_none log p t k u s is none here =
    let few : length (turns_of p.seen) ≤ k = let l = none_beyond (messages_in (records p)) k none in let n = as_many p.seen in omega arith in
    past (λ v. t < v) (turns_of p.seen) (turns_of s.rest) k u few (subst (λ l. slice_get l k ≡ Some u) (ap turns_of s.split ∙ turns_append p.seen s.rest) here)
    (each_turn t s.rest (subst (λ o. Each (IsLater o) s.rest) is s.later))

-- the law
pub no_look_missed : (legal : List Record → Record → Type 0) → NoLookMissed legal
no_look_missed legal all passes out closed k turn f here =
    missed_none closed.log f.after f.look.turn k turn (calls_see closed.log f.after f.calls f.last f.path (closed_sees closed.log f.last passes f.closes closed.lists)) (ap (λ (x : PassState). x.turn) f.look.after) f.none here

pub each_has_a_turn : (legal : List Record → Record → Type 0) → EachHasTurn legal
each_has_a_turn legal all passes out closed = as_many closed.log ∙ ap (λ l. length (messages_in l)) (sym closed.list)
