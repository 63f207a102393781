-- All that stands is taken, batch by batch.
use Rattle.std.proofs.Common.{◌≡◌, ℕ, ◌+◌, ◌-◌, ◌≤◌, ◌⊎◌, Bool, true, false, List, [], ◌++◌, length, refl, sym, ap, ◌∙◌, subst, inl, inr, ⊎_elim, arith}
use Rattle.std.proofs.lemmas.List.{append-nil}
use Rattle.gp_work.specs.declared.moves.Move.{Move}
use Rattle.gp_wire.specs.Own.{own_events}
use Rattle.gp_msg.specs.declared.event.Event.{Event}
use Rattle.gp_msg.specs.declared.message.MsgKind.{MsgKind}
use Rattle.gp_msg.specs.Records.{messages_in}
use Rattle.gp_work.specs.Doing.{ProcessState, have, HasRisen, Goes, Posted}
use Rattle.gp_work.specs.Moves.{Takes}
use Rattle.gp_work.specs.Batches.{IsBatch, order, AreRead}
use Rattle.gp_work.specs.Jobs.{Stretch, CountsSteps, MovesOn, turn_after, MadeAll, MadeSome, TookAll, TookSome, TookStanding, Done, Broken}
use Rattle.gp_work.proofs.Stretches.{messages_grown, have_grown, posted_on, posted_none, posted_same, risen_on, stretch_same, stretch_on}
use Rattle.gp_work.proofs.Counting.{turn_append}
use Rattle.gp_work.proofs.Making.{TookSoFar, does_to, takes_on, took_some_more}
use Rattle.gp_work.proofs.Batching.{batch_read, read_none, read_on, read_stays, stands}

-- what was taken so far, from a on up to b, and the count of steps before and now
pub record Taken (p : ProcessState) (f : Bool) (a : ℕ) (q : ProcessState) (g : Bool) (b before now : ℕ) : Type 0 where
  pub stretch : Stretch p f q g
  pub ks : List ℕ
  pub es : List Event
  pub posts : Posted p q es
  pub all : Takes p.node ks es f g
  pub read : AreRead p.node (messages_in q.list) a b ks
  pub forth : a ≤ b
  pub within : (b ≡ a) ⊎ (b ≤ have q)
  pub turn : now ≡ turn_after before (length ks)

pub taken_start : (p : ProcessState) (f : Bool) (a before : ℕ) → Taken p f a p f a before before
taken_start p f a before = record { stretch = stretch_same p f; ks = []; es = []; posts = posted_none p; all = (refl, refl); read = read_none p.node (messages_in p.list) a; forth = omega arith; within = inl refl; turn = refl }

stretch_of : (p q : ProcessState) (f : Bool) → Goes p q → Stretch p f q f
stretch_of p q f g = record { goes = g; stays = λ e. e; turned = λ a b. absurd (apart f a b) } where
  apart : (f : Bool) → f ≡ false → f ≡ true → ⊥
  apart true a b = cc
  apart false a b = cc

-- a look posts nothing
pub taken_looked : (p : ProcessState) (f : Bool) (a : ℕ) (q : ProcessState) (g : Bool) (b before now : ℕ) (r : ProcessState) → Taken p f a q g b before now → Goes q r → Posted q r [] → Taken p f a r g b before now
taken_looked p f a q g b before now r t go post = record {
  stretch = stretch_on p f q g r g t.stretch (stretch_of q r g go);
  ks = t.ks;
  es = t.es;
  posts = posted_same p q r t.es t.posts post;
  all = t.all;
  read = subst (λ ms. AreRead p.node ms a b t.ks) (sym (messages_grown q r go)) (read_stays p.node (messages_in q.list) (messages_in go.more) a b t.ks t.within t.read);
  forth = t.forth;
  within = ⊎_elim (λ e. inl e) (λ l. inr (let m = have_grown q r go in omega arith)) t.within;
  turn = t.turn;
}

-- a batch is taken
pub taken_more : (p : ProcessState) (f : Bool) (a : ℕ) (q : ProcessState) (g : Bool) (b before now : ℕ) (kinds : List MsgKind) (r : ProcessState) (h : Bool) (later : ℕ)
    → Taken p f a q g b before now → IsBatch (messages_in q.list) b kinds → (length kinds ≡ 0 → ⊥) → Stretch q g r h → TookAll q g (order q.node b kinds) r h → later ≡ turn_after now (length (order q.node b kinds))
    → Taken p f a r h (b + length kinds) before later
taken_more p f a q g b before now kinds r h later t batch some s all counted = record {
  stretch = stretch_on p f q g r h t.stretch s;
  ks = t.ks ++ order p.node b kinds;
  es = t.es ++ all.es;
  posts = posted_on p q r t.es all.es t.posts all.posts;
  all = takes_on p.node t.ks (order p.node b kinds) t.es all.es f g h t.all (subst (λ n. Takes n (order n b kinds) all.es g h) s_node all.all);
  read = read_on p.node (messages_in r.list) a b (b + length kinds) t.ks (order p.node b kinds) t.forth (omega arith) read_before read_now;
  forth = let l = t.forth in omega arith;
  within = inr (let m = have_grown q r s.goes in omega (arith, last));
  turn = turn_append before now later t.ks (order p.node b kinds) t.turn (subst (λ n. later ≡ turn_after now (length (order n b kinds))) s_node counted);
}
  where
    s_node : q.node ≡ p.node
    s_node = t.stretch.goes.node

    last : b + length kinds ≤ have q
    last = let x = stands (messages_in q.list) b kinds (length kinds - 1) batch (omega arith) in omega arith

    read_before : AreRead p.node (messages_in r.list) a b t.ks
    read_before = subst (λ ms. AreRead p.node ms a b t.ks) (sym (messages_grown q r s.goes)) (read_stays p.node (messages_in q.list) (messages_in s.goes.more) a b t.ks t.within t.read)

    read_now : AreRead p.node (messages_in r.list) b (b + length kinds) (order p.node b kinds)
    read_now = subst (λ ms. AreRead p.node ms b (b + length kinds) (order p.node b kinds)) (sym (messages_grown q r s.goes))
        (read_stays p.node (messages_in q.list) (messages_in s.goes.more) b (b + length kinds) (order p.node b kinds) (inr last) (batch_read p.node (messages_in q.list) b kinds batch))

-- nothing more stands where a look found nothing
pub standing_is : (p : ProcessState) (f : Bool) (a : ℕ) (q : ProcessState) (g : Bool) (b before now : ℕ) (r : ProcessState)
    → Taken p f a q g b before now → Goes q r → Posted q r [] → HasRisen q.turn r.turn → have r ≤ b → r.up ≡ true → TookStanding p f a r g b
standing_is p f a q g b before now r t go post risen none up =
    let l = taken_looked p f a q g b before now r t go post in record {
      ks = l.ks;
      es = l.es;
      posts = l.posts;
      all = l.all;
      read = l.read;
      risen = risen_on p.turn q.turn r.turn t.stretch.goes.turn risen;
      forth = l.forth;
      none = none;
      within = l.within;
      up = up;
    }

pub taken_far : (p : ProcessState) (f : Bool) (a : ℕ) (q : ProcessState) (g : Bool) (b before now : ℕ) (t : Taken p f a q g b before now) → TookSoFar p f t.ks q g
taken_far p f a q g b before now t = record { stretch = t.stretch; es = t.es; posts = t.posts; all = t.all }

pub taken_some_more : (p : ProcessState) (f : Bool) (a : ℕ) (q : ProcessState) (g : Bool) (b before now : ℕ) (r : ProcessState) → Taken p f a q g b before now → TookSome q g r → TookSome p f r
taken_some_more p f a q g b before now r t more = took_some_more p f t.ks q g r (taken_far p f a q g b before now t) more

-- how many steps that took
pub taken_steps : (p : ProcessState) (f : Bool) (a : ℕ) (q : ProcessState) (g : Bool) (b before now : ℕ) → Taken p f a q g b before now → CountsSteps p.node (messages_in q.list) a b 0 before now
taken_steps p f a q g b before now t =
    let none : length t.ks ≡ 0 + length t.ks = omega arith in record {
      ks = t.ks;
      read = t.read;
      turn = t.turn ∙ ap (turn_after before) none;
    }

-- where the cursor is
pub moved_on : (p : ProcessState) (f : Bool) (a : ℕ) (q : ProcessState) (g : Bool) (b before now : ℕ) (r : ProcessState) → Taken p f a q g b before now → Goes q r → MovesOn a b (have r)
moved_on p f a q g b before now r t go = record {
  forth = t.forth;
  within = ⊎_elim (λ e. inl e) (λ l. inr (let m = have_grown q r go in omega arith)) t.within;
}

-- ---- the moves, and then what stands

pub done_is : (p : ProcessState) (f : Bool) (first : List Move) (q : ProcessState) (g : Bool) (cursor : ℕ) (r : ProcessState) (h : Bool) (behind : ℕ)
    → Stretch p f q g → MadeAll p f first q g → Goes q r → TookStanding q g cursor r h behind → Done p f first cursor r h behind
done_is p f first q g cursor r h behind s m go t = record {
  mid = g;
  made = m.es;
  took = t.es;
  ks = t.ks;
  posts = posted_on p q r m.es t.es m.posts t.posts;
  moves = does_to p.node (have p) (have q) (have r) first m.es f g (have_grown q r go) m.all;
  takes = subst (λ n. Takes n t.ks t.es g h) s.goes.node t.all;
  read = subst (λ n. AreRead n (messages_in r.list) cursor behind t.ks) s.goes.node t.read;
  risen = risen_on p.turn q.turn r.turn s.goes.turn t.risen;
  forth = t.forth;
  none = t.none;
  within = t.within;
  up = t.up;
}

pub broken_after : (p : ProcessState) (f : Bool) (first : List Move) (q : ProcessState) (g : Bool) (r : ProcessState) → Stretch p f q g → MadeAll p f first q g → Goes q r → TookSome q g r → Broken p f first r
broken_after p f first q g r s m go t = record {
  mid = g;
  last = t.mid;
  done = first;
  undone = [];
  split = sym (append-nil first);
  made = m.es;
  took = t.es;
  ks = t.ks;
  posts = posted_on p q r m.es t.es m.posts t.posts;
  moves = does_to p.node (have p) (have q) (have r) first m.es f g (have_grown q r go) m.all;
  takes = subst (λ n. Takes n t.ks t.es g t.mid) s.goes.node t.some;
  order = inr refl;
}

pub broken_in : (p : ProcessState) (f : Bool) (first : List Move) (q : ProcessState) → MadeSome p f first q → Broken p f first q
broken_in p f first q m = record {
  mid = m.mid;
  last = m.mid;
  done = m.done;
  undone = m.undone;
  split = m.split;
  made = m.es;
  took = [];
  ks = [];
  posts = m.posts ∙ ap (λ l. own_events p.node p.list ++ l) (sym (append-nil m.es));
  moves = m.some;
  takes = (refl, refl);
  order = inl refl;
}
