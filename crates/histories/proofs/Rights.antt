-- Each answer of a history is right, so that the law holds of it.
use Rattle.std.proofs.Common.{◌≡◌, ℕ, ◌<◌, ◌≤◌, ◌↔◌, List, take, [], ◌∷◌, ◌++◌, length, Some, None, Option, sym, refl, ap, ◌∙◌, subst, inl, inr, append_assoc, append-nil, arith, length-append}
use Rattle.grammar.specs.declared.refusal.Refusal.{Refusal}
use Rattle.parsing.specs.Items.{Source}
use Rattle.words.specs.declared.word.Word.{Word}
use Rattle.states.specs.Sources.{Sourced}
use Rattle.records.specs.Orders.{by_node, by_alternative}
use Rattle.records.specs.declared.node.Node.{Node}
use Rattle.records.specs.declared.alternative.Alternative.{Alternative}
use Rattle.histories.specs.Refusals.{of_reading, Numbered}
use Rattle.histories.specs.Calls.{Held, closed, opened, Call, open_with, gather, Answer, Reply, done, judged, refused, word_refused, plain}
use Rattle.histories.specs.Meetings.{Meets}
use Rattle.histories.specs.Doings.{Passes, at_end, at_fault, word_no, word_yes}
use Rattle.histories.specs.Doings.{Does, open_range, open_crowded, open_done, take_closed, take_no, take_yes, through_closed, through_open}
use Rattle.histories.specs.Doings.{back_closed, back_beyond, back_done, judge_closed, judge_open}
use Rattle.histories.specs.Doings.{gather_closed, gather_none, gather_nodes, gather_alternatives, gather_done}
use Rattle.histories.specs.Histories.{History, Runs, runs_made, runs_then}
use Rattle.histories.specs.Laws.{Begins, DeadEnd, terminals_of, Verdict, Gathered, OpenRight, TakeRight, ReadRight, BackRight, GatherRight, Right, AllRight}
use Rattle.histories.specs.Statements.{Lawfulness}
use Rattle.histories.proofs.Listing.{not_both, listed_room}
use Rattle.histories.proofs.Keeping.{runs_keeps, keeps_same}
use Rattle.histories.proofs.Sentences.{clash, accepts_sentence, judged_sentence, dead_end, taken_begins, taken_alive, places_45}

-- No list is itself with one more.
longer : {P : Type 0} (ws : List ℕ) (t : ℕ) → ws ≡ ws ++ t ∷ [] → P
longer ws t e = absurd (omega (arith, simp length-append at (ap length e)))

same_words : {n k : ℕ} {ws vs : List ℕ} → opened n ws ≡ opened k vs → ws ≡ vs
same_words e = cc

-- A refusal is not done.
not_done : {P : Type 0} (r : Refusal) → plain (refused r) ≡ plain done → P
not_done r e = let z : ◌≡◌ {A = ℕ} 0 1 = cc in clash z

module _ {src : Source} (law : Sourced src) where
  take_no_right : {n t : ℕ} {ws : List ℕ} {r : Refusal} → Meets src n ws t (Some r)
      → TakeRight src n ws t (plain (refused r)) (opened n ws)
  take_no_right {n = n} {t = t} {ws = ws} {r = r} x = record {
    nothing_else = inr (r, refl);
    dead_end = dead_end law x;
    places = λ y. ap (λ z. plain (refused z)) (places_45 x y);
    reason = λ q e. let same : r ≡ q = cc in subst (λ z. Meets src n ws t (Some z)) same x;
    begins = not_done r;
    kept = (not_done r, λ e. longer ws t (same_words e));
    stays = ((λ _. refl), λ _. tt);
  }

  take_yes_right : {n t : ℕ} {ws : List ℕ} → Meets src n ws t None → TakeRight src n ws t (plain done) (opened n (ws ++ t ∷ []))
  take_yes_right {t = t} {ws = ws} x = record {
    nothing_else = inl refl;
    dead_end = ((λ y. absurd y), taken_alive law x);
    places = λ y. absurd y;
    reason = λ q e. not_done q (sym e);
    begins = λ _. taken_begins law x;
    kept = ((λ _. refl), λ _. refl);
    stays = ((λ y. absurd y), λ e. longer ws t (same_words (sym e)));
  }

  -- Of a read-through that has come to the end of its feed.
  none_before : {P : Type 0} (before : List Word) (w : Word) (behind : List Word) → [] ≡ before ++ w ∷ behind → P
  none_before [] w behind e = let z : ◌≡◌ {A = ℕ} 0 1 = cc in clash z
  none_before (b ∷ before) w behind e = let z : ◌≡◌ {A = ℕ} 0 1 = cc in clash z

  no_first : {P : Type 0} (w : Word) (behind : List Word) → [] ≡ w ∷ behind → P
  no_first w behind e = let z : ◌≡◌ {A = ℕ} 0 1 = cc in clash z

  -- A word was added before the words that were.
  begins_first : {n : ℕ} {ws : List ℕ} {w : Word} {added : List Word} → Meets src n ws w.terminal None
      → ((before : List Word) (v : Word) (behind : List Word) → added ≡ before ++ v ∷ behind
      → Begins src.grammar (((ws ++ w.terminal ∷ []) ++ terminals_of before) ++ v.terminal ∷ []))
      → (before : List Word) (v : Word) (behind : List Word) → w ∷ added ≡ before ++ v ∷ behind
      → Begins src.grammar ((ws ++ terminals_of before) ++ v.terminal ∷ [])
  begins_first {ws = ws} {w = w} x later [] v behind h =
      let same : w ≡ v = cc in
      subst (λ y. Begins src.grammar (y ++ v.terminal ∷ [])) (sym (append-nil ws))
      (subst (λ y. Begins src.grammar (ws ++ y.terminal ∷ [])) same (taken_begins law x))
  begins_first {ws = ws} {w = w} {added = added} x later (b ∷ before) v behind h =
      let same : w ≡ b = cc in
      let tail : added ≡ before ++ v ∷ behind = cc in
      let on : (ws ++ w.terminal ∷ []) ++ terminals_of before ≡ ws ++ b.terminal ∷ terminals_of before =
      append_assoc ws (w.terminal ∷ []) (terminals_of before) ∙ ap (λ y. ws ++ y.terminal ∷ terminals_of before) same in
      subst (λ y. Begins src.grammar (y ++ v.terminal ∷ [])) on (later before v behind tail)

  read_right : {n : ℕ} {e : Option Refusal} {ws vs : List ℕ} {cs ds : List Word} {a : Reply} → Passes src n e ws cs a vs ds
      → ReadRight src n ws (record { words = cs; fault = e }) a vs (record { words = ds; fault = e })
  read_right {e = e} {ws = ws} (at_end {b = b} x y) =
      let verdict : Verdict src.grammar ws (judged b) = record { yes_or_no = b; answer = refl; exact = judged_sentence law y } in
      record {
        added = [];
        rest = [];
        held = refl;
        kept = sym (append-nil ws);
        left = refl;
        fault = refl;
        begins = λ before w behind h. none_before before w behind h;
        dead_end = λ w behind h. no_first w behind h;
        places = λ w behind h. no_first w behind h;
        reason = λ w behind h. no_first w behind h;
        at_fault = λ _ f q. let z : ◌≡◌ {A = ℕ} 0 1 = cc in clash z;
        at_end = λ _ _. verdict;
        whole = λ _. (refl, x, verdict);
      }
  read_right {e = e} {ws = ws} (at_fault {r = r} x) = record {
    added = [];
    rest = [];
    held = refl;
    kept = sym (append-nil ws);
    left = refl;
    fault = refl;
    begins = λ before w behind h. none_before before w behind h;
    dead_end = λ w behind h. no_first w behind h;
    places = λ w behind h. no_first w behind h;
    reason = λ w behind h. no_first w behind h;
    at_fault = λ _ p q. let same : r ≡ p = cc in ap refused same;
    at_end = λ _ q. let z : ◌≡◌ {A = ℕ} 0 1 = cc in clash z;
    whole = λ h. absurd (h tt);
  }
  read_right {n = n} {ws = ws} (word_no {w = w} {cs = cs} {r = r} x) = record {
    added = [];
    rest = w ∷ cs;
    held = refl;
    kept = sym (append-nil ws);
    left = refl;
    fault = refl;
    begins = λ before v behind h. none_before before v behind h;
    dead_end = λ v behind h. let same : w ≡ v = cc in subst (λ y. Numbered 45 r ↔ DeadEnd src.grammar ws y.terminal) same (dead_end law x);
    places = λ v behind h y.
        let same : w ≡ v = cc in
        subst (λ u. word_refused r w.from w.to ≡ word_refused (of_reading 45 (length ws) u.terminal) u.from u.to) same
        (ap (λ u. word_refused u w.from w.to) (places_45 x y));
    reason = λ v behind h.
        let same : w ≡ v = cc in
        subst (λ u. (q : Refusal) × Meets src n ws u.terminal (Some q) × (word_refused r w.from w.to ≡ word_refused q u.from u.to)) same
        (r, x, refl);
    at_fault = λ h. no_first w cs (sym h);
    at_end = λ h. no_first w cs (sym h);
    whole = λ h. absurd (h tt);
  }
  read_right {ws = ws} (word_yes {w = w} x p) =
      let r = read_right p in
      record {
        added = w ∷ r.added;
        rest = r.rest;
        held = ap (λ l. w ∷ l) r.held;
        kept = r.kept ∙ append_assoc ws (w.terminal ∷ []) (terminals_of r.added);
        left = r.left;
        fault = refl;
        begins = λ before v behind h. begins_first x r.begins before v behind h;
        dead_end = r.dead_end;
        places = r.places;
        reason = r.reason;
        at_fault = r.at_fault;
        at_end = r.at_end;
        whole = r.whole;
      }

  open_right : {m k : Held} {n : ℕ} {a : Answer} → Does src m (open_with n) a k → OpenRight src m n a k
  open_right (open_range x) = record {
    nothing_else = inr (inl (record { number = refl; layer = refl }));
    exact = (not_done _, λ y. absurd (x y.0));
    no_limit = λ _. refl;
    crowded = λ y _. absurd (x y);
    opens = not_done _;
    stays = λ _. refl;
  }
  open_right (open_crowded x y) = record {
    nothing_else = inr (inr (record { number = refl; layer = refl }));
    exact = (not_done _, λ z. absurd (z.1 y));
    no_limit = λ z. absurd (z x);
    crowded = λ _ _. refl;
    opens = not_done _;
    stays = λ _. refl;
  }
  open_right (open_done x y) = record {
    nothing_else = inl refl;
    exact = ((λ _. (x, y)), λ _. refl);
    no_limit = λ z. absurd (z x);
    crowded = λ _ z. absurd (y z);
    opens = λ _. refl;
    stays = λ z. absurd z;
  }

  back_beyond_right : {n b : ℕ} {ws : List ℕ} → length ws < b
      → BackRight n ws b (plain (refused (of_reading 47 b (length ws)))) (opened n ws)
  back_beyond_right x = record {
    nothing_else = inr (record { number = refl; layer = refl });
    exact = (not_done _, λ y. absurd (omega arith));
    beyond = λ _. refl;
    back = not_done _;
    stays = λ _. refl;
  }

  back_done_right : {n b : ℕ} {ws : List ℕ} → b ≤ length ws → BackRight n ws b (plain done) (opened n (take b ws))
  back_done_right x = record {
    nothing_else = inl refl;
    exact = ((λ _. x), λ _. refl);
    beyond = λ y. absurd (omega arith);
    back = λ _. refl;
    stays = λ y. absurd y;
  }

  gather_right : {n : ℕ} {ws : List ℕ} {ns : List Node} {bs : List Alternative} {a : Answer} {k : Held}
      → Does src (opened n ws) (gather ns bs) a k → GatherRight src.grammar ws ns bs a × (k ≡ opened n ws)
  gather_right (gather_none x) = (
    record {
      nothing_else = inr (inl (record { number = refl; layer = refl }));
      room = λ s _ _. absurd (x ((accepts_sentence law).1 s));
      counts = λ p q e. let z : ◌≡◌ {A = ℕ} 0 1 = cc in clash z;
      no_sentence = λ _. refl;
      few_nodes = λ s _. absurd (x ((accepts_sentence law).1 s));
      few_alternatives = λ s _ _. absurd (x ((accepts_sentence law).1 s));
    },
    refl,
  )
  gather_right (gather_nodes x y) = (
    record {
      nothing_else = inr (inr (inl (record { number = refl; layer = refl })));
      room = λ _ p _. not_both p y;
      counts = λ p q e. let z : ◌≡◌ {A = ℕ} 0 1 = cc in clash z;
      no_sentence = λ s. absurd (s ((accepts_sentence law).0 x));
      few_nodes = λ _ _. refl;
      few_alternatives = λ _ p _. not_both p y;
    },
    refl,
  )
  gather_right (gather_alternatives x y z) = (
    record {
      nothing_else = inr (inr (inr (record { number = refl; layer = refl })));
      room = λ _ _ q. not_both q z;
      counts = λ p q e. let u : ◌≡◌ {A = ℕ} 0 1 = cc in clash u;
      no_sentence = λ s. absurd (s ((accepts_sentence law).0 x));
      few_nodes = λ _ p. not_both y p;
      few_alternatives = λ _ _ _. refl;
    },
    refl,
  )
  gather_right {ws = ws} {ns = ns} {bs = bs} {a = a} (gather_done {xs = xs} {ys = ys} x p q u v) =
      let all : Gathered src.grammar ws ns bs a =
      record { nodes = xs; alternatives = ys; nodes_are = p; alternatives_are = u; answer = refl } in
      let s = (accepts_sentence law).0 x in (
        record {
          nothing_else = inl all;
          room = λ _ _ _. all;
          counts = λ _ _ _. (s, all);
          no_sentence = λ z. absurd (z s);
          few_nodes = λ _ z. not_both (listed_room by_node p q) z;
          few_alternatives = λ _ _ z. not_both (listed_room by_alternative u v) z;
        },
        refl,
      )

  opens : (m : Held) {k : Held} {n : ℕ} {a : Answer} → Does src m (open_with n) a k → Right src m (open_with n) a k
  opens closed d = open_right d
  opens (opened l ws) d = open_right d

  does_right : {m k : Held} {c : Call} {a : Answer} → Does src m c a k → Right src m c a k
  does_right {m} (open_range x) = opens m (open_range x)
  does_right {m} (open_crowded x y) = opens m (open_crowded x y)
  does_right {m} (open_done x y) = opens m (open_done x y)
  does_right take_closed = record { answer = refl; stays = refl }
  does_right (take_no x) = take_no_right x
  does_right (take_yes x) = take_yes_right x
  does_right through_closed = record { answer = refl; stays = refl }
  does_right (through_open {vs = vs} {a = a} d) =
      record { reply = a; coming = _; answer = refl; words = vs; holds = refl; right = read_right d }
  does_right back_closed = record { answer = refl; stays = refl }
  does_right (back_beyond x) = back_beyond_right x
  does_right (back_done x) = back_done_right x
  does_right judge_closed = record { answer = refl; stays = refl }
  does_right (judge_open {b = b} x) = (
    record { reply = judged b; answer = refl; verdict = record { yes_or_no = b; answer = refl; exact = judged_sentence law x } },
    refl,
  )
  does_right gather_closed = record { answer = refl; stays = refl }
  does_right (gather_none x) = gather_right (gather_none x)
  does_right (gather_nodes x y) = gather_right (gather_nodes x y)
  does_right (gather_alternatives x y z) = gather_right (gather_alternatives x y z)
  does_right (gather_done x p q u v) = gather_right (gather_done x p q u v)

  all_right : {h : History} {m : Held} → Runs src h m → AllRight src h
  all_right runs_made = tt
  all_right (runs_then {m = m} {c = c} {a = a} r d) = (
    all_right r,
    λ x y p q.
        let before = keeps_same (runs_keeps r) p in
        let behind = keeps_same (runs_keeps (runs_then r d)) q in
        subst (λ z. Right src z c a y) before (subst (λ z. Right src m c a z) behind (does_right d)),
  )

pub lawfulness : Lawfulness
lawfulness src law h m r = record { keeps = runs_keeps r; alone = λ k x. keeps_same x (runs_keeps r); right = all_right law r }
