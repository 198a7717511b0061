-- Two feeds read on one reading, call by call.
use Rattle.std.proofs.Common.{◌≡◌, ℕ, ◌+◌, ◌<◌, List, [], ◌∷◌, ◌++◌, length, take, drop, slice_set, Err, Some, None, Option, Result, OnErr, IsSome, IsErr, ◌↔◌, sym, refl, ap, ◌∙◌, subst, append_assoc, append-nil, arith, length-append}
use Rattle.std.proofs.lemmas.List.{take_more_set, take_at, drop-set-lt, drop-drop}
use Rattle.grammar.specs.declared.refusal.Refusal.{Refusal}
use Rattle.parsing.specs.Items.{Source}
use Rattle.link_growth.specs.declared.Link.{Link}
use Rattle.words.specs.Feeds.{Coming}
use Rattle.words.specs.declared.word.Word.{Word as Spoken}
use Rattle.histories.specs.Calls.{Held, opened, open_with, read_through, back_to, judge, gather, Reply, Answer, and_feed, and_lists}
use Rattle.histories.specs.Doings.{Passes, at_end, at_fault, word_no, word_yes, Does, through_closed, through_open, back_closed, back_beyond, back_done}
use Rattle.histories.specs.Histories.{History, then}
use Rattle.histories.specs.Questions.{HasLink, LinkCount, word_count}
use Rattle.reader.specs.declared.fault.ReadingFault.{ReadingFault}
use Rattle.reader.specs.declared.fault.ThroughFault.TheVariants.{Word}
use Rattle.reader.specs.declared.fault.WordRefused.{WordRefused}
use Rattle.reader.specs.Readings.{Reading, held, Begins, Makes}
use Rattle.reader.specs.Replies.{made as done_or_refused, judgement, through, counts}
use Rattle.replay.specs.Chains.{Leads, begun, called, EveryHistory}
use Rattle.replay.specs.Pairs.{Notes, none, more, ReadsPast, whole, Lent, first_read, pair_history, PairRead}
use Rattle.replay.specs.declared.pair.Report.{Report}
use Rattle.replay.proofs.Leading.{leads_over}

module _ {S : Type 0} (m : S → Source) where
  -- Behind a history h the feed c was refused at the words ws: the reading is r, and d is coming.
  pub record Noted (s : S) (h : History) (c : Coming) (ws : List WordRefused) (r : Reading S) (d : Coming) : Type 0 where
    pub history : History
    pub notes : Notes h c ws history d
    pub leads : Leads m s history r

  -- That is so behind whatever led to the reading p.
  pub record Passing (p : Reading S) (c : Coming) (ws : List WordRefused) (r : Reading S) (d : Coming) : Type 0 where
    pub on : (s : S) (h : History) → Leads m s h p → Noted s h c ws r d

  pub passing_none : (p : Reading S) (c : Coming) → Passing p c [] p c
  passing_none p c = record { on = λ s h l. record { history = h; notes = none; leads = l } }

  pub passing_more : (p r q : Reading S) (c d e : Coming) (us : List WordRefused) (i : ℕ) (w : WordRefused) → i < length us
      → Passing p c (take i us) r d → Makes m r (read_through d) (and_feed (through (Err (Word w))) e) q → Passing p c (take (i + 1) (slice_set us i w)) q e
  passing_more p r q c d e us i w room x k =
      let more_words : take (i + 1) (slice_set us i w) ≡ take i us ++ w ∷ [] = take_more_set us i w room in
      record {
        on = λ s h l.
            let n = x.on s h l in
            record {
              history = then n.history (read_through d) (and_feed (through (Err (Word w))) e);
              notes = subst (λ ws. Notes h c ws (then n.history (read_through d) (and_feed (through (Err (Word w))) e)) e) (sym more_words) (more w n.notes);
              leads = called n.leads k;
            };
      }

  pub passing_ends : (p r q : Reading S) (c d e : Coming) (ws : List WordRefused) (a : Reply) → Passing p c ws r d → Makes m r (read_through d) (and_feed a e) q
      → (s : S) (h : History) → Leads m s h p → ReadsPast m s h c ws a e q
  passing_ends p r q c d e ws a x k s h l = let n = x.on s h l in record { before = n.history; left = d; notes = n.notes; leads = called n.leads k }

  pub whole_in : (r q : Reading S) (n : ℕ) (c d : Coming) (a : Reply) → Makes m r (read_through c) (and_feed a d) q
      → (s : S) (h : History) → Leads m s h r → Leads m s (whole h n c a d None) q
  whole_in r q n c d a x s h l = called l x

  pub whole_out : (r q p : Reading S) (n k : ℕ) (c d : Coming) (a : Reply) (b : Result (Unit {0}) ReadingFault) → n ≡ k → Makes m r (read_through c) (and_feed a d) q
      → Makes m q (back_to n) (done_or_refused b) p → (s : S) (h : History) → Leads m s h r → Leads m s (whole h k c a d (Some b)) p
  whole_out r q p n k c d a b e x y s h l = subst (λ z. Leads m s (whole h z c a d (Some b)) p) e (called (called l x) y)

-- A read-through keeps the words before it, so that going back to them undoes it.
passes_grow : {src : Source} {n : ℕ} {e : Option Refusal} {ts us : List ℕ} {cs ds : List Spoken} {a : Reply} → Passes src n e ts cs a us ds
    → (zs : List ℕ) × (us ≡ ts ++ zs)
passes_grow {ts = ts} (at_end x y) = ([], sym (append-nil ts))
passes_grow {ts = ts} (at_fault x) = ([], sym (append-nil ts))
passes_grow {ts = ts} (word_no x) = ([], sym (append-nil ts))
passes_grow {ts = ts} (word_yes {w = w} x p) =
    let (zs, e) = passes_grow p in
    (w.terminal ∷ zs, e ∙ append_assoc ts (w.terminal ∷ []) zs)

back_from : {src : Source} {n k : ℕ} {ts us : List ℕ} {b : Answer} {j : Held} → k ≡ length ts → (zs : List ℕ) → us ≡ ts ++ zs
    → Does src (opened n us) (back_to k) b j → j ≡ opened n ts
back_from {k = k} {ts = ts} {us = us} f zs e (back_beyond h) = absurd (omega (arith, simp length-append at (ap length e)))
back_from {n = n} {k = k} {ts = ts} f zs e (back_done h) = ap (opened n) (ap (take k) e ∙ take_at ts zs k (sym f))

pub back_again : {src : Source} {m j k : Held} {c d : Coming} {a : Reply} {b : Answer} → Does src m (read_through c) (and_feed a d) j
    → Does src j (back_to (word_count m)) b k → k ≡ m
back_again through_closed back_closed = refl
back_again (through_open p) d = let (zs, e) = passes_grow p in back_from refl zs e d

pub undone : {S : Type 0} (m : S → Source) (r q p : Reading S) (n : ℕ) (c d : Coming) (a : Reply) (b : Answer) → n ≡ word_count (held r)
    → Makes m r (read_through c) (and_feed a d) q → Makes m q (back_to n) b p → held p ≡ held r
undone m r q p n c d a b e x y =
    back_again x.does (subst (λ z. Does (m r.source) (held q) (back_to z) b (held p)) e (subst (λ z. Does (m z) (held q) (back_to n) b (held p)) x.over y.does))

pub rest_more : (us vs : List WordRefused) (i : ℕ) (w : WordRefused) → drop i us ≡ drop i vs → drop (i + 1) (slice_set us i w) ≡ drop (i + 1) vs
rest_more us vs i w e = drop-set-lt (i + 1) us i w (omega arith) ∙ sym (drop-drop 1 i us) ∙ ap (drop 1) e ∙ drop-drop 1 i vs

-- All calls of the two feeds, one after another.
module _ {S : Type 0} (m : S → Source) (every : EveryHistory m) (s : S) (n : ℕ) (l : Link) (x y : Lent) (ws : List WordRefused) (t : Report) where
  pub pair_read : (a b : Reading S) → Begins s a → Makes m a (open_with n) (done_or_refused t.opened) b
      → (c : Reading S) → ((u : S) (h : History) → Leads m u h b → ReadsPast m u h x.first ws (through t.first) y.first c)
      → t.passed ≡ length ws → t.words ≡ word_count (held c) → LinkCount (m c.source) (held c) t.links → HasLink (m c.source) (held c) l t.linked
      → (d : Reading S) → ((u : S) (h : History) → Leads m u h c → Leads m u (whole h (word_count (held c)) x.second (through t.second) y.second t.back) d)
      → IsSome t.back ↔ IsErr t.second → OnErr t.second (held d ≡ held c)
      → Makes m d judge (judgement t.judged) d → Makes m d (gather x.nodes x.alternatives) (and_lists (counts t.gathered) y.nodes y.alternatives) d
      → PairRead m s n l x ws t y d
  pair_read a b begins opens c past passed words links linked d rest back undone judges gathers =
      let p = past s _ (called (begun begins) opens) in
      let over = leads_over m s _ c p.leads in
      let h : History = first_read p.before p.left t y in
      let second : Leads m s (whole h t.words x.second (through t.second) y.second t.back) d =
      subst (λ k. Leads m s (whole h k x.second (through t.second) y.second t.back) d) (sym words) (rest s h p.leads) in
      let all : Leads m s (pair_history h x t y) d = called (called second judges) gathers in
      record {
        before = p.before;
        left = p.left;
        notes = p.notes;
        passed = passed;
        between = c;
        first = p.leads;
        words = words;
        links = subst (λ z. LinkCount (m z) (held c) t.links) over links;
        linked = subst (λ z. HasLink (m z) (held c) l t.linked) over linked;
        back = back;
        undone = undone;
        leads = all;
        law = every s _ d all;
      }
