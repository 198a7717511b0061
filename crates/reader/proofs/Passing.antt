-- A read-through, turn by turn.
use Rattle.std.proofs.Common.{◌≡◌, ℕ, ◌<◌, length, Bool, List, Ok, Err, Some, None, Option, sym, refl, ap, ◌∙◌, subst, arith}
use Rattle.parsing.specs.Items.{Source}
use Rattle.words.specs.Feeds.{Coming, Handed}
use Rattle.words.proofs.Handing.{handed_word}
use Rattle.words.specs.Refusals.{refusal as of_feed}
use Rattle.words.specs.declared.word.Word.{Word}
use Rattle.words.specs.declared.fault.FeedFault.{FeedFault}
use Rattle.grammar.specs.declared.refusal.Refusal.{Refusal}
use Rattle.histories.specs.Calls.{Held, opened, Call, take_word, read_through, judge, Answer, done, judged, refused, word_refused, plain, and_feed}
use Rattle.histories.specs.Doings.{Does, through_closed}
use Rattle.histories.specs.Refusals.{of_reading}
use Rattle.histories.proofs.Through.{On, on_start, judges_on, on_word, on_refused, on_end, on_fault}
use Rattle.reader.specs.Holding.{holding}
use Rattle.reader.specs.Readings.{Reading, Makes}

-- What is held is open only where there is a limit.
holding_opened : (o : Option ℕ) (us vs : List ℕ) (n : ℕ) → holding o us ≡ opened n vs → (o ≡ Some n) × (us ≡ vs)
holding_opened None us vs n e = let z : ◌≡◌ {A = ℕ} 0 1 = cc in absurd (omega arith)
holding_opened (Some k) us vs n e = let l : k ≡ n = cc in (ap (λ (x : ℕ). Some x) l, cc)

-- A word that is handed over is coming no more.
pub fewer : (c d : Coming) (w : Word) → Handed c (Ok (Some w)) d → length d.words < length c.words
fewer c d w h = omega (arith, ap length (handed_word c.words c.fault w d h).0)

-- The read-through began with the reading r and the feed b; now the reading is q and c is coming.
pub record Going {S : Type 0} (m : S → Source) (r : Reading S) (b : Coming) (q : Reading S) (c : Coming) : Type 0 where
  pub over : q.source ≡ r.source
  pub limit : ℕ
  pub was : r.limit ≡ Some limit
  pub is : q.limit ≡ Some limit
  pub on : On (m r.source) limit r.words b q.words c

module _ {S : Type 0} (m : S → Source) where
  pub through_out : (r : Reading S) (b : Coming) → r.limit ≡ None → Makes m r (read_through b) (and_feed (refused (of_reading 40 0 0)) b) r
  through_out r b e = record {
    over = refl;
    does = subst (λ o. Does (m r.source) (holding o r.words) (read_through b) (and_feed (refused (of_reading 40 0 0)) b) (holding o r.words)) (sym e) through_closed;
  }

  pub going_start : (r : Reading S) (b : Coming) (n : ℕ) → r.limit ≡ Some n → Going m r b r b
  going_start r b n e = record { over = refl; limit = n; was = e; is = e; on = on_start (m r.source) n r.words b }

  module _ (r : Reading S) (b : Coming) (q : Reading S) (c : Coming) (g : Going m r b q c) where
    -- What a call does now, over the source as it was.
    now : (k : Call) (a : Answer) (h : Held) → Does (m q.source) (holding q.limit q.words) k a h → Does (m r.source) (opened g.limit q.words) k a h
    now k a h d = subst (λ o. Does (m r.source) (holding o q.words) k a h) g.is (subst (λ s. Does (m s) (holding q.limit q.words) k a h) g.over d)

    -- What follows of it as it was.
    then : (k : Call) (a : Answer) (p : Reading S) → p.source ≡ r.source → Does (m r.source) (opened g.limit r.words) k a (holding p.limit p.words) → Makes m r k a p
    then k a p e d = record { over = e; does = subst (λ o. Does (m r.source) (holding o r.words) k a (holding p.limit p.words)) (sym g.was) d }

    pub going_word : (p : Reading S) (d : Coming) (w : Word) → Handed c (Ok (Some w)) d → Makes m q (take_word w.terminal) (plain done) p → Going m r b p d
    going_word p d w h x =
        let (is, on) = on_word g.on d w h (now _ _ _ x.does) in
        let (limit, words) = holding_opened p.limit p.words _ g.limit is in
        record {
          over = x.over ∙ g.over;
          limit = g.limit;
          was = g.was;
          is = limit;
          on = subst (λ us. On (m r.source) g.limit r.words b us d) (sym words) on;
        }

    pub word_ends : (p : Reading S) (d : Coming) (w : Word) (f : Refusal) → Handed c (Ok (Some w)) d → Makes m q (take_word w.terminal) (plain (refused f)) p
        → Makes m r (read_through b) (and_feed (word_refused f w.from w.to) d) p
    word_ends p d w f h x = then _ _ p (x.over ∙ g.over) (on_refused g.on d w h (now _ _ _ x.does))

    pub end_ends : (d : Coming) (v : Bool) → Handed c (Ok None) d → Makes m q judge (plain (judged v)) q → Makes m r (read_through b) (and_feed (judged v) d) q
    end_ends d v h x = then _ _ q g.over (on_end g.on d h (now _ _ _ x.does))

    pub end_judged : (f : Refusal) → Makes m q judge (plain (refused f)) q → ⊥
    end_judged f x = judges_on (now _ _ _ x.does)

    pub fault_ends : (d : Coming) (f : FeedFault) → Handed c (Err f) d → Makes m r (read_through b) (and_feed (refused (of_feed f)) d) q
    fault_ends d f h =
        then _ _ q g.over
        (subst (λ o. Does (m r.source) (opened g.limit r.words) (read_through b) (and_feed (refused (of_feed f)) d) (holding o q.words)) (sym g.is) (on_fault g.on d f h))
