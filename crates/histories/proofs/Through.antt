-- A read-through, turn by turn, as a loop over a feed makes it.
use Rattle.std.proofs.Common.{◌≡◌, ℕ, Bool, List, [], ◌∷◌, ◌++◌, Some, None, Ok, Err, sym, refl, ap, ◌∙◌, subst}
use Rattle.grammar.specs.declared.refusal.Refusal.{Refusal}
use Rattle.parsing.specs.Items.{Source}
use Rattle.words.specs.Feeds.{Coming, Handed}
use Rattle.words.specs.Refusals.{refusal}
use Rattle.words.specs.declared.word.Word.{Word}
use Rattle.words.specs.declared.fault.FeedFault.{FeedFault}
use Rattle.words.proofs.Handing.{handed_word, handed_end, handed_fault}
use Rattle.histories.specs.Calls.{Held, opened, take_word, read_through, judge}
use Rattle.histories.specs.Calls.{Reply, done, judged, refused, word_refused, plain, and_feed}
use Rattle.histories.specs.Meetings.{Meets}
use Rattle.histories.specs.Doings.{Passes, at_end, at_fault, word_no, word_yes, Does, take_no, take_yes, judge_open, through_open}

-- The words vs were kept and b was coming as the read-through began; ws are kept and c is coming now. What follows from here follows from there.
pub record On (src : Source) (n : ℕ) (vs : List ℕ) (b : Coming) (ws : List ℕ) (c : Coming) : Type 0 where
  pub fault : c.fault ≡ b.fault
  pub onward : (a : Reply) (us : List ℕ) (ds : List Word) → Passes src n b.fault ws c.words a us ds → Passes src n b.fault vs b.words a us ds

pub on_start : (src : Source) (n : ℕ) (ws : List ℕ) (c : Coming) → On src n ws c ws c
on_start src n ws c = record { fault = refl; onward = λ a us ds p. p }

-- What a take and a judgement on an open reading come from.
pub took : {src : Source} {n t : ℕ} {ws : List ℕ} {k : Held} → Does src (opened n ws) (take_word t) (plain done) k
    → (k ≡ opened n (ws ++ t ∷ [])) × Meets src n ws t None
took (take_yes x) = (refl, x)

pub took_not : {src : Source} {n t : ℕ} {ws : List ℕ} {r : Refusal} {k : Held} → Does src (opened n ws) (take_word t) (plain (refused r)) k
    → (k ≡ opened n ws) × Meets src n ws t (Some r)
took_not (take_no x) = (refl, x)

pub judges_on : {src : Source} {n : ℕ} {ws : List ℕ} {r : Refusal} {k : Held} → Does src (opened n ws) judge (plain (refused r)) k → ⊥
judges_on d = elim d [ ]

module _ {src : Source} {n : ℕ} {vs : List ℕ} {b : Coming} {ws : List ℕ} {c : Coming} (on : On src n vs b ws c) where
  -- It ends with the reply a, and the words us are kept then.
  ends : (d : Coming) (a : Reply) (us : List ℕ) → d.fault ≡ b.fault → Passes src n b.fault ws c.words a us d.words
      → Does src (opened n vs) (read_through b) (and_feed a d) (opened n us)
  ends d a us e p =
      subst (λ x. Does src (opened n vs) (read_through b) (and_feed a x) (opened n us)) (λ i. record { words = d.words; fault = sym e i })
      (through_open (on.onward a us d.words p))

  -- A word was handed over and taken.
  pub on_word : {k : Held} (d : Coming) (w : Word) → Handed c (Ok (Some w)) d → Does src (opened n ws) (take_word w.terminal) (plain done) k
      → (k ≡ opened n (ws ++ w.terminal ∷ [])) × On src n vs b (ws ++ w.terminal ∷ []) d
  on_word d w h x =
      let (e, f) = handed_word c.words c.fault w d h in
      let (is, met) = took x in (
        is,
        record {
          fault = f ∙ on.fault;
          onward = λ a us ds p. on.onward a us ds (subst (λ y. Passes src n b.fault ws y a us ds) (sym e) (word_yes met p));
        },
      )

  -- A word was handed over and refused.
  pub on_refused : {k : Held} {r : Refusal} (d : Coming) (w : Word) → Handed c (Ok (Some w)) d
      → Does src (opened n ws) (take_word w.terminal) (plain (refused r)) k
      → Does src (opened n vs) (read_through b) (and_feed (word_refused r w.from w.to) d) k
  on_refused {k} {r} d w h x =
      let (e, f) = handed_word c.words c.fault w d h in
      let (is, met) = took_not x in
      subst (λ y. Does src (opened n vs) (read_through b) (and_feed (word_refused r w.from w.to) d) y) (sym is)
      (ends d _ ws (f ∙ on.fault) (subst (λ y. Passes src n b.fault ws y (word_refused r w.from w.to) ws d.words) (sym e) (word_no met)))

  -- The feed was at its end, and the kept words were judged.
  pub on_end : {k : Held} {v : Bool} (d : Coming) → Handed c (Ok None) d → Does src (opened n ws) judge (plain (judged v)) k
      → Does src (opened n vs) (read_through b) (and_feed (judged v) d) k
  on_end d h (judge_open x) =
      let (e, f, g) = handed_end c.words c.fault d h in
      ends d _ ws (ap (λ y. y.fault) g ∙ on.fault) (simp (e, ap (λ y. y.words) g) (at_end (sym on.fault ∙ f) x))

  -- The feed came to its fault.
  pub on_fault : (d : Coming) (f : FeedFault) → Handed c (Err f) d
      → Does src (opened n vs) (read_through b) (and_feed (refused (refusal f)) d) (opened n ws)
  on_fault d f h =
      let (e, q, g) = handed_fault c.words c.fault f d h in
      ends d _ ws (ap (λ y. y.fault) g ∙ on.fault) (simp (e, ap (λ y. y.words) g) (at_fault (sym on.fault ∙ q)))
