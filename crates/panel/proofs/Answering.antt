-- From the calls on a reading to the outcome.
use Rattle.std.proofs.Common.{◌≡◌, ℕ, ◌<◌, Bool, true, false, ◌↔◌, List, [], ◌∷◌, ◌++◌, length, Ok, Err, Some, Result, inl, inr, sym, refl, ap, ◌∙◌, subst, arith, true≢false}
use Rattle.std.proofs.lemmas.List.{length-map}
use Rattle.parsing.specs.Grammar.{Sentence}
use Rattle.parsing.specs.Items.{Source}
use Rattle.grammar.specs.declared.refusal.Refusal.{Refusal}
use Rattle.link_growth.specs.Counting.{Counts, Exceeds}
use Rattle.states.specs.Sources.{Sourced}
use Rattle.words.specs.Feeds.{Coming}
use Rattle.words.specs.declared.word.Word.{Word}
use Rattle.histories.specs.Calls.{Held, Call, opened, open_with, read_through, Reply, Answer, done, judged, plain, and_feed}
use Rattle.histories.specs.Calls
use Rattle.histories.specs.Doings.{Accepts, Limit, Does, open_range, open_crowded, open_done, through_open, Passes}
use Rattle.histories.specs.Laws.{NoneBegins, terminals_of}
use Rattle.histories.specs.Meetings.{Fits, Meets}
use Rattle.histories.specs.Questions.{LinkCount, word_count}
use Rattle.histories.specs.Refusals.{of_reading}
use Rattle.histories.proofs.Sentences.{accepts_sentence, meets_45}
use Rattle.reader.specs.Readings.{Reading, held, Begins, Makes}
use Rattle.reader.specs.Refusals.{refusal}
use Rattle.reader.specs.Replies.{through}
use Rattle.reader.specs.declared.fault.ReadingFault.{ReadingFault}
use Rattle.reader.specs.declared.fault.ThroughFault.{ThroughFault}
use Rattle.reader.specs.declared.fault.ThroughFault.TheVariants.{Feed, Word as AtWord, Reading as Itself}
use Rattle.panel.specs.Faults.{outcome_of}
use Rattle.panel.specs.Gathered.{Gathered, ForestOf, GathersHeld}
use Rattle.panel.specs.Answers.{alternatives_of, told_of}
use Rattle.panel.specs.Lines.{refused, word_refused, no_sentence, sentence}
use Rattle.panel.specs.Outcomes.{Answered, Read, crowded, stopped, stopped_at, no, yes, many_nodes, many_alternatives}
use Rattle.panel.specs.declared.fault.Fault.{Fault}
use Rattle.panel.specs.declared.gathered.Forest.{Forest}
use Rattle.panel.specs.declared.fault.Fault.TheVariants.{Reading as AtReading}
use Rattle.panel.proofs.Passing.{ended, faulted, refused_at}

limit : Limit 4096
limit = record { low = omega arith; high = omega arith }

module _ {src : Source} {n : ℕ} where
  opened_is : {h k : Held} → Does src h (open_with n) (plain done) k → (k ≡ opened n []) × Fits src [] n
  opened_is (open_done l f) = (refl, f)

  not_opened : {h k : Held} {r : Refusal} → Limit n → Does src h (open_with n) (plain (Calls.refused r)) k → (r ≡ of_reading 42 0 0) × Exceeds src [] n
  not_opened l (open_range f) = absurd (f l)
  not_opened l (open_crowded k e) = (refl, e)

-- What a read-through of an open reading leaves.
record Went (src : Source) (n : ℕ) (c : Coming) (a : Reply) (k : Held) : Type 0 where
  pub words : List ℕ
  pub left : List Word
  pub is : k ≡ opened n words
  pub passes : Passes src n c.fault [] c.words a words left

went : {src : Source} {n : ℕ} {c d : Coming} {a : Reply} {k : Held} → Does src (opened n []) (read_through c) (and_feed a d) k → Went src n c a k
went (through_open {vs = vs} {ds = ds} p) = record { words = vs; left = ds; is = refl; passes = p }

-- A word that is refused, as it is told.
module _ {src : Source} (law : Sourced src) (c : Coming) (fits : Fits src [] 4096) where
  pub word_outcome : (r : Refusal) (p q : ℕ) (vs : List ℕ) (ds : List Word) → Passes src 4096 c.fault [] c.words (Calls.word_refused r p q) vs ds
      → Answered src c (word_refused r p q)
  word_outcome r p q vs ds x =
      let k = refused_at x in
      let w = k.word in
      let us = terminals_of k.before in
      let m : Meets src 4096 us w.terminal (Some r) = subst (λ ys. Meets src 4096 ys w.terminal (Some r)) k.kept k.met in
      let long : length us ≡ length k.before = length-map k.before (λ y. y.terminal) in
      let y = subst (λ z. Passes src 4096 c.fault [] c.words (Calls.word_refused r p z) vs ds) k.to_is x in
      let z = subst (λ v. Passes src 4096 c.fault [] c.words (Calls.word_refused r v w.to) vs ds) k.from_is y in
      let passes = subst (λ v. Passes src 4096 c.fault [] c.words (Calls.word_refused r w.from w.to) v ds) k.kept z in
      let begins : length k.before < 254 → w.terminal < src.grammar.terminals → (r ≡ of_reading 45 (length k.before) w.terminal) ↔ NoneBegins src.grammar (us ++ w.terminal ∷ []) =
      λ l t.
      let e = meets_45 law m (omega (arith, long, l)) t in (
        λ h. e.0 (ap (λ (v : Refusal). Some v) (h ∙ ap (λ n. of_reading 45 n w.terminal) (sym long))),
        λ h. let f : Some r ≡ Some (of_reading 45 (length us) w.terminal) = e.1 h in
            let g : r ≡ of_reading 45 (length us) w.terminal = cc in
            g ∙ ap (λ n. of_reading 45 n w.terminal) long,
      ) in
      let o = stopped_at k.before w ds r fits k.here passes m begins in
      subst (λ v. Answered src c (word_refused r v q)) (sym k.from_is) (subst (λ v. Answered src c (word_refused r w.from v)) (sym k.to_is) o)

  pub feed_outcome : (r : Refusal) (vs : List ℕ) (ds : List Word) → Passes src 4096 c.fault [] c.words (Calls.refused r) vs ds → Answered src c (refused r)
  feed_outcome r vs ds x =
      let k = faulted x in
      let y = subst (λ v. Passes src 4096 c.fault [] c.words (Calls.refused r) v ds) k.kept x in
      let passes = subst (λ v. Passes src 4096 c.fault [] c.words (Calls.refused r) (terminals_of c.words) v) k.none_left y in
      stopped r fits k.comes passes

  pub fault_outcome : (f : ThroughFault) (vs : List ℕ) (ds : List Word) → Passes src 4096 c.fault [] c.words (through (Err f)) vs ds → Answered src c (outcome_of (AtReading f))
  fault_outcome (Feed f) vs ds x = feed_outcome _ vs ds x
  fault_outcome (Itself f) vs ds x = feed_outcome _ vs ds x
  fault_outcome (AtWord w) vs ds x = word_outcome _ _ _ vs ds x

  pub read_is : (b : Bool) (vs : List ℕ) (ds : List Word) → Passes src 4096 c.fault [] c.words (judged b) vs ds
      → (vs ≡ terminals_of c.words) × Read src c b × ((b ≡ true) ↔ Accepts src (terminals_of c.words))
  read_is b vs ds x =
      let k = ended x in
      let y = subst (λ v. Passes src 4096 c.fault [] c.words (judged b) v ds) k.kept x in
      let passes = subst (λ v. Passes src 4096 c.fault [] c.words (judged b) (terminals_of c.words) v) k.none_left y in
      (k.kept, record { opens = fits; ends = k.no_fault; takes = passes }, subst (λ v. (b ≡ true) ↔ Accepts src v) k.kept k.verdict)

module _ {S : Type 0} (m : S → Source) (s : S) (law : Sourced (m s)) (c : Coming) (r : Reading S) (begun : Begins s r) (q : Reading S) where
  started : (k : Call) (a : Answer) → Makes m r k a q → Does (m s) (held r) k a (held q)
  started k a x = subst (λ z. Does (m z) (held r) k a (held q)) begun.over x.does

  pub open_fault : (f : ReadingFault) → Makes m r (open_with 4096) (plain (Calls.refused (refusal f))) q → Answered (m s) c (outcome_of (AtReading (Itself f)))
  open_fault f x = let (e, k) = not_opened limit (started _ _ x) in subst (λ z. Answered (m s) c (refused z)) (sym e) (crowded k)

  module _ (opens : Makes m r (open_with 4096) (plain done) q) (d : Coming) (p : Reading S) where
    fits : Fits (m s) [] 4096
    fits = (opened_is (started _ _ opens)).1

    through_went : (a : Reply) → Makes m q (read_through c) (and_feed a d) p → Went (m s) 4096 c a (held p)
    through_went a x =
        let y = subst (λ z. Does (m z) (held q) (read_through c) (and_feed a d) (held p)) (opens.over ∙ begun.over) x.does in
        went (subst (λ h. Does (m s) h (read_through c) (and_feed a d) (held p)) (opened_is (started _ _ opens)).0 y)

    pub through_fault : (f : ThroughFault) → Makes m q (read_through c) (and_feed (through (Err f)) d) p → Answered (m s) c (outcome_of (AtReading f))
    through_fault f x = let w = through_went (through (Err f)) x in fault_outcome law c fits f w.words w.left w.passes

    -- The words were all read.
    module _ (b : Bool) (reads : Makes m q (read_through c) (and_feed (judged b) d) p) where
      all : Went (m s) 4096 c (judged b) (held p)
      all = through_went (judged b) reads

      facts : (all.words ≡ terminals_of c.words) × Read (m s) c b × ((b ≡ true) ↔ Accepts (m s) (terminals_of c.words))
      facts = read_is law c fits b all.words all.left all.passes

      pub kept : held p ≡ opened 4096 (terminals_of c.words)
      kept = all.is ∙ ap (opened 4096) facts.0

      pub over : p.source ≡ s
      over = reads.over ∙ (opens.over ∙ begun.over)

      words_are : (k : ℕ) → k ≡ word_count (held p) → k ≡ length c.words
      words_are k e = e ∙ ap word_count kept ∙ length-map c.words (λ y. y.terminal)

      links_are : (n : ℕ) → LinkCount (m p.source) (held p) n → Counts (m s) (terminals_of c.words) n
      links_are n l = subst (λ h. LinkCount (m s) h n) kept (subst (λ z. LinkCount (m z) (held p) n) over l)

      pub no_outcome : (k n : ℕ) → b ≡ false → k ≡ word_count (held p) → LinkCount (m p.source) (held p) n → Answered (m s) c (no_sentence k n)
      no_outcome k n e w l =
          subst (λ x. Answered (m s) c (no_sentence x n)) (sym (words_are k w))
          (no n (subst (λ x. Read (m s) c x) e facts.1) (λ z. true≢false (sym (facts.2.1 ((accepts_sentence law).1 z)) ∙ e)) (links_are n l))

      -- They are a sentence.
      module _ (is_true : b ≡ true) where
        accepts : Accepts (m s) (terminals_of c.words)
        accepts = facts.2.0 is_true

        is_sentence : Sentence (m s).grammar (terminals_of c.words)
        is_sentence = (accepts_sentence law).0 accepts

        read_true : Read (m s) c true
        read_true = subst (λ x. Read (m s) c x) is_true facts.1

        got : (x : Result Forest Fault) → GathersHeld (m p.source) (held p) x → ForestOf (m s).grammar (terminals_of c.words) x
        got x g = subst (λ z. GathersHeld (m z) (held p) x) over g 4096 (terminals_of c.words) kept accepts

        pub yes_outcome : (k n : ℕ) (f : Forest) → k ≡ word_count (held p) → LinkCount (m p.source) (held p) n → GathersHeld (m p.source) (held p) (Ok f)
            → Answered (m s) c (told_of k n (Some f))
        yes_outcome k n f w l g =
            let h : Gathered (m s).grammar (terminals_of c.words) f = got (Ok f) g in
            let o = yes n h.nodes (alternatives_of f) read_true is_sentence (links_are n l) h.nodes_are h.few_nodes h.alternatives_are h.few_alternatives in
            subst (λ x. Answered (m s) c (sentence x n f.counts.nodes (alternatives_of f))) (sym (words_are k w))
            (subst (λ x. Answered (m s) c (sentence (length c.words) n x (alternatives_of f))) (sym h.count) o)

        pub gather_fault : (e : Fault) → GathersHeld (m p.source) (held p) (Err e) → Answered (m s) c (outcome_of e)
        gather_fault e g = elim (got (Err e) g) [
          | inl x ↦ subst (λ o. Answered (m s) c o) (sym x.0) (many_nodes read_true is_sentence x.1)
          | inr x ↦ subst (λ o. Answered (m s) c o) (sym x.0) (many_alternatives read_true is_sentence x.1 x.2)
        ]
