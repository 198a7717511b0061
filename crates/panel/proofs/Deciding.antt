-- Over one source, the words of a feed come to one outcome.
use Rattle.std.proofs.Common.{◌≡◌, ℕ, ◌≤◌, ◌⊎◌, true, false, List, [], length, inl, inr, sym, refl, ap, ◌∙◌, subst, arith}
use Rattle.parsing.specs.Items.{Source}
use Rattle.link_growth.specs.Counting.{Counts, Exceeds}
use Rattle.link_growth.proofs.Exacts.{counting}
use Rattle.words.specs.Feeds.{Coming}
use Rattle.words.specs.declared.word.Word.{Word}
use Rattle.records.specs.Orders.{by_node, by_alternative}
use Rattle.records.specs.declared.node.Node.{Node}
use Rattle.records.specs.declared.alternative.Alternative.{Alternative}
use Rattle.histories.specs.Calls
use Rattle.histories.specs.Calls.{opened, read_through, Reply, judged, done, counted, and_feed}
use Rattle.histories.specs.Doings.{Does, Passes, rest_of, through_open}
use Rattle.histories.specs.Forests.{NodeOf, AlternativeOf, Nodes, Alternatives}
use Rattle.histories.specs.Laws.{terminals_of}
use Rattle.histories.specs.Meetings.{Fits}
use Rattle.histories.specs.Refusals.{of_reading}
use Rattle.histories.specs.Sizes.{AtMost, MoreThan}
use Rattle.histories.proofs.Answering.{determinacy}
use Rattle.histories.proofs.Listing.{not_both, listed_same, listed_most}
use Rattle.panel.specs.Lines.{Outcome, refused, word_refused, no_sentence, sentence}
use Rattle.panel.specs.Outcomes.{Answered, OneOutcome, crowded, stopped, stopped_at, no, yes, many_nodes, many_alternatives}

module _ (src : Source) (c : Coming) where
  abbrev ws : List ℕ
  ws = terminals_of c.words

  -- What is told of a sentence.
  data Told : Outcome → Type 0 where
    all : (n : ℕ) (xs : List Node) (ys : List Alternative) → Counts src ws n → Nodes src.grammar ws xs → length xs ≤ 512
        → Alternatives src.grammar ws ys → length ys ≤ 2048 → Told (sentence (length c.words) n (length xs) ys)
    nodes : MoreThan (NodeOf src.grammar ws) 512 → Told (refused (of_reading 49 0 0))
    alternatives : AtMost (NodeOf src.grammar ws) 512 → MoreThan (AlternativeOf src.grammar ws) 2048 → Told (refused (of_reading 50 0 0))

  -- What is told where a read-through answers so.
  abbrev Shown : Reply → Outcome → Type 0
  Shown done o = ⊥
  Shown (judged true) o = Told o
  Shown (judged false) o = (n : ℕ) × Counts src ws n × (o ≡ no_sentence (length c.words) n)
  Shown (counted j k) o = ⊥
  Shown (Calls.refused r) o = o ≡ refused r
  Shown (Calls.word_refused r p q) o = o ≡ word_refused r p q

  record Went (o : Outcome) : Type 0 where
    pub opens : Fits src [] 4096
    pub reply : Reply
    pub kept : List ℕ
    pub left : List Word
    pub passes : Passes src 4096 c.fault [] c.words reply kept left
    pub shown : Shown reply o

  abbrev Either : Outcome → Type 0
  Either o = (Exceeds src [] 4096 × (o ≡ refused (of_reading 42 0 0))) ⊎ Went o

  split : {o : Outcome} → Answered src c o → Either o
  split (crowded e) = inl (e, refl)
  split (stopped f fits e p) = inr (record { opens = fits; reply = _; kept = _; left = _; passes = p; shown = refl })
  split (stopped_at us w ds r fits e p m b) = inr (record { opens = fits; reply = _; kept = _; left = _; passes = p; shown = refl })
  split (no n r f k) = inr (record { opens = r.opens; reply = judged false; kept = _; left = _; passes = r.takes; shown = (n, k, refl) })
  split (yes n xs ys r f k x l y m) = inr (record { opens = r.opens; reply = judged true; kept = _; left = _; passes = r.takes; shown = all n xs ys k x l y m })
  split (many_nodes r f m) = inr (record { opens = r.opens; reply = judged true; kept = _; left = _; passes = r.takes; shown = nodes m })
  split (many_alternatives r f l m) = inr (record { opens = r.opens; reply = judged true; kept = _; left = _; passes = r.takes; shown = alternatives l m })

  few_nodes : {P : Type 0} {xs : List Node} → Nodes src.grammar ws xs → length xs ≤ 512 → MoreThan (NodeOf src.grammar ws) 512 → P
  few_nodes x l m = absurd (omega (arith, listed_most by_node x m.some m.apart m.each, m.many))

  few_alternatives : {P : Type 0} {ys : List Alternative} → Alternatives src.grammar ws ys → length ys ≤ 2048 → MoreThan (AlternativeOf src.grammar ws) 2048 → P
  few_alternatives y l m = absurd (omega (arith, listed_most by_alternative y m.some m.apart m.each, m.many))

  told_same : {o p : Outcome} → Told o → Told p → o ≡ p
  told_same (all n xs ys k x l y m) (all j us vs h u f v g) =
      let a = (counting src ws).0 n j k h in
      let b = listed_same by_node x u in
      let d = listed_same by_alternative y v in
      λ i. sentence (length c.words) (a i) (length (b i)) (d i)
  told_same (all n xs ys k x l y m) (nodes f) = few_nodes x l f
  told_same (all n xs ys k x l y m) (alternatives f g) = few_alternatives y m g
  told_same (nodes f) (all n xs ys k x l y m) = few_nodes x l f
  told_same (nodes f) (nodes g) = refl
  told_same (nodes f) (alternatives g h) = not_both g f
  told_same (alternatives f g) (all n xs ys k x l y m) = few_alternatives y m g
  told_same (alternatives f g) (nodes h) = not_both f h
  told_same (alternatives f g) (alternatives h k) = refl

  shown_same : (a : Reply) (o p : Outcome) → Shown a o → Shown a p → o ≡ p
  shown_same done o p x y = absurd x
  shown_same (judged true) o p x y = told_same x y
  shown_same (judged false) o p (n, k, e) (j, h, f) = e ∙ ap (no_sentence (length c.words)) ((counting src ws).0 n j k h) ∙ sym f
  shown_same (counted j k) o p x y = absurd x
  shown_same (Calls.refused r) o p x y = x ∙ sym y
  shown_same (Calls.word_refused r j k) o p x y = x ∙ sym y

  reads : {o : Outcome} (w : Went o) → Does src (opened 4096 []) (read_through c) (and_feed w.reply (rest_of c w.left)) (opened 4096 w.kept)
  reads w = through_open w.passes

  went_same : (o p : Outcome) → Went o → Went p → o ≡ p
  went_same o p w v =
      let both = (determinacy src _ _ _ _ _ _ (reads w) (reads v)).0 in
      let e : w.reply ≡ v.reply = cc in
      shown_same v.reply o p (subst (λ a. Shown a o) e w.shown) v.shown

  outcome_same : (o p : Outcome) → Either o → Either p → o ≡ p
  outcome_same o p (inl x) (inl y) = x.1 ∙ sym y.1
  outcome_same o p (inl x) (inr v) = absurd (v.opens x.0)
  outcome_same o p (inr w) (inl y) = absurd (w.opens y.0)
  outcome_same o p (inr w) (inr v) = went_same o p w v

pub one_outcome : OneOutcome
one_outcome src c o p x y = outcome_same src c o p (split src c x) (split src c y)
