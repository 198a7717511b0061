-- The law on a whole history of one reading, in the words of the subject: sentences, derivations and kept words.
--
-- The kept words follow from the source and the calls' arguments alone, and
--   (a) while the reading is open, a word, by take or in a read-through, is refused as 45 exactly where fewer than 254 words are kept, it is a
--       terminal, and no sentence begins with the kept words and it; and no other call answers 45;
--   (b) while it is open, judge answers yes exactly when the kept words are a sentence; a read-through that is not refused has added
--       every word that its feed held, in order, and then answers likewise;
--   (c) while it is open and the kept words are a sentence, a gather into lists with room for them all writes each node and each
--       alternative that occurs in some derivation of these words, once each, in order, and no other, and answers both counts;
--   (d) every answer tells what is held after the call: what is done is kept, and what is refused changes nothing.
--
--   Begins g ws, NoneBegins g ws   some sentence begins with the words ws; no sentence does
--   DeadEnd g ws t                 one more word may be kept and t is a terminal, but no sentence begins with the words ws and it
--   terminals_of cs                the terminals of the words cs
--   Verdict g ws a                 the reply a says whether the words ws are a sentence
--   Gathered g ws ns bs a          the answer a has all nodes and alternatives of the derivations of ws in the lists ns and bs, and their counts
--   OpenRight src m n a k          the answer a to opening with the limit n is right, where m was held, and k is held then
--   TakeRight src n ws t a k       the same of taking the terminal t, over the kept words ws with the limit n
--   ReadRight src n ws c a vs d    the reply a to reading through the feed c over ws is right; vs are kept then, and d is coming
--   ThroughRight src n ws c a k    the same of the whole answer a
--   BackRight n ws b a k           the answer a to going back to b words is right
--   JudgeRight g ws a              the answer a to judging the kept words ws is right
--   GatherRight g ws ns bs a       the answer a to gathering into the lists ns and bs, over the kept words ws, is right
--   ClosedRight c a k              the answer a to the call c, no open, on a closed reading is right
--   Right src m c a k              the answer a to the call c is right, where m was held, and k is held then
--   AllRight src h                 each answer of the history h is right
--   Law src h m                    the law holds of the history h of one reading over src, which holds m after it
use Rattle.std.specs.Prelude.{◌≡◌, ℕ, ◌<◌, ◌≤◌, Bool, true, ◌⊎◌, ◌↔◌, List, [], ◌∷◌, ◌++◌, map, length, take, drop, Some, None}
use Rattle.grammar.specs.declared.refusal.Refusal.{Refusal}
use Rattle.parsing.specs.Grammar.{Grammar, Sentence}
use Rattle.parsing.specs.Items.{Source}
use Rattle.link_growth.specs.Counting.{Exceeds}
use Rattle.words.specs.Feeds.{Coming}
use Rattle.words.specs.declared.word.Word.{Word}
use Rattle.records.specs.Blanks.{blank_node, blank_alternative}
use Rattle.records.specs.declared.node.Node.{Node}
use Rattle.records.specs.declared.alternative.Alternative.{Alternative}
use Rattle.histories.specs.Refusals.{of_reading}
use Rattle.histories.specs.Sizes.{AtMost, MoreThan}
use Rattle.histories.specs.Calls.{Held, closed, opened, Call, open_with, take_word, read_through, back_to, judge, gather}
use Rattle.histories.specs.Calls.{Reply, done, judged, counted, refused, word_refused, Refuses, RefusedAs}
use Rattle.histories.specs.Calls.{Answer, plain, and_feed, and_lists, reply_of, unchanged}
use Rattle.histories.specs.Forests.{NodeOf, AlternativeOf, Nodes, Alternatives, filled}
use Rattle.histories.specs.Meetings.{Fits, Meets}
use Rattle.histories.specs.Doings.{Limit, blank_lists}
use Rattle.histories.specs.Histories.{History, made, then, Keeps}

abbrev pub Begins : Grammar → List ℕ → Type 0
Begins g ws = (vs : List ℕ) × Sentence g (ws ++ vs)

abbrev pub NoneBegins : Grammar → List ℕ → Type 0
NoneBegins g ws = (vs : List ℕ) → Sentence g (ws ++ vs) → ⊥

pub record DeadEnd (g : Grammar) (ws : List ℕ) (t : ℕ) : Type 0 where
  pub room : length ws < 254
  pub terminal : t < g.terminals
  pub none : NoneBegins g (ws ++ t ∷ [])

abbrev pub terminals_of : List Word → List ℕ
terminals_of cs = map (λ w. w.terminal) cs

pub record Verdict (g : Grammar) (ws : List ℕ) (a : Reply) : Type 0 where
  pub yes_or_no : Bool
  pub answer : a ≡ judged yes_or_no
  pub exact : (yes_or_no ≡ true) ↔ Sentence g ws

pub record OpenRight (src : Source) (m : Held) (n : ℕ) (a : Answer) (k : Held) : Type 0 where
  pub nothing_else : (a ≡ plain done) ⊎ (RefusedAs 41 (reply_of a) ⊎ RefusedAs 42 (reply_of a))
  -- It is done exactly where n can be a limit and there are at most n links of no words.
  pub exact : (a ≡ plain done) ↔ (Limit n × Fits src [] n)
  pub no_limit : (Limit n → ⊥) → a ≡ plain (refused (of_reading 41 0 0))
  pub crowded : Limit n → Exceeds src [] n → a ≡ plain (refused (of_reading 42 0 0))
  -- Done, it keeps no words; refused, it changes nothing.
  pub opens : a ≡ plain done → k ≡ opened n []
  pub stays : Refuses (reply_of a) → k ≡ m

pub record TakeRight (src : Source) (n : ℕ) (ws : List ℕ) (t : ℕ) (a : Answer) (k : Held) : Type 0 where
  pub nothing_else : (a ≡ plain done) ⊎ ((r : Refusal) × (a ≡ plain (refused r)))
  -- (a) The answer is a 45, with whatever places, exactly at a dead end.
  pub dead_end : RefusedAs 45 (reply_of a) ↔ DeadEnd src.grammar ws t
  -- Its places are the number of kept words and the terminal.
  pub places : RefusedAs 45 (reply_of a) → a ≡ plain (refused (of_reading 45 (length ws) t))
  -- Every refusal is for the first reason that applies.
  pub reason : (r : Refusal) → a ≡ plain (refused r) → Meets src n ws t (Some r)
  -- A word that is taken begins some sentence with the words before it.
  pub begins : a ≡ plain done → Begins src.grammar (ws ++ t ∷ [])
  -- (d) It is done exactly where the word is kept, and refused exactly where nothing has changed.
  pub kept : (a ≡ plain done) ↔ (k ≡ opened n (ws ++ t ∷ []))
  pub stays : Refuses (reply_of a) ↔ (k ≡ opened n ws)

pub record ReadRight (src : Source) (n : ℕ) (ws : List ℕ) (c : Coming) (a : Reply) (vs : List ℕ) (d : Coming) : Type 0 where
  -- The words that it added are the first that the feed held, in order. Of the rest it met the first, where there is one, and no other.
  pub added : List Word
  pub rest : List Word
  pub held : c.words ≡ added ++ rest
  pub kept : vs ≡ ws ++ terminals_of added
  -- The words behind that one are left in the feed, and its fault.
  pub left : d.words ≡ drop 1 rest
  pub fault : d.fault ≡ c.fault
  -- (a) Each word that was added begins some sentence with the words before it.
  pub begins : (before : List Word) (w : Word) (behind : List Word) → added ≡ before ++ w ∷ behind
      → Begins src.grammar ((ws ++ terminals_of before) ++ w.terminal ∷ [])
  -- (a) Of the word at which it stopped the reply is a 45, with whatever places, exactly at a dead end.
  pub dead_end : (w : Word) (behind : List Word) → rest ≡ w ∷ behind → RefusedAs 45 a ↔ DeadEnd src.grammar vs w.terminal
  -- Its places are the number of kept words and the terminal, and it has the word's bytes with it.
  pub places : (w : Word) (behind : List Word) → rest ≡ w ∷ behind → RefusedAs 45 a
      → a ≡ word_refused (of_reading 45 (length vs) w.terminal) w.from w.to
  -- Every refusal of a word is for the first reason that applies.
  pub reason : (w : Word) (behind : List Word) → rest ≡ w ∷ behind
      → (r : Refusal) × Meets src n vs w.terminal (Some r) × (a ≡ word_refused r w.from w.to)
  -- Where it stopped at no word, the reply is the fault of the feed, as it is, and else a judgement, and no 45.
  pub at_fault : rest ≡ [] → (r : Refusal) → c.fault ≡ Some r → a ≡ refused r
  pub at_end : rest ≡ [] → c.fault ≡ None → Verdict src.grammar vs a
  -- (b) Where it is not refused, it has added all words of a feed without a fault, and judged them.
  pub whole : (Refuses a → ⊥) → (rest ≡ []) × (c.fault ≡ None) × Verdict src.grammar vs a

pub record ThroughRight (src : Source) (n : ℕ) (ws : List ℕ) (c : Coming) (a : Answer) (k : Held) : Type 0 where
  pub reply : Reply
  pub coming : Coming
  pub answer : a ≡ and_feed reply coming
  pub words : List ℕ
  pub holds : k ≡ opened n words
  pub right : ReadRight src n ws c reply words coming

pub record BackRight (n : ℕ) (ws : List ℕ) (b : ℕ) (a : Answer) (k : Held) : Type 0 where
  pub nothing_else : (a ≡ plain done) ⊎ RefusedAs 47 (reply_of a)
  -- It is done exactly where so many words are kept; then the first b stay kept.
  pub exact : (a ≡ plain done) ↔ (b ≤ length ws)
  pub beyond : length ws < b → a ≡ plain (refused (of_reading 47 b (length ws)))
  pub back : a ≡ plain done → k ≡ opened n (take b ws)
  pub stays : Refuses (reply_of a) → k ≡ opened n ws

-- (b) of judge: it is not refused.
pub record JudgeRight (g : Grammar) (ws : List ℕ) (a : Answer) : Type 0 where
  pub reply : Reply
  pub answer : a ≡ plain reply
  pub verdict : Verdict g ws reply

-- The records past the counts are 255 throughout.
pub record Gathered (g : Grammar) (ws : List ℕ) (ns : List Node) (bs : List Alternative) (a : Answer) : Type 0 where
  pub nodes : List Node
  pub alternatives : List Alternative
  pub nodes_are : Nodes g ws nodes
  pub alternatives_are : Alternatives g ws alternatives
  pub answer : a ≡ and_lists (counted (length nodes) (length alternatives))
      (filled nodes (length ns) blank_node) (filled alternatives (length bs) blank_alternative)

pub record GatherRight (g : Grammar) (ws : List ℕ) (ns : List Node) (bs : List Alternative) (a : Answer) : Type 0 where
  pub nothing_else : Gathered g ws ns bs a ⊎ (RefusedAs 48 (reply_of a) ⊎ (RefusedAs 49 (reply_of a) ⊎ RefusedAs 50 (reply_of a)))
  -- (c) With room for all it is not refused.
  pub room : Sentence g ws → AtMost (NodeOf g ws) (length ns) → AtMost (AlternativeOf g ws) (length bs) → Gathered g ws ns bs a
  -- Counts are answered only for a sentence, and then all is there.
  pub counts : (p q : ℕ) → reply_of a ≡ counted p q → Sentence g ws × Gathered g ws ns bs a
  -- Words that are no sentence leave both lists as they were, too little room leaves them blank.
  pub no_sentence : (Sentence g ws → ⊥) → a ≡ and_lists (refused (of_reading 48 0 0)) ns bs
  pub few_nodes : Sentence g ws → MoreThan (NodeOf g ws) (length ns) → a ≡ blank_lists (refused (of_reading 49 0 0)) ns bs
  pub few_alternatives : Sentence g ws → AtMost (NodeOf g ws) (length ns) → MoreThan (AlternativeOf g ws) (length bs)
      → a ≡ blank_lists (refused (of_reading 50 0 0)) ns bs

-- Every call but open is refused while closed, and changes nothing.
pub record ClosedRight (c : Call) (a : Answer) (k : Held) : Type 0 where
  pub answer : a ≡ unchanged c (refused (of_reading 40 0 0))
  pub stays : k ≡ closed

abbrev pub Right : Source → Held → Call → Answer → Held → Type 0
Right src closed (open_with l) a k = OpenRight src closed l a k
Right src closed (take_word t) a k = ClosedRight (take_word t) a k
Right src closed (read_through c) a k = ClosedRight (read_through c) a k
Right src closed (back_to b) a k = ClosedRight (back_to b) a k
Right src closed judge a k = ClosedRight judge a k
Right src closed (gather ns bs) a k = ClosedRight (gather ns bs) a k
Right src (opened n ws) (open_with l) a k = OpenRight src (opened n ws) l a k
Right src (opened n ws) (take_word t) a k = TakeRight src n ws t a k
Right src (opened n ws) (read_through c) a k = ThroughRight src n ws c a k
Right src (opened n ws) (back_to b) a k = BackRight n ws b a k
Right src (opened n ws) judge a k = JudgeRight src.grammar ws a × (k ≡ opened n ws)
Right src (opened n ws) (gather ns bs) a k = GatherRight src.grammar ws ns bs a × (k ≡ opened n ws)

-- By what is kept before a call, and by what is kept after it.
abbrev pub AllRight : Source → History → Type 0
AllRight src made = Unit {0}
AllRight src (then h c a) = AllRight src h
    × ((m k : Held) → Keeps src h m → Keeps src (then h c a) k → Right src m c a k)

pub record Law (src : Source) (h : History) (m : Held) : Type 0 where
  -- What is kept follows from the source and the calls' arguments alone.
  pub keeps : Keeps src h m
  pub alone : (k : Held) → Keeps src h k → k ≡ m
  pub right : AllRight src h
