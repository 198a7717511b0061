-- False answers, each of which the law refutes: after any history, whatever places and whatever form the answer has.
--   Refuted src h c a      the law holds of no history that is h and then the call c, answered by a
--   DeadAsAlive            a take of a word that no sentence begins with is not answered otherwise than by a 45
--   AliveAsDead            a take of a word that some sentence begins with is not answered by a 45
--   WrongPlaces            a 45 to a take has no other places than the number of kept words and the terminal
--   FeedAsDead             a read-through of words that some sentence begins with is not answered by a 45
--   DroppedWord            a word is not dropped in secret: answered as taken, and not kept
--   SecretWord             a word is not kept in secret: answered by a refusal, and kept
--   FrontKept              after a read-through the words before it and a front of the feed's words are kept, and nothing else
--   InventedWords          a read-through does not keep its first word and invent the rest
--   EarlyEnd               a read-through does not judge before it has added all words of its feed
--   LeftWords              a read-through that judges leaves no words in its feed
--   RefusedJudgement       judge is not refused
--   WhatIsWritten          the records that a gather writes are all that occur in the derivations of a sentence, each once, in order
--   LackingRecord          no record that occurs in a derivation is left out
--   StrangeRecord          no record is written that occurs in none
--   RecordTwice            no record is written twice
--   OutOfOrder             no records are written out of their order
--   ClosedCall             while closed, a call but open has no other answer than 40
--   OpenedBeyond           an open with what can be no limit is not done
--   BackBeyond             going back to more words than are kept is not done
--   OverP src              src is a source over the grammar P: the terminals are 0, 1 and 2, and a sentence is 0 1, or two sentences with 2 between
--   FirstAsDead            over P, nothing kept, 0 is not answered by a 45
--   SecondAsAlive          over P, nothing kept, 1 is not answered otherwise than by a 45
--   NoOfSentence           over P, of 0 1 the judgement is not no
--   YesOfNone              over P, of 0 1 2 the judgement is not yes
--   EarlyYes               over P, a read-through of 0 1 1 is not answered yes
--   Eight src h            over P, 0 1 2 0 1 2 0 1 are kept after the history h
--   OneGather              over P and these words, a gather with room has one answer: the six nodes and the seven alternatives
--   EmptyGather            over P and these words, nothing written is no answer
--   OneNodeMore            over P and these words, nor are the six nodes and one more; OneAlternativeMore, nor the seven alternatives and one more
use Rattle.std.specs.Prelude.{◌≡◌, ℕ, ◌<◌, ◌≤◌, Bool, true, false, ◌≢◌, ◌⊎◌, List, [], ◌∷◌, ◌++◌, length, None}
use Rattle.parsing.specs.Grammar.{Sentence}
use Rattle.parsing.specs.Items.{Source}
use Rattle.words.specs.Feeds.{Coming}
use Rattle.words.specs.declared.word.Word.{Word}
use Rattle.register.specs.Lists.{Has, Apart, Climbs}
use Rattle.records.specs.Orders.{node_cmp, alternative_cmp}
use Rattle.records.specs.declared.node.Node.{Node}
use Rattle.records.specs.declared.alternative.Alternative.{Alternative}
use Rattle.histories.specs.Refusals.{of_reading}
use Rattle.histories.specs.Calls.{Held, closed, opened, Call, open_with, take_word, read_through, back_to, judge, gather}
use Rattle.histories.specs.Calls.{done, judged, refused, Refuses, RefusedAs, Answer, plain, and_feed, reply_of, unchanged}
use Rattle.histories.specs.Forests.{NodeOf, AlternativeOf, Nodes, Alternatives}
use Rattle.histories.specs.Doings.{Limit, written}
use Rattle.histories.specs.Histories.{History, then, Keeps}
use Rattle.histories.specs.Laws.{Begins, DeadEnd, terminals_of, Law}
use Rattle.known.specs.Samples.{p, p_eight}

abbrev pub Refuted : Source → History → Call → Answer → Type 0
Refuted src h c a = (m : Held) → Law src (then h c a) m → ⊥

abbrev pub DeadAsAlive : Type 0
DeadAsAlive = (src : Source) (h : History) (n t : ℕ) (ws : List ℕ) → Keeps src h (opened n ws)
    → DeadEnd src.grammar ws t → (a : Answer) → (RefusedAs 45 (reply_of a) → ⊥) → Refuted src h (take_word t) a

abbrev pub AliveAsDead : Type 0
AliveAsDead = (src : Source) (h : History) (n t : ℕ) (ws : List ℕ) → Keeps src h (opened n ws)
    → Begins src.grammar (ws ++ t ∷ []) → (a : Answer) → RefusedAs 45 (reply_of a) → Refuted src h (take_word t) a

abbrev pub WrongPlaces : Type 0
WrongPlaces = (src : Source) (h : History) (n t : ℕ) (ws : List ℕ) → Keeps src h (opened n ws)
    → (a : Answer) → RefusedAs 45 (reply_of a) → a ≢ plain (refused (of_reading 45 (length ws) t)) → Refuted src h (take_word t) a

abbrev pub FeedAsDead : Type 0
FeedAsDead = (src : Source) (h : History) (n : ℕ) (ws : List ℕ) → Keeps src h (opened n ws)
    → (c : Coming) → c.fault ≡ None → Begins src.grammar (ws ++ terminals_of c.words)
    → (a : Answer) → RefusedAs 45 (reply_of a) → Refuted src h (read_through c) a

abbrev pub DroppedWord : Type 0
DroppedWord = (src : Source) (h : History) (n t : ℕ) (ws : List ℕ) → Keeps src h (opened n ws)
    → (a : Answer) → reply_of a ≡ done → Law src (then h (take_word t) a) (opened n ws) → ⊥

abbrev pub SecretWord : Type 0
SecretWord = (src : Source) (h : History) (n t : ℕ) (ws : List ℕ) → Keeps src h (opened n ws)
    → (a : Answer) → Refuses (reply_of a) → Law src (then h (take_word t) a) (opened n (ws ++ t ∷ [])) → ⊥

abbrev pub FrontKept : Type 0
FrontKept = (src : Source) (h : History) (n : ℕ) (ws : List ℕ) → Keeps src h (opened n ws)
    → (c : Coming) (a : Answer) (m : Held) → Law src (then h (read_through c) a) m
    → (front : List Word) × (rest : List Word) × (c.words ≡ front ++ rest) × (m ≡ opened n (ws ++ terminals_of front))

abbrev pub InventedWords : Type 0
InventedWords = (src : Source) (h : History) (n : ℕ) (ws : List ℕ) → Keeps src h (opened n ws)
    → (c : Coming) (w : Word) (cs : List Word) → c.words ≡ w ∷ cs
    → (us : List ℕ) → ((front rest : List Word) → cs ≡ front ++ rest → us ≢ terminals_of front)
    → (a : Answer) → Law src (then h (read_through c) a) (opened n (ws ++ w.terminal ∷ us)) → ⊥

abbrev pub EarlyEnd : Type 0
EarlyEnd = (src : Source) (h : History) (n : ℕ) (ws : List ℕ) → Keeps src h (opened n ws)
    → (c : Coming) (b : Bool) (a : Answer) → reply_of a ≡ judged b
    → (m : Held) → m ≢ opened n (ws ++ terminals_of c.words) → Law src (then h (read_through c) a) m → ⊥

abbrev pub LeftWords : Type 0
LeftWords = (src : Source) (h : History) (n : ℕ) (ws : List ℕ) → Keeps src h (opened n ws)
    → (c d : Coming) → d.words ≢ [] → (b : Bool) → Refuted src h (read_through c) (and_feed (judged b) d)

abbrev pub RefusedJudgement : Type 0
RefusedJudgement = (src : Source) (h : History) (n : ℕ) (ws : List ℕ) → Keeps src h (opened n ws)
    → (a : Answer) → Refuses (reply_of a) → Refuted src h judge a

abbrev pub WhatIsWritten : Type 0
WhatIsWritten = (src : Source) (h : History) (n : ℕ) (ws : List ℕ) → Keeps src h (opened n ws)
    → (ns xs : List Node) (bs ys : List Alternative) (m : Held) → Law src (then h (gather ns bs) (written ns bs xs ys)) m
    → Sentence src.grammar ws × Nodes src.grammar ws xs × Alternatives src.grammar ws ys

abbrev pub LackingRecord : Type 0
LackingRecord = (src : Source) (h : History) (n : ℕ) (ws : List ℕ) → Keeps src h (opened n ws)
    → (ns xs : List Node) (bs ys : List Alternative)
    → ((z : Node) × NodeOf src.grammar ws z × (Has xs z → ⊥)) ⊎ ((z : Alternative) × AlternativeOf src.grammar ws z × (Has ys z → ⊥))
    → Refuted src h (gather ns bs) (written ns bs xs ys)

abbrev pub StrangeRecord : Type 0
StrangeRecord = (src : Source) (h : History) (n : ℕ) (ws : List ℕ) → Keeps src h (opened n ws)
    → (ns xs : List Node) (bs ys : List Alternative)
    → ((z : Node) × Has xs z × (NodeOf src.grammar ws z → ⊥)) ⊎ ((z : Alternative) × Has ys z × (AlternativeOf src.grammar ws z → ⊥))
    → Refuted src h (gather ns bs) (written ns bs xs ys)

abbrev pub RecordTwice : Type 0
RecordTwice = (src : Source) (h : History) (n : ℕ) (ws : List ℕ) → Keeps src h (opened n ws)
    → (ns xs : List Node) (bs ys : List Alternative) → (Apart xs → ⊥) ⊎ (Apart ys → ⊥)
    → Refuted src h (gather ns bs) (written ns bs xs ys)

abbrev pub OutOfOrder : Type 0
OutOfOrder = (src : Source) (h : History) (n : ℕ) (ws : List ℕ) → Keeps src h (opened n ws)
    → (ns xs : List Node) (bs ys : List Alternative) → (Climbs node_cmp xs → ⊥) ⊎ (Climbs alternative_cmp ys → ⊥)
    → Refuted src h (gather ns bs) (written ns bs xs ys)

abbrev pub ClosedCall : Type 0
ClosedCall = (src : Source) (h : History) → Keeps src h closed → (c : Call) → ((n : ℕ) → c ≢ open_with n)
    → (a : Answer) → a ≢ unchanged c (refused (of_reading 40 0 0)) → Refuted src h c a

abbrev pub OpenedBeyond : Type 0
OpenedBeyond = (src : Source) (h : History) (k : Held) → Keeps src h k → (n : ℕ) → (Limit n → ⊥)
    → (a : Answer) → reply_of a ≡ done → Refuted src h (open_with n) a

abbrev pub BackBeyond : Type 0
BackBeyond = (src : Source) (h : History) (n b : ℕ) (ws : List ℕ) → Keeps src h (opened n ws) → length ws < b
    → (a : Answer) → reply_of a ≡ done → Refuted src h (back_to b) a

abbrev pub OverP : Source → Type 0
OverP src = src.grammar ≡ p.grammar

abbrev pub FirstAsDead : Type 0
FirstAsDead = (src : Source) → OverP src → (h : History) (n : ℕ) → Keeps src h (opened n [])
    → (a : Answer) → RefusedAs 45 (reply_of a) → Refuted src h (take_word 0) a

abbrev pub SecondAsAlive : Type 0
SecondAsAlive = (src : Source) → OverP src → (h : History) (n : ℕ) → Keeps src h (opened n [])
    → (a : Answer) → (RefusedAs 45 (reply_of a) → ⊥) → Refuted src h (take_word 1) a

abbrev pub NoOfSentence : Type 0
NoOfSentence = (src : Source) → OverP src → (h : History) (n : ℕ) → Keeps src h (opened n (0 ∷ 1 ∷ []))
    → (a : Answer) → reply_of a ≡ judged false → Refuted src h judge a

abbrev pub YesOfNone : Type 0
YesOfNone = (src : Source) → OverP src → (h : History) (n : ℕ) → Keeps src h (opened n (0 ∷ 1 ∷ 2 ∷ []))
    → (a : Answer) → reply_of a ≡ judged true → Refuted src h judge a

abbrev pub EarlyYes : Type 0
EarlyYes = (src : Source) → OverP src → (h : History) (n : ℕ) → Keeps src h (opened n [])
    → (c : Coming) → terminals_of c.words ≡ 0 ∷ 1 ∷ 1 ∷ []
    → (a : Answer) → reply_of a ≡ judged true → Refuted src h (read_through c) a

pub record Eight (src : Source) (h : History) : Type 0 where
  pub over : OverP src
  pub limit : ℕ
  pub keeps : Keeps src h (opened limit p_eight.words)

abbrev pub OneGather : Type 0
OneGather = (src : Source) (h : History) → Eight src h
    → (ns : List Node) (bs : List Alternative) → 6 ≤ length ns → 7 ≤ length bs
    → (a : Answer) (m : Held) → Law src (then h (gather ns bs) a) m → a ≡ written ns bs p_eight.nodes p_eight.alternatives

abbrev pub EmptyGather : Type 0
EmptyGather = (src : Source) (h : History) → Eight src h
    → (ns : List Node) (bs : List Alternative) → Refuted src h (gather ns bs) (written ns bs [] [])

abbrev pub OneNodeMore : Type 0
OneNodeMore = (src : Source) (h : History) → Eight src h → (ns : List Node) (bs : List Alternative) (x : Node)
    → Refuted src h (gather ns bs) (written ns bs (p_eight.nodes ++ x ∷ []) p_eight.alternatives)

abbrev pub OneAlternativeMore : Type 0
OneAlternativeMore = (src : Source) (h : History) → Eight src h → (ns : List Node) (bs : List Alternative) (x : Alternative)
    → Refuted src h (gather ns bs) (written ns bs p_eight.nodes (p_eight.alternatives ++ x ∷ []))
