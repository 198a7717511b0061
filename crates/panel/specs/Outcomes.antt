-- What comes of a recipe, for every grammar sheet, table sheet, and text or record of keys.
--   Answered src c o     reading the words c over the source src comes to the outcome o
--   OneOutcome           reading the words of a feed over a source comes to one outcome
--   OneOfText            two sheets and a text come to one outcome, and so one text is shown of them; OneOfRecord, the same of a record
--   Read src c b         the words c over the source src: a reading opens, takes them all, and judges b
--   ByTable g b c o      so it does over the states of the table sheet b for the grammar g, or over those that are built where b has no bytes
--   Short a b xs         none of the grammar sheet a, the table sheet b and the words xs is too long
--   Refuses a b xs o     one of them is too long, or the grammar sheet is refused, and that is the outcome o
--   Comes f a b xs o     the outcome is o, where f says which words come by a sheet
--   TextOutcome a b xs o, KeyOutcome a b xs o   so it is of the text xs, of the record xs
--   Shows P text         the text is the lines of an outcome with the property P
use Rattle.std.specs.Prelude.{◌≡◌, ℕ, ◌<◌, ◌≤◌, ◌≢◌, Bool, true, false, ◌↔◌, List, [], ◌∷◌, ◌++◌, Some, None, Option, length}
use Rattle.parsing.specs.Grammar.{Grammar, Sentence}
use Rattle.parsing.specs.Items.{Source}
use Rattle.grammar.specs.declared.refusal.Refusal.{Refusal}
use Rattle.grammar_format.specs.Keeping.{Keeps}
use Rattle.grammar_format.specs.Sheets.{Sheet, sheet_bytes}
use Rattle.grammar.specs.Refusals.{Refused as RefusedGrammar, refusal as of_grammar}
use Rattle.grammar.specs.declared.fault.GrammarFault.{GrammarFault}
use Rattle.states.specs.Refusals.{of_table, refusal}
use Rattle.states.specs.declared.fault.TableFault.{TableFault}
use Rattle.rows.specs.declared.row.Row.{Row}
use Rattle.table_format.specs.ItemSets.{Items}
use Rattle.table_format.specs.Tables.{Matches, source_of}
use Rattle.table_format.specs.Walks.{passes}
use Rattle.table_format.specs.Sheets.{table_of, Form}
use Rattle.table_format.specs.Breaches.{Checked}
use Rattle.tables.specs.Faults.{Refused as RefusedTable}
use Rattle.built_states.specs.Built.{Built, Many}
use Rattle.built_states.specs.Once.{built_source}
use Rattle.link_growth.specs.Counting.{Counts, Exceeds}
use Rattle.words.specs.Feeds.{Coming}
use Rattle.words.specs.Keys.{key_coming}
use Rattle.words.specs.Texts.{text_coming}
use Rattle.words.specs.declared.word.Word.{Word}
use Rattle.records.specs.declared.node.Node.{Node}
use Rattle.records.specs.declared.alternative.Alternative.{Alternative}
use Rattle.histories.specs.Calls
use Rattle.histories.specs.Calls.{judged}
use Rattle.histories.specs.Doings.{Passes}
use Rattle.histories.specs.Forests.{NodeOf, AlternativeOf, Nodes, Alternatives}
use Rattle.histories.specs.Laws.{NoneBegins, terminals_of}
use Rattle.histories.specs.Meetings.{Fits, Meets}
use Rattle.histories.specs.Refusals.{of_reading}
use Rattle.histories.specs.Sizes.{AtMost, MoreThan}
use Rattle.panel.specs.Faults.{too_long}
use Rattle.panel.specs.Lines.{Outcome, refused, word_refused, no_sentence, sentence, lines}
use Rattle.panel.specs.declared.fault.Input.TheVariants.{Grammar as GrammarInput, Table as TableInput, Words}

pub record Read (src : Source) (c : Coming) (b : Bool) : Type 0 where
  pub opens : Fits src [] 4096
  pub ends : c.fault ≡ None
  pub takes : Passes src 4096 c.fault [] c.words (judged b) (terminals_of c.words) []

-- A reading may have 4,096 links, and a forest 512 nodes and 2,048 alternatives.
pub data Answered (src : Source) (c : Coming) : Outcome → Type 0 where
  -- The links of no words are too many.
  crowded : Exceeds src [] 4096 → Answered src c (refused (of_reading 42 0 0))
  -- The words were all taken, and then the feed was refused.
  stopped : (r : Refusal) → Fits src [] 4096 → c.fault ≡ Some r
      → Passes src 4096 c.fault [] c.words (Calls.refused r) (terminals_of c.words) [] → Answered src c (refused r)
  -- The words before were taken, and this one was not; as 45 exactly where no sentence begins with them and it.
  stopped_at : (before : List Word) (w : Word) (behind : List Word) (r : Refusal) → Fits src [] 4096 → c.words ≡ before ++ w ∷ behind
      → Passes src 4096 c.fault [] c.words (Calls.word_refused r w.from w.to) (terminals_of before) behind
      → Meets src 4096 (terminals_of before) w.terminal (Some r)
      → (length before < 254 → w.terminal < src.grammar.terminals
      → (r ≡ of_reading 45 (length before) w.terminal) ↔ NoneBegins src.grammar (terminals_of before ++ w.terminal ∷ []))
      → Answered src c (word_refused r w.from w.to)
  -- The words were all taken, and are no sentence.
  no : (n : ℕ) → Read src c false → (Sentence src.grammar (terminals_of c.words) → ⊥) → Counts src (terminals_of c.words) n
      → Answered src c (no_sentence (length c.words) n)
  -- They are a sentence, and these are all its nodes and alternatives.
  yes : (n : ℕ) (xs : List Node) (ys : List Alternative) → Read src c true → Sentence src.grammar (terminals_of c.words)
      → Counts src (terminals_of c.words) n → Nodes src.grammar (terminals_of c.words) xs → length xs ≤ 512
      → Alternatives src.grammar (terminals_of c.words) ys → length ys ≤ 2048 → Answered src c (sentence (length c.words) n (length xs) ys)
  -- There are too many of them.
  many_nodes : Read src c true → Sentence src.grammar (terminals_of c.words) → MoreThan (NodeOf src.grammar (terminals_of c.words)) 512
      → Answered src c (refused (of_reading 49 0 0))
  many_alternatives : Read src c true → Sentence src.grammar (terminals_of c.words) → AtMost (NodeOf src.grammar (terminals_of c.words)) 512
      → MoreThan (AlternativeOf src.grammar (terminals_of c.words)) 2048 → Answered src c (refused (of_reading 50 0 0))

abbrev pub OneOutcome : Type 0
OneOutcome = (src : Source) (c : Coming) (o p : Outcome) → Answered src c o → Answered src c p → o ≡ p

-- The states are those of the LR(0) item sets of the grammar, and make one source each time.
pub data ByTable (g : Grammar) (b : List ℕ) (c : Coming) : Outcome → Type 0 where
  built : (n : ℕ) (ws : List Row) (ss : List (List (Option ℕ))) (o : Outcome) → length b ≡ 0 → Built g n ws ss
      → Answered (built_source g n ws ss) c o → ByTable g b c o
  too_many : length b ≡ 0 → Many g → ByTable g b c (refused (of_table 30 0 0))
  supplied : (rows : ℕ → Items) (o : Outcome) → length b ≢ 0 → Checked g b passes → Form g b → Matches g (table_of b) rows
      → Answered (source_of g (table_of b) rows) c o → ByTable g b c o
  table_refused : (f : TableFault) → length b ≢ 0 → RefusedTable g b f → ByTable g b c (refused (refusal f))

pub record Short (a b xs : List ℕ) : Type 0 where
  pub grammar : length a ≤ 40000
  pub table : length b ≤ 40000
  pub words : length xs ≤ 40000

pub data Refuses (a b xs : List ℕ) : Outcome → Type 0 where
  long_grammar : 40000 < length a → Refuses a b xs (refused (too_long GrammarInput))
  long_table : length a ≤ 40000 → 40000 < length b → Refuses a b xs (refused (too_long TableInput))
  long_words : length a ≤ 40000 → length b ≤ 40000 → 40000 < length xs → Refuses a b xs (refused (too_long Words))
  grammar_refused : (f : GrammarFault) → Short a b xs → RefusedGrammar a f → Refuses a b xs (refused (of_grammar f))

pub data Comes (f : Sheet → Coming) (a b xs : List ℕ) (o : Outcome) : Type 0 where
  not_read : Refuses a b xs o → Comes f a b xs o
  read : (s : Sheet) → Short a b xs → Keeps s → sheet_bytes s ≡ a → ByTable s.grammar b (f s) o → Comes f a b xs o

abbrev pub TextOutcome : List ℕ → List ℕ → List ℕ → Outcome → Type 0
TextOutcome a b xs o = Comes (λ s. text_coming s 0 xs) a b xs o

abbrev pub KeyOutcome : List ℕ → List ℕ → List ℕ → Outcome → Type 0
KeyOutcome a b xs o = Comes (λ s. key_coming s.grammar.terminals 0 xs) a b xs o

pub record Shows (P : Outcome → Type 0) (text : List ℕ) : Type 0 where
  pub outcome : Outcome
  pub so : P outcome
  pub text_is : text ≡ lines outcome

abbrev pub OneOf : (List ℕ → List ℕ → List ℕ → Outcome → Type 0) → Type 0
OneOf P = (a b xs : List ℕ)
    → ((o p : Outcome) → P a b xs o → P a b xs p → o ≡ p)
    × ((text other : List ℕ) → Shows (P a b xs) text → Shows (P a b xs) other → text ≡ other)

abbrev pub OneOfText : Type 0
OneOfText = OneOf TextOutcome

abbrev pub OneOfRecord : Type 0
OneOfRecord = OneOf KeyOutcome
