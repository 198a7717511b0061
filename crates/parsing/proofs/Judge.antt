-- The words are a sentence exactly when the step of the first state by the start symbol is linked over all of them.
use Rattle.std.proofs.Common.{◌≡◌, ℕ, ◌↔◌, List, length, Some}
use Rattle.parsing.specs.Grammar.{Sentence, WellFormed, start}
use Rattle.parsing.specs.Items.{Source, Lawful}
use Rattle.parsing.specs.Links.{Linked, bottom}
use Rattle.parsing.proofs.States.{next_some, entering, initial_in, start_next}
use Rattle.parsing.proofs.Soundness.{sound}
use Rattle.parsing.proofs.Completeness.{complete}

module _ {src : Source} (wf : WellFormed src.grammar) (law : Lawful src) where
  -- The first state has a step by the start symbol.
  pub start_state : (s : ℕ) × (src.next src.first (start src.grammar) ≡ Some s)
  start_state = next_some law law.first_in (initial_in law) (start_next wf)

  -- It is linked over all words exactly when they are a sentence.
  pub judge : (s : ℕ) → src.next src.first (start src.grammar) ≡ Some s → (ws : List ℕ)
      → Linked src ws s (length ws) src.first 0 ↔ Sentence src.grammar ws
  judge s e ws = (sentence, whole)
    where
      sentence : Linked src ws s (length ws) src.first 0 → Sentence src.grammar ws
      sentence k =
          let (X, f, d) = sound law k in
          rw (entering law law.first_in law.first_in f e) at d

      whole : Sentence src.grammar ws → Linked src ws s (length ws) src.first 0
      whole d =
          let (t, f, k) = complete law d bottom (initial_in law) (start_next wf) in
          let same : t ≡ s = cc in
          rw same at k
