-- The lines of a feed, one word after another.
use Rattle.std.proofs.Common.{◌≡◌, ℕ, List, [], ◌∷◌, ◌++◌, Some, None, Ok, Err, Option, sym, refl, ap, ◌∙◌}
use Rattle.std.specs.declared.fmt.Formatter.{Formatter}
use Rattle.std.specs.Fmt.{IsPlainFormatter, HasWritten}
use Rattle.std.specs.List.{flat_map}
use Rattle.std.proofs.Output.{has_written_append, has_written_of_eq}
use Rattle.std.proofs.lemmas.List.{append_assoc}
use Rattle.grammar.specs.declared.refusal.Refusal.{Refusal}
use Rattle.inspection.proofs.Printing.{put_none}
use Rattle.words.specs.Feeds.{Coming, Handed}
use Rattle.words.specs.Refusals.{refusal}
use Rattle.words.specs.declared.word.Word.{Word}
use Rattle.words.specs.declared.fault.FeedFault.{FeedFault}
use Rattle.words.proofs.Handing.{handed_word, handed_end, handed_fault}
use Rattle.word_listing.specs.Lines.{word_line, ending_line, word_lines}

lines_are : (c : Coming) (ws : List Word) (x : Option Refusal) → c.words ≡ ws → c.fault ≡ x → word_lines c ≡ flat_map word_line ws ++ ending_line x
unfolding word_lines
lines_are c ws x e h = λ i. flat_map word_line (e i) ++ ending_line (h i)

-- The text so far, of what was coming as e, where c is coming now and d afterwards.
module _ (text : List ℕ) (c d e : Coming) (so_far : text ++ word_lines c ≡ word_lines e) where
  lines_word : (w : Word) → Handed c (Ok (Some w)) d → (text ++ word_line w) ++ word_lines d ≡ word_lines e
  lines_word w h =
      let k = handed_word c.words c.fault w d h in
      append_assoc text (word_line w) (word_lines d)
      ∙ ap (λ x. text ++ (word_line w ++ x)) (lines_are d d.words d.fault refl refl)
      ∙ ap (λ x. text ++ x) (sym (append_assoc (word_line w) (flat_map word_line d.words) (ending_line d.fault)))
      ∙ ap (λ x. text ++ x) (sym (lines_are c (w ∷ d.words) d.fault k.0 (sym k.1)))
      ∙ so_far

  lines_end : Handed c (Ok None) d → text ++ ending_line None ≡ word_lines e
  lines_end h =
      let k = handed_end c.words c.fault d h in
      ap (λ x. text ++ x) (sym (lines_are c [] None k.0 k.1)) ∙ so_far

  lines_fault : (f : FeedFault) → Handed c (Err f) d → text ++ ending_line (Some (refusal f)) ≡ word_lines e
  lines_fault f h =
      let k = handed_fault c.words c.fault f d h in
      ap (λ x. text ++ x) (sym (lines_are c [] (Some (refusal f)) k.0 k.1)) ∙ so_far

module _ {W : Type 0} (took : W → List ℕ → W → Type 0) where
  -- From f on up to m lines were written, which with those of what is coming as c are the lines of e.
  pub record SoFar (f m : Formatter W) (c e : Coming) : Type 0 where
    pub lines : List ℕ
    pub wrote : HasWritten took f lines m
    pub whole : lines ++ word_lines c ≡ word_lines e

  pub so_far_start : (f : Formatter W) (e : Coming) → IsPlainFormatter f → SoFar f f e e
  so_far_start f e p = record { lines = []; wrote = put_none took f p; whole = refl }

  module _ (f m l : Formatter W) (c d e : Coming) (so : SoFar f m c e) where
    pub so_far_word : (w : Word) → Handed c (Ok (Some w)) d → HasWritten took m (word_line w) l → SoFar f l d e
    so_far_word w h p = record {
      lines = so.lines ++ word_line w;
      wrote = has_written_append took f _ m _ l so.wrote p;
      whole = lines_word so.lines c d e so.whole w h;
    }

    pub all_end : Handed c (Ok None) d → HasWritten took m (ending_line None) l → HasWritten took f (word_lines e) l
    all_end h p = has_written_of_eq took f _ _ l (lines_end so.lines c d e so.whole h) (has_written_append took f _ m _ l so.wrote p)

    pub all_fault : (x : FeedFault) → Handed c (Err x) d → HasWritten took m (ending_line (Some (refusal x))) l → HasWritten took f (word_lines e) l
    all_fault x h p = has_written_of_eq took f _ _ l (lines_fault so.lines c d e so.whole x h) (has_written_append took f _ m _ l so.wrote p)
