-- Lists of links that grow at one place by the word rule and the reduction rule.
--   Makes src w j xs s b i   a rule makes the link from s at j down to b at i out of the links xs
--   Grown src w j xs ys      ys is xs with new links behind it that the rules make at j, one by one
--   Overfull src w j xs n    the rules make more than n links of xs at j
--   Fired src j r xs ys      ys has what the reductions by the rule r make at j over the chains of xs
--   Shut src j xs            the reductions at j make nothing that xs lacks
--   Stepped src x p i xs ys  ys has the links at p that the word x makes from what is live at i over xs
--   Before src j n xs        xs has what the reductions make at j over the chains of its first n links
--   Fresh j n xs             no link among the first n of xs stays at j
--   Laid j n xs              from n on the links of xs are at j, those of other places come before, and no link rises
--   Ends src x m cs xs Q     Q holds of each step by x from where m links of xs lead from the cells cs
use Rattle.std.specs.Prelude.{◌≡◌, ℕ, suc, ◌<◌, ◌≤◌, true, List, [], ◌∷◌, ◌++◌, length, take, drop, Some, Option, ◌≢◌}
use Rattle.parsing.specs.Grammar.{rule_count, lhs, rhs}
use Rattle.parsing.specs.Items.{Source}
use Rattle.parsing.specs.Links.{ChainOf, LiveOf}
use Rattle.link_growth.specs.declared.Link.{Link}
use Rattle.link_growth.specs.declared.Cell.{Cell}
use Rattle.link_growth.specs.Entries.{lnk, Mem, Has, cell, Leads}

-- The word rule, where a word w ends at j, or the reduction rule.
pub data Makes (src : Source) (w : Option ℕ) (j : ℕ) (xs : List Link) : ℕ → ℕ → ℕ → Type 0 where
  shifts : {s b i : ℕ} (x : ℕ) → w ≡ Some x → x < src.grammar.terminals → j ≡ suc i → LiveOf src (Has xs) b i
      → src.next b x ≡ Some s → Makes src w j xs s b i
  reduces : {s b i : ℕ} (r t : ℕ) → r < rule_count src.grammar → LiveOf src (Has xs) t j
      → ChainOf (Has xs) (length (rhs src.grammar r)) t j b i → src.done t r ≡ true
      → src.next b (lhs src.grammar r) ≡ Some s → Makes src w j xs s b i

pub data Grown (src : Source) (w : Option ℕ) (j : ℕ) (xs : List Link) : List Link → Type 0 where
  same : Grown src w j xs xs
  add : {ys : List Link} {s b i : ℕ} → Grown src w j xs ys → Makes src w j ys s b i → (Has ys s j b i → ⊥)
      → Grown src w j xs (ys ++ lnk s j b i ∷ [])

pub record Overfull (src : Source) (w : Option ℕ) (j : ℕ) (xs : List Link) (limit : ℕ) : Type 0 where
  pub made : List Link
  pub grown : Grown src w j xs made
  pub long : limit < length made

abbrev pub Fired : Source → ℕ → ℕ → List Link → List Link → Type 0
Fired src j r xs ys = (t s b i : ℕ) → src.done t r ≡ true → LiveOf src (Has xs) t j
    → ChainOf (Has xs) (length (rhs src.grammar r)) t j b i → src.next b (lhs src.grammar r) ≡ Some s → Has ys s j b i

abbrev pub Shut : Source → ℕ → List Link → Type 0
Shut src j xs = (r : ℕ) → r < rule_count src.grammar → Fired src j r xs xs

abbrev pub Stepped : Source → ℕ → ℕ → ℕ → List Link → List Link → Type 0
Stepped src x p i xs ys = (s b : ℕ) → LiveOf src (Has xs) b i → src.next b x ≡ Some s → Has ys s p b i

abbrev pub Before : Source → ℕ → ℕ → List Link → Type 0
Before src j n xs = (r t s b i c h : ℕ) → r < rule_count src.grammar → src.done t r ≡ true → Has (take n xs) t j c h
    → ChainOf (Has (take n xs)) (length (rhs src.grammar r)) t j b i → src.next b (lhs src.grammar r) ≡ Some s → Has xs s j b i

abbrev pub Fresh : ℕ → ℕ → List Link → Type 0
Fresh j n xs = (s b : ℕ) → Has (take n xs) s j b j → ⊥

pub record Laid (j n : ℕ) (xs : List Link) : Type 0 where
  pub within : n ≤ length xs
  pub here : (l : Link) → Mem l (drop n xs) → l.place ≡ j
  pub old : (s p b i : ℕ) → Has xs s p b i → (p ≢ j) → Has (take n xs) s p b i
  pub falls : (s p b i : ℕ) → Has xs s p b i → i ≤ p

abbrev pub Ends : Source → ℕ → ℕ → List Cell → List Link → (ℕ → ℕ → ℕ → Type 0) → Type 0
Ends src x m cs xs Q = (c : Cell) (b i s : ℕ) → Mem c cs → Leads xs m c (cell b i) → src.next b x ≡ Some s → Q s b i
