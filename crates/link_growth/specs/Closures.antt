-- What the rules make of some links at one place: the least set that has these links and is closed under the rules.
--   Made src w j xs s p b i         the link from s at p down to b at i is one of xs, or a rule makes it at j out of links that are made
--   MadeLive src w j xs b i         the state b is live at place i over the links that are made
--   MadeChain src w j xs m t p b i  m links that are made lead, one after another, from the state t at place p down to the state b at place i
--   Closure src w j xs ys           ys is xs with new links behind it, and has exactly the links that are made of xs at j, each once
--   Outgrows src w j xs n           more than n links are made of xs at j: a list without repeats of such links is longer
--   StepsFrom src xs i x            some state that is live at place i over the links xs has a step by the symbol x
--   OneClosure                      the closure of some links is one set, its size is one number, and it is outgrown exactly below that number
use Rattle.std.specs.Prelude.{◌≡◌, ℕ, zero, suc, ◌<◌, true, ◌≢◌, ◌↔◌, List, length, take, Some, None, Option}
use Rattle.parsing.specs.Grammar.{rule_count, lhs, rhs}
use Rattle.parsing.specs.Items.{Source}
use Rattle.parsing.specs.Links.{LiveOf}
use Rattle.link_growth.specs.declared.Link.{Link}
use Rattle.link_growth.specs.Entries.{Has, Once}

mutual
  -- The word rule, where a word w ends at j, steps by the word from what is live below j. The reduction rule goes down a chain as long as
  -- the rule, from what is live at j and has the rule done, and steps from the chain's lower end by the rule's left symbol.
  pub data Made (src : Source) (w : Option ℕ) (j : ℕ) (xs : List Link) : ℕ → ℕ → ℕ → ℕ → Type 0 where
    given : {s p b i : ℕ} → Has xs s p b i → Made src w j xs s p b i
    by_word : {s b i : ℕ} (x : ℕ) → w ≡ Some x → x < src.grammar.terminals → j ≡ suc i → MadeLive src w j xs b i
        → src.next b x ≡ Some s → Made src w j xs s j b i
    by_rule : {s b i : ℕ} (r t : ℕ) → r < rule_count src.grammar → MadeLive src w j xs t j
        → MadeChain src w j xs (length (rhs src.grammar r)) t j b i → src.done t r ≡ true
        → src.next b (lhs src.grammar r) ≡ Some s → Made src w j xs s j b i

  pub data MadeLive (src : Source) (w : Option ℕ) (j : ℕ) (xs : List Link) : ℕ → ℕ → Type 0 where
    at_first : MadeLive src w j xs src.first 0
    at_link : {s p b i : ℕ} → Made src w j xs s p b i → MadeLive src w j xs s p

  pub data MadeChain (src : Source) (w : Option ℕ) (j : ℕ) (xs : List Link) : ℕ → ℕ → ℕ → ℕ → ℕ → Type 0 where
    no_link : {t p : ℕ} → MadeChain src w j xs zero t p t p
    one_more : {m t p s k b i : ℕ} → Made src w j xs t p s k → MadeChain src w j xs m s k b i → MadeChain src w j xs (suc m) t p b i

pub record Closure (src : Source) (w : Option ℕ) (j : ℕ) (xs ys : List Link) : Type 0 where
  pub begins : take (length xs) ys ≡ xs
  pub once : Once ys
  pub sound : (s p b i : ℕ) → Has ys s p b i → Made src w j xs s p b i
  pub whole : (s p b i : ℕ) → Made src w j xs s p b i → Has ys s p b i

pub record Outgrows (src : Source) (w : Option ℕ) (j : ℕ) (xs : List Link) (n : ℕ) : Type 0 where
  pub some : List Link
  pub once : Once some
  pub sound : (s p b i : ℕ) → Has some s p b i → Made src w j xs s p b i
  pub long : n < length some

abbrev pub StepsFrom : Source → List Link → ℕ → ℕ → Type 0
StepsFrom src xs i x = (b : ℕ) × LiveOf src (Has xs) b i × (src.next b x ≢ None)

abbrev pub OneClosure : Type 0
OneClosure = (src : Source) (w : Option ℕ) (j : ℕ) (xs ys : List Link) → Closure src w j xs ys
    → ((zs : List Link) → Closure src w j xs zs → ((s p b i : ℕ) → Has ys s p b i ↔ Has zs s p b i) × (length ys ≡ length zs))
    × ((n : ℕ) → Outgrows src w j xs n ↔ (n < length ys))
