-- What a table holds, and what changes it.
--   content t                    the links of the table t
--   StartsAt t i n               in t the links of the places below i are the first n
--   Kept t u limit               from t to u the place and the starts stay, and where links were added they are within the limit
--   Added xs ys l                l is in ys now: it was in xs, or it is new and stands behind xs
--   Refused xs ys l limit        l is new, there was no room for it, and ys is xs
--   Drawn xs cs                  each cell of cs is one that a link of xs leads down to
--   Scanned xs cs p old new      new is old with what one link of xs leads down to from the cells cs at place p, and perhaps from others of cs
--   Bottom src j r cs            the cells cs are the first state at place 0, if that is j and the rule r is done in it
--   Marked src x j xs cs ds      the cells ds are those of cs that have their link by the symbol x at place j in xs
--   FirstStepped src x p ys      ys has the link at p that the word x makes from the first state, if that is live below p
--   LinksStepped src x p xs ys   ys has the links at p that the word x makes from the states of the links of xs below p
--   Along src w t u limit        from t to u links that the rules make at the last place were added within the limit, and nothing else changed
--   Making src w t u limit r P   so it is, and P holds where r is no refusal; else the rules make more links than the limit
--   Ahead src t n                a round may look from the link n on: it is of the last place, and what the links before it make is there
--   Begun t u                    u is t with one place more, that has no links yet
--   Cut k t u                    u is t with the links of the places up to k alone
use Rattle.std.specs.Prelude.{◌≡◌, ℕ, ◌+◌, ◌-◌, ◌<◌, ◌≤◌, true, ◌⊎◌, List, [], ◌∷◌, ◌++◌, map, length, take, Some, Option, Result, MatchResult, slice_index, slice_index_or}
use Rattle.parsing.specs.Items.{Source}
use Rattle.link_growth.specs.declared.Link.{Link}
use Rattle.link_growth.specs.declared.Cell.{Cell}
use Rattle.link_growth.specs.Entries.{at, Mem, Has, cell, upper, lower}
use Rattle.link_growth.specs.Growth.{Grown, Overfull, Fresh, Before}
use Rattle.links.specs.declared.fault.TooManyLinks.{TooManyLinks}
use Rattle.links.specs.declared.table.Table.{Table}

abbrev pub content : Table → List Link
content t = take t.count t.links

pub record StartsAt (t : Table) (i n : ℕ) : Type 0 where
  pub within : n ≤ t.count
  pub under : (k : ℕ) → k < n → (at t.links k).place < i
  pub over : (k : ℕ) → n ≤ k → k < t.count → i ≤ (at t.links k).place
  pub mark : i ≤ t.place → n ≡ slice_index t.starts i

pub record Kept (t u : Table) (limit : ℕ) : Type 0 where
  pub place : u.place ≡ t.place
  pub starts : u.starts ≡ t.starts
  pub within : t.count < u.count → u.count ≤ limit

pub data Added (xs ys : List Link) (l : Link) : Type 0 where
  there : Mem l xs → ys ≡ xs → Added xs ys l
  new : (Mem l xs → ⊥) → ys ≡ xs ++ l ∷ [] → Added xs ys l

pub record Refused (xs ys : List Link) (l : Link) (limit : ℕ) : Type 0 where
  pub new : Mem l xs → ⊥
  pub full : limit ≤ length xs
  pub kept : ys ≡ xs

abbrev pub Drawn : List Link → List Cell → Type 0
Drawn xs cs = (c : Cell) → Mem c cs → Mem c (map lower xs)

pub record Scanned (xs : List Link) (cs : List Cell) (p : ℕ) (old new : List Cell) : Type 0 where
  pub kept : (d : Cell) → Mem d old → Mem d new
  pub whole : (l : Link) → Mem l xs → l.place ≡ p → Mem (upper l) cs → Mem (lower l) new
  pub sound : (d : Cell) → Mem d new → Mem d old ⊎ ((l : Link) × Mem l xs × Mem (upper l) cs × (lower l ≡ d))

pub record Bottom (src : Source) (j r : ℕ) (cs : List Cell) : Type 0 where
  pub whole : j ≡ 0 → src.done src.first r ≡ true → Mem (cell src.first 0) cs
  pub sound : (c : Cell) → Mem c cs → (c ≡ cell src.first 0) × (j ≡ 0) × (src.done src.first r ≡ true)

pub record Marked (src : Source) (x j : ℕ) (xs : List Link) (cs ds : List Cell) : Type 0 where
  pub whole : (b i s : ℕ) → Mem (cell b i) cs → src.next b x ≡ Some s → Has xs s j b i → Mem (cell b i) ds
  pub sound : (c : Cell) → Mem c ds → (s : ℕ) × (src.next c.state x ≡ Some s) × Has xs s j c.state c.place

abbrev pub FirstStepped : Source → ℕ → ℕ → List Link → Type 0
FirstStepped src x p ys = (s : ℕ) → p ≡ 1 → src.next src.first x ≡ Some s → Has ys s p src.first 0

abbrev pub LinksStepped : Source → ℕ → ℕ → List Link → List Link → Type 0
LinksStepped src x p xs ys = (s b c k : ℕ) → Has xs b (p - 1) c k → src.next b x ≡ Some s → Has ys s p b (p - 1)

pub record Along (src : Source) (w : Option ℕ) (t u : Table) (limit : ℕ) : Type 0 where
  pub kept : Kept t u limit
  pub grown : Grown src w t.place (content t) (content u)

abbrev pub Making : Source → Option ℕ → Table → Table → ℕ → Result (Unit {0}) TooManyLinks → Type 0 → Type 0
Making src w t u limit r P = Along src w t u limit × MatchResult r (λ _. P) (λ _. Overfull src w t.place (content t) limit)

pub record Ahead (src : Source) (t : Table) (n : ℕ) : Type 0 where
  pub since : slice_index t.starts t.place ≤ n
  pub until : n ≤ t.count
  pub fresh : Fresh t.place n (content t)
  pub before : Before src t.place n (content t)

pub record Begun (t u : Table) : Type 0 where
  pub place : u.place ≡ t.place + 1
  pub start : slice_index_or u.starts u.place 0 ≡ t.count
  pub count : u.count ≡ t.count
  pub content : content u ≡ content t

pub record Cut (k : ℕ) (t u : Table) : Type 0 where
  pub place : u.place ≡ k
  pub start : StartsAt t (k + 1) u.count
  pub front : content u ≡ take u.count (content t)
