-- What writing leaves in the room.
--   Put old at xs new       new is old with the bytes xs from the offset at on
--   Writes xs old new n     n bytes were written, the bytes xs: they are the front of new, and the bytes past them are those of old
--   Short xs old new f      the room was too short for the bytes xs: f tells the need, and new is old
--   IsSheet b               the bytes b are those of a sheet that keeps the rules
--   Rewrites b old new r    the bytes b are such and are written, or want more room; or they are refused, and new is old
use Rattle.std.specs.Prelude.{◌≡◌, ℕ, ◌+◌, ◌<◌, ◌≤◌, ◌⊎◌, List, ◌++◌, length, take, drop, Ok, Err, Result}
use Rattle.grammar_format.specs.Keeping.{Keeps}
use Rattle.grammar_format.specs.Sheets.{Sheet, sheet_bytes}
use Rattle.grammar.specs.Refusals.{Refused, refusal, room_short}
use Rattle.grammar.specs.declared.fault.GrammarFault.{GrammarFault}

abbrev pub Put : List ℕ → ℕ → List ℕ → List ℕ → Type 0
Put old at xs new = new ≡ take at old ++ (xs ++ drop (at + length xs) old)

pub record Writes (xs old new : List ℕ) (n : ℕ) : Type 0 where
  pub need : n ≡ length xs
  pub room : n ≤ length old
  pub front : take n new ≡ xs
  pub past : drop n new ≡ drop n old

pub record Short (xs old new : List ℕ) (f : GrammarFault) : Type 0 where
  pub need : refusal f ≡ room_short (length xs)
  pub room : length old < length xs
  pub same : new ≡ old

pub record IsSheet (b : List ℕ) : Type 0 where
  pub sheet : Sheet
  pub kept : Keeps sheet
  pub same : sheet_bytes sheet ≡ b

-- No room makes up for a broken rule: the refusal of the bytes comes first.
abbrev pub Rewrites : List ℕ → List ℕ → List ℕ → Result ℕ GrammarFault → Type 0
Rewrites b old new (Ok n) = IsSheet b × Writes b old new n
Rewrites b old new (Err f) = (Refused b f × (new ≡ old)) ⊎ (IsSheet b × Short b old new f)
